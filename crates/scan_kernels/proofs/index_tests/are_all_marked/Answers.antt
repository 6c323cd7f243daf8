use Rattle.std.proofs.Common.{◌∙◌, ap, arith, sym}
use Rattle.scan_kernels.specs.Marked.{all_set, segmented_marks}
use Rattle.scan_kernels.proofs.MarkedPlaces.{length-segmented_marks, segmented_marks_all}
use Rattle.scan_kernels.proofs.PlaceTests.{chunks_set_all, length-chunks_set}
use Rattle.scan_kernels.proofs.index_tests.are_all_marked.Goals as goal

pub write_bools-requires-clause-long : goal.write_bools-requires-clause-long
write_bools-requires-clause-long g c =
    let l = c.args.chunks in
    c.requires.long ∙ sym (length-chunks_set l.size (segmented_marks l.lengths.now l.index.now) l.count)

pub returns : goal.returns
returns g c =
    let l = c.args.chunks in
    let flags = segmented_marks l.lengths.now l.index.now in
    let long = length-segmented_marks l.lengths.now l.index.now c.requires.total in
    let is = c.all_set.ensures ∙ ap all_set c.write_bools.ensures ∙ chunks_set_all l.size flags l.count (omega arith) in
    let all = segmented_marks_all l.lengths.now l.index.now in
    (λ h. all.0 (sym is ∙ h), λ h. is ∙ all.1 h)
