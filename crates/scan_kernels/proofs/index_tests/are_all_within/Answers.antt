use Rattle.std.proofs.Common.{◌∙◌, ap, arith, sym}
use Rattle.scan_kernels.specs.Marked.{all_set, each_within}
use Rattle.scan_kernels.proofs.PlaceTests.{chunks_set_all, each_within_all, length-chunks_set, length-each_within}
use Rattle.scan_kernels.proofs.index_tests.are_all_within.Goals as goal

pub write_bools-requires-clause-long : goal.write_bools-requires-clause-long
write_bools-requires-clause-long g c =
    let l = c.args.chunks in
    c.requires.long ∙ sym (length-chunks_set l.size (each_within l.source.now l.by.now l.index.now) l.count)

pub returns : goal.returns
returns g c =
    let l = c.args.chunks in
    let flags = each_within l.source.now l.by.now l.index.now in
    let long = length-each_within l.source.now l.by.now l.index.now c.requires.counts c.requires.total in
    let is = c.all_set.ensures ∙ ap all_set c.write_bools.ensures ∙ chunks_set_all l.size flags l.count (omega arith) in
    let all = each_within_all l.source.now l.by.now l.index.now c.requires.counts in
    (λ h. all.0 (sym is ∙ h), λ h. is ∙ all.1 h)
