use Rattle.std.proofs.Common.{◌∙◌, ap, sym}
use Rattle.scan_kernels.specs.Marked.{all_set}
use Rattle.scan_kernels.proofs.MarkedPlaces.{segmented_marks_all}
use Rattle.scan_kernels.proofs.index_tests.permutes_by_chunks.Goals as goal

pub returns : goal.returns
returns g c =
    let all = segmented_marks_all c.args.lengths.now c.args.index.now in
    let is = c.all_set.ensures ∙ ap all_set (c.deref.ensures.value ∙ c.in_ok-marks.ensures.items) in
    (λ h. all.0 (sym is ∙ h), λ h. is ∙ all.1 h)
