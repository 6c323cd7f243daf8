use Rattle.std.proofs.Common.{◌∙◌, ap, false, get_or}
use Rattle.std.specs.Prelude.{nat_lt, ◌||◌}
use Rattle.scan_kernels.proofs.marks.mark_block.Goals as goal

pub returns : goal.returns
returns c j lt =
    let fallen = c.sort_out-count.ensures.fallen j lt in
    c.mark_each.ensures j lt ∙ ap (λ n. get_or c.args.part.now j false || nat_lt 0 n) fallen
