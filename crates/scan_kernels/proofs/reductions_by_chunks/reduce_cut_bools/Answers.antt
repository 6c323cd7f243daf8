use Rattle.std.proofs.Common.{◌∙◌, ap}
use Rattle.item_operations.specs.BooleanScans.{combine_b, unit_b}
use Rattle.std.specs.List.{fold}
use Rattle.scan_kernels.proofs.BooleanLaws.{combine_b-assoc, combine_b-unit}
use Rattle.scan_kernels.proofs.ReducedChunks.{fold-segments}
use Rattle.scan_kernels.proofs.reductions_by_chunks.reduce_cut_bools.Goals as goal

pub returns : goal.returns
returns g c =
    let op = c.args.op in
    let ls = c.cut_evenly.new.lengths in
    c.chosen_reduction_b.ensures
    ∙ ap (fold (combine_b op) (unit_b op)) c.write_bools.ensures
    ∙ fold-segments (combine_b op) (unit_b op) (λ x. Unit {0}) tt (λ x y h k. tt) (λ x y z h k m. combine_b-assoc op x y z) (λ x h. combine_b-unit op x)
    ls c.args.items.now (λ i d h. tt) c.cut_evenly.ensures
