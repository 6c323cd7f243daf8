use Rattle.std.proofs.Common.{rules, ◌≡◌, ◌∙◌, ap, FitsSigned, w64, to_z, of_z}
use Rattle.std.proofs.lemmas.Int.{ints}
use Rattle.item_operations.specs.IntegerScans.{combine_z, unit_z}
use Rattle.std.specs.List.{fold}
use Rattle.scan_kernels.proofs.IntegerLaws.{FitsSigned-combine_z, FitsSigned-unit_z, combine_z-assoc, combine_z-unit}
use Rattle.scan_kernels.proofs.ReducedChunks.{fold-segments}
use Rattle.scan_kernels.proofs.reductions_by_chunks.reduce_cut_ints.Goals as goal

pub returns : goal.returns
returns g c =
    let op = c.args.op in
    let ls = c.cut_evenly.new.lengths in
    let kept : to_z w64 (of_z w64 c.chosen_reduction_z.result) ≡ c.chosen_reduction_z.result = search (rules, ints) in
    kept
    ∙ c.chosen_reduction_z.ensures
    ∙ ap (fold (combine_z op) (unit_z op)) c.write_ints.ensures
    ∙ fold-segments (combine_z op) (unit_z op) (FitsSigned w64) (FitsSigned-unit_z op) (FitsSigned-combine_z op) (combine_z-assoc op) (combine_z-unit op)
    ls c.args.items.now c.requires.items c.cut_evenly.ensures
