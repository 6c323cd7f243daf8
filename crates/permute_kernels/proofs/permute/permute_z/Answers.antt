use Rattle.std.proofs.Common.{rules, ◌≡◌, subst, sym}
use Rattle.scan_kernels.specs.Permuted.{IsPermutedBySegments, segmented_permute}
use Rattle.scan_kernels.proofs.SegmentMoves.{moved_places}
use Rattle.permute_kernels.proofs.permute.permute_z.Goals as goal

pub returns-clause-places : goal.returns-clause-places
returns-clause-places g c =
    let ls = c.args.segments.now in
    let index = c.args.index.now in
    let items = c.args.items.now in
    let is : c.match-permute_size.made.items ≡ segmented_permute ls index items = search rules in
    subst (IsPermutedBySegments ls index items) (sym is) (moved_places ls index items c.requires.total c.requires.same_length c.requires.permutation)
