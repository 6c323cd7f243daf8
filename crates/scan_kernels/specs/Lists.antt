-- What stands at each place of a list that a kernel makes, and what its operands must meet.
use Rattle.std.specs.Prelude.{◌≡◌, ℕ, ◌*◌, ◌<◌, ◌≤◌, ℤ, Bool, List, length, map, replicate, sum, All}
use Rattle.segment_desc.specs.Lengths.{IsWithinLimits, most}
use Rattle.item_operations.specs.BooleanOps.{alter_b, apply_b}
use Rattle.item_operations.specs.BooleanScans.{combine_b, unit_b}
use Rattle.item_operations.specs.IntegerOps.{IsAllowed, alter_z, apply_z, compares}
use Rattle.item_operations.specs.IntegerScans.{combine_z, unit_z}
use Rattle.scan_kernels.specs.Distributed.{distributed}
use Rattle.scan_kernels.specs.Edges.{FitsEdge, FitsScan, carried_over}
use Rattle.scan_kernels.specs.Elementwise.{as_number, is_true, item_by_item, selected}
use Rattle.scan_kernels.specs.Gathered.{gathered, segmented_gather}
use Rattle.scan_kernels.specs.Indexed.{indexed, segmented_index}
use Rattle.scan_kernels.specs.Indices.{HoldsEachPlaceOnce, IsPlaceOf, LieWithin, PermuteSegments}
use Rattle.scan_kernels.specs.Marked.{chunks_set, each_within, segmented_marks}
use Rattle.scan_kernels.specs.Packed.{each_number, number_set, numbers_set, packed}
use Rattle.scan_kernels.specs.Permuted.{permuted, segmented_permute}
use Rattle.scan_kernels.specs.Segmented.{reduced, scanned, segmented_reduce, segmented_scan}
use Rattle.scan_kernels.specs.declared.rows.IntRow.{IntRow}
use Rattle.scan_kernels.specs.declared.rows.IntRow.TheVariants as ints
use Rattle.scan_kernels.specs.declared.rows.BoolRow.{BoolRow}
use Rattle.scan_kernels.specs.declared.rows.BoolRow.TheVariants as bools

-- the integers
abbrev pub ints_of : IntRow → List ℤ
ints_of (ints.Altered l) = map (alter_z l.op) l.items.now
ints_of (ints.Applied l) = item_by_item (apply_z l.op) l.left.now l.right.now
ints_of (ints.Gathered l) = gathered l.index.now l.items.now
ints_of (ints.Numbers l) = map as_number l.items.now
ints_of (ints.Permuted l) = permuted l.index.now l.items.now
ints_of (ints.Selected l) = selected l.flags.now l.set.now l.unset.now
ints_of (ints.Reduced l) = segmented_reduce (combine_z l.op) (unit_z l.op) l.lengths.now l.items.now
ints_of (ints.ReducedParts l) = map (λ p. reduced (combine_z l.op) (unit_z l.op) p.now) l.parts.now
ints_of (ints.CarriedOver l) = map (carried_over (combine_z l.op) (unit_z l.op) l.items.now) l.edges.now
ints_of (ints.Scanned l) = segmented_scan (combine_z l.op) (unit_z l.op) l.lengths.now l.items.now
ints_of (ints.Prefixes l) = scanned (combine_z l.op) (unit_z l.op) l.items.now
ints_of (ints.Repeated l) = replicate l.count l.item
ints_of (ints.Rising l) = indexed l.start l.stride l.count
ints_of (ints.Distributed l) = distributed l.lengths.now l.values.now
ints_of (ints.RisingSegments l) = segmented_index l.lengths.now l.starts.now l.strides.now
ints_of (ints.GatheredSegments l) = segmented_gather l.source.now l.items.now l.by.now l.index.now
ints_of (ints.PermutedSegments l) = segmented_permute l.lengths.now l.index.now l.items.now
ints_of (ints.SetNumbers l) = numbers_set l.lengths.now l.flags.now
ints_of (ints.Packed l) = packed l.flags.now l.items.now
ints_of (ints.PackedWhole l) = packed l.flags.now l.items.now

-- their operands are of one length, and allowed; segments have all the items
abbrev pub FitInts : IntRow → Type 0
FitInts (ints.Altered l) = Unit {0}
FitInts (ints.Applied l) = (length l.left.now ≡ length l.right.now) × All (IsAllowed l.op) l.right.now
FitInts (ints.Gathered l) = All (IsPlaceOf (length l.items.now)) l.index.now
FitInts (ints.Numbers l) = Unit {0}
FitInts (ints.Permuted l) = (length l.index.now ≡ length l.items.now) × HoldsEachPlaceOnce l.index.now
FitInts (ints.Selected l) = (length l.flags.now ≡ length l.set.now) × (length l.flags.now ≡ length l.unset.now)
FitInts (ints.Reduced l) = sum l.lengths.now ≡ length l.items.now
FitInts (ints.ReducedParts l) = Unit {0}
FitInts (ints.CarriedOver l) = All (FitsEdge (length l.items.now)) l.edges.now
FitInts (ints.Scanned l) = FitsScan (combine_z l.op) (unit_z l.op) l.lengths.now l.items.now l.carries.now l.size
FitInts (ints.Prefixes l) = Unit {0}
FitInts (ints.Repeated l) = Unit {0}
FitInts (ints.Rising l) = l.count ≤ most
FitInts (ints.Distributed l) = (length l.lengths.now ≡ length l.values.now) × (l.total ≡ sum l.lengths.now)
FitInts (ints.RisingSegments l) = (length l.lengths.now ≡ length l.starts.now) × (length l.lengths.now ≡ length l.strides.now) × IsWithinLimits l.lengths.now × (l.total ≡ sum l.lengths.now)
FitInts (ints.GatheredSegments l) = (sum l.source.now ≡ length l.items.now) × (sum l.by.now ≡ length l.index.now) × (length l.source.now ≡ length l.by.now) × LieWithin l.source.now l.by.now l.index.now
FitInts (ints.PermutedSegments l) = (length l.index.now ≡ length l.items.now) × (sum l.lengths.now ≡ length l.index.now) × PermuteSegments l.lengths.now l.index.now
FitInts (ints.SetNumbers l) = sum l.lengths.now ≡ length l.flags.now
FitInts (ints.Packed l) = (length l.flags.now ≡ length l.items.now) × (sum l.lengths.now ≡ length l.flags.now) × (l.numbers.now ≡ each_number l.lengths.now l.flags.now) × (l.total ≡ number_set l.flags.now)
FitInts (ints.PackedWhole l) = (length l.flags.now ≡ length l.items.now) × (l.total ≡ number_set l.flags.now)

-- the truth values
abbrev pub bools_of : BoolRow → List Bool
bools_of (bools.Altered l) = map (alter_b l.op) l.items.now
bools_of (bools.Applied l) = item_by_item (apply_b l.op) l.left.now l.right.now
bools_of (bools.Compared l) = item_by_item (compares l.op) l.left.now l.right.now
bools_of (bools.Gathered l) = gathered l.index.now l.items.now
bools_of (bools.Permuted l) = permuted l.index.now l.items.now
bools_of (bools.Truths l) = map is_true l.items.now
bools_of (bools.Selected l) = selected l.flags.now l.set.now l.unset.now
bools_of (bools.Reduced l) = segmented_reduce (combine_b l.op) (unit_b l.op) l.lengths.now l.items.now
bools_of (bools.ReducedParts l) = map (λ p. reduced (combine_b l.op) (unit_b l.op) p.now) l.parts.now
bools_of (bools.CarriedOver l) = map (carried_over (combine_b l.op) (unit_b l.op) l.items.now) l.edges.now
bools_of (bools.Scanned l) = segmented_scan (combine_b l.op) (unit_b l.op) l.lengths.now l.items.now
bools_of (bools.Prefixes l) = scanned (combine_b l.op) (unit_b l.op) l.items.now
bools_of (bools.Repeated l) = replicate l.count l.item
bools_of (bools.Distributed l) = distributed l.lengths.now l.values.now
bools_of (bools.GatheredSegments l) = segmented_gather l.source.now l.items.now l.by.now l.index.now
bools_of (bools.PermutedSegments l) = segmented_permute l.lengths.now l.index.now l.items.now
bools_of (bools.Packed l) = packed l.flags.now l.items.now
bools_of (bools.PackedWhole l) = packed l.flags.now l.items.now
bools_of (bools.Marked l) = segmented_marks l.lengths.now l.index.now
bools_of (bools.ChunksMarked l) = chunks_set l.count l.size (segmented_marks l.lengths.now l.index.now)
bools_of (bools.ChunksWithin l) = chunks_set l.count l.size (each_within l.source.now l.by.now l.index.now)

-- their operands are of one length; segments have all the items
abbrev pub FitBools : BoolRow → Type 0
FitBools (bools.Altered l) = Unit {0}
FitBools (bools.Applied l) = length l.left.now ≡ length l.right.now
FitBools (bools.Compared l) = length l.left.now ≡ length l.right.now
FitBools (bools.Gathered l) = All (IsPlaceOf (length l.items.now)) l.index.now
FitBools (bools.Permuted l) = (length l.index.now ≡ length l.items.now) × HoldsEachPlaceOnce l.index.now
FitBools (bools.Truths l) = Unit {0}
FitBools (bools.Selected l) = (length l.flags.now ≡ length l.set.now) × (length l.flags.now ≡ length l.unset.now)
FitBools (bools.Reduced l) = sum l.lengths.now ≡ length l.items.now
FitBools (bools.ReducedParts l) = Unit {0}
FitBools (bools.CarriedOver l) = All (FitsEdge (length l.items.now)) l.edges.now
FitBools (bools.Scanned l) = FitsScan (combine_b l.op) (unit_b l.op) l.lengths.now l.items.now l.carries.now l.size
FitBools (bools.Prefixes l) = Unit {0}
FitBools (bools.Repeated l) = Unit {0}
FitBools (bools.Distributed l) = (length l.lengths.now ≡ length l.values.now) × (l.total ≡ sum l.lengths.now)
FitBools (bools.GatheredSegments l) = (sum l.source.now ≡ length l.items.now) × (sum l.by.now ≡ length l.index.now) × (length l.source.now ≡ length l.by.now) × LieWithin l.source.now l.by.now l.index.now
FitBools (bools.PermutedSegments l) = (length l.index.now ≡ length l.items.now) × (sum l.lengths.now ≡ length l.index.now) × PermuteSegments l.lengths.now l.index.now
FitBools (bools.Packed l) = (length l.flags.now ≡ length l.items.now) × (sum l.lengths.now ≡ length l.flags.now) × (l.numbers.now ≡ each_number l.lengths.now l.flags.now) × (l.total ≡ number_set l.flags.now)
FitBools (bools.PackedWhole l) = (length l.flags.now ≡ length l.items.now) × (l.total ≡ number_set l.flags.now)
FitBools (bools.Marked l) = sum l.lengths.now ≡ length l.index.now
FitBools (bools.ChunksMarked l) = (sum l.lengths.now ≡ length l.index.now) × (0 < l.size) × ((k : ℕ) → k < l.count → k * l.size < length l.index.now)
FitBools (bools.ChunksWithin l) = (length l.source.now ≡ length l.by.now) × (sum l.by.now ≡ length l.index.now) × (0 < l.size) × ((k : ℕ) → k < l.count → k * l.size < length l.index.now)
