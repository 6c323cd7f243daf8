-- The edges between the chunks of a list that is cut into segments, and what a scan of the segments carries over them.
use Rattle.std.specs.Prelude.{◌≡◌, ℕ, ◌+◌, ◌-◌, ◌*◌, ◌<◌, ◌≤◌, max, nat_lt, false, List, length, take, drop, sum, slice_get, slice_index_or}
use Rattle.scan_kernels.specs.Pairs.{join_pairs}
use Rattle.scan_kernels.specs.Segmented.{reduced, segmented_scan}
use Rattle.scan_kernels.specs.declared.edges.Edge.{Edge}

-- the place lies in the segment of this number, which begins at this place
pub record LiesIn (ls : List ℕ) (place number begin : ℕ) : Type 0 where
  pub number_is : number < length ls
  pub begin_is : begin ≡ sum (take number ls)
  pub behind_begin : begin ≤ place
  pub before_end : place < begin + slice_index_or ls number 0

-- the edge behind chunk k
pub record IsEdge (ls : List ℕ) (size k : ℕ) (e : Edge) : Type 0 where
  pub place_is : e.place ≡ (k + 1) * size
  pub segment : LiesIn ls e.place e.number e.begin
  pub from_is : e.from ≡ max (k * size) e.begin
  pub began_is : e.began ≡ nat_lt (k * size) e.begin

-- the edges behind the first chunks
abbrev pub AreEdges : List ℕ → ℕ → List Edge → Type 0
AreEdges ls size edges = (k : ℕ) (d : Edge) → k < length edges → IsEdge ls size k (slice_index_or edges k d)

-- what a chunk carries over its edge by itself: the reduction of those of its items that lie in the segment of the edge
abbrev pub carried_over : {X : Type 0} → (X → X → X) → X → List X → Edge → X
carried_over op unit xs e = reduced op unit (take (e.place - e.from) (drop e.from xs))

-- an edge lies behind where the items begin that it carries, and within the list
abbrev pub FitsEdge : ℕ → Edge → Type 0
FitsEdge count e = (e.from ≤ e.place) × (e.place ≤ count)

-- each item of the new list but the first is that of the old one behind the new item before it, if no segment began between
abbrev pub CarriesOn : {X : Type 0} → (X → X → X) → List Edge → List X → List X → Type 0
CarriesOn {X} op edges old new = (k : ℕ) (e : Edge) (d : X) → k < length edges
    → slice_index_or new (k + 1) d ≡ (join_pairs op (false, slice_index_or new k d) ((slice_index_or edges k e).began, slice_index_or old (k + 1) d)).1

-- behind the first chunk, item k is what the scan carries into chunk k: the item of the scan at the chunk's first place
pub record AreCarries {X : Type 0} (size : ℕ) (scan carries : List X) : Type 0 where
  pub item : (k : ℕ) → 0 < k → k * size < length scan → slice_get carries k ≡ slice_get scan (k * size)

-- a scan of segments that have all the items, with what it carries into each chunk
abbrev pub FitsScan : {X : Type 0} → (X → X → X) → X → List ℕ → List X → List X → ℕ → Type 0
FitsScan op unit ls xs carries size = (0 < size) × (sum ls ≡ length xs) × AreCarries size (segmented_scan op unit ls xs) carries
