-- What the scan of a list is, place by place.
use Rattle.std.specs.Prelude.{◌≡◌, ℕ, ◌<◌, List, length, take, Some}
use Rattle.std.specs.List.{slice_get}
use Rattle.scan_kernels.specs.Segmented.{reduced, scanned}

-- a scan has as many items as its operand
abbrev pub ScansEach : {X : Type 0} → (X → X → X) → X → Type 0
ScansEach {X} op unit = (xs : List X) → length (scanned op unit xs) ≡ length xs

-- item i of a scan is the reduction of the first i items
abbrev pub ScansPrefixes : {X : Type 0} → (X → X → X) → X → Type 0
ScansPrefixes {X} op unit = (xs : List X) (i : ℕ) → i < length xs → slice_get (scanned op unit xs) i ≡ Some (reduced op unit (take i xs))
