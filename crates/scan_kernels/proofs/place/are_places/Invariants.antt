use Rattle.std.proofs.Common.{◌↔◌, All, IsTrue, take}
use Rattle.scan_kernels.specs.Indices.{IsPlaceOf}
use Rattle.scan_kernels.proofs.place.are_places.Given as goal

abbrev pub invariant-loop-held : goal.invariant-loop-held
invariant-loop-held l = IsTrue l.each ↔ All (IsPlaceOf l.length) (take l.held-index l.index)
