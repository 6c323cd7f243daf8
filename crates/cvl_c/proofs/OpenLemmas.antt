-- How many callers a new machine has.
use Rattle.std.proofs.Common.{◌≡◌, ℕ, zero, suc, List, [], ◌∷◌, length, refl, sym, ap, ◌∙◌, arith}
use Rattle.std.proofs.lemmas.List.{length-map}
use lib.ListN.{length-append}
use Rattle.vector_memory.specs.declared.bounds.Bounds.{Bounds}
use Rattle.combiner.specs.Standing.{Machine, newcomer, newcomers}
use Rattle.cvl_port.specs.declared.port.Port.{Port}
use Rattle.cvl_port.specs.Ports.{AreNewPorts, caller_of}

length-newcomers : (m : Machine) (bounds : Bounds) (n : ℕ) → length (newcomers m bounds n) ≡ n
length-newcomers m bounds zero = refl
length-newcomers m bounds (suc n) = let before = length-newcomers m bounds n in length-append (newcomers m bounds n) (newcomer m bounds n ∷ []) ∙ omega (arith, before)

pub length-new : (callers room : ℕ) (ports : List Port) → AreNewPorts callers room ports → length ports ≡ callers
length-new callers room ports new = sym (length-map ports caller_of) ∙ ap length new.2 ∙ length-newcomers new.0 _ callers
