-- What was made by the operation that was chosen, `by_choice`.
use Rattle.std.proofs.Common.{◌≡◌, List, map, sym, subst}
use Rattle.std.specs.Prelude.{Vec, Result, IfOk}
use Rattle.std.specs.declared.alloc.Global.{Global}
use Rattle.scan_kernels.specs.Parts.{parts_made}

module _ {O P X E : Type 0} (makes : O → P → List X) (parts : List P) (r : Result (Vec (Vec X Global) Global) E) where
  pub by_choice : {self op : O} → self ≡ op → IfOk r (λ made. parts_made made.items ≡ map (makes op) parts) → IfOk r (λ made. parts_made made.items ≡ map (makes self) parts)
  by_choice is made = subst (λ op. IfOk r (λ made. parts_made made.items ≡ map (makes op) parts)) (sym is) made
