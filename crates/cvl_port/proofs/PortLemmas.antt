-- The ports of a new machine, made one after the other.
use Rattle.std.proofs.Common.{◌≡◌, zero, suc, List, [], ◌∷◌, ◌++◌, map, append_assoc, sym, ap, ◌∙◌, subst, arith}
use Rattle.std.specs.Prelude.{All}
use Rattle.std.proofs.lemmas.List.Elements.{All-append}
use mathlib.Core.List.{map-append}
use Rattle.combiner.specs.Standing.{Machine, Standing}
use Rattle.cvl_port.specs.declared.port.Port.{Port}
use Rattle.cvl_port.specs.Ports.{IsFresh, caller_of}

-- the callers behind the first are placed too
pub placed_next : (m : Machine) (c : Standing) (before rest : List Standing) → before ≡ c ∷ rest → All (λ s. s.machine ≡ m) before → All (λ s. s.machine ≡ m) rest
placed_next m c before rest is all = λ k d lt. (subst (All (λ s. s.machine ≡ m)) is all) (suc k) d (omega arith)

-- one more port is made, of the next caller
pub made_next : (ports after : List Port) (p : Port) (c : Standing) (before rest all : List Standing) → before ≡ c ∷ rest → caller_of p ≡ c → after ≡ ports ++ p ∷ [] → map caller_of ports ++ before ≡ all → map caller_of after ++ rest ≡ all
made_next ports after p c before rest all is its grown made =
    ap (λ ps. map caller_of ps ++ rest) grown ∙ ap (λ cs. cs ++ rest) (map-append caller_of ports (p ∷ [])) ∙ append_assoc (map caller_of ports) (caller_of p ∷ []) rest
    ∙ ap (λ s. map caller_of ports ++ s ∷ rest) its ∙ ap (λ cs. map caller_of ports ++ cs) (sym is) ∙ made

-- it is fresh
pub fresh_next : (ports after : List Port) (p : Port) → after ≡ ports ++ p ∷ [] → All IsFresh ports → IsFresh p → All IsFresh after
fresh_next ports after p grown all new = subst (All IsFresh) (sym grown) (All-append IsFresh ports (p ∷ []) all last)
  where
    last : All IsFresh (p ∷ [])
    last zero d lt = new
    last (suc k) d lt = absurd (omega arith)
