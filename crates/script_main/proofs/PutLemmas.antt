-- Texts that are put one behind another: `Puts-none`, `Puts-then`, `Puts-more` for a text that goes on where one stopped.
use Rattle.std.proofs.Common.{◌≡◌, ℕ, List, [], ◌++◌, Option, Result, Ok, Err, refl, sym, ◌∙◌, subst, append_assoc}
use Rattle.std.proofs.lemmas.List.{append-nil}
use Rattle.script_lines.specs.declared.fault.RunFault.{RunFault}
use Rattle.script_lines.specs.declared.fault.RunFault.TheVariants as stops
use Rattle.script_lines.specs.Streams.{Awaits, HasBegun}
use Rattle.script_main.specs.Reports.{Puts, IsReportFault}
use Rattle.script_lines.proofs.StreamLemmas.{Awaits-start, Awaits-then, HasBegun-more, HasBegun-then}

pub Puts-none : (waiting : List ℕ) (old : Option (List ℕ)) (writes : ℕ) → Puts (Ok tt) [] waiting waiting old old writes writes
Puts-none waiting old writes = (subst (λ (t : List ℕ). Awaits old old waiting t) (sym (append-nil waiting)) (Awaits-start old waiting), refl)

-- for want of memory nothing was put
pub Puts-nothing : (text waiting left : List ℕ) (old : Option (List ℕ)) (writes : ℕ) → Puts (Err stops.OutOfMemory) text waiting left old old writes writes
Puts-nothing text waiting left old writes = ((waiting ++ text, Awaits-start old (waiting ++ text)), tt)

module _ (text next waiting waits left : List ℕ) (old mid new : Option (List ℕ)) (before between after : ℕ) where
  pub Puts-then : (result : Result (Unit {0}) RunFault) → Puts (Ok tt) text waiting waits old mid before between → Puts result next waits left mid new between after
      → Puts result (text ++ next) waiting left old new before after
  Puts-then (Ok done) a b =
      (subst (λ (t : List ℕ). Awaits old new left t) (append_assoc waiting text next) (Awaits-then old mid new waits (waiting ++ text) next left a.0 b.0), b.1 ∙ a.1)
  Puts-then (Err fault) a b =
      (subst (λ (t : List ℕ). HasBegun old new t) (append_assoc waiting text next) (HasBegun-then old mid new waits (waiting ++ text) next a.0 b.0), subst (λ (n : ℕ). IsReportFault fault n after) a.1 b.1)

-- a text that stands behind what waits is put, where what waits then is written
pub Puts-behind : (result : Result (Unit {0}) RunFault) (text waiting waits left : List ℕ) (old new : Option (List ℕ)) (writes writes' : ℕ)
    → waits ≡ waiting ++ text → Puts result [] waits left old new writes writes' → Puts result text waiting left old new writes writes'
Puts-behind (Ok done) text waiting waits left old new writes writes' is p = (subst (λ (t : List ℕ). Awaits old new left t) (append-nil waits ∙ is) p.0, p.1)
Puts-behind (Err fault) text waiting waits left old new writes writes' is p = (subst (λ (t : List ℕ). HasBegun old new t) (append-nil waits ∙ is) p.0, p.1)

-- a stop in a text is a stop in a longer one
pub Puts-more : (fault : RunFault) (text more waiting left : List ℕ) (old new : Option (List ℕ)) (writes writes' : ℕ)
    → Puts (Err fault) text waiting left old new writes writes' → Puts (Err fault) (text ++ more) waiting left old new writes writes'
Puts-more fault text more waiting left old new writes writes' p =
    (subst (λ (t : List ℕ). HasBegun old new t) (append_assoc waiting text more) (HasBegun-more old new (waiting ++ text) more p.0), p.1)
