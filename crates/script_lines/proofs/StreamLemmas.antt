-- What is still to be written, as it is written: `Awaits-append` for one write, `Awaits-then` for one text behind another,
-- `HasBegun-more` and `HasBegun-then` where a write failed.
use Rattle.std.proofs.Common.{ℕ, List, [], ◌++◌, take, drop, Option, Some, None, refl, sym, ap, ◌∙◌, subst, append_assoc, take-append-drop}
use Rattle.std.proofs.lemmas.List.{append-nil}
use Rattle.std.specs.Io.KnownBytes.{Appends, Keeps}
use Rattle.script_lines.specs.Streams.{Awaits, HasBegun}

pub Awaits-start : (written : Option (List ℕ)) (text : List ℕ) → Awaits written written text text
Awaits-start None text = tt
Awaits-start (Some w) text = ([], sym (append-nil w), refl)

-- a write took the first n of the bytes that were left
pub Awaits-append : (first old new : Option (List ℕ)) (n : ℕ) (rest text : List ℕ) → Awaits first old rest text → Appends old new (take n rest) → Awaits first new (drop n rest) text
Awaits-append None old new n rest text h a = tt
Awaits-append (Some b) None new n rest text h a = absurd h
Awaits-append (Some b) (Some w) None n rest text h a = absurd a
Awaits-append (Some b) (Some w) (Some v) n rest text h a = (
  h.0 ++ take n rest,
  a ∙ ap (λ (t : List ℕ). t ++ take n rest) h.1 ∙ append_assoc b h.0 (take n rest),
  h.2 ∙ ap (λ (t : List ℕ). h.0 ++ t) (sym (take-append-drop n rest)) ∙ sym (append_assoc h.0 (take n rest) (drop n rest)),
)

-- a write that failed took nothing
pub Awaits-kept : (first old new : Option (List ℕ)) (rest text : List ℕ) → Awaits first old rest text → Keeps old new → Awaits first new rest text
Awaits-kept None old new rest text h k = tt
Awaits-kept (Some b) None new rest text h k = absurd h
Awaits-kept (Some b) (Some w) None rest text h k = absurd k
Awaits-kept (Some b) (Some w) (Some v) rest text h k = (h.0, k ∙ h.1, h.2)

-- a text of which waiting was left, and then that and the next text
pub Awaits-then : (old mid new : Option (List ℕ)) (waiting text next rest : List ℕ) → Awaits old mid waiting text → Awaits mid new rest (waiting ++ next) → Awaits old new rest (text ++ next)
Awaits-then None mid new waiting text next rest h k = tt
Awaits-then (Some b) None new waiting text next rest h k = absurd h
Awaits-then (Some b) (Some w) None waiting text next rest h k = absurd k
Awaits-then (Some b) (Some w) (Some v) waiting text next rest h k = (
  h.0 ++ k.0,
  k.1 ∙ ap (λ (t : List ℕ). t ++ k.0) h.1 ∙ append_assoc b h.0 k.0,
  ap (λ (t : List ℕ). t ++ next) h.2 ∙ append_assoc h.0 waiting next ∙ ap (λ (t : List ℕ). h.0 ++ t) k.2 ∙ sym (append_assoc h.0 k.0 rest),
)

-- a longer text leaves more
pub Awaits-more : (old new : Option (List ℕ)) (rest text more : List ℕ) → Awaits old new rest text → Awaits old new (rest ++ more) (text ++ more)
Awaits-more None new rest text more h = tt
Awaits-more (Some b) None rest text more h = absurd h
Awaits-more (Some b) (Some w) rest text more h = (h.0, h.1, ap (λ (t : List ℕ). t ++ more) h.2 ∙ append_assoc h.0 rest more)

pub HasBegun-more : (old new : Option (List ℕ)) (text more : List ℕ) → HasBegun old new text → HasBegun old new (text ++ more)
HasBegun-more old new text more h = (h.0 ++ more, Awaits-more old new h.0 text more h.1)

pub HasBegun-then : (old mid new : Option (List ℕ)) (waiting text next : List ℕ) → Awaits old mid waiting text → HasBegun mid new (waiting ++ next) → HasBegun old new (text ++ next)
HasBegun-then old mid new waiting text next w h = (h.0, Awaits-then old mid new waiting text next h.0 w h.1)

-- what was left is written, or a beginning of it
module _ (old mid new : Option (List ℕ)) (waiting text : List ℕ) (h : Awaits old mid waiting text) where
  pub Awaits-done : Awaits mid new [] waiting → Awaits old new [] text
  Awaits-done k = subst (λ (t : List ℕ). Awaits old new [] t) (append-nil text) (Awaits-then old mid new waiting text [] [] h (subst (λ (t : List ℕ). Awaits mid new [] t) (sym (append-nil waiting)) k))

  pub HasBegun-done : HasBegun mid new waiting → HasBegun old new text
  HasBegun-done k = subst (λ (t : List ℕ). HasBegun old new t) (append-nil text) (HasBegun-then old mid new waiting text [] h (subst (λ (t : List ℕ). HasBegun mid new t) (sym (append-nil waiting)) k))
