use Rattle.std.proofs.Common.{arith, ◌≡◌, ◌<◌, ◌≤◌, ◌⊎◌, inl, inr, ℕ, List, length, drop, sym, ap, ◌∙◌}
use Rattle.std.proofs.lemmas.Bool.{cases_lt}
use Rattle.std.proofs.lemmas.List.{length-drop}
use Rattle.vector_memory.specs.Names.{back_of, middle_of}
use Rattle.vector_memory.proofs.NameLemmas.{nothing-behind, nothing-first}
use Rattle.vector_memory.proofs.name.Name.short.Goals.{then-self-ne0-via-then-self-ne0, then-self-ne0-via-else-self-ne0+then-self-ne0-2}
use Rattle.vector_memory.proofs.name.Name.short.Goals as goal

-- a name with more than one word is longer than one holds
long-name : (text : List ℕ) → (middle_of text ≡ 0 → back_of text ≡ 0 → ⊥) → 12 < length text
long-name text some = by (cases_lt 12 (length text))
  where
    by : (12 < length text) ⊎ (length text ≤ 12) → 12 < length text
    by (inl long) = long
    by (inr short) =
        let none : length (drop 12 text) ≡ 0 = omega (arith, short, length-drop 12 text) in
        absurd (some (sym (nothing-first (drop 12 text) none)) (sym (nothing-behind (drop 12 text) none)))

pub returns-then-self-ne0-clause-long : goal.returns-then-self-ne0-clause-long
returns-then-self-ne0-clause-long c = long-name c.args.self (λ middle back.
    let no-middle = c.self.invariant.middle_is ∙ (ap middle_of c.self.view_is ∙ middle) in
    let no-back = c.self.invariant.back_is ∙ (ap back_of c.self.view_is ∙ back) in
    elim c.then-self-ne0.branch [ then-self-ne0-via-then-self-ne0 w ↦ w.if-self-ne0.true no-middle | then-self-ne0-via-else-self-ne0+then-self-ne0-2 w ↦ w.if-self-ne0-2.true no-back ])
