use Rattle.std.proofs.Common.{◌≡◌, ℕ, zero, suc, List, [], length, slice_index, replicate, refl, sym, ap, ◌∙◌, subst}
use Rattle.vector_memory.specs.declared.bounds.Bounds.{Bounds}
use Rattle.vector_memory.specs.States.{State, bounds_in, bounds_of, empty}
use Rattle.call_history.specs.declared.entry.Entry.{Entry}
use Rattle.call_history.specs.History.{replay}
use Rattle.call_history.specs.Callers.{IsTicketed, HasLawfulCallers, calls_by}
use Rattle.call_history.specs.Blocks.{Whole}
use Rattle.call_history.proofs.book.Book.with_edition.Goals as goal

zeros : (n k : ℕ) → slice_index (replicate n 0) k ≡ 0
zeros zero zero = refl
zeros zero (suc k) = refl
zeros (suc n) zero = refl
zeros (suc n) (suc k) = zeros n k

replayed-new : (m : State) (bounds : Bounds) (history : List Entry) → m ≡ empty bounds → history ≡ [] → m ≡ replay (bounds_of m) history
replayed-new m bounds history fresh none = fresh ∙ (ap (λ s. empty (bounds_of s)) (sym fresh) ∙ ap (λ es. replay (bounds_of m) es) (sym none))

pub invariant_of-result : goal.invariant_of-result
invariant_of-result c =
    let none : [] ≡ c.new.result.entries = sym c.new.ensures in
    record {
      replayed = replayed-new c.in_ok-with_edition.field-0 (bounds_in c.args.edition c.args.room) c.new.result.entries c.in_ok-with_edition.ensures c.new.ensures;
      ticketed = subst IsTicketed none (λ k. refl);
      lawful_callers = subst HasLawfulCallers none tt;
      whole = subst Whole none tt;
      counted = λ k below. ap (λ t. slice_index t k) c.in_ok-new.ensures.ok ∙ zeros 64 k ∙ ap (λ es. length (calls_by k es)) none;
    }
