use Rattle.std.proofs.Common.{◌≡◌, ◌++◌, ◌∷◌, [], Ok, Err, refl, subst, sym, ap, ◌∙◌}
use Rattle.cvl_text.specs.Tasks.{task_of}
use Rattle.cvl_calls.specs.Steps.{CountsStep, runs_on, stepped}
use Rattle.call_history.specs.Books.{memory_of}
use Rattle.call_history.specs.History.{replay}
use Rattle.call_history.specs.Callers.{next_entry}
use Rattle.call_history.proofs.Counting.{counts_nothing, counts_refused, counts_answered}
use Rattle.vector_memory.specs.States.{bounds_of}
use Rattle.call_history.proofs.Replays.{bounds-stepped}
use Rattle.call_history.specs.Blocks.{Whole}
use Rattle.call_history.proofs.Blocks.{Whole-push}
use Rattle.call_history.proofs.Outside.{book_may_change}
use Rattle.call_history.proofs.Replays.{replay-push}
use Rattle.call_history.proofs.book.Book.run_metered.Goals as goal

pub step_with-requires-clause-may_change : goal.step_with-requires-clause-may_change
step_with-requires-clause-may_change g c κs within = book_may_change c.self.inside.memory c.self.inside.log.entries c.self.invariant.replayed

pub invariant_of-self-2 : goal.invariant_of-self-2
invariant_of-self-2 g c =
    let history = c.self.inside.log.entries in
    let added = next_entry history c.args.caller c.args.call in
    let items : c.enter-place.new.log.entries ≡ history ++ added ∷ [] = c.enter-place.ensures.entries ∙ ap (λ es. es ++ next_entry es c.args.caller c.args.call ∷ []) c.reserve.ensures.entries in
    record {
      replayed = replay-push c.self.inside.memory c.step_with.new.memory history added c.self.invariant.replayed (ap (λ s. s.memory) c.in-Ok-step_with.ensures.ok)
          ∙ ap (λ es. replay (bounds_of c.step_with.new.memory) es) (sym items);
      ticketed = c.enter-place.ensures.ticketed;
      lawful_callers = c.enter-place.ensures.lawful_callers;
      whole = subst Whole (sym items) (Whole-push history added c.self.invariant.whole refl);
      counted = c.enter-place.ensures.counted;
    }

pub returns-clause-bounds : goal.returns-clause-bounds
returns-clause-bounds g c =
    ap (λ s. bounds_of s.memory) (sym c.in-Ok-step_with.ensures.ok) ∙ (bounds-stepped c.self.inside.memory (task_of c.args.call) ∙ ap (λ s. s.bounds) c.self.view_is)

pub returns-clause-memory : goal.returns-clause-memory
returns-clause-memory g c =
    let kept = invariant_of-self-2 g c in
    let task = task_of c.args.call in
    sym kept.replayed ∙ (ap (λ s. s.memory) (sym c.in-Ok-step_with.ensures.ok) ∙ ap (λ m. (stepped m task).memory) (c.self.invariant.replayed ∙ ap memory_of c.self.view_is))

pub returns-in_default-clause-counted : goal.returns-in_default-clause-counted
returns-in_default-clause-counted g c =
    counts_nothing _ _ c.args.meter.now (runs_on (memory_of c.args.self.now) (task_of c.args.call)) _

pub returns-in_default-step_with-clause-counted :
    goal.returns-in_default-step_with-clause-counted
returns-in_default-step_with-clause-counted g c =
    let task = task_of c.args.call in
    let known = c.self.invariant.replayed ∙ ap memory_of c.self.view_is in
    counts_refused _ _ _ _ c.args.meter.now c.step_with.new.meter (runs_on (memory_of c.args.self.now) task) _ _
    (subst (λ m. CountsStep (runs_on m task) (Err c.in_default-step_with.field-0) c.args.meter.now c.step_with.new.meter) known c.in_default-step_with.ensures.counted)

pub returns-clause-counted : goal.returns-clause-counted
returns-clause-counted g c =
    let task = task_of c.args.call in
    let known = c.self.invariant.replayed ∙ ap memory_of c.self.view_is in
    counts_answered _ _ _ _ c.args.meter.now c.step_with.new.meter (runs_on (memory_of c.args.self.now) task) _ _
    (subst (λ m. CountsStep (runs_on m task) (Ok c.in-Ok-step_with.reply) c.args.meter.now c.step_with.new.meter) known c.in-Ok-step_with.ensures.counted)
