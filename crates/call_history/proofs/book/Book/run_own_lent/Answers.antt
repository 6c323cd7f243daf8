use Rattle.std.proofs.Common.{◌≡◌, ◌++◌, ◌∷◌, [], Ok, refl, subst, sym, ap, ◌∙◌}
use Rattle.cvl_text.specs.Tasks.{task_of}
use Rattle.cvl_calls.specs.Steps.{CountsStep, runs_on, stepped}
use Rattle.call_history.specs.Books.{memory_of}
use Rattle.call_history.specs.History.{replay}
use Rattle.call_history.specs.Callers.{next_before, next_entry}
use Rattle.call_history.proofs.Counting.{counts_answered}
use Rattle.vector_memory.specs.States.{bounds_of}
use Rattle.call_history.proofs.Replays.{bounds-stepped}
use Rattle.call_history.specs.Blocks.{Whole}
use Rattle.call_history.proofs.Blocks.{Whole-push}
use Rattle.call_history.proofs.Outside.{book_may_change}
use Rattle.call_history.proofs.Replays.{replay-push}
use Rattle.call_history.proofs.book.Book.run_own_lent.Goals as goal

pub step_own-requires-clause-may_change : goal.step_own-requires-clause-may_change
step_own-requires-clause-may_change g c κs within = book_may_change c.self.inside.memory c.self.inside.log.entries c.self.invariant.replayed

pub invariant_of-self-2 : goal.invariant_of-self-2
invariant_of-self-2 g c =
    let history = c.self.inside.log.entries in
    let added = next_entry history c.args.caller c.args.call.now in
    let items : c.enter_brief.new.log.entries ≡ history ++ added ∷ [] = c.enter_brief.ensures.entries ∙ ap (λ call. history ++ next_before history c.args.caller call 0 ∷ []) c.in-Some.ensures.brief.0 in
    record {
      replayed = replay-push c.self.inside.memory c.step_own.new.memory history added c.self.invariant.replayed (ap (λ s. s.memory) c.in-Ok.ensures.ok)
          ∙ ap (λ es. replay (bounds_of c.step_own.new.memory) es) (sym items);
      ticketed = c.enter_brief.ensures.ticketed;
      lawful_callers = c.enter_brief.ensures.lawful_callers;
      whole = subst Whole (sym items) (Whole-push history added c.self.invariant.whole refl);
      counted = c.enter_brief.ensures.counted;
    }

pub returns-clause-bounds : goal.returns-clause-bounds
returns-clause-bounds g c =
    ap (λ s. bounds_of s.memory) (sym c.in-Ok.ensures.ok) ∙ (bounds-stepped c.self.inside.memory (task_of c.args.call.now) ∙ ap (λ s. s.bounds) c.self.view_is)

pub returns-clause-memory : goal.returns-clause-memory
returns-clause-memory g c =
    let kept = invariant_of-self-2 g c in
    let task = task_of c.args.call.now in
    sym kept.replayed ∙ (ap (λ s. s.memory) (sym c.in-Ok.ensures.ok) ∙ ap (λ m. (stepped m task).memory) (c.self.invariant.replayed ∙ ap memory_of c.self.view_is))

pub returns-clause-counted : goal.returns-clause-counted
returns-clause-counted g c =
    let task = task_of c.args.call.now in
    let known = c.self.invariant.replayed ∙ ap memory_of c.self.view_is in
    counts_answered _ _ _ _ c.args.meter.now c.step_own.new.meter (runs_on (memory_of c.args.self.now) task) _ _
    (subst (λ m. CountsStep (runs_on m task) (Ok c.in-Ok.fault) c.args.meter.now c.step_own.new.meter) known c.in-Ok.ensures.counted)
