use Rattle.std.proofs.Common.{rules, ◌≡◌, List, map, subst, sym, ap, ◌∙◌}
use Rattle.std.proofs.lemmas.List.{length-map}
use Rattle.std.proofs.lemmas.Simd.{map-map}
use Rattle.std.specs.Borrow.{Bor}
use Rattle.vector_memory.specs.States.{State, bounds_of}
use Rattle.cvl_text.specs.declared.call.Call.{Call}
use Rattle.cvl_text.specs.Tasks.{task_of}
use Rattle.cvl_calls.specs.Alike.{after_all}
use Rattle.call_history.specs.declared.entry.Entry.{Entry}
use Rattle.call_history.specs.Alike.{entered}
use Rattle.call_history.specs.Blocks.{Whole}
use Rattle.call_history.specs.History.{replay}
use Rattle.call_history.proofs.EnteredLemmas.{bounds-after, replay-entered, whole-entered}
use Rattle.call_history.proofs.Outside.{replay-outside}
use Rattle.call_history.proofs.book.Book.run_alike.Goals as goal

pub step_alike-requires-clause-outside : goal.step_alike-requires-clause-outside
step_alike-requires-clause-outside g c κs within =
    let i = c.self.inside in
    ap (λ (s : State). s.block) c.self.invariant.replayed ∙ replay-outside (bounds_of i.memory) i.log.entries

pub invariant_of-self-2 : goal.invariant_of-self-2
invariant_of-self-2 g c =
    let i = c.self.inside in
    let history = i.log.entries in
    let callers = c.args.callers.now in
    let calls : List Call = map (λ (k : Bor Call). k.now) c.args.calls.now in
    let tasks : map task_of calls ≡ map (λ (k : Bor Call). task_of k.now) c.args.calls.now = map-map task_of (λ (k : Bor Call). k.now) c.args.calls.now in
    let same = c.requires.paired in
    let leads : c.step_alike.new.memory ≡ after_all i.memory (map task_of calls) = c.step_alike.ensures.memory (search rules) ∙ ap (after_all i.memory) (sym tasks) in
    let items : c.enter_briefs.new.log.entries ≡ entered history callers calls = c.enter_briefs.ensures.entries ∙ ap (entered history callers) c.in-Some.ensures.calls in
    let count = length-map c.args.calls.now (λ (k : Bor Call). k.now) in
    record {
      replayed = subst (λ (z : State × (List Entry)). z.0 ≡ replay (bounds_of z.0) z.1) (λ j. (sym leads j, sym items j)) (replay-entered i.memory history callers calls (same ∙ sym count) c.self.invariant.replayed);
      ticketed = c.enter_briefs.ensures.ticketed;
      lawful_callers = c.enter_briefs.ensures.lawful_callers;
      whole = subst Whole (sym items) (whole-entered history callers calls c.self.invariant.whole);
      counted = c.enter_briefs.ensures.counted;
    }

pub returns-clause-bounds : goal.returns-clause-bounds
returns-clause-bounds g c =
    let i = c.self.inside in
    let calls : List Call = map (λ (k : Bor Call). k.now) c.args.calls.now in
    let tasks : map task_of calls ≡ map (λ (k : Bor Call). task_of k.now) c.args.calls.now = map-map task_of (λ (k : Bor Call). k.now) c.args.calls.now in
    ap bounds_of (c.step_alike.ensures.memory (search rules) ∙ ap (after_all i.memory) (sym tasks)) ∙ bounds-after i.memory calls ∙ ap (λ s. s.bounds) c.self.view_is
