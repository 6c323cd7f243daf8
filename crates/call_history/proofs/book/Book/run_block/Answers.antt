use Rattle.std.proofs.Common.{◌≡◌, ◌++◌, None, List, map, subst, sym, ap, ◌∙◌}
use Rattle.vector_memory.specs.States.{State, bounds_of, ended}
use Rattle.cvl_text.specs.declared.call.Call.{Call}
use Rattle.cvl_text.specs.Answers.{answer_of}
use Rattle.call_history.specs.declared.entry.Entry.{Entry}
use Rattle.call_history.specs.Books.{memory_of}
use Rattle.call_history.specs.History.{replay}
use Rattle.call_history.specs.Blocks.{Whole, after, block_entries, metered, replies_to}
use Rattle.call_history.specs.Callers.{AreTickets, HasLawfulCallers, IsTicketed}
use Rattle.call_history.proofs.Outside.{replay-outside}
use Rattle.call_history.proofs.Blocks.{Whole-append, Whole-block, ended-begun, replay-block, replayed-same, replies-block, undone-begun}
use Rattle.call_history.proofs.book.Book.run_block.Goals as goal

-- the memory of a book is in no block
outside : (m : State) (history : List Entry) → m ≡ replay (bounds_of m) history → m.block ≡ None
outside m history known = ap (λ (s : State). s.block) known ∙ replay-outside (bounds_of m) history

pub begin_block-requires-clause-outside : goal.begin_block-requires-clause-outside
begin_block-requires-clause-outside g c = outside c.self.inside.memory c.self.inside.log.entries c.self.invariant.replayed

pub invariant_of-self-in_default-run_each : goal.invariant_of-self-in_default-run_each
invariant_of-self-in_default-run_each g c =
    let i = c.self.inside in
    let none = outside i.memory i.log.entries c.self.invariant.replayed in
    let back = c.undo_block.ensures ∙ c.run_each.ensures.before ∙ undone-begun i.memory c.begin_block.new.self c.len-3.result none c.in-Ok-begin_block.ensures.ok in
    let same = c.reserve.ensures.entries in
    record {
      replayed = replayed-same i.memory c.undo_block.new.self i.log.entries c.reserve.new.self.entries c.self.invariant.replayed back same;
      ticketed = subst IsTicketed (sym same) c.self.invariant.ticketed;
      lawful_callers = subst HasLawfulCallers (sym same) c.self.invariant.lawful_callers;
      whole = subst Whole (sym same) c.self.invariant.whole;
      counted = subst (AreTickets i.tickets.value) (sym same) c.self.invariant.counted;
    }

pub invariant_of-self-2 : goal.invariant_of-self-2
invariant_of-self-2 g c =
    let i = c.self.inside in
    let calls = c.args.calls.items in
    let history = i.log.entries in
    let none = outside i.memory history c.self.invariant.replayed in
    let begins = ended-begun i.memory c.begin_block.new.self c.len-3.result none c.in-Ok-begin_block.ensures.ok in
    let leads : c.end_block.new.self ≡ after i.memory calls = c.end_block.ensures ∙ c.in-Ok-run_each.ensures.memory
    ∙ ap (λ (m : State). after m c.deref.result.now) begins ∙ ap (after i.memory) c.deref.ensures.value in
    let items : c.enter_each-place.new.log.entries ≡ history ++ block_entries history c.args.caller calls =
    c.enter_each-place.ensures.entries ∙ ap (λ (es : List Entry). es ++ block_entries es c.args.caller calls) c.reserve.ensures.entries in
    record {
      replayed = replay-block i.memory c.end_block.new.self history c.args.caller calls c.self.invariant.replayed leads ∙ ap (replay (bounds_of c.end_block.new.self)) (sym items);
      ticketed = c.enter_each-place.ensures.ticketed;
      lawful_callers = c.enter_each-place.ensures.lawful_callers;
      whole = subst Whole (sym items) (Whole-append history (block_entries history c.args.caller calls) c.self.invariant.whole (Whole-block history c.args.caller calls));
      counted = c.enter_each-place.ensures.counted;
    }

pub returns-clause-replies : goal.returns-clause-replies
returns-clause-replies g c =
    let i = c.self.inside in
    let calls = c.args.calls.items in
    let none = outside i.memory i.log.entries c.self.invariant.replayed in
    let begins = ended-begun i.memory c.begin_block.new.self c.len-3.result none c.in-Ok-begin_block.ensures.ok in
    let known = c.self.invariant.replayed ∙ ap memory_of c.self.view_is in
    c.in-Ok-run_each.ensures.replies
    ∙ ap (λ rs. map answer_of rs ++ replies_to (ended c.begin_block.new.self) c.deref.result.now) c.in-Ok.ensures.items
    ∙ ap (λ (m : State). replies_to m c.deref.result.now) (begins ∙ known)
    ∙ ap (replies_to (memory_of c.args.self.now)) c.deref.ensures.value
    ∙ replies-block (memory_of c.args.self.now) c.args.self.now.history c.args.caller calls

pub returns-clause-counted : goal.returns-clause-counted
returns-clause-counted g c =
    let i = c.self.inside in
    let none = outside i.memory i.log.entries c.self.invariant.replayed in
    let begins = ended-begun i.memory c.begin_block.new.self c.len-3.result none c.in-Ok-begin_block.ensures.ok in
    let known = c.self.invariant.replayed ∙ ap memory_of c.self.view_is in
    c.in-Ok-run_each.ensures.counted
    ∙ ap (λ (m : State). metered m c.deref.result.now c.args.meter.now) (begins ∙ known)
    ∙ ap (λ (calls : List Call). metered (memory_of c.args.self.now) calls c.args.meter.now) c.deref.ensures.value
