use Rattle.std.proofs.Common.{rules, ◌≡◌, ◌∙◌, ◌++◌, Global, List, Vec, ℤ, ap, map, subst, sym}
use Rattle.std.specs.Borrow.{Bor}
use Rattle.vector_memory.specs.States.{State}
use Rattle.cvl_text.specs.declared.call.Call.{Call}
use Rattle.cvl_text.specs.Tasks.{Task, task_of}
use Rattle.cvl_calls.specs.Alike.{AreHeld, HasRoomFor, emptied, filled}
use Rattle.cvl_calls.proofs.AlikeOver.{all_back, all_done, emptied-outside, may_go}
use Rattle.cvl_calls.proofs.over.alike.step_alike.Goals as goal

abbrev items : Vec ℤ Global → List ℤ
items v = v.items

abbrev task : Bor Call → Task
task c = task_of c.now

pub give_each-requires-clause-outside : goal.give_each-requires-clause-outside
give_each-requires-clause-outside g c =
    ap (λ (s : State). s.block) (c.take_each.ensures.taken (search rules)) ∙ emptied-outside c.args.memory.now c.deref.result.now c.requires.outside

pub give_each-requires-clause-room : goal.give_each-requires-clause-room
give_each-requires-clause-room g c =
    let m = c.args.memory.now in
    let s = c.take_each.new.memory in
    let ns = c.in-Some.names.items in
    let old = c.take_each.new.lists.items in
    let new = c.make_over-made.new.lists.items in
    let h = c.take_each.ensures.held (search rules) in
    let took : s ≡ emptied m ns = c.take_each.ensures.taken (search rules) ∙ ap (emptied m) c.deref.ensures.value in
    let held = subst (λ l. AreHeld m l h.0) c.deref.ensures.value h.2 in
    let olds : map items old ≡ h.0 = h.1 ∙ ap (λ (l : List (Vec ℤ Global)). map items l ++ h.0) c.in-Ok.ensures.items in
    subst (λ l. HasRoomFor s l (map items new)) (sym c.deref-2.ensures.value)
    (may_go task items m s c.args.calls.now ns old new h.0 c.requires.outside c.memories_are_lawful.ensures.within took held olds c.make_over-made.ensures.long)

pub returns-clause-memory : goal.returns-clause-memory
returns-clause-memory g c = λ told.
    let m = c.args.memory.now in
    let s = c.take_each.new.memory in
    let ns = c.in-Some.names.items in
    let old = c.take_each.new.lists.items in
    let new = c.make_over-made.new.lists.items in
    let h = c.take_each.ensures.held (search rules) in
    let took : s ≡ emptied m ns = c.take_each.ensures.taken (search rules) ∙ ap (emptied m) c.deref.ensures.value in
    let held = subst (λ l. AreHeld m l h.0) c.deref.ensures.value h.2 in
    let olds : map items old ≡ h.0 = h.1 ∙ ap (λ (l : List (Vec ℤ Global)). map items l ++ h.0) c.in-Ok.ensures.items in
    let is = c.give_each.ensures ∙ ap (λ l. filled s l (map items new)) c.deref-2.ensures.value in
    (all_done task items m s c.args.calls.now ns old new h.0 c.requires.outside c.memories_are_lawful.ensures.within took held olds c.make_over-made.ensures.long c.give_each.new.memory is c.in-Some.ensures (c.make_over-made.ensures.makes told) (c.make_over-made.ensures.apart told)).0

pub returns-clause-done : goal.returns-clause-done
returns-clause-done g c = λ told.
    let m = c.args.memory.now in
    let s = c.take_each.new.memory in
    let ns = c.in-Some.names.items in
    let old = c.take_each.new.lists.items in
    let new = c.make_over-made.new.lists.items in
    let h = c.take_each.ensures.held (search rules) in
    let took : s ≡ emptied m ns = c.take_each.ensures.taken (search rules) ∙ ap (emptied m) c.deref.ensures.value in
    let held = subst (λ l. AreHeld m l h.0) c.deref.ensures.value h.2 in
    let olds : map items old ≡ h.0 = h.1 ∙ ap (λ (l : List (Vec ℤ Global)). map items l ++ h.0) c.in-Ok.ensures.items in
    let is = c.give_each.ensures ∙ ap (λ l. filled s l (map items new)) c.deref-2.ensures.value in
    (all_done task items m s c.args.calls.now ns old new h.0 c.requires.outside c.memories_are_lawful.ensures.within took held olds c.make_over-made.ensures.long c.give_each.new.memory is c.in-Some.ensures (c.make_over-made.ensures.makes told) (c.make_over-made.ensures.apart told)).1

pub returns-clause-unchanged : goal.returns-clause-unchanged
returns-clause-unchanged g c = λ told.
    let m = c.args.memory.now in
    let s = c.take_each.new.memory in
    let ns = c.in-Some.names.items in
    let old = c.take_each.new.lists.items in
    let new = c.make_over-made.new.lists.items in
    let h = c.take_each.ensures.held (search rules) in
    let took : s ≡ emptied m ns = c.take_each.ensures.taken (search rules) ∙ ap (emptied m) c.deref.ensures.value in
    let held = subst (λ l. AreHeld m l h.0) c.deref.ensures.value h.2 in
    let olds : map items old ≡ h.0 = h.1 ∙ ap (λ (l : List (Vec ℤ Global)). map items l ++ h.0) c.in-Ok.ensures.items in
    let is = c.give_each.ensures ∙ ap (λ l. filled s l (map items new)) c.deref-2.ensures.value in
    all_back task items m s c.args.calls.now ns old new h.0 c.requires.outside c.memories_are_lawful.ensures.within took held olds c.make_over-made.ensures.long c.give_each.new.memory is (ap (λ (v : Vec (Vec ℤ Global) Global). v.items) (c.make_over-made.ensures.unchanged told))
