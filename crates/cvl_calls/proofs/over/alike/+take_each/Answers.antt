use Rattle.std.proofs.Common.{rules, ◌≡◌, ◌≤◌, ◌+◌, ◌∙◌, ◌∷◌, Global, List, Vec, ℤ, ap, length, subst, sym}
use Rattle.std.proofs.lemmas.List.{same_from_push}
use Rattle.vector_memory.specs.Contents.{Ints}
use Rattle.vector_memory.specs.States.{cells_of, put}
use Rattle.cvl_calls.proofs.AlikeOver.{back_room, back_same, back_short, back_there, held_next, taken_next}
use Rattle.cvl_calls.proofs.over.alike.+take_each.Goals as goal

abbrev items : Vec ℤ Global → List ℤ
items v = v.items

pub returns-then-take_each-clause-held : goal.returns-then-take_each-clause-held
returns-then-take_each-clause-held t c = λ told.
    let h = c.take_each.ensures.held (search rules) in
    let some = c.has_ints.ensures (search rules) in (
      c.take.result.items ∷ h.0,
      taken_next items c.args.lists.now.items c.push_reserved.new.self.items c.take_each.new.lists.items c.take.result h.0 c.push_reserved.ensures.items h.1,
      held_next c.args.memory.now c.take.new.memory c.in-Some.name.now c.in-Some.others.now c.args.names.now c.take.result.items h.0 c.in-Some.ensures.cases.0 c.memories_are_lawful.ensures c.take.ensures.items some c.take.ensures.memory h.2,
    )

pub give-requires-clause-there : goal.give-requires-clause-there
give-requires-clause-there t c =
    let left = c.take_each.ensures.memory (search rules) ∙ c.take.ensures.memory in
    back_there c.args.memory.now c.take_each.new.memory c.in-Some.name.now c.take.result.items c.memories_are_lawful.ensures c.take.ensures.items left

pub give-requires-clause-room : goal.give-requires-clause-room
give-requires-clause-room t c =
    let left = c.take_each.ensures.memory (search rules) ∙ c.take.ensures.memory in
    let lists = sym (c.take_each.ensures.lists (search rules) ∙ c.push_reserved.ensures.items) ∙ c.take_last.ensures.items in
    let same : c.take.result.items ≡ c.take_last.result.items = ap items (same_from_push _ _ _ _ lists).1 in
    subst (λ xs. cells_of c.take_each.new.memory.entries + length xs ≤ c.take_each.new.memory.room) same
    (back_room c.args.memory.now c.take_each.new.memory c.in-Some.name.now c.take.result.items c.memories_are_lawful.ensures c.take.ensures.items left)

pub give-requires-clause-short : goal.give-requires-clause-short
give-requires-clause-short t c =
    let left = c.take_each.ensures.memory (search rules) ∙ c.take.ensures.memory in
    let lists = sym (c.take_each.ensures.lists (search rules) ∙ c.push_reserved.ensures.items) ∙ c.take_last.ensures.items in
    let same : c.take.result.items ≡ c.take_last.result.items = ap items (same_from_push _ _ _ _ lists).1 in
    subst (λ xs. length xs ≤ c.take_each.new.memory.limit) same
    (back_short c.args.memory.now c.take_each.new.memory c.in-Some.name.now c.take.result.items c.memories_are_lawful.ensures c.take.ensures.items left)

pub returns-clause-memory : goal.returns-clause-memory
returns-clause-memory t c = λ told.
    let left = c.take_each.ensures.memory (search rules) ∙ c.take.ensures.memory in
    let lists = sym (c.take_each.ensures.lists (search rules) ∙ c.push_reserved.ensures.items) ∙ c.take_last.ensures.items in
    let same : c.take.result.items ≡ c.take_last.result.items = ap items (same_from_push _ _ _ _ lists).1 in
    back_same c.args.memory.now c.take_each.new.memory c.in-Some.name.now c.take.result.items c.memories_are_lawful.ensures c.take.ensures.items left c.give.new.memory c.requires.outside
    (c.give.ensures ∙ ap (λ xs. put c.take_each.new.memory c.in-Some.name.now (Ints xs)) (sym same))
