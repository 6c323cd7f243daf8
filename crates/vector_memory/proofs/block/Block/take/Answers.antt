use Rattle.std.proofs.Common.{◌≡◌, ◌++◌, [], ◌∷◌, List, cond, sym, ap, ◌∙◌, arith}
use Rattle.std.specs.Prelude.{position}
use Rattle.std.specs.Map.{keys_of}
use Rattle.vector_memory.specs.declared.name.Name.{Name}
use Rattle.vector_memory.specs.Names.{same_name}
use Rattle.vector_memory.specs.States.{NamedValues}
use Rattle.vector_memory.specs.Blocks.{is_freed, live}
use Rattle.vector_memory.proofs.BlockLemmas.{found-index, found-kept, grown-freed, if_ok, is_there, not_live, remove-append-right, take-held}
use Rattle.vector_memory.proofs.block.Block.take.Goals as goal

pub returns-in-Some-clause-shown : goal.returns-in-Some-clause-shown
returns-in-Some-clause-shown c =
    let held = c.args.held.now.entries in
    let freed = c.args.self.now.freed.keys in
    let late = c.args.self.now.late.entries in
    let name = c.args.name.now in
    let index = position (same_name name) (keys_of held) in
    let search = sym c.requires.index ∙ c.in-Some.is in
    let kept = found-kept (is_freed freed name) index c.in-Some.field-0 search in
    let there = is_there freed name held late c.in-Some.field-0 (found-index (is_freed freed name) index c.in-Some.field-0 search) in
    let more : c.insert-freed.new.self.keys ≡ freed ++ name ∷ [] =
    if_ok c.insert-freed.result c.insert-freed.ensures.keys (c.insert-freed.ensures.succeeds (omega (arith, c.requires.room.freed, c.requires.left)))
    ∙ ap (λ b. cond b freed (freed ++ name ∷ [])) kept in
    ap (λ (names : List Name). live names held ++ late) more
    ∙ take-held freed name held late (freed ++ name ∷ []) (grown-freed freed name) c.requires.unique kept there

pub returns-in-None-clause-shown : goal.returns-in-None-clause-shown
returns-in-None-clause-shown c =
    let held = c.args.held.now.entries in
    let freed = c.args.self.now.freed.keys in
    let late = c.args.self.now.late.entries in
    let name = c.args.name.now in
    let none = not_live freed name held late (sym c.requires.index ∙ c.in-None.is) in
    ap (λ (es : NamedValues). live freed held ++ es) c.shift_remove.ensures.entries
    ∙ sym (remove-append-right name (live freed held) late none)
