use Rattle.std.proofs.Common.{◌++◌, sym, ap, ◌∙◌}
use Rattle.std.specs.Prelude.{position}
use Rattle.std.specs.Map.{keys_of}
use Rattle.indexmap.specs.IndexMap.{set_value_at}
use Rattle.indexmap.proofs.MapLemmas.{Found-position}
use Rattle.vector_memory.specs.Names.{same_name}
use Rattle.vector_memory.specs.States.{NamedValues}
use Rattle.vector_memory.specs.Blocks.{is_freed, live, restored}
use Rattle.vector_memory.proofs.BlockLemmas.{found-index, found-kept, insert-append-right, not_live, put-held, restored-put}
use Rattle.vector_memory.proofs.block.Block.put.Goals as goal

pub swap_at-before-requires : goal.swap_at-before-requires
swap_at-before-requires c =
    let held = c.args.held.now.entries in
    let name = c.args.name in
    let search = sym c.requires.index ∙ c.in-Some.is in
    (Found-position (same_name name) held c.in-Some.index (found-index (is_freed c.args.self.now.freed.keys name) (position (same_name name) (keys_of held)) c.in-Some.index search)).within

pub returns-in-Some-clause-shown : goal.returns-in-Some-clause-shown
returns-in-Some-clause-shown c =
    let held = c.args.held.now.entries in
    let freed = c.args.self.now.freed.keys in
    let late = c.args.self.now.late.entries in
    let name = c.args.name in
    let index = position (same_name name) (keys_of held) in
    let search = sym c.requires.index ∙ c.in-Some.is in
    let kept = found-kept (is_freed freed name) index c.in-Some.index search in
    ap (λ (es : NamedValues). live freed es ++ late) c.swap_at-before.ensures.held
    ∙ put-held freed name held late c.args.value c.in-Some.index kept (found-index (is_freed freed name) index c.in-Some.index search)

pub returns-in-Some-clause-before : goal.returns-in-Some-clause-before
returns-in-Some-clause-before c =
    let held = c.args.held.now.entries in
    let notes = c.args.self.now.replaced.entries in
    let index = c.in-Some.index in
    ap (λ (es : NamedValues). restored es c.note.new.self.entries) c.swap_at-before.ensures.held
    ∙ ap (restored (set_value_at held index c.args.value)) c.note.ensures.entries
    ∙ restored-put held notes index c.args.value c.swap_at-before.result c.note.result c.swap_at-before.ensures.before c.note.ensures.back

pub returns-in-None-clause-shown : goal.returns-in-None-clause-shown
returns-in-None-clause-shown c =
    let held = c.args.held.now.entries in
    let freed = c.args.self.now.freed.keys in
    let late = c.args.self.now.late.entries in
    let name = c.args.name in
    let none = not_live freed name held late (sym c.requires.index ∙ c.in-None.is) in
    ap (λ (es : NamedValues). live freed held ++ es) c.put_late.ensures.late
    ∙ sym (insert-append-right name c.args.value (live freed held) late none)
