use Rattle.std.proofs.Common.{sym, ap, List, ◌∙◌}
use Rattle.vector_memory.specs.declared.name.Name.{Name}
use Rattle.vector_memory.specs.Blocks.{live}
use Rattle.vector_memory.proofs.BlockLemmas.{live-none, no_items}
use Rattle.vector_memory.proofs.block.drop_freed.Goals as goal

pub returns-then-is_empty-clause-held : goal.returns-then-is_empty-clause-held
returns-then-is_empty-clause-held c =
    let held = c.args.held.now.entries in
    let none = no_items c.args.freed.now.keys (c.is_empty.ensures.0 c.if-is_empty.true) in
    sym (ap (λ (freed : List Name). live freed held) none ∙ live-none held)

pub returns-then-is_empty-clause-freed : goal.returns-then-is_empty-clause-freed
returns-then-is_empty-clause-freed c = no_items c.args.freed.now.keys (c.is_empty.ensures.0 c.if-is_empty.true)
