use Rattle.std.proofs.Common.{sym, ◌∙◌}
use Rattle.vector_memory.proofs.BlockLemmas.{shown-freed, shown-held, shown-late}
use Rattle.vector_memory.proofs.block.Block.get.Goals as goal

pub returns-then-is_freed : goal.returns-then-is_freed
returns-then-is_freed c =
    c.late_value.ensures
    ∙ sym (shown-freed c.args.self.now.freed.keys c.args.name.now c.args.held.now.entries c.args.self.now.late.entries (sym c.is_freed.ensures ∙ c.if-is_freed.true))

pub returns-in-Some : goal.returns-in-Some
returns-in-Some c =
    sym (shown-held c.args.self.now.freed.keys c.args.name.now c.args.held.now.entries c.args.self.now.late.entries c.in-Some.value.now
    (sym c.is_freed.ensures ∙ c.if-is_freed.false) (sym c.in-Some.ensures.value))

pub returns-in-None : goal.returns-in-None
returns-in-None c =
    c.late_value-in-None.ensures
    ∙ sym (shown-late c.args.self.now.freed.keys c.args.name.now c.args.held.now.entries c.args.self.now.late.entries
    (sym c.is_freed.ensures ∙ c.if-is_freed.false) (sym c.in-None.ensures.value))
