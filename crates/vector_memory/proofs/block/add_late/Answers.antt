use Rattle.std.proofs.Common.{◌++◌, sym, ap, ◌∙◌}
use Rattle.std.proofs.lemmas.List.{append-nil}
use Rattle.vector_memory.specs.States.{NamedValues}
use Rattle.vector_memory.proofs.BlockLemmas.{insert_all-new, no_items, on_ok}
use Rattle.vector_memory.proofs.block.add_late.Goals as goal

pub returns-clause-held : goal.returns-clause-held
returns-clause-held c =
    on_ok c.append-appended.result c.append-appended.ensures.entries (c.append-appended.ensures.succeeds c.requires.room)
    ∙ insert_all-new c.args.held.now.entries c.args.late.now.entries c.requires.distinct

pub returns-then-is_empty-clause-late : goal.returns-then-is_empty-clause-late
returns-then-is_empty-clause-late c = no_items c.args.late.now.entries (c.is_empty.ensures.0 c.if-is_empty.true)

pub returns-then-is_empty-clause-held : goal.returns-then-is_empty-clause-held
returns-then-is_empty-clause-held c =
    let held = c.args.held.now.entries in
    sym (append-nil held) ∙ ap (λ (es : NamedValues). held ++ es) (sym (no_items c.args.late.now.entries (c.is_empty.ensures.0 c.if-is_empty.true)))
