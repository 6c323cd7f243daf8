use Rattle.std.proofs.Common.{ap, subst, sym, ◌∙◌}
use Rattle.indexmap.specs.IndexMap.{spare}
use Rattle.vector_memory.specs.States.{NamedValues, IsLawful, cells_of, contents, undone}
use Rattle.vector_memory.proofs.BlockViews.{has_begun, kept-outside, plain, under_way, view-outside, view-undone}
use Rattle.vector_memory.proofs.memory.Memory.undo_block.Goals as goal

pub invariant_of-self : goal.invariant_of-self
invariant_of-self c =
    let i = c.self.inside in
    let begun = has_begun i c.args.self.now c.self.view_is c.requires in
    let kept = under_way i.block.begun i.values.entries (spare i.values) i.block i.room i.limit begun c.self.invariant.block in
    let back = sym c.undo.ensures.held in
    kept-outside (record { values = c.undo.new.held; cells = i.block.cells; room = i.room; limit = i.limit; block = c.undo.new.self })
    c.undo.ensures.begun c.undo.ensures.blank
    (kept.cells ∙ ap (λ (es : NamedValues). cells_of (contents es)) back)
    (subst (λ (es : NamedValues). IsLawful (plain es i.room i.limit)) back kept.lawful)

pub returns : goal.returns
returns c =
    let i = c.self.inside in
    let begun = has_begun i c.args.self.now c.self.view_is c.requires in
    view-outside (record { values = c.undo.new.held; cells = i.block.cells; room = i.room; limit = i.limit; block = c.undo.new.self }) c.undo.ensures.begun c.undo.ensures.blank
    ∙ ap (λ (es : NamedValues). plain es i.room i.limit) c.undo.ensures.held
    ∙ view-undone i begun ∙ ap undone c.self.view_is
