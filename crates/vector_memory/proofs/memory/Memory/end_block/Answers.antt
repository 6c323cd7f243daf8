use Rattle.std.proofs.Common.{ap, subst, sym, ◌∙◌}
use Rattle.std.specs.List.{IsDistinct}
use Rattle.indexmap.specs.IndexMap.{spare}
use Rattle.vector_memory.specs.Names.{same_name}
use Rattle.vector_memory.specs.States.{NamedValues, cells_of, contents, ended}
use Rattle.vector_memory.specs.Blocks.{shown}
use Rattle.vector_memory.specs.Insides.{state_of}
use Rattle.vector_memory.proofs.BlockViews.{has_begun, kept-outside, lawful-same, plain, under_way, view-outside}
use Rattle.vector_memory.proofs.StateLemmas.{keys_of-contents}
use Rattle.vector_memory.proofs.memory.Memory.end_block.Goals as goal

pub end-requires-clause-distinct : goal.end-requires-clause-distinct
end-requires-clause-distinct c =
    subst (IsDistinct same_name) (keys_of-contents (shown c.self.inside.values.entries c.self.inside.block)) c.self.invariant.lawful.distinct

pub end-requires-clause-room : goal.end-requires-clause-room
end-requires-clause-room c =
    let i = c.self.inside in
    let begun = has_begun i c.args.self.now c.self.view_is c.requires in
    (under_way i.block.begun i.values.entries (spare i.values) i.block i.room i.limit begun c.self.invariant.block).has_room

pub invariant_of-self : goal.invariant_of-self
invariant_of-self c =
    let i = c.self.inside in
    let all = sym c.end.ensures.held in
    kept-outside (record { values = c.end.new.held; cells = i.cells; room = i.room; limit = i.limit; block = c.end.new.self })
    c.end.ensures.begun c.end.ensures.blank
    (c.self.invariant.counted ∙ ap (λ (es : NamedValues). cells_of (contents es)) all)
    (lawful-same (state_of i) (contents c.end.new.held.entries) _ (ap contents all) c.self.invariant.lawful)

pub returns : goal.returns
returns c =
    let i = c.self.inside in
    view-outside (record { values = c.end.new.held; cells = i.cells; room = i.room; limit = i.limit; block = c.end.new.self }) c.end.ensures.begun c.end.ensures.blank
    ∙ ap (λ (es : NamedValues). plain es i.room i.limit) c.end.ensures.held
    ∙ ap ended c.self.view_is
