use Rattle.std.proofs.Common.{ap, subst, sym, ◌∙◌}
use Rattle.indexmap.specs.IndexMap.{spare}
use Rattle.vector_memory.specs.States.{NamedValues, State, IsLawful, begun, cells_of, contents}
use Rattle.vector_memory.proofs.BlockViews.{blank_outside, kept-begun, not_begun, plain, seen_outside, shown-blank, view-begun, view-outside}
use Rattle.vector_memory.proofs.memory.Memory.begin_block.Goals as goal

pub invariant_of-self-2 : goal.invariant_of-self-2
invariant_of-self-2 c =
    let i = c.self.inside in
    let old = i.values.entries in
    let none = not_begun i c.args.self.now c.self.view_is c.requires.outside in
    let blank = blank_outside i.block.begun old (spare i.values) i.block i.room i.limit none c.self.invariant.block in
    let same = c.reserve.ensures.entries in
    let counted = c.self.invariant.counted ∙ ap (λ (es : NamedValues). cells_of (contents es)) (shown-blank old i.block blank ∙ sym same) in
    let lawful = subst (λ (es : NamedValues). IsLawful (plain es i.room i.limit)) (sym same) (subst IsLawful (view-outside i none blank) c.self.invariant.lawful) in
    kept-begun (record { values = c.reserve.new.self; cells = i.cells; room = i.room; limit = i.limit; block = c.begin.new.self })
    c.in_ok-begin.ensures.begun c.begin.ensures.blank counted lawful (c.in_ok-begin.ensures.names ∙ c.len.ensures.len) c.in_ok-begin.ensures.cells
    (c.in_ok-begin.ensures.room (spare c.reserve.new.self) c.in_ok-reserve.ensures.ok)

pub returns-clause-ok : goal.returns-clause-ok
returns-clause-ok c =
    let i = c.self.inside in
    view-begun (record { values = c.reserve.new.self; cells = i.cells; room = i.room; limit = i.limit; block = c.begin.new.self })
    i.values.entries c.args.changes c.in_ok-begin.ensures.begun c.begin.ensures.blank c.reserve.ensures.entries c.in_ok-begin.ensures.left
    ∙ ap (λ (m : State). begun m c.args.changes) (seen_outside i c.args.self.now c.requires.outside c.self.invariant c.self.view_is)
