use Rattle.std.proofs.Common.{sym, ap, ◌∙◌}
use Rattle.std.specs.Prelude.{length}
use Rattle.indexmap.specs.IndexMap.{spare}
use Rattle.vector_memory.specs.States.{State}
use Rattle.vector_memory.specs.Blocks.{shown}
use Rattle.vector_memory.proofs.BlockViews.{outside, under_way}
use Rattle.vector_memory.proofs.StateLemmas.{length-contents}
use Rattle.vector_memory.proofs.memory.Memory.len.Goals as goal

pub returns-then-self : goal.returns-then-self
returns-then-self c =
    let i = c.self.inside in
    let kept = under_way i.block.begun i.values.entries (spare i.values) i.block i.room i.limit c.if-self.true c.self.invariant.block in
    kept.names ∙ sym (length-contents (shown i.values.entries i.block)) ∙ ap (λ (s : State). length s.entries) c.self.view_is

pub returns : goal.returns
returns c =
    c.len.ensures.len ∙ sym (length-contents c.self.inside.values.entries)
    ∙ ap (λ (s : State). length s.entries) (outside c.self.inside c.args.self.now c.if-self.false c.self.invariant c.self.view_is)
