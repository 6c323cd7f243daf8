use Rattle.std.proofs.Common.{ℕ, ◌++◌, sym, ap, ◌∙◌}
use Rattle.std.specs.Prelude.{Option}
use Rattle.std.specs.Option.{option_to_list}
use Rattle.vector_memory.specs.declared.value.Value.{Value}
use Rattle.vector_memory.specs.States.{NamedValues}
use Rattle.vector_memory.specs.Blocks.{restored}
use Rattle.vector_memory.proofs.BlockLemmas.{restored-noted}
use Rattle.vector_memory.proofs.block.Block.undo.Goals as goal

pub loop-index-preserved : goal.loop-index-preserved
loop-index-preserved c =
    let held = c.loop-index.held.entries in
    let left = c.pop.new.self.entries in
    ap (λ (es : NamedValues). restored es left) c.put_back.ensures
    ∙ sym (restored-noted held left (c.in-Some.index, c.in-Some.value))
    ∙ sym (ap (restored held) (c.pop.ensures.entries ∙ ap (λ (o : Option (ℕ × Value)). left ++ option_to_list o) c.in-Some.is))
    ∙ c.loop-index.invariant
