use Rattle.std.proofs.Common.{sym, ap, ◌∙◌}
use Rattle.std.specs.Prelude.{Some}
use Rattle.indexmap.specs.IndexMap.{set_value_at}
use Rattle.vector_memory.proofs.block.swap_at.Goals as goal

pub returns-clause-held : goal.returns-clause-held
returns-clause-held c = ap (set_value_at c.args.held.now.entries c.args.index) c.replace.ensures.after

pub returns-clause-before : goal.returns-clause-before
returns-clause-before c = c.index_mut.ensures.value ∙ sym (ap (λ v. Some v) c.replace.ensures.value)
