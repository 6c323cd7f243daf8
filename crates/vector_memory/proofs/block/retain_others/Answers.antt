use Rattle.std.proofs.Common.{rules}
use Rattle.indexmap.proofs.CallerLemmas.{filter-RetainsPairs}
use Rattle.vector_memory.proofs.block.retain_others.Goals as goal

pub returns-clause-held : goal.returns-clause-held
returns-clause-held c = filter-RetainsPairs _ _ _ (λ k v b w g call. search rules) _ _ c.retain.ensures.filtered
