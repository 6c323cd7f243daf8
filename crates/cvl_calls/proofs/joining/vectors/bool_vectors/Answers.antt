use Rattle.std.proofs.Common.{Bool, List}
use Rattle.vector_memory.specs.Contents.{Bools}
use Rattle.cvl_calls.specs.Outcomes.{Effect, Stores}
use Rattle.cvl_calls.proofs.Joined.{vectors-made}
use Rattle.cvl_calls.proofs.joining.vectors.bool_vectors.Goals as goal

pub returns-clause-makes : goal.returns-clause-makes
returns-clause-makes g c =
    let store : List Bool → Effect = λ items. Stores (Bools items) in
    vectors-made store (g.K.Kernel.makes c.args.kernel) c.in_ok-vectors.field-0.items c.args.parts.now c.in_ok-vectors.ensures.parts
