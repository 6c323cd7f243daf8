use Rattle.std.proofs.Common.{ℤ, List}
use Rattle.vector_memory.specs.Contents.{Ints}
use Rattle.cvl_calls.specs.Outcomes.{Effect, Stores}
use Rattle.cvl_calls.proofs.Joined.{vectors-made}
use Rattle.cvl_calls.proofs.joining.vectors.int_vectors.Goals as goal

pub returns-clause-makes : goal.returns-clause-makes
returns-clause-makes g c =
    let store : List ℤ → Effect = λ items. Stores (Ints items) in
    vectors-made store (g.K.Kernel.makes c.args.kernel) c.in_ok-vectors.field-0.items c.args.parts.now c.in_ok-vectors.ensures.parts
