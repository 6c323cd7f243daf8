use Rattle.std.proofs.Common.{◌≡◌, subst, ap}
use Rattle.std.specs.Prelude.{IfOk}
use Rattle.vector_memory.specs.Contents.{Content}
use Rattle.cvl_calls.specs.Outcomes.{Effect, Stores, effect_of}
use Rattle.cvl_calls.specs.Views.{vector_of}
use Rattle.cvl_calls.proofs.Whole.{over_items-packed}
use Rattle.cvl_calls.proofs.kernels.packed_segments.Goals as goal

pub returns-clause-makes : goal.returns-clause-makes
returns-clause-makes g c =
    let Makes : Effect → Type 0 = λ effect. IfOk c.packed.result (λ product. effect_of product ≡ effect) in
    let joined = over_items-packed c.args.segments.now c.args.flags.now (vector_of c.args.items) c.requires.0 c.requires.1 in
    subst Makes (ap (λ (v : Content). Stores v) joined) c.packed.ensures.makes
