use Rattle.std.proofs.Common.{rules, ◌∙◌, ℤ, All, List, ap, map, subst, sym}
use Rattle.vector_memory.specs.Contents.{Ints}
use Rattle.cvl_calls.specs.Outcomes.{Effect, Stores}
use Rattle.cvl_calls.proofs.Joined.{items-made}
use Rattle.cvl_calls.proofs.joining.over.ints.Goals as goal

pub run_joined_ints_over-requires-sync-typeof-execution-Shared : goal.run_joined_ints_over-requires-sync-typeof-execution-Shared
run_joined_ints_over-requires-sync-typeof-execution-Shared g c κs within =
    (search rules, (search rules, subst (All (g.K.Kernel.Takes c.args.kernel)) (sym c.deref.ensures.value) c.in_ok-parts.ensures.takes))

pub returns-clause-makes : goal.returns-clause-makes
returns-clause-makes g c =
    let store : List ℤ → Effect = λ items. Stores (Ints items) in
    items-made store (g.K.Kernel.makes c.args.kernel) c.run_joined_ints_over.new.lists.items c.in_ok-parts.parts.items (g.G.Group.works c.args.group.now)
    (c.in_ok-run_joined_ints_over.ensures.parts ∙ ap (map (g.K.Kernel.makes c.args.kernel)) c.deref.ensures.value) c.in_ok-parts.ensures.makes
