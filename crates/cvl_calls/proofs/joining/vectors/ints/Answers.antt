use Rattle.std.proofs.Common.{rules, ◌<◌, ◌≤◌, [], All, Ok, Result, ap, length, map, subst, sym, ◌∙◌}
use Rattle.std.proofs.lemmas.List.Elements.{All-push}
use Rattle.std.proofs.lemmas.Result.{on_ok_weaker}
use Rattle.vector_memory.specs.Contents.{Ints}
use Rattle.cvl_text.specs.declared.fault.Fault.{Fault}
use Rattle.cvl_calls.specs.Outcomes.{Effect, Stores}
use Rattle.cvl_calls.proofs.Joined.{effects-made, made-first}
use Rattle.cvl_calls.proofs.joining.vectors.ints.Goals as goal

pub part_at-requires-sync-typeof-execution-Shared : goal.part_at-requires-sync-typeof-execution-Shared
part_at-requires-sync-typeof-execution-Shared g c κs within =
    let some = subst (λ n. 0 < n) c.count.ensures (c.are_few.ensures c.if-are_few.true).0 in
    (search rules, (search rules, (c.requires.alike, (c.requires.word, some))))

pub put_others-requires-sync-typeof-execution-Shared : goal.put_others-requires-sync-typeof-execution-Shared
put_others-requires-sync-typeof-execution-Shared g c κs within =
    let works = g.G.Group.works c.args.group.now in
    let f : g.row.P.Denot → Result Effect Fault = λ part. Ok (Stores (Ints (g.K.Kernel.makes c.args.kernel part))) in
    let p = c.in_ok-part_at.field-0 in
    let is = c.of-parts.ensures in
    let few = c.are_few.ensures c.if-are_few.true in
    let some = subst (λ n. 0 < n) c.count.ensures few.0 in
    let taken = subst (All (g.K.Kernel.Takes c.args.kernel)) (sym is) (All-push (g.K.Kernel.Takes c.args.kernel) [] p (search rules) c.in_ok-part_at.ensures.takes) in
    let made = ap (map f) is ∙ made-first f p works c.in_ok-part_at.ensures.makes some in
    (search rules, (search rules, (search rules, (c.requires.memory, (c.requires.alike, (c.requires.word, (subst (λ n. n ≤ 4) c.count.ensures few.1, (ap length is, (taken, made)))))))))

pub int_vectors-requires-sync-typeof-execution-Shared : goal.int_vectors-requires-sync-typeof-execution-Shared
int_vectors-requires-sync-typeof-execution-Shared g c κs within =
    (search rules, (search rules, subst (All (g.K.Kernel.Takes c.args.kernel)) (sym c.as_slice-few.ensures) (c.in_ok-put_others.ensures.takes)))

pub int_vectors-requires-2-sync-typeof-execution-Shared : goal.int_vectors-requires-2-sync-typeof-execution-Shared
int_vectors-requires-2-sync-typeof-execution-Shared g c κs within =
    (search rules, (search rules, subst (All (g.K.Kernel.Takes c.args.kernel)) (sym c.deref.ensures.value) c.in_ok-parts.ensures.takes))

pub returns-then-are_few-clause-makes : goal.returns-then-are_few-clause-makes
returns-then-are_few-clause-makes g c =
    let stored : g.row.P.Denot → Effect = λ part. Stores (Ints (g.K.Kernel.makes c.args.kernel part)) in
    on_ok_weaker c.int_vectors.result (λ so. effects-made stored _ c.put_others.new.parts (g.G.Group.works c.args.group.now) (so ∙ ap (map stored) c.as_slice-few.ensures) c.in_ok-put_others.ensures.makes) c.int_vectors.ensures.makes

pub returns-clause-makes : goal.returns-clause-makes
returns-clause-makes g c =
    let stored : g.row.P.Denot → Effect = λ part. Stores (Ints (g.K.Kernel.makes c.args.kernel part)) in
    on_ok_weaker c.int_vectors-2.result (λ so. effects-made stored _ c.in_ok-parts.parts.items (g.G.Group.works c.args.group.now) (so ∙ ap (map stored) c.deref.ensures.value) c.in_ok-parts.ensures.makes) c.int_vectors-2.ensures.makes
