use Rattle.std.proofs.Common.{rules, arith, ◌≡◌, ◌<◌, ◌+◌, All, Ok, Result, ap, length, map, subst, sym, ◌∙◌}
use Rattle.std.proofs.lemmas.List.{length_push}
use Rattle.std.proofs.lemmas.List.Elements.{All-push}
use Rattle.cvl_text.specs.declared.fault.Fault.{Fault}
use Rattle.cvl_calls.specs.Outcomes.{Effect, Stores}
use Rattle.cvl_calls.proofs.Joined.{made-more}
use Rattle.cvl_calls.proofs.joining.parts.put_others.Goals as goal

pub next_part-requires-sync-typeof-execution-Shared : goal.next_part-requires-sync-typeof-execution-Shared
next_part-requires-sync-typeof-execution-Shared g c κs within =
    let f : g.row.P.Denot → Result Effect Fault = λ part. Ok (Stores (g.T.Stored.content (g.K.Kernel.makes c.args.kernel part))) in
    let same = c.as_slice-before.ensures in
    let inv = c.loop-place.invariant in
    let low = c.loop-place-test.true in
    let end = c.count-place-end.ensures in
    let there : c.loop-place.place < length (g.G.Group.works c.args.group.now) = omega arith in
    let place : c.loop-place.place ≡ length c.as_slice-before.result.now = sym (ap length same ∙ inv.long) in
    let taken = subst (All (g.K.Kernel.Takes c.args.kernel)) (sym same) inv.takes in
    (search rules, (search rules, (c.requires.alike, (c.requires.word, (there, (place, (taken, ap (map f) same ∙ inv.makes)))))))

pub loop-place-preserved : goal.loop-place-preserved
loop-place-preserved g c =
    let works = g.G.Group.works c.args.group.now in
    let f : g.row.P.Denot → Result Effect Fault = λ part. Ok (Stores (g.T.Stored.content (g.K.Kernel.makes c.args.kernel part))) in
    let parts = c.loop-place.parts in
    let p = c.in_ok-part.part in
    let inv = c.loop-place.invariant in
    let low = c.loop-place-test.true in
    let end = c.count-place-end.ensures in
    let items = c.push.ensures in
    let lt : c.loop-place.place < length works = omega arith in
    record {
      takes = subst (All (g.K.Kernel.Takes c.args.kernel)) (sym items) (All-push (g.K.Kernel.Takes c.args.kernel) parts p inv.takes c.in_ok-part.ensures.takes);
      makes = ap (map f) items ∙ made-more f parts p works c.loop-place.place inv.makes c.in_ok-part.ensures.makes lt;
      long = ap length items ∙ length_push parts p ∙ ap (λ n. n + 1) inv.long;
    }
