use Rattle.std.proofs.Common.{arith, rules, ◌≡◌, ◌∙◌, ℕ, ◌+◌, Vec, Global, ℤ, length, get_or, vec_len, subst, sym, ap, ⊎_elim}
use Rattle.std.proofs.lemmas.Bool.{cases_lt}
use Rattle.std.proofs.lemmas.List.{get_or_default}
use Rattle.scan_kernels.specs.Lists.{ints_of}
use Rattle.scan_kernels.proofs.joined_over.are_as_long.Goals as goal

pub loop-place-init : goal.loop-place-init
loop-place-init c k r v h = absurd (omega arith)

pub loop-place-preserved : goal.loop-place-preserved
loop-place-preserved c k r v h =
    let lists = c.args.lists.now in
    let rows = c.args.rows.now in
    let p = c.loop-place.place in
    let within = c.loop-place-test.true in
    let list = c.index-lists-place.result in
    let sized : vec_len list ≡ length list.items = search rules in
    let here : length (get_or lists p v).items ≡ length (ints_of (get_or rows p r)) =
    ap (λ (w : Vec ℤ Global). length w.items) (get_or_default lists p v list within ∙ sym c.index-lists-place.is)
    ∙ sym sized ∙ sym c.len.ensures ∙ c.if-len-count_ints.false ∙ c.count_ints.ensures
    ∙ ap (λ row. length (ints_of row)) (get_or_default rows p _ r (omega (arith, c.if-lists-rows.false))) in
    ⊎_elim (λ lt. c.loop-place.invariant k r v lt) (λ ge.
    let is : k ≡ p = omega arith in
    subst (λ n. length (get_or lists n v).items ≡ length (ints_of (get_or rows n r))) (sym is) here) (cases_lt k p)

pub returns-clause-long : goal.returns-clause-long
returns-clause-long c told =
    record {
      within = omega (arith, c.if-lists-rows.false);
      long = λ k r v h.
          let first : 0 + k ≡ k = omega arith in
          let below = c.loop-place-test.false in
          c.loop-place.invariant k r v (omega arith) ∙ ap (λ n. length (ints_of (get_or c.args.rows.now n r))) (sym first);
    }
