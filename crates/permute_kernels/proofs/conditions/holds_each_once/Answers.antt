use Rattle.std.proofs.Common.{IsTrue, ◌≡◌, ◌<◌, length, get_or, pos, sym, subst, ◌∙◌, arith, rules, w64, to_z, of_z, length-set}
use Rattle.std.proofs.lemmas.Int.{ints}
use Rattle.scan_kernels.specs.Indices.{IsPlaceOf}
use Rattle.scan_kernels.proofs.Counting.{each_inside}
use Rattle.permute_kernels.proofs.Marking.{all_marked, marked_more, marked_twice, number_marked}
use Rattle.scan_kernels.proofs.Places.{place_below}
use Rattle.permute_kernels.proofs.conditions.holds_each_once.Goals as goal

pub returns-then-not-is_place : goal.returns-then-not-is_place
returns-then-not-is_place c =
    let index = c.args.index.now in
    let i = c.loop-held.held-index in
    let item : to_z w64 (of_z w64 (get_or index i (pos 0))) ≡ get_or index i (pos 0) = search (rules, ints) in (
      (λ h. absurd cc),
      λ h.
          let place : IsPlaceOf (length c.loop-held.seen) (to_z w64 (of_z w64 (get_or index i (pos 0)))) = subst (λ n. IsPlaceOf n (to_z w64 (of_z w64 (get_or index i (pos 0))))) (sym c.loop-held.invariant.long) (subst (IsPlaceOf (length index)) (sym item) (each_inside index h i (pos 0) (omega arith))) in
          subst IsTrue c.if-not-is_place.true (c.is_place.ensures.1 place),
    )

pub returns-then-seen-place : goal.returns-then-seen-place
returns-then-seen-place c =
    let index = c.args.index.now in
    let i = c.loop-held.held-index in
    let item : to_z w64 (of_z w64 (get_or index i (pos 0))) ≡ get_or index i (pos 0) = search (rules, ints) in (
      (λ h. absurd cc),
      λ h.
          let within = place_below (length index) c.place_of-place.result (get_or index i (pos 0)) (each_inside index h i (pos 0) (omega arith)) (sym item ∙ sym c.place_of-place.ensures) in
          absurd (marked_twice index c.loop-held.seen i c.place_of-place.result (omega arith) (sym item ∙ sym c.place_of-place.ensures) within c.if-seen-place.true c.loop-held.invariant.marks h),
    )

pub loop-held-preserved : goal.loop-held-preserved
loop-held-preserved c =
    let index = c.args.index.now in
    let i = c.loop-held.held-index in
    let p = c.place_of-place.result in
    let seen = c.loop-held.seen in
    let item : to_z w64 (of_z w64 (get_or index i (pos 0))) ≡ get_or index i (pos 0) = search (rules, ints) in
    let here : get_or index i (pos 0) ≡ pos p = sym item ∙ sym c.place_of-place.ensures in
    let inside = place_below (length seen) p (to_z w64 (of_z w64 (get_or index i (pos 0)))) (c.is_place.ensures.0 c.if-not-is_place.false) (sym c.place_of-place.ensures) in
    let within : p < length index = omega arith in
    record {
      long = rw length-set c.loop-held.invariant.long;
      marks = marked_more index seen i p (omega arith) here within c.loop-held.invariant.long c.if-seen-place.false c.loop-held.invariant.marks;
      number = omega (arith, number_marked index seen i p (omega arith) c.if-seen-place.false);
    }

pub returns : goal.returns
returns c = ((λ h. all_marked c.args.index.now c.loop-held.seen c.loop-held.held-index (omega arith) c.loop-held.invariant.long c.loop-held.invariant.number c.loop-held.invariant.marks), λ h. search rules)
