use Rattle.std.proofs.Common.{rules, ◌≡◌, ◌∙◌, ◌<◌, ◌≤◌, ◌+◌, ◌++◌, List, [], ◌∷◌, ℕ, Result, Ok, Err, take, get_or, length, length-append, append_assoc, vec_len, vec_capacity, ap, sym, arith}
use Rattle.std.specs.Prelude.{OnErr}
use Rattle.std.specs.List.{flat_map}
use Rattle.std.proofs.lemmas.List.{take_all, take_more}
use Rattle.std.proofs.lemmas.List.Folds.{length-flat_map-take}
use Rattle.std.proofs.lemmas.Grind.{flat_map-append}
use Rattle.cvl_text.specs.Texts.{IsContinued}
use Rattle.cvl_text.proofs.writing.append_items.Goals as goal

OnErr-always : {A E : Type 0} (r : Result A E) (P : Type 0) → P → OnErr r P
OnErr-always (Ok x) P h = tt
OnErr-always (Err e) P h = h

-- a vector that is too small for one item, after those before it, was too small for all
too_small : {A : Type 0} (text : A → List ℕ) (xs : List A) (x : A) (i old now before here : ℕ) → x ≡ get_or xs i x → i < length xs → old ≤ now
    → here ≡ before + length (flat_map text (take i xs)) → now < here + length (text x) → old < before + length (flat_map text xs)
too_small text xs x i old now before here is lt grown long small =
    omega (arith, ap (λ y. length (text y)) is, length-flat_map-take text xs i x lt)

-- the texts of one item more
texts_more : {A : Type 0} (text : A → List ℕ) (xs : List A) (x : A) (i : ℕ) → x ≡ get_or xs i x → i < length xs
    → flat_map text (take (i + 1) xs) ≡ flat_map text (take i xs) ++ text x
texts_more text xs x i is lt =
    ap (flat_map text) (take_more xs i x lt)
    ∙ flat_map-append text (take i xs) (get_or xs i x ∷ [])
    ∙ ap (λ y. flat_map text (take i xs) ++ (text y ++ [])) (sym is)
    ∙ ap (λ l. flat_map text (take i xs) ++ l) (search rules)

pub loop-item-preserved : goal.loop-item-preserved
loop-item-preserved g c =
    let text = g.I.WriteItem.item_text in
    let x = c.item-item.result in
    let i = c.loop-item.item-index in
    let more = texts_more text c.args.items.now x i c.item-item.is c.loop-item-test.true in
    let so_far = flat_map text (take i c.args.items.now) in
    let added = c.in_ok-append.ensures.ok in
    let sized : vec_len c.append.new.out ≡ length c.append.new.out.items = search rules in
    let before : vec_len c.loop-item.out ≡ length c.loop-item.out.items = search rules in
    let count : vec_len c.append.new.out ≡ vec_len c.args.out.now + length (flat_map text (take (i + 1) c.args.items.now)) =
    omega (arith, sized, before, ap length added, length-append c.loop-item.out.items (text x), ap length more, length-append so_far (text x), c.loop-item.invariant.len) in
    record {
      made = added ∙ ap (λ l. l ++ text x) c.loop-item.invariant.made ∙ append_assoc c.args.out.now.items so_far (text x) ∙ ap (λ l. c.args.out.now.items ++ l) (sym more);
      len = count;
      capacity = search rules;
    }

pub returns-clause-ok : goal.returns-clause-ok
returns-clause-ok g c = c.loop-item.invariant.made ∙ ap (λ l. c.args.out.now.items ++ flat_map g.I.WriteItem.item_text l) (take_all c.loop-item.item-index c.args.items.now c.loop-item-test.false)

pub returns-in_err-append-clause-full : goal.returns-in_err-append-clause-full
returns-in_err-append-clause-full g c =
    OnErr-always _ _ (too_small g.I.WriteItem.item_text c.args.items.now c.item-item.result c.loop-item.item-index (vec_capacity c.args.out.now) (vec_capacity c.loop-item.out) (vec_len c.args.out.now) (vec_len c.loop-item.out)
    c.item-item.is c.loop-item-test.true c.loop-item.invariant.capacity c.loop-item.invariant.len c.in_err-append.ensures.full)

pub returns-in_err-append-clause-err : goal.returns-in_err-append-clause-err
returns-in_err-append-clause-err g c =
    let so_far = flat_map g.I.WriteItem.item_text (take c.loop-item.item-index c.args.items.now) in
    let more = c.in_err-append.ensures.err in
    let continued : IsContinued c.args.out.now.items c.append.new.out.items = (so_far ++ more.0, more.1 ∙ ap (λ l. l ++ more.0) c.loop-item.invariant.made ∙ append_assoc c.args.out.now.items so_far more.0) in
    OnErr-always _ _ continued
