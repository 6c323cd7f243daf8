use Rattle.std.proofs.Common.{[], ◌∷◌, bit_or, ap, ◌∙◌}
use Rattle.batch_flatten.specs.BlockPlans.{is_held}
use Rattle.batch_flatten.proofs.BlockLemmas.{held-more, held-one}
use Rattle.batch_flatten.proofs.block_plan.BlockPlan.suspects_of.Goals as goal

pub returns-in-Two : goal.returns-in-Two
returns-in-Two c i =
    let rows = c.args.self.now.holders in
    let a = c.in-Two.a.now in
    let b = c.in-Two.b.now in
    let x = c.holders_of-in-Two.result in
    held-more rows i x c.holders_of-in-Two-2.result (a ∷ []) b (held-one rows i x a c.holders_of-in-Two.ensures) c.holders_of-in-Two-2.ensures
    ∙ ap (λ l. is_held rows i l) c.in-Two.ensures

pub returns-in-Three : goal.returns-in-Three
returns-in-Three c i =
    let rows = c.args.self.now.holders in
    let k = c.in-Three.a.now in
    let m = c.in-Three.b.now in
    let n = c.in-Three.c.now in
    let x = c.holders_of-in-Three.result in
    let y = c.holders_of-in-Three-2.result in
    held-more rows i (bit_or x y) c.holders_of-in-Three-3.result (k ∷ m ∷ []) n
    (held-more rows i x y (k ∷ []) m (held-one rows i x k c.holders_of-in-Three.ensures) c.holders_of-in-Three-2.ensures)
    c.holders_of-in-Three-3.ensures
    ∙ ap (λ l. is_held rows i l) c.in-Three.ensures

pub returns-in-Four : goal.returns-in-Four
returns-in-Four c i =
    let rows = c.args.self.now.holders in
    let k = c.in-Four.a.now in
    let m = c.in-Four.b.now in
    let n = c.in-Four.c.now in
    let o = c.in-Four.d.now in
    let x = c.holders_of-in-Four.result in
    let y = c.holders_of-in-Four-2.result in
    let z = c.holders_of-in-Four-3.result in
    held-more rows i (bit_or (bit_or x y) z) c.holders_of-in-Four-4.result (k ∷ m ∷ n ∷ []) o
    (held-more rows i (bit_or x y) z (k ∷ m ∷ []) n
    (held-more rows i x y (k ∷ []) m (held-one rows i x k c.holders_of-in-Four.ensures) c.holders_of-in-Four-2.ensures)
    c.holders_of-in-Four-3.ensures)
    c.holders_of-in-Four-4.ensures
    ∙ ap (λ l. is_held rows i l) c.in-Four.ensures
