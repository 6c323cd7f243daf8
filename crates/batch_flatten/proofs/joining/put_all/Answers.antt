use Rattle.std.proofs.Common.{arith, rules, ◌≡◌, ◌∙◌, ◌+◌, ◌≤◌, ◌++◌, ◌∷◌, [], ap, length, slice_index, sym, vec_len}
use Rattle.std.proofs.lemmas.List.{length_push}
use Rattle.cvl_calls.specs.Runs.{runs_kernel}
use Rattle.batch_flatten.specs.Joining.{work_at, word_at}
use Rattle.batch_flatten.proofs.JoinLemmas.{closes-both, closes-same, last-made, last-placed}
use Rattle.batch_flatten.proofs.joining.put_all.Goals as goal

pub loop-product-init : goal.loop-product-init
loop-product-init c = record {
  few = c.requires.few;
  placed = λ words word all. all;
  closes = λ words word all. closes-same words word c.args.turns.now;
  made = λ m outcomes places same. same;
  prepared = λ m outcomes places words word first all kernel same prepared. prepared;
}

pub loop-product-preserved : goal.loop-product-preserved
loop-product-preserved c =
    let all = c.loop-product.products.items in
    let rest = c.pop.new.self.items in
    let x = c.in-Some.product in
    let ps = c.args.positions.now in
    let inv = c.loop-product.invariant in
    let is : all ≡ rest ++ x ∷ [] = search rules in
    let long : length ps ≡ 64 = search rules in
    let count : vec_len c.loop-product.products ≡ length all = search rules in
    let fewer : vec_len c.pop.new.self ≡ length rest = search rules in
    let low = inv.few in
    let few : length all ≤ length ps = omega arith in
    let less : length all ≡ length rest + 1 = ap length is ∙ length_push rest x in
    let here : c.from-position.result ≡ slice_index ps (length rest) = c.from-position.ensures ∙ ap (slice_index ps) (c.len.ensures ∙ fewer) in
    record {
      few = omega arith;
      placed = λ words word placed. (last-placed words word ps all rest x is few (inv.placed words word placed)).0;
      closes = λ words word placed.
          let last = last-placed words word ps all rest x is few (inv.placed words word placed) in
          closes-both words word c.args.turns.now c.loop-product.turns c.put.new.turns (inv.closes words word placed) (c.put.ensures.closes words word (ap (word_at words) here ∙ last.1));
      made = λ m outcomes places same. (last-made m outcomes places ps all rest x is few (inv.made m outcomes places same)).0;
      prepared = λ m outcomes places words word first placed kernel same prepared.
          let last = last-placed words word ps all rest x is few (inv.placed words word placed) in
          let made = last-made m outcomes places ps all rest x is few (inv.made m outcomes places same) in
          c.put.ensures.prepared m outcomes places words first (made.1 ∙ ap (work_at m outcomes places) (sym here)) (ap (λ p. runs_kernel (word_at words p)) here ∙ ap runs_kernel last.1 ∙ kernel)
          (inv.prepared m outcomes places words word first placed kernel same prepared);
    }
