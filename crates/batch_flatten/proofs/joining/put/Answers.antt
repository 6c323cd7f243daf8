use Rattle.std.proofs.Common.{arith, rules, ◌≡◌, ◌<◌, length, vec_len}
use Rattle.cvl_calls.specs.Outcomes.{effect_of}
use Rattle.batch_flatten.proofs.JoinLemmas.{joined-closes, joined-keeps}
use Rattle.batch_flatten.proofs.joining.put.Goals as goal

pub returns-then-position-len : goal.returns-then-position-len
returns-then-position-len c =
    let ts = c.args.turns.now in
    let ws = c.args.works.now.items in
    let p = c.args.position in
    let long : length ts ≡ 64 = search rules in
    let count : vec_len c.args.works.now ≡ length ws = search rules in
    let is = c.len.ensures in
    let space : p < length ws = let lt = c.if-position-len.true in omega arith in
    let low = c.requires in
    record {
      closes = λ words word. joined-closes words word ts p;
      prepared = λ m outcomes places words first. joined-keeps m outcomes places words ts ws p c.in-Some.work (effect_of c.args.product) first (omega arith) space c.in-Some.ensures;
    }
