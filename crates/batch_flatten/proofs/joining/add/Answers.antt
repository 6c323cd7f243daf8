use Rattle.std.proofs.Common.{arith, rules, ◌≡◌, length, vec_len}
use Rattle.batch_flatten.proofs.JoinLemmas.{group-push}
use Rattle.batch_flatten.proofs.joining.add.Goals as goal

pub returns-then-count-capacity-clause-group : goal.returns-then-count-capacity-clause-group
returns-then-count-capacity-clause-group g c =
    let js = c.args.group.now.judged.items in
    let ps = c.args.group.now.positions in
    let long : length ps ≡ 64 = search rules in
    let count : vec_len c.args.group.now.judged ≡ length js = search rules in
    let few = c.requires.few in
    let is = c.len-count.ensures in
    let here : c.len-count.result ≡ length js = omega arith in
    λ outcomes places words word there of its grouped.
    group-push c.args.memory.now outcomes places words word ps js c.len-count.result c.args.position here grouped c.in-Ok.judged c.push_reserved.new.self.items c.args.outcome.now c.push_reserved.ensures.items (omega arith) there
    c.in-Ok.ensures.examined.0 c.in-Ok.ensures.examined.1 (c.in-Ok.ensures.alike word of) its
