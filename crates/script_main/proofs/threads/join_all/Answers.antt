use Rattle.std.proofs.Common.{rules, arith, ◌≡◌, ◌∷◌, length, ap}
use Rattle.std.specs.Vec.Iter.{into_iter_items}
use Rattle.script_main.specs.Workers.{IsJoined}
use Rattle.script_main.proofs.ThreadLemmas.{zip_more}
use Rattle.script_main.proofs.threads.join_all.Goals as goal

pub loop-worker-preserved : goal.loop-worker-preserved
loop-worker-preserved g c =
    let next : into_iter_items c.loop-worker.worker-iterator ≡ c.in-Some.worker ∷ into_iter_items c.next.new.self = search rules in
    let sizes = ap length next in
    let inv = c.loop-worker.invariant in
    let spaces = inv.0 in
    let more = zip_more (IsJoined g.G.Gate.may_answer) _ _ _ c.in-Some.worker c.loop-worker.ends.items c.join.result next (inv.1, inv.2, inv.3) c.join.ensures in
    (omega (arith, sizes, spaces, c.push_reserved.ensures.len, c.push_reserved.ensures.capacity), more.0, more.1, rw c.push_reserved.ensures.items more.2)
