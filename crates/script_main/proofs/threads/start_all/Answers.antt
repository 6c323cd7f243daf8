use Rattle.std.proofs.Common.{rules, arith, ◌≡◌, ◌∷◌, length, ap}
use Rattle.std.specs.Vec.Iter.{into_iter_items}
use Rattle.script_main.specs.Workers.{IsReady, IsStarted}
use Rattle.script_main.proofs.ThreadLemmas.{zip_more, all_rest}
use Rattle.script_main.proofs.threads.start_all.Goals as goal

pub loop-worker-preserved : goal.loop-worker-preserved
loop-worker-preserved g c =
    let next : into_iter_items c.loop-worker.worker-iterator ≡ c.in-Some.worker ∷ into_iter_items c.next.new.self = search rules in
    let sizes = ap length next in
    let inv = c.loop-worker.invariant in
    let spaces = inv.0 in
    let more = zip_more (IsStarted c.args.gate.now c.args.shared.now c.args.bounds) _ _ _ c.in-Some.worker c.loop-worker.started.items c.start-thread.result next (inv.2, inv.3, inv.4) c.start-thread.ensures in (
      omega (arith, sizes, spaces, c.push_reserved.ensures.len, c.push_reserved.ensures.capacity),
      all_rest (IsReady c.args.shared.now c.args.bounds) _ _ c.in-Some.worker next inv.1,
      more.0,
      more.1,
      rw c.push_reserved.ensures.items more.2,
    )
