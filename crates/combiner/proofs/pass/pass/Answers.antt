use Rattle.std.proofs.Common.{rules, arith, ◌≡◌, ◌<◌, ap, sym, subst, ◌∙◌}
use Rattle.call_history.specs.History.{Begins}
use Rattle.request_slots.specs.declared.known.Known.{Known}
use Rattle.request_slots.specs.Views.{pass_in, passing, locking}
use Rattle.combiner.specs.Serving.{ServesBatch}
use Rattle.combiner.proofs.PassSteps.{desk_ready, serve_past}
use Rattle.combiner.proofs.pass.pass.Goals as goal

pub serve-requires-clause-ready : goal.serve-requires-clause-ready
serve-requires-clause-ready g c κs within =
    let inside = c.in_ok-desk.ensures.inside in let size = c.requires.callers.0 in
    let won : c.step_lock.new.seat ≡ locking c.args.seat.now c.in_ok-desk.desk.value.book.history = c.in_ok-desk.ensures.won in
    desk_ready c.args.callers c.step_lock.new.seat c.take_all.new.seat c.in_ok-desk.desk.value.book.history _ _ _ c.take_all.ensures.taken
    (subst (λ (k : Known). k.standing.number < c.args.callers) (sym won) (omega arith)) (ap (λ (k : Known). k.standing.held) won)
    (subst (λ (k : Known). Begins k.standing.seen c.in_ok-desk.desk.value.book.history) (sym won) c.in_ok-desk.ensures.line.begins) (ap (λ (k : Known). (pass_in k).line) won)
    (search rules) (search rules) (search rules) (search rules) (search rules) (search rules)

pub returns-clause-served : goal.returns-clause-served
returns-clause-served g c = serve_past c.args.seat.now c.step_lock.new.seat c.take_all.new.seat c.serve.new.seat c.in_ok-desk.desk.value.book.history c.serve.result.0 c.in_ok-desk.ensures.won c.take_all.ensures.taken.now_is c.serve.ensures.served

pub returns-clause-batch : goal.returns-clause-batch
returns-clause-batch g c =
    let second : c.take_all.new.seat ≡ passing (locking c.args.seat.now c.in_ok-desk.desk.value.book.history) (pass_in c.take_all.new.seat) =
    c.take_all.ensures.taken.now_is ∙ ap (λ (k : Known). passing k (pass_in c.take_all.new.seat)) c.in_ok-desk.ensures.won in
    subst (λ (k : Known). ServesBatch k.standing.bounds c.args.callers k.standing.seen c.serve.new.seat.standing.seen c.serve.result.0 c.serve.result.1.waves c.serve.result.1.kernels) second c.serve.ensures.batch
