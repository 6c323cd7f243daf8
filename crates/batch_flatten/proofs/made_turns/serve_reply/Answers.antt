use Rattle.batch_flatten.proofs.AlikeTurns.{runs-on}
use Rattle.batch_flatten.proofs.made_turns.serve_reply.Goals as goal

pub returns-in-Err-clause-ran : goal.returns-in-Err-clause-ran
returns-in-Err-clause-ran c =
    let ran = c.serve_unserved.ensures.ran in
    let k = c.args.request.now.caller in
    (ran.0, ran.1, runs-on c.args.book.now c.run_lent.new.self c.serve_unserved.new.book k c.args.request.now.job ran.0 c.in-Err.ensures.unchanged c.run_lent.ensures.bounds ran.2)
