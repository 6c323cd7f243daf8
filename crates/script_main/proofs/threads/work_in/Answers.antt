use Rattle.std.proofs.Common.{arith}
use Rattle.std.proofs.lemmas.Slice.Zip.{AllZip-long}
use Rattle.script_main.specs.Workers.{IsStarted}
use Rattle.script_main.proofs.ThreadLemmas.{all_ended}
use Rattle.script_main.proofs.threads.work_in.Goals as goal

pub join_all-requires-clause-spaces : goal.join_all-requires-clause-spaces
join_all-requires-clause-spaces g c =
    let sizes = AllZip-long (IsStarted c.args.gate.now c.args.shared.now c.args.bounds) c.args.workers.items c.in_ok-started.started.items c.in_ok-started.ensures in
    omega (arith, sizes, c.len.ensures, c.in_ok-ends.ensures.exact)

pub returns : goal.returns
returns g c = all_ended g.G.Gate.may_answer c.args.gate.now c.args.shared.now c.args.bounds c.args.workers.items c.in_ok-started.started.items c.join_all.new.ends.items c.in_ok-started.ensures c.join_all.ensures
