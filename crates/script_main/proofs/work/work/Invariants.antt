use Rattle.std.specs.List.{AllByRecursion}
use Rattle.std.specs.Vec.Iter.{into_iter_items}
use Rattle.call_history.specs.Fits.{IsLawfulJob}
use Rattle.script_main.proofs.WorkLemmas.{HasCome}
use Rattle.script_main.proofs.work.work.Given as goal

abbrev pub invariant-loop-job : goal.invariant-loop-job
invariant-loop-job g l =
    AllByRecursion IsLawfulJob (into_iter_items l.job-iterator)
    × HasCome (g.G.Gate.may_answer l.gate) l.shared l.fn.caller.bounds l.fn.caller.number l.fn.script.items (into_iter_items l.job-iterator) l.caller l.turn l.replies.items
