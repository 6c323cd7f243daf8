use Rattle.std.proofs.lemmas.Result.{IfOk-weaker}
use Rattle.combiner.proofs.Begun.{begun_answered, begun_knows, begun_left}
use Rattle.combiner.proofs.Turns.{notes_follow}
use Rattle.combiner.proofs.shared.Shared.call_by.Goals as goal

pub ask-requires-clause-left : goal.ask-requires-clause-left
ask-requires-clause-left g c κs within = begun_left c.args.call c.args.caller.now c.begin.new.caller c.in-Waiting.ensures.begun

pub returns-in-Waiting-clause-notes : goal.returns-in-Waiting-clause-notes
returns-in-Waiting-clause-notes g c =
    notes_follow c.args.caller.now c.begin.new.caller c.ask.new.caller (begun_knows c.args.call c.args.caller.now c.begin.new.caller c.in-Waiting.ensures.begun).notes c.ask.ensures.notes

pub returns-in-Waiting-clause-answered : goal.returns-in-Waiting-clause-answered
returns-in-Waiting-clause-answered g c =
    IfOk-weaker c.ask.result _ _ (λ a. begun_answered c.args.call c.args.caller.now c.begin.new.caller c.ask.new.caller a.0 a.1 c.in-Waiting.ensures.begun) c.ask.ensures.answered
