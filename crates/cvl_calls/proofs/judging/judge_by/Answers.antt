use Rattle.cvl_text.specs.Tasks.{task_of}
use Rattle.cvl_calls.specs.Outcomes.{operands_of}
use Rattle.cvl_calls.specs.Runs.{tests_index}
use Rattle.cvl_calls.specs.Work.{work}
use Rattle.cvl_calls.proofs.Fitting.{operands_of-fits}
use Rattle.cvl_calls.proofs.WorkLemmas.{judged-fits, judged-gives, judged-ready, judged-word, work-fits}
use Rattle.cvl_calls.proofs.judging.judge_by.Goals as goal

pub returns-clause-gives : goal.returns-clause-gives
returns-clause-gives g c = judged-gives _ _ _ c.by_shape.result c.by_shape.ensures.judges

pub returns-clause-word : goal.returns-clause-word
returns-clause-word g c = judged-word _ _ _ c.by_shape.result c.by_shape.ensures.judges

pub returns-clause-ready : goal.returns-clause-ready
returns-clause-ready g c = judged-ready _ _ _ c.by_shape.result c.by_shape.ensures.judges

pub returns-clause-fits : goal.returns-clause-fits
returns-clause-fits g c =
    let task = task_of c.args.call.now in
    let m = c.args.memory.now in
    let operands = operands_of m task.arguments in
    judged-fits (tests_index task.word) task.word (work m.limit task.word operands) m.limit c.by_shape.result c.by_shape.ensures.judges
    (work-fits m.limit task.word operands (operands_of-fits m task.arguments c.memories_are_lawful.ensures))
