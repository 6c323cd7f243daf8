use Rattle.std.proofs.Common.{rules, inl, ◌≡◌, length, ◌∙◌}
use Rattle.std.specs.Prelude.{vec_len}
use Rattle.std.proofs.lemmas.Result.{err_from_is_err_and}
use Rattle.combiner.specs.Standing.{callers_of}
use Rattle.script_main.specs.Workers.{IsSettleFault}
use Rattle.script_lines.proofs.FaultLemmas.{handed-out}
use Rattle.script_main.proofs.EndLemmas.{worked_machines, met_closer, met_alone, closes}
use Rattle.script_main.proofs.settle.settle.Goals as goal

pub returns-in_err-workers-clause-fault : goal.returns-in_err-workers-clause-fault
returns-in_err-workers-clause-fault c =
    let given = err_from_is_err_and c.from_residual.result c.from_residual.ensures.1 in
    let fault = c.in_err-workers.field-0.0 in
    handed-out c.from_residual.result (IsSettleFault (callers_of c.args.machine) c.args.ends.items) fault given.0 given.1 given.2 (inl c.in_err-workers.ensures.fault)

pub meet_all-requires-clause-machine : goal.meet_all-requires-clause-machine
meet_all-requires-clause-machine c = worked_machines c.args.machine c.args.bounds c.requires.ends.0 c.args.ends.items c.in_ok-workers.workers.items c.in_ok-workers.ensures.workers c.requires.ends.1

pub close-requires-clause-machine : goal.close-requires-clause-machine
close-requires-clause-machine c =
    (met_closer c.args.machine c.args.bounds c.requires.ends.0 c.args.ends.items c.in_ok-workers.workers.items c.in-Ok.closer c.in-Ok.replies.items c.in_ok-workers.ensures.workers c.requires.ends.1 c.in-Ok.ensures).machine_is

pub close-requires-clause-first : goal.close-requires-clause-first
close-requires-clause-first c =
    (met_closer c.args.machine c.args.bounds c.requires.ends.0 c.args.ends.items c.in_ok-workers.workers.items c.in-Ok.closer c.in-Ok.replies.items c.in_ok-workers.ensures.workers c.requires.ends.1 c.in-Ok.ensures).first

pub close-requires-clause-idle : goal.close-requires-clause-idle
close-requires-clause-idle c =
    (met_closer c.args.machine c.args.bounds c.requires.ends.0 c.args.ends.items c.in_ok-workers.workers.items c.in-Ok.closer c.in-Ok.replies.items c.in_ok-workers.ensures.workers c.requires.ends.1 c.in-Ok.ensures).idle

pub close-requires-clause-alone : goal.close-requires-clause-alone
close-requires-clause-alone c = λ alone.
    let size : length c.args.ends.items ≡ vec_len c.args.ends = search rules in
    met_alone c.args.machine c.args.bounds c.requires.ends.0 c.args.ends.items c.in_ok-workers.workers.items c.in-Ok.closer c.in-Ok.replies.items c.in_ok-workers.ensures.workers c.requires.ends.1 c.in-Ok.ensures
    (size ∙ (c.requires.each ∙ alone))

pub returns-clause-settled : goal.returns-clause-settled
returns-clause-settled c =
    let size : length c.args.ends.items ≡ vec_len c.args.ends = search rules in
    closes c.close.result c.args.machine c.args.bounds c.args.ends.items c.in_ok-workers.workers.items c.in-Ok.closer c.in-Ok.replies c.in_ok-workers.ensures.workers (size ∙ c.requires.each) c.in-Ok.ensures
    c.close.ensures.replies c.close.ensures.closed
