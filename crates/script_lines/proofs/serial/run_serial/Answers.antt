use Rattle.script_lines.proofs.serial.run_serial.Goals as goal

pub returns-clause-runs : goal.returns-clause-runs
returns-clause-runs g c = rw c.in-Ok.ensures.memory at c.run_script.ensures.runs
