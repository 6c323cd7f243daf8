-- The stage of a script, as the code keeps it.
use Rattle.std.specs.Prelude.{◌≡◌, ◌≤◌, ℕ, Bool, true, false, map, length, Option, Some, None, Result, Ok, Err, Vec}
use Rattle.std.specs.Global.{Global}
use Rattle.cvl_text.specs.declared.call.Call.{Call}
use Rattle.cvl_text.specs.Tasks.{task_of}
use Rattle.call_history.specs.Blocks.{block_limit}
use Rattle.script_lines.specs.declared.fault.InputFault.{InputFault}
use Rattle.script_lines.specs.declared.fault.InputFault.TheVariants as halts
use Rattle.script_lines.specs.declared.line.LineFault.{LineFault}
use Rattle.script_lines.specs.declared.line.LineFault.TheVariants as faults
use Rattle.script_lines.specs.declared.open_block.OpenBlock.{OpenBlock}
use Rattle.script_lines.specs.declared.progress.Progress.{Progress}
use Rattle.script_lines.specs.declared.progress.Progress.TheVariants as progresses
use Rattle.script_lines.specs.Scripts.{Stage, AtStart, Outside, Inside, Line, Bad, Closes, bad_end, stage_after_line}
use Rattle.script_lines.specs.Asks.{is_quiet}

-- the stage in a block
abbrev pub stage_in : OpenBlock → Stage
stage_in block = Inside block.caller (map task_of block.calls.items)

abbrev pub stage_of : Progress → Stage
stage_of progresses.AtStart = AtStart
stage_of (progresses.Outside edition) = Outside edition
stage_of (progresses.Inside block) = stage_in block

abbrev pub is_start : Stage → Bool
is_start AtStart = true
is_start (Outside edition) = false
is_start (Inside caller tasks) = false

-- what one more call makes of an open block
abbrev pub IsAdded : Result (Unit {0}) LineFault → OpenBlock → OpenBlock → Line → Type 0
IsAdded (Ok done) old new line = (is_quiet line ≡ true) × (stage_in new ≡ stage_after_line (stage_in old) line)
IsAdded (Err faults.Bad) old new line = line ≡ Bad
IsAdded (Err faults.OutOfMemory) old new line = Unit {0}

-- what a line makes of it: its calls where the line closes it
abbrev pub IsTaken : Result (Option (Vec Call Global)) LineFault → OpenBlock → OpenBlock → Line → Type 0
IsTaken (Ok None) old new line = (is_quiet line ≡ true) × (stage_in new ≡ stage_after_line (stage_in old) line)
IsTaken (Ok (Some calls)) old new line = (line ≡ Closes old.caller (map task_of calls.items)) × (1 ≤ length calls.items) × (length calls.items ≤ block_limit)
IsTaken (Err faults.Bad) old new line = line ≡ Bad
IsTaken (Err faults.OutOfMemory) old new line = Unit {0}

-- what the end of a script comes to at a stage, behind n lines: no more is to be read, or it is bad
abbrev pub ended_by : Option ℕ → Result Bool InputFault
ended_by None = Ok false
ended_by (Some number) = Err (halts.BadLine number)

abbrev pub end_at : Stage → ℕ → Result Bool InputFault
end_at stage n = ended_by (bad_end stage n)
