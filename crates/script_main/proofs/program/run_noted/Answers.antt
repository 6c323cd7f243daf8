use Rattle.std.proofs.Common.{inl, ◌≡◌, ℕ, List, [], Option, Some, None, Err, refl, sym}
use Rattle.std.specs.Prelude.{IfSome}
use Rattle.std.proofs.lemmas.List.{append-nil}
use Rattle.script_lines.specs.declared.fault.RunFault.TheVariants as stops
use Rattle.script_lines.specs.Scripts.{lines_of}
use Rattle.script_lines.specs.Streams.{Awaits}
use Rattle.script_main.specs.declared.mode.Mode.{Mode}
use Rattle.script_main.specs.declared.mode.Mode.TheVariants.{Serial, Threads}
use Rattle.script_main.specs.Programs.{RunsAs}
use Rattle.script_main.proofs.program.run_noted.Goals as goal

nothing : (now : Option (List ℕ)) → Awaits now now [] []
nothing None = tt
nothing (Some before) = ([], sym (append-nil before), refl)

-- for want of memory a run ends before it begins
unbegun : (mode : Mode) (room : ℕ) (rest left now : Option (List ℕ)) → IfSome rest (λ input. RunsAs mode (Err stops.OutOfMemory) room input left now now)
unbegun mode room None left now = tt
unbegun Serial room (Some input) left now = ([], record { first = []; others = lines_of input; lines = refl; good = refl; text = refl }, nothing now)
unbegun Threads room (Some input) left now = inl refl

pub returns-in_default-clause-runs : goal.returns-in_default-clause-runs
returns-in_default-clause-runs g c = unbegun c.args.mode c.args.room (g.R.Source.rest c.args.reader.now) (g.R.Source.rest c.args.reader.now) (g.W.Sink.written c.args.writer.now)
