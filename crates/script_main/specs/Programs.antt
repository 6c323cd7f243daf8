-- What the program does with the words behind its name.
use Rattle.std.specs.Prelude.{◌≡◌, ◌++◌, ◌<◌, ◌⊎◌, ℕ, List, [], ◌∷◌, Option, Result, Ok, Err, IfSome, codes}
use Rattle.std.specs.Fmt.{decimal}
use Rattle.vector_memory.specs.declared.edition.Edition.TheVariants.{One}
use Rattle.vector_memory.specs.States.{bounds_in, empty, room_limit, IsLawfulRoom}
use Rattle.script_lines.specs.declared.fault.RunFault.{RunFault}
use Rattle.script_lines.specs.declared.fault.RunFault.TheVariants as stops
use Rattle.script_main.specs.declared.mode.Mode.{Mode}
use Rattle.script_main.specs.declared.mode.Mode.TheVariants.{Serial, Threads}
use Rattle.script_lines.specs.Runs.{Runs, IsCounted}
use Rattle.script_main.specs.SharedRuns.{RunsShared}
use Rattle.script_lines.specs.Streams.{Awaits, HasBegun}

-- the word that asks for a mode
abbrev pub mode_word : Mode → List ℕ
mode_word Serial = codes "serial"
mode_word Threads = codes "threads"

-- The words behind the mode ask for this room: a decimal number without needless zeros, the greatest room if it is absent.
abbrev pub AsksRoom : List (List ℕ) → ℕ → Type 0
AsksRoom [] room = room ≡ room_limit
AsksRoom (word ∷ []) room = (word ≡ decimal room) × IsLawfulRoom room
AsksRoom (word ∷ also ∷ words) room = ⊥

-- the words ask for a run of this mode in this room
abbrev pub AsksRun : Mode → List (List ℕ) → ℕ → Type 0
AsksRun mode [] room = ⊥
AsksRun mode (word ∷ words) room = (word ≡ mode_word mode) × AsksRoom words room

-- they ask for nothing that the program does
abbrev pub AsksNothing : List (List ℕ) → Type 0
AsksNothing words = (mode : Mode) (room : ℕ) → AsksRun mode words room → ⊥

-- what is written for them
abbrev pub usage_text : List ℕ
usage_text = codes "usage: cvl serial|threads [room]" ++ 10 ∷ []

-- the exit status of a run
abbrev pub status_of : Result (Unit {0}) RunFault → ℕ
status_of (Ok done) = 0
status_of (Err (stops.BadLine number)) = 2
status_of (Err stops.OutOfMemory) = 3
status_of (Err stops.Read) = 4
status_of (Err stops.Write) = 4
status_of (Err (stops.Stopped worker)) = 5
status_of (Err stops.Unfinished) = 5

-- what a run of this mode over an input comes to in this room; a serial run begins with a memory of edition 1
abbrev pub RunsAs : Mode → Result (Unit {0}) RunFault → ℕ → List ℕ → Option (List ℕ) → Option (List ℕ) → Option (List ℕ) → Type 0
RunsAs Serial result room input left old new = Runs result (empty (bounds_in One room)) input left old new
RunsAs Threads result room input left old new = RunsShared result room input left old new

-- The program ran a script: its status is that of a run over the input.
pub record HasRun (mode : Mode) (status room : ℕ) (input left old new : Option (List ℕ)) (reads reads' writes writes' : ℕ) : Type 0 where
  pub result : Result (Unit {0}) RunFault
  pub status_is : status ≡ status_of result
  pub runs : IfSome input (λ script. RunsAs mode result room script left old new)
  pub counted : IsCounted result reads reads' writes writes'

-- The program wrote the usage line: status 2, or 4 where a write failed.
abbrev pub IsUsage : ℕ → Option (List ℕ) → Option (List ℕ) → ℕ → ℕ → Type 0
IsUsage status old new writes writes' =
    ((status ≡ 2) × Awaits old new [] usage_text) ⊎ ((status ≡ 4) × HasBegun old new usage_text × (writes < writes'))
