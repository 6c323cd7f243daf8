use Rattle.std.specs.Prelude.{[]}
use Rattle.request_slots.proofs.slots.Slots.step_enter.Given as goal

-- what the book brings
abbrev pub ghosts-enter_as : goal.ghosts-enter_as
ghosts-enter_as a = record { line = a.book.now.history; outcomes = [] }
