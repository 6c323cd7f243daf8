use Rattle.request_slots.proofs.slots.Slots.step_commit.Given as goal

-- what the desk brings
abbrev pub ghosts-commit_as : goal.ghosts-commit_as
ghosts-commit_as a = record { line = a.desk.now.book.history; outcomes = a.desk.now.outcomes.items }
