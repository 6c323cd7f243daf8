use Rattle.request_slots.proofs.slots.Slots.make_caller.Given as goal

-- the table at which the caller sits
abbrev pub ghosts-make_caller_at : goal.ghosts-make_caller_at
ghosts-make_caller_at a = record { machine = a.self.now }
