use Rattle.std.proofs.Common.{◌≡◌, drop, None}
use Rattle.vector_memory.specs.States.{bounds_in}
use Rattle.call_history.specs.History.{replay_from, replay}
use Rattle.call_history.proofs.audit.replayed.Given as goal

-- what the entries that are left make of the memory is what all make of an empty one, and no block has begun
abbrev pub invariant-loop-place : goal.invariant-loop-place
invariant-loop-place g l = record {
  leads : replay_from l.memory (drop l.place l.log.entries) ≡ replay (bounds_in l.fn.edition l.fn.room) l.log.entries;
  outside : l.memory.block ≡ None;
}
