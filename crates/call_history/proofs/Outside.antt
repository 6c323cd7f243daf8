-- A replay begins no block and ends none (`replay_from-outside`, `replay-outside`), so that the memory of a book may always change
-- (`book_may_change`).
use Rattle.std.proofs.Common.{◌≡◌, List, [], ◌∷◌, None, refl, ap, ◌∙◌}
use Rattle.vector_memory.specs.declared.bounds.Bounds.{Bounds}
use Rattle.vector_memory.specs.States.{State, MayChange, bounds_of, empty}
use Rattle.cvl_text.specs.Tasks.{task_of}
use Rattle.cvl_calls.specs.Steps.{stepped}
use Rattle.cvl_calls.proofs.BlockSteps.{outside-stepped, outside_may_change}
use Rattle.call_history.specs.declared.entry.Entry.{Entry}
use Rattle.call_history.specs.History.{replay_from, replay}

pub replay_from-outside : (m : State) (history : List Entry) → m.block ≡ None → (replay_from m history).block ≡ None
replay_from-outside m [] outside = outside
replay_from-outside m (e ∷ es) outside = replay_from-outside (stepped m (task_of e.call)).memory es (outside-stepped m (task_of e.call) outside)

pub replay-outside : (bounds : Bounds) (history : List Entry) → (replay bounds history).block ≡ None
replay-outside bounds history = replay_from-outside (empty bounds) history refl

-- the memory of a book may change
pub book_may_change : (m : State) (history : List Entry) → m ≡ replay (bounds_of m) history → MayChange m
book_may_change m history replayed = outside_may_change m (ap (λ (s : State). s.block) replayed ∙ replay-outside (bounds_of m) history)
