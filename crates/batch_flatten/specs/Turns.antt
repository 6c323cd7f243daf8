-- The calls of a wave, each at its own turn and all at the wave's beginning.
use Rattle.std.specs.Prelude.{◌≡◌, false, List, [], ◌∷◌}
use Rattle.std.specs.List.{AllByRecursion}
use Rattle.vector_memory.specs.States.{State}
use Rattle.cvl_text.specs.Tasks.{Task, target}
use Rattle.cvl_text.specs.Answers.{Answer}
use Rattle.cvl_calls.specs.Steps.{Stepped, followed, stepped, work_on}
use Rattle.batch_flatten.specs.Waves.{clashes}

-- the memory after these calls, one after the other
abbrev pub memory_after_tasks : State → List Task → State
memory_after_tasks m [] = m
memory_after_tasks m (t ∷ ts) = memory_after_tasks (stepped m t).memory ts

-- their replies
abbrev pub answers_after : State → List Task → List Answer
answers_after m [] = []
answers_after m (t ∷ ts) = (stepped m t).answer ∷ answers_after (stepped m t).memory ts

-- what a call made of the memory `seen`, done to another memory
abbrev pub done_to : State → State → Task → Stepped
done_to seen m t = followed m (target t) (work_on seen t)

-- the same of calls one after the other, all of which see the one memory
abbrev pub memory_done : State → State → List Task → State
memory_done seen m [] = m
memory_done seen m (t ∷ ts) = memory_done seen (done_to seen m t).memory ts

abbrev pub answers_done : State → State → List Task → List Answer
answers_done seen m [] = []
answers_done seen m (t ∷ ts) = (done_to seen m t).answer ∷ answers_done seen (done_to seen m t).memory ts

-- the call reads the target of none of these
abbrev pub ReadsNoTarget : List Task → Task → Type 0
ReadsNoTarget earlier t = AllByRecursion (λ e. clashes e t ≡ false) earlier

-- no call reads the target of an earlier one
abbrev pub IsWave : List Task → Type 0
IsWave [] = Unit {0}
IsWave (t ∷ ts) = AllByRecursion (λ later. clashes t later ≡ false) ts × IsWave ts
