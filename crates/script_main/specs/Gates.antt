-- What a gate may answer: which workers it may let do their scripts, and which it may stop. A gate is seen as the answers that
-- it may give, by worker and turn.
use Rattle.std.specs.Prelude.{ℕ, ◌<◌, Bool, true, false, List, [], length, slice_index_or}
use Rattle.call_history.specs.declared.request.Job.{Job}

-- it may let worker k take each of its first n turns
abbrev pub MayPass : (ℕ → ℕ → Bool → Type 0) → ℕ → ℕ → Type 0
MayPass may_answer k n = (turn : ℕ) → turn < n → may_answer k turn true

-- It may stop worker k at one of its first n turns, and let it take those before.
pub record MayStop (may_answer : ℕ → ℕ → Bool → Type 0) (k n : ℕ) : Type 0 where
  pub turn : ℕ
  pub within : turn < n
  pub stops : may_answer k turn false
  pub passes : MayPass may_answer k turn

-- it may let worker k do its whole script
abbrev pub MayFinish : (ℕ → ℕ → Bool → Type 0) → List (List Job) → ℕ → Type 0
MayFinish may_answer scripts k = MayPass may_answer k (length (slice_index_or scripts k []))

-- It may stop worker k on its script, and let each lower worker do its whole one.
pub record MayStopFirst (may_answer : ℕ → ℕ → Bool → Type 0) (scripts : List (List Job)) (k : ℕ) : Type 0 where
  pub there : k < length scripts
  pub stops : MayStop may_answer k (length (slice_index_or scripts k []))
  pub lower : (j : ℕ) → j < k → MayFinish may_answer scripts j
