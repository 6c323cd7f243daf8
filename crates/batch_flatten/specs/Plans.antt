-- What the planning of single calls keeps in mind of the requests so far: their waves, and for each bucket of names the last request with
-- a target in it.
use Rattle.std.specs.Prelude.{◌≡◌, ◌==◌, ◌&&◌, ◌||◌, ◌<◌, ℕ, zero, suc, Bool, true, false, List, map, take, Option, None, slice_index, slice_index_or}
use Rattle.std.specs.List.{zip}
use Rattle.vector_memory.specs.declared.name.Name.{Name}
use Rattle.cvl_text.specs.Tasks.{Task, target, task_of}
use Rattle.call_history.specs.declared.request.Job.{Job}
use Rattle.call_history.specs.declared.request.Job.TheVariants.{One, Many}
use Rattle.call_history.specs.declared.request.Request.{Request}
use Rattle.batch_flatten.specs.Waves.{asked}
use Rattle.batch_flatten.specs.Targets.{is_target, last_in, lies_in, target_at}
use Rattle.batch_flatten.specs.declared.plan.Plan.{Plan}

-- the first jobs, so many, with their waves
abbrev pub placed : ℕ → List ℕ → List Request → List (ℕ × List Task)
placed count ws rs = zip (take count ws) (map asked (take count rs))

abbrev pub is_single : Job → Bool
is_single (One call) = true
is_single (Many calls) = false

-- the first requests, so many, are for single calls
abbrev pub AreSingle : List Request → ℕ → Type 0
AreSingle rs count = (place : ℕ) (r : Request) → place < count → is_single (slice_index_or rs place r).job ≡ true

-- the target of a single call
abbrev pub single_target : Job → Option Name
single_target (One call) = target (task_of call)
single_target (Many calls) = None

-- the targets of the single calls
abbrev pub single_targets : List Request → List (Option Name)
single_targets rs = map (λ r. single_target r.job) rs

-- of the first calls, so many, one is of the wave and has the name as its target
abbrev pub bars : List (Option Name) → List ℕ → Name → ℕ → ℕ → Bool
bars targets waves n wave zero = false
bars targets waves n wave (suc place) = bars targets waves n wave place || (slice_index waves place == wave && is_target n (target_at targets place))

-- The plan has the last call of each bucket among the first, so many, and for each of these the one before it in its bucket.
pub record IsPlan (plan : Plan) (targets : List (Option Name)) (count : ℕ) : Type 0 where
  pub few_waves : (place : ℕ) → slice_index plan.waves place < 64
  pub last : (bucket : ℕ) → bucket < 256 → slice_index plan.last bucket ≡ last_in (target_at targets) bucket count
  pub before : (place bucket : ℕ) → place < count → lies_in bucket (target_at targets place) ≡ true → slice_index plan.before place ≡ last_in (target_at targets) bucket place
