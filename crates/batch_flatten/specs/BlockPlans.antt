-- What the planning of blocks keeps in mind of the jobs so far: their waves, and for each bucket of names which of the jobs have a target
-- in it.
use Rattle.std.specs.Prelude.{◌≡◌, ◌==◌, ◌&&◌, ◌||◌, ◌<◌, ◌≤◌, ℕ, zero, suc, Bool, false, List, [], slice_index, slice_index_or}
use Rattle.std.specs.Int.{bit_at}
use Rattle.std.specs.List.{list_any}
use Rattle.vector_memory.specs.Names.{bucket_of}
use Rattle.vector_memory.specs.declared.name.Name.{Name}
use Rattle.cvl_text.specs.Tasks.{Task, reads, target}
use Rattle.batch_flatten.specs.Waves.{jobs_clash}
use Rattle.batch_flatten.specs.Targets.{lies_in}
use Rattle.batch_flatten.specs.declared.block_plan.BlockPlan.{BlockPlan}

-- the job at this place
abbrev pub job_at : List (List Task) → ℕ → List Task
job_at jobs place = slice_index_or jobs place []

-- A number holds places: those of its ones.
abbrev pub is_in : ℕ → ℕ → Bool
is_in places place = bit_at places place == 1

-- a call of the job has a target in the bucket
abbrev pub has_target_in : ℕ → List Task → Bool
has_target_in bucket job = list_any (λ t. lies_in bucket (target t)) job

-- the bucket of one of the names holds the place
abbrev pub is_held : List ℕ → ℕ → List Name → Bool
is_held holders place names = list_any (λ n. is_in (slice_index holders (bucket_of n)) place) names

-- the bucket of a name that a call of the job reads holds the place
abbrev pub is_suspect : List ℕ → ℕ → List Task → Bool
is_suspect holders place job = list_any (λ t. is_held holders place (reads t)) job

-- of the first jobs, so many, one is at one of the places, is of the wave, and has a call with a target that a call of the job reads
abbrev pub bars_among : ℕ → List (List Task) → List ℕ → List Task → ℕ → ℕ → Bool
bars_among places jobs waves job wave zero = false
bars_among places jobs waves job wave (suc place) = bars_among places jobs waves job wave place || (is_in places place && (slice_index waves place == wave && jobs_clash (job_at jobs place) job))

-- The plan has for each bucket the places of those of the first jobs, so many, that have a target in it.
pub record IsBlockPlan (plan : BlockPlan) (jobs : List (List Task)) (count : ℕ) : Type 0 where
  pub few_waves : (place : ℕ) → slice_index plan.waves place < 64
  pub held : (bucket place : ℕ) → place < count → is_in (slice_index plan.holders bucket) place ≡ has_target_in bucket (job_at jobs place)
  pub none_behind : (bucket place : ℕ) → count ≤ place → is_in (slice_index plan.holders bucket) place ≡ false
