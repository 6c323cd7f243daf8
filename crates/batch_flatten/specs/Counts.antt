-- How many kernels a batch may run.
use Rattle.std.specs.Prelude.{◌≡◌, ◌≢◌, ◌⊎◌, true, ℕ, ◌+◌, Bool, List, [], ◌∷◌, filter, length, map, slice_index, sum, sum_by, Option, Some, None, if◌then◌else◌}
use Rattle.std.specs.List.{list_any, range_with_len}
use Rattle.scan_kernels.specs.Metering.{Metered, raised}
use Rattle.cvl_text.specs.declared.word.Word.{Word}
use Rattle.cvl_text.specs.declared.word.Word.TheVariants.{SetInts}
use Rattle.cvl_text.specs.contracts.word.WordPartialEq.TheImpl.{ghosts}
use Rattle.cvl_text.specs.Tasks.{task_of}
use Rattle.cvl_calls.specs.Runs.{runs_kernel}
pub use Rattle.call_history.specs.Blocks.{RisesBy}
use Rattle.call_history.specs.declared.request.Job.{Job}
use Rattle.call_history.specs.declared.request.Job.TheVariants.{One, Many}
use Rattle.call_history.specs.declared.request.Request.{Request}
use Rattle.call_history.specs.declared.request.Outcome.{Outcome}
use Rattle.call_history.specs.declared.request.Outcome.TheVariants.{Answered, Refused, AnsweredBlock, RefusedBlock}
use Rattle.call_history.specs.declared.work.Work.{Work}
use Rattle.batch_flatten.specs.declared.turn.Turn.{Turn}
use Rattle.batch_flatten.specs.declared.turn.Turn.TheVariants.{Open, Single}
use Rattle.batch_flatten.specs.Batches.{calls_back}
use Rattle.batch_flatten.specs.Waves.{asked, count_of, in_wave, waves_of}

-- how many waves the requests have
abbrev pub wave_count : List Request → ℕ
wave_count requests = count_of (waves_of (map asked requests))

-- two words are one
abbrev pub is_same_word : Word → Word → Bool
is_same_word a b = ghosts.eq a b

-- the word is one of these
abbrev pub is_one_of : List Word → Word → Bool
is_one_of words word = list_any (λ w. is_same_word w word) words

-- how many different words there are: of each the last one counts
abbrev pub different : List Word → ℕ
different [] = 0
different (w ∷ ws) = if is_one_of ws w then different ws else 1 + different ws

-- how many different words there are that run kernels
abbrev pub different_kernels : List Word → ℕ
different_kernels words = different (filter runs_kernel words)

-- the word of a single call; a block has one that runs no kernel, since its calls are not joined with others
abbrev pub word_of_job : Job → Word
word_of_job (One call) = (task_of call).word
word_of_job (Many calls) = SetInts

abbrev pub word_asked : Request → Word
word_asked r = word_of_job r.job

-- how many calls run as a block
abbrev pub block_size : Job → ℕ
block_size (One call) = 0
block_size (Many calls) = length calls.items

abbrev pub size_asked : Request → ℕ
size_asked r = block_size r.job

-- the different words of each of so many waves, and the calls of its blocks, summed over them
abbrev pub kernels_below : List ℕ → List Word → List ℕ → ℕ → ℕ
kernels_below ws words sizes waves = sum_by (λ wave. different_kernels (in_wave wave ws words) + sum (in_wave wave ws sizes)) (range_with_len 0 waves)

-- The greatest number of kernels that a batch runs where all its single calls are joined: in each wave one for each word of a
-- single call, and one for each call of a block.
abbrev pub kernel_bound : List Request → ℕ
kernel_bound requests = kernels_below (waves_of (map asked requests)) (map word_asked requests) (map size_asked requests) (wave_count requests)

-- a call runs one kernel, or none
abbrev pub kernels_of : Bool → ℕ
kernels_of kernel = if kernel then 1 else 0

-- the greatest number of kernels that a job runs by itself
abbrev pub kernels_of_job : Job → ℕ
kernels_of_job job = kernels_of (runs_kernel (word_of_job job)) + block_size job

-- how many calls are back as a block
abbrev pub size_back : Outcome → ℕ
size_back (Answered place reply) = 0
size_back (Refused call) = 0
size_back (AnsweredBlock place replies) = 0
size_back (RefusedBlock calls) = length calls.items

abbrev pub sizes_back : List Outcome → List ℕ
sizes_back outcomes = map size_back outcomes

-- how many calls are back as a block at a place
abbrev pub size_at : List Outcome → ℕ → ℕ
size_at outcomes place = slice_index (sizes_back outcomes) place

-- how many calls are back together
abbrev pub count_back : List Outcome → ℕ
count_back outcomes = sum_by (λ o. length (calls_back o)) outcomes

-- A call that is back and runs by itself runs its kernel; one whose work was done before runs none. Each call of a block runs its kernel.
abbrev pub CountsTurn : Option Outcome → Option Work → Metered → Metered → Type 0
CountsTurn (Some (Refused call)) None old new = RisesBy (kernels_of (runs_kernel (task_of call).word)) old new
CountsTurn (Some (RefusedBlock calls)) work old new = RisesBy (length calls.items) old new
CountsTurn outcome work old new = new ≡ old

-- Joining ran one kernel or none, and one only for a call that runs kernels, and that was open and is not any more.
abbrev pub CountsJoin : Bool → Option Turn → Option Turn → Metered → Metered → Type 0
CountsJoin kernel before after old new = (new ≡ old) ⊎ ((new ≡ raised old) × (kernel ≡ true) × (before ≡ Some Open) × (after ≢ Some Open))

-- a call that runs by itself though it was to be joined
abbrev pub single_of : Turn → ℕ
single_of Single = 1
single_of turn = 0
