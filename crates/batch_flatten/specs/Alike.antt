-- A batch of alike calls in one wave: each request is for a single call of one word, and none reads the target of an earlier one.
use Rattle.std.specs.Prelude.{◌≡◌, ◌≤◌, ◌+◌, ℕ, zero, suc, All, false, List, [], ◌∷◌, length, map, Option, None, Some, Result, Ok}
use Rattle.std.specs.List.{AllByRecursion}
use Rattle.scan_kernels.specs.Metering.{Metered}
use Rattle.vector_memory.specs.States.{State}
use Rattle.cvl_text.specs.declared.fault.Fault.{Fault}
use Rattle.cvl_text.specs.declared.word.Word.{Word}
use Rattle.cvl_text.specs.declared.call.Call.{Call}
use Rattle.cvl_text.specs.declared.reply.Reply.TheVariants as replies
use Rattle.cvl_text.specs.Tasks.{task_of}
use Rattle.cvl_calls.specs.Alike.{AreDone}
use Rattle.cvl_calls.specs.Outcomes.{Effect}
use Rattle.call_history.specs.Alike.{entered}
use Rattle.call_history.specs.declared.request.Job.{Job}
use Rattle.call_history.specs.declared.request.Job.TheVariants.{One, Many}
use Rattle.call_history.specs.declared.request.Request.{Request}
use Rattle.call_history.specs.declared.request.Outcome.{Outcome}
use Rattle.call_history.specs.declared.request.Outcome.TheVariants.{Answered}
use Rattle.call_history.specs.Books.{BookState, memory_of}
use Rattle.call_history.specs.Fits.{returned}
use Rattle.batch_flatten.specs.Waves.{asked, jobs_clash}
use Rattle.batch_flatten.specs.Batches.{AnswersAllSure, ServesInOrder}
use Rattle.batch_flatten.specs.Counts.{kernel_bound, wave_count, word_asked}
use Rattle.batch_flatten.specs.Joining.{work_back}

-- all requests are for single calls of this word, or the word is that of none
abbrev pub AreOfWord : Word → List Request → Type 0
AreOfWord word rs = All (λ r. word_asked r ≡ word) rs

-- what the single call of a request makes of the memory; of a block it is never asked
abbrev pub work_asked : State → Request → Result Effect Fault
work_asked m r = work_back m (Some (returned r))

-- the effects are what the calls of the requests make of the memory, in their order
abbrev pub AreMadeOf : State → List Request → List Effect → Type 0
AreMadeOf m rs effects = map (λ effect. Ok effect) effects ≡ map (work_asked m) rs

-- no later request reads the target of an earlier one
abbrev pub AllApart : List Request → Type 0
AllApart [] = Unit {0}
AllApart (r ∷ rs) = AllByRecursion (λ s. jobs_clash (asked r) (asked s) ≡ false) rs × AllApart rs

-- the job is a single call
abbrev pub IsCall : Job → Type 0
IsCall (One call) = Unit {0}
IsCall (Many calls) = ⊥

-- the request is for a single call
abbrev pub IsForCall : Request → Type 0
IsForCall r = IsCall r.job

-- The requests were served in one wave, and so many of them by themselves though they were to be joined.
pub record ServesAlike (old new : BookState) (requests : List Request) (outcomes : List Outcome) (singles : ℕ) (before after : Metered) : Type 0 where
  pub serves : ServesInOrder old.bounds old.history requests new.history outcomes
  pub bounds : new.bounds ≡ old.bounds
  pub one_wave : wave_count requests ≡ 1
  pub sure : AnswersAllSure requests outcomes
  pub rises : before.runs ≤ after.runs
  pub bound : after.runs ≤ before.runs + kernel_bound requests + singles
  pub few_singles : singles ≤ length requests
  pub kernels : after ≡ record before { runs = after.runs }

-- the outcome of a call that stands at this place, and whose value was stored, or refused by a fault
abbrev pub answered_at : ℕ → Option Fault → Outcome
answered_at place None = Answered place replies.Done
answered_at place (Some fault) = Answered place (replies.Fault fault)

-- so many outcomes of calls that are done, at places one behind another
abbrev pub done_from : ℕ → ℕ → List Outcome
done_from place zero = []
done_from place (suc count) = Answered place replies.Done ∷ done_from (place + 1) count

-- The single calls of the requests ran behind the history, one after another, and each is done.
pub record RunTogether (old new : BookState) (requests : List Request) : Type 0 where
  pub calls : List Call
  pub asked : map (λ c. One c) calls ≡ map (λ r. r.job) requests
  pub entries : new.history ≡ entered old.history (map (λ r. r.caller) requests) calls
  pub done : AreDone (memory_of old) (map task_of calls)
