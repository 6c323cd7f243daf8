-- What a pass does to the history: it serves one batch.
use Rattle.std.specs.Prelude.{◌≡◌, ◌⊎◌, ℕ, ◌+◌, ◌<◌, ◌≤◌, List, length, map}
use Rattle.std.specs.List.{AllByRecursion}
use Rattle.vector_memory.specs.declared.bounds.Bounds.{Bounds}
use Rattle.call_history.specs.declared.entry.Entry.{Entry}
use Rattle.call_history.specs.declared.request.Request.{Request}
use Rattle.call_history.specs.declared.request.Outcome.{Outcome}
use Rattle.call_history.specs.Fits.{returned}
use Rattle.call_history.specs.History.{Begins}
use Rattle.batch_flatten.specs.Batches.{AnswersAllSure, ServesInOrder}
use Rattle.batch_flatten.specs.Counts.{kernel_bound, wave_count}
use Rattle.request_slots.specs.Seating.{IsDistinct}

-- So many calls of distinct callers were served, wave after wave, behind a history that begins with what had been seen; what is
-- seen now is the history then. They had so many waves, and so many kernels ran. Where the history could not be reserved, all
-- came back, and the waves are none.
pub record ServesBatch (bounds : Bounds) (callers : ℕ) (before now : List Entry) (calls waves kernels : ℕ) : Type 0 where
  pub line : List Entry
  pub requests : List Request
  pub outcomes : List Outcome
  pub singles : ℕ
  pub begins : Begins before line
  pub counted : length requests ≡ calls
  pub distinct : IsDistinct requests
  pub inside : AllByRecursion (λ r. r.caller < callers) requests
  pub serves : ServesInOrder bounds line requests now outcomes
  pub waves_are : (waves ≡ wave_count requests) ⊎ ((waves ≡ 0) × (kernels ≡ 0) × (now ≡ line) × (outcomes ≡ map returned requests))
  pub sure : 0 < waves → AnswersAllSure requests outcomes
  pub bound : kernels ≤ kernel_bound requests + singles
  pub few_singles : singles ≤ calls
