use Rattle.std.proofs.Common.{◌≡◌, ◌≤◌, All, ℕ, List, Ok, true, length, map, take, vec_len}
use Rattle.vector_memory.specs.States.{State}
use Rattle.cvl_text.specs.declared.word.Word.{Word}
use Rattle.cvl_calls.specs.Outcomes.{effect_of}
use Rattle.cvl_calls.specs.Runs.{runs_kernel}
use Rattle.call_history.specs.declared.request.Outcome.{Outcome}
use Rattle.batch_flatten.specs.Joining.{ArePrepared, ClosesOnly, work_at, word_at}
use Rattle.batch_flatten.proofs.joining.put_all.Given as goal

abbrev pub invariant-loop-product : goal.invariant-loop-product
invariant-loop-product l = record {
  few : vec_len l.products ≤ 64;
  placed : (words : List Word) (word : Word) → All (λ b. word_at words b ≡ word) (take (length l.fn.products.items) l.positions) → All (λ b. word_at words b ≡ word) (take (length l.products.items) l.positions);
  closes : (words : List Word) (word : Word) → All (λ b. word_at words b ≡ word) (take (length l.fn.products.items) l.positions) → ClosesOnly words word l.fn.turns l.turns;
  made : (m : State) (outcomes : List Outcome) (places : List ℕ) → map (λ p. Ok (effect_of p)) l.fn.products.items ≡ map (work_at m outcomes places) (take (length l.fn.products.items) l.positions)
      → map (λ p. Ok (effect_of p)) l.products.items ≡ map (work_at m outcomes places) (take (length l.products.items) l.positions);
  prepared : (m : State) (outcomes : List Outcome) (places : List ℕ) (words : List Word) (word : Word) (first : ℕ) → All (λ b. word_at words b ≡ word) (take (length l.fn.products.items) l.positions) → runs_kernel word ≡ true
      → map (λ p. Ok (effect_of p)) l.fn.products.items ≡ map (work_at m outcomes places) (take (length l.fn.products.items) l.positions)
      → ArePrepared m outcomes places words l.fn.turns l.fn.works.items first → ArePrepared m outcomes places words l.turns l.works.items first;
}

abbrev pub decreases-loop-product : goal.decreases-loop-product
decreases-loop-product l = length l.products.items
