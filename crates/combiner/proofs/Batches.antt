-- The batch of a pass.
-- `batch_pairs` says that what was taken may be run, `pass_batch` what running it comes to, and `few_waves` that a batch has no more
-- waves than calls.
use Rattle.std.proofs.Common.{◌≡◌, ◌≢◌, ◌⊎◌, inl, inr, ℕ, zero, suc, ◌+◌, ◌<◌, ◌≤◌, List, [], ◌∷◌, ◌++◌, length, map, None, sym, ap, ◌∙◌, subst, arith, length-append}
use Rattle.std.proofs.lemmas.List.{length-map}
use Rattle.std.specs.List.{AllByRecursion, AllPairs, slice_index_or}
use Rattle.vector_memory.specs.declared.bounds.Bounds.{Bounds}
use Rattle.cvl_text.specs.Tasks.{Task}
use Rattle.call_history.specs.declared.entry.Entry.{Entry}
use Rattle.call_history.specs.declared.request.Request.{Request}
use Rattle.call_history.specs.declared.request.Outcome.{Outcome}
use Rattle.call_history.specs.Fits.{request_by, returned}
use Rattle.call_history.specs.History.{Begins}
use Rattle.batch_flatten.specs.declared.ran.Ran.{Ran}
use Rattle.batch_flatten.specs.Batches.{AnswersAllSure, ServesInOrder}
use Rattle.batch_flatten.specs.Counts.{kernel_bound, wave_count}
use Rattle.batch_flatten.specs.Waves.{asked, count_of, wave_of, waves_behind}
use Rattle.batch_flatten.proofs.WaveLemmas.{wave_of-le}
use Rattle.request_slots.specs.Seating.{IsDistinct}
use Rattle.request_slots.proofs.RequestLists.{request_by-middle}
use Rattle.combiner.specs.Serving.{ServesBatch}

apart : (k : ℕ) (rs : List Request) → request_by k rs ≡ None → (j : ℕ) (d : Request) → j < length rs → k ≢ (slice_index_or rs j d).caller
apart k [] none j d lt = absurd (omega arith)
apart k (r ∷ rs) none zero d lt = (request_by-middle k r.caller [] rs r.job none).0
apart k (r ∷ rs) none (suc j) d lt = apart k rs (request_by-middle k r.caller [] rs r.job none).1 j d (omega arith)

pub batch_pairs : (rs : List Request) → IsDistinct rs → AllPairs (λ r s. r.caller ≢ s.caller) rs
batch_pairs [] distinct i j d lt within = absurd (omega arith)
batch_pairs (r ∷ rs) distinct zero zero d lt within = absurd (omega arith)
batch_pairs (r ∷ rs) distinct zero (suc j) d lt within = apart r.caller rs distinct.0 j d (omega arith)
batch_pairs (r ∷ rs) distinct (suc i) zero d lt within = absurd (omega arith)
batch_pairs (r ∷ rs) distinct (suc i) (suc j) d lt within = batch_pairs rs distinct.1 i j d (omega arith) (omega arith)

waves_behind-few : (before : List (ℕ × List Task)) (ts : List (List Task)) → count_of (waves_behind before ts) ≤ length before + length ts
waves_behind-few before [] = omega arith
waves_behind-few before (t ∷ ts) =
    let next : ℕ × List Task = (wave_of before t, t) in
    omega (arith, wave_of-le before t, waves_behind-few (before ++ next ∷ []) ts, length-append before (next ∷ []))

wave_count-few : (rs : List Request) → wave_count rs ≤ length rs
wave_count-few rs = omega (arith, waves_behind-few [] (map asked rs), length-map rs asked)

pub few_waves : {bounds : Bounds} {callers : ℕ} {before now : List Entry} {calls waves kernels : ℕ} → ServesBatch bounds callers before now calls waves kernels → waves ≤ calls
few_waves {now = now} {calls = calls} {waves = waves} {kernels = kernels} b = go b.waves_are
  where
    go : (waves ≡ wave_count b.requests) ⊎ ((waves ≡ 0) × (kernels ≡ 0) × (now ≡ b.line) × (b.outcomes ≡ map returned b.requests)) → waves ≤ calls
    go (inl all) = omega (arith, all, wave_count-few b.requests, b.counted)
    go (inr none) = omega (arith, none.0)

-- what a run of the batch says, where the history that it led to is the one that has been seen
pub pass_batch : (bounds : Bounds) (callers calls : ℕ) (before line book now : List Entry) (requests : List Request) (outcomes : List Outcome) (ran nothing : Ran) → nothing.waves ≡ 0 → nothing.kernels ≡ 0 → Begins before line → now ≡ book → length requests ≡ calls
    → IsDistinct requests → AllByRecursion (λ r. r.caller < callers) requests → ServesInOrder bounds line requests book outcomes
    → (ran.waves ≡ wave_count requests) ⊎ ((ran ≡ nothing) × (book ≡ line) × (outcomes ≡ map returned requests))
    → (0 < ran.waves → AnswersAllSure requests outcomes) → ran.kernels ≤ kernel_bound requests + ran.singles → ran.singles ≤ length requests
    → ServesBatch bounds callers before now calls ran.waves ran.kernels
pass_batch bounds callers calls before line book now requests outcomes ran nothing no_waves no_kernels begins seen counted distinct inside serves waves sure bound few = record {
  line = line;
  requests = requests;
  outcomes = outcomes;
  singles = ran.singles;
  begins = begins;
  counted = counted;
  distinct = distinct;
  inside = inside;
  serves = subst (λ (l : List Entry). ServesInOrder bounds line requests l outcomes) (sym seen) serves;
  waves_are = go waves;
  sure = sure;
  bound = bound;
  few_singles = omega (arith, few, counted);
}
  where
    go : (ran.waves ≡ wave_count requests) ⊎ ((ran ≡ nothing) × (book ≡ line) × (outcomes ≡ map returned requests))
        → (ran.waves ≡ wave_count requests) ⊎ ((ran.waves ≡ 0) × (ran.kernels ≡ 0) × (now ≡ line) × (outcomes ≡ map returned requests))
    go (inl all) = inl all
    go (inr none) = inr (ap (λ (r : Ran). r.waves) none.0 ∙ no_waves, ap (λ (r : Ran). r.kernels) none.0 ∙ no_kernels, seen ∙ none.1, none.2)
