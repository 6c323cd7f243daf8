-- A batch of one request: its wave is the first, and the turn of its job is all that is done.
use Rattle.std.proofs.Common.{◌≡◌, ◌<◌, length, ℕ, zero, suc, List, [], ◌∷◌, Some, slice_get, refl, sym, subst, arith}
use Rattle.vector_memory.specs.declared.bounds.Bounds.{Bounds}
use Rattle.call_history.specs.declared.entry.Entry.{Entry}
use Rattle.call_history.specs.declared.request.Job.{Job}
use Rattle.call_history.specs.declared.request.Job.TheVariants.{One, Many}
use Rattle.call_history.specs.declared.request.Request.{Request}
use Rattle.call_history.specs.declared.request.Outcome.{Outcome}
use Rattle.call_history.specs.Blocks.{Whole}
use Rattle.call_history.specs.Books.{BookState}
use Rattle.call_history.specs.Fits.{request, returned, IsAskedAt, handed_back}
use Rattle.batch_flatten.specs.Batches.{RunsJob, ServesInOrder}
use Rattle.batch_flatten.specs.Serving.{AreAskedBy, RunsBack, Serving}
use Rattle.batch_flatten.proofs.ServingLemmas.{serving_end, serving_start, serving_turn}

-- the first of fewer than two is the only one
pub only-one : (rs : List Request) (r : Request) → Some r ≡ slice_get rs 0 → length rs < 2 → rs ≡ r ∷ []
only-one [] r there few = absurd cc
only-one (q ∷ []) r there few = cc
only-one (q ∷ p ∷ rs) r there few = absurd (omega arith)

asked-once : (r : Request) → AreAskedBy (r ∷ []) (r.caller ∷ [])
asked-once r = record { callers_are = refl; each = each }
  where
    each : (i k : ℕ) (job : Job) → slice_get (r ∷ []) i ≡ Some (request k job) → IsAskedAt (r ∷ []) i k job
    each zero k job there = record { there = there; first = refl }
    each (suc i) k job there = absurd cc

pub runs-back : (old new : BookState) (k : ℕ) (job : Job) (o : Outcome) → RunsJob old new k job o → RunsBack old new k (handed_back job) o
runs-back old new k (One call) o runs = runs
runs-back old new k (Many calls) o runs = runs

served : (bounds : Bounds) (line : List Entry) (r : Request) (old new : BookState) (o : Outcome) → Whole line → old.bounds ≡ bounds → old.history ≡ line → RunsJob old new r.caller r.job o
    → ServesInOrder bounds line (r ∷ []) new.history (o ∷ [])
served bounds line r old new o whole rooms lines ran =
    let start = subst (λ (l : List Entry). Serving bounds line (r ∷ []) [] l (returned r ∷ [])) (sym lines) (serving_start bounds line (r ∷ []) whole) in
    let turn = serving_turn bounds line (r ∷ []) (r.caller ∷ []) [] 0 old new (returned r ∷ []) (returned r) o rooms (omega arith) (asked-once r) tt refl (runs-back old new r.caller r.job o ran) start in
    serving_end bounds line (r ∷ []) (0 ∷ []) new.history (o ∷ []) refl refl turn

-- the turn of the one job, on a book as it was
pub alone-served : (bounds : Bounds) (line : List Entry) (rs : List Request) (os : List Outcome) (r : Request) (old new : BookState) (o : Outcome) → rs ≡ r ∷ [] → os ≡ o ∷ [] → Whole line
    → old.bounds ≡ bounds → old.history ≡ line → RunsJob old new r.caller r.job o → ServesInOrder bounds line rs new.history os
alone-served bounds line rs os r old new o asked said whole rooms lines ran =
    subst (λ (z : List Request × (List Outcome)). ServesInOrder bounds line z.0 new.history z.1) (λ j. (sym asked j, sym said j)) (served bounds line r old new o whole rooms lines ran)
