-- The callers of a batch are noted one by one (`below-none`, `below-set`), each a number that a caller may have
-- (`lawful-get`). A job has few calls (`few-calls`).
use Rattle.std.proofs.Common.{ℕ, zero, suc, ◌<◌, ◌≤◌, List, [], ◌∷◌, length, arith, get_or, replicate, set, slice_index}
use Rattle.std.specs.List.{AllByRecursion}
use Rattle.call_history.specs.declared.request.Job.{Job}
use Rattle.call_history.specs.declared.request.Job.TheVariants.{One, Many}
use Rattle.call_history.specs.declared.request.Request.{Request}
use Rattle.call_history.specs.Fits.{IsLawfulJob, calls_of}
use Rattle.batch_flatten.specs.Places.{AreBelow}

zeros-below : (n i : ℕ) → slice_index (replicate n 0) i < 64
zeros-below zero i = omega arith
zeros-below (suc n) zero = omega arith
zeros-below (suc n) (suc i) = zeros-below n i

pub below-none : AreBelow 64 (replicate 64 0)
below-none i = zeros-below 64 i

pub below-set : (callers : List ℕ) (i k : ℕ) → k < 64 → AreBelow 64 callers → AreBelow 64 (set callers i k)
below-set [] i k lt all j = all j
below-set (c ∷ callers) zero k lt all zero = lt
below-set (c ∷ callers) zero k lt all (suc j) = all (suc j)
below-set (c ∷ callers) (suc i) k lt all zero = all zero
below-set (c ∷ callers) (suc i) k lt all (suc j) = below-set callers i k lt (λ n. all (suc n)) j

pub lawful-get : (rs : List Request) (i : ℕ) (d : Request) → AllByRecursion (λ r. r.caller < 64) rs → i < length rs → (get_or rs i d).caller < 64
lawful-get [] i d all lt = absurd (omega arith)
lawful-get (r ∷ rs) zero d all lt = all.0
lawful-get (r ∷ rs) (suc i) d all lt = lawful-get rs i d all.1 (omega arith)

few-of : (job : Job) → IsLawfulJob job → length (calls_of job) ≤ 1024
few-of (One call) lawful = omega arith
few-of (Many calls) lawful = lawful.1

-- a job of the batch has at most so many calls
pub few-calls : (rs : List Request) (i : ℕ) (d : Request) → AllByRecursion (λ r. IsLawfulJob r.job) rs → i < length rs → length (calls_of (get_or rs i d).job) ≤ 1024
few-calls [] i d all lt = absurd (omega arith)
few-calls (r ∷ rs) zero d all lt = few-of r.job all.0
few-calls (r ∷ rs) (suc i) d all lt = few-calls rs i d all.1 (omega arith)
