-- What the ends of workers say of their gate. `finishes`: where all did their
-- scripts it may have let them; `faults`: the fault of a run is one that it may lead to.
use Rattle.std.proofs.Common.{inl, inr, ◌≡◌, ℕ, zero, suc, ◌+◌, ◌<◌, Bool, List, [], ◌∷◌, ◌++◌, map, length, slice_index_or, Result, Ok, Err, sym, ◌∙◌, subst, arith, zero-add}
use Rattle.std.specs.Prelude.{OnOk, IfErr}
use Rattle.call_history.specs.declared.request.Job.{Job}
use Rattle.script_lines.specs.declared.fault.RunFault.{RunFault}
use Rattle.script_lines.specs.declared.fault.RunFault.TheVariants as stops
use Rattle.script_main.specs.declared.settled.Settled.{Settled}
use Rattle.script_main.specs.declared.work.Worked.{Worked}
use Rattle.script_main.specs.Gates.{MayPass, MayStop, MayFinish, MayStopFirst}
use Rattle.script_main.specs.Settles.{IsThreadsFault}
use Rattle.script_main.specs.Workers.{EachAt, IsWorkFault, IsGated, AreGated, AllWorked, IsSettleFault}

module _ (may_answer : ℕ → ℕ → Bool → Type 0) where
  abbrev GatedFrom : ℕ → List (List Job) → List (Result Worked RunFault) → Type 0
  GatedFrom k scripts ends = EachAt (λ k script end. IsGated may_answer k (length script) end) k scripts ends

  -- worker k + j may do the script that stands at j
  abbrev PassesAt : ℕ → List (List Job) → ℕ → Type 0
  PassesAt k scripts j = MayPass may_answer (k + j) (length (slice_index_or scripts j []))

passes_first : (may_answer : ℕ → ℕ → Bool → Type 0) (k : ℕ) (script : List Job) (scripts : List (List Job)) → MayPass may_answer k (length script) → PassesAt may_answer k (script ∷ scripts) 0
passes_first may_answer k script scripts h = subst (λ (n : ℕ). MayPass may_answer n (length script)) (omega arith) h

passes_later : (may_answer : ℕ → ℕ → Bool → Type 0) (k j : ℕ) (script : List Job) (scripts : List (List Job)) → PassesAt may_answer (k + 1) scripts j → PassesAt may_answer k (script ∷ scripts) (suc j)
passes_later may_answer k j script scripts h = subst (λ (n : ℕ). MayPass may_answer n (length (slice_index_or scripts j []))) (omega arith) h

passes_all : (may_answer : ℕ → ℕ → Bool → Type 0) (k : ℕ) (scripts : List (List Job)) (workers : List Worked) → GatedFrom may_answer k scripts (map Ok workers) → (j : ℕ) → PassesAt may_answer k scripts j
passes_all may_answer k [] [] each j = λ turn lt. absurd (omega arith)
passes_all may_answer k [] (w ∷ ws) each j = absurd each
passes_all may_answer k (s ∷ ss) [] each j = absurd each
passes_all may_answer k (s ∷ ss) (w ∷ ws) each zero = passes_first may_answer k s ss each.0
passes_all may_answer k (s ∷ ss) (w ∷ ws) each (suc j) = passes_later may_answer k j s ss (passes_all may_answer (k + 1) ss ws each.1 j)

-- the workers that ended before the first fault, and that fault
record IsFirst (may_answer : ℕ → ℕ → Bool → Type 0) (k : ℕ) (scripts : List (List Job)) (n : ℕ) (fault : RunFault) : Type 0 where
  there : n < length scripts
  fault_is : IsWorkFault may_answer (k + n) (length (slice_index_or scripts n [])) fault
  lower : (j : ℕ) → j < n → PassesAt may_answer k scripts j

first_at : (may_answer : ℕ → ℕ → Bool → Type 0) (k : ℕ) (scripts : List (List Job)) (before : List Worked) (fault : RunFault) (behind : List (Result Worked RunFault))
    → GatedFrom may_answer k scripts (map Ok before ++ Err fault ∷ behind) → IsFirst may_answer k scripts (length before) fault
first_at may_answer k [] [] fault behind each = absurd each
first_at may_answer k [] (w ∷ ws) fault behind each = absurd each
first_at may_answer k (s ∷ ss) [] fault behind each = record {
  there = omega arith;
  fault_is = subst (λ (n : ℕ). IsWorkFault may_answer n (length s) fault) (omega arith) each.0;
  lower = λ j lt. absurd (omega arith);
}
first_at may_answer k (s ∷ ss) (w ∷ ws) fault behind each = go (first_at may_answer (k + 1) ss ws fault behind each.1)
  where
    lowers : ((j : ℕ) → j < length ws → PassesAt may_answer (k + 1) ss j) → (j : ℕ) → j < suc (length ws) → PassesAt may_answer k (s ∷ ss) j
    lowers others zero lt = passes_first may_answer k s ss each.0
    lowers others (suc j) lt = passes_later may_answer k j s ss (others j (omega arith))

    go : IsFirst may_answer (k + 1) ss (length ws) fault → IsFirst may_answer k (s ∷ ss) (suc (length ws)) fault
    go first = record {
      there = omega (arith, first.there);
      fault_is = subst (λ (n : ℕ). IsWorkFault may_answer n (length (slice_index_or ss (length ws) [])) fault) (omega arith) first.fault_is;
      lower = lowers first.lower;
    }

from_0 : (may_answer : ℕ → ℕ → Bool → Type 0) (scripts : List (List Job)) (j : ℕ) → PassesAt may_answer 0 scripts j → MayFinish may_answer scripts j
from_0 may_answer scripts j h = subst (λ (k : ℕ). MayPass may_answer k (length (slice_index_or scripts j []))) (zero-add j) h

first_fault : (may_answer : ℕ → ℕ → Bool → Type 0) (scripts : List (List Job)) (n : ℕ) (fault : RunFault) → IsFirst may_answer 0 scripts n fault → IsThreadsFault may_answer scripts fault
first_fault may_answer scripts n (stops.Stopped worker) first =
    subst (MayStopFirst may_answer scripts) (sym (first.fault_is.0 ∙ zero-add n))
    (record {
      there = first.there;
      stops = subst (λ (k : ℕ). MayStop may_answer k (length (slice_index_or scripts n []))) (zero-add n) first.fault_is.1;
      lower = λ j lt. from_0 may_answer scripts j (first.lower j lt);
    })
first_fault may_answer scripts n stops.OutOfMemory first = tt
first_fault may_answer scripts n (stops.BadLine number) first = absurd first.fault_is
first_fault may_answer scripts n stops.Read first = absurd first.fault_is
first_fault may_answer scripts n stops.Write first = absurd first.fault_is
first_fault may_answer scripts n stops.Unfinished first = absurd first.fault_is

fault_of : (may_answer : ℕ → ℕ → Bool → Type 0) (scripts : List (List Job)) (ends : List (Result Worked RunFault)) (n : ℕ) (fault : RunFault) → AreGated may_answer scripts ends → n ≡ length scripts
    → IsSettleFault n ends fault → IsThreadsFault may_answer scripts fault
fault_of may_answer scripts ends n fault each size (inl (inr first)) =
    first_fault may_answer scripts (length first.before) fault (first_at may_answer 0 scripts first.before fault first.behind (subst (GatedFrom may_answer 0 scripts) first.ends_are each))
fault_of may_answer scripts ends n fault each size (inl (inl memory)) = subst (IsThreadsFault may_answer scripts) (sym memory) tt
fault_of may_answer scripts ends n fault each size (inr (unfinished, many)) = subst (IsThreadsFault may_answer scripts) (sym unfinished) (omega (arith, many, size))

pub faults : (may_answer : ℕ → ℕ → Bool → Type 0) (scripts : List (List Job)) (ends : List (Result Worked RunFault)) (n : ℕ) (result : Result Settled RunFault) → AreGated may_answer scripts ends → n ≡ length scripts
    → IfErr result (IsSettleFault n ends) → IfErr result (IsThreadsFault may_answer scripts)
faults may_answer scripts ends n (Ok run) each size h = tt
faults may_answer scripts ends n (Err fault) each size h = fault_of may_answer scripts ends n fault each size h

pub finishes : (may_answer : ℕ → ℕ → Bool → Type 0) (scripts : List (List Job)) (ends : List (Result Worked RunFault)) (result : Result Settled RunFault) → AreGated may_answer scripts ends
    → OnOk result (AllWorked ends) → OnOk result ((k : ℕ) → MayFinish may_answer scripts k)
finishes may_answer scripts ends (Err fault) each worked = tt
finishes may_answer scripts ends (Ok run) each worked = λ k. from_0 may_answer scripts k (passes_all may_answer 0 scripts worked.0 (subst (GatedFrom may_answer 0 scripts) worked.1 each) k)
