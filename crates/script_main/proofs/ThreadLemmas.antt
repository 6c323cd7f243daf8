-- Lists of workers. `zip_more` and `zip_then` are of lists whose members go together place by place; `ended` says how a
-- worker ends whose thread was started and joined.
use Rattle.std.proofs.Common.{◌≡◌, ℕ, suc, Bool, List, [], ◌∷◌, ◌++◌, sym, ap, ◌∙◌, subst, arith, append_assoc, Result}
use Rattle.std.specs.Prelude.{All}
use Rattle.std.specs.List.{AllZip}
use Rattle.std.proofs.lemmas.Slice.Zip.{all_zipped_more}
use Rattle.vector_memory.specs.declared.bounds.Bounds.{Bounds}
use Rattle.call_history.specs.declared.request.Job.{Job}
use Rattle.combiner.specs.Standing.{Machine}
use Rattle.script_lines.specs.declared.fault.RunFault.{RunFault}
use Rattle.script_main.specs.declared.work.Worked.{Worked}
use Rattle.script_main.specs.declared.threads.Worker.{Worker}
use Rattle.script_main.specs.declared.threads.Started.{Started}
use Rattle.script_main.specs.declared.threads.Started.TheVariants.{Runs, Refused}
use Rattle.script_main.specs.Workers.{Ends, IsEndOf, IsStarted, IsJoined}

pub zip_more : {A B : Type 0} (R : A → B → Type 0) (whole rest others : List A) (x : A) (ys : List B) (y : B) → rest ≡ x ∷ others → (done : List A) × (whole ≡ done ++ rest) × AllZip R done ys → R x y
    → (done : List A) × (whole ≡ done ++ others) × AllZip R done (ys ++ y ∷ [])
zip_more R whole rest others x ys y next had related =
    (had.0 ++ x ∷ [], had.1 ∙ (ap (λ l. had.0 ++ l) next ∙ sym (append_assoc had.0 (x ∷ []) others)), all_zipped_more R had.0 ys x y had.2 related)

pub all_rest : {A : Type 0} (P : A → Type 0) (rest others : List A) (x : A) → rest ≡ x ∷ others → All P rest → All P others
all_rest P rest others x next all = λ k d lt. let both : All P (x ∷ others) = subst (All P) next all in both (suc k) d (omega arith)

pub all_first : {A : Type 0} (P : A → Type 0) (rest others : List A) (x : A) → rest ≡ x ∷ others → All P rest → P x
all_first P rest others x next all = let both : All P (x ∷ others) = subst (All P) next all in both 0 x (omega arith)

zip_then : {A B C : Type 0} (R : A → B → Type 0) (S : B → C → Type 0) (T : A → C → Type 0) (xs : List A) (ys : List B) (zs : List C) → ((x : A) (y : B) (z : C) → R x y → S y z → T x z)
    → AllZip R xs ys → AllZip S ys zs → AllZip T xs zs
zip_then R S T [] [] [] then r s = tt
zip_then R S T [] [] (z ∷ zs) then r s = absurd s
zip_then R S T [] (y ∷ ys) zs then r s = absurd r
zip_then R S T (x ∷ xs) [] zs then r s = absurd r
zip_then R S T (x ∷ xs) (y ∷ ys) [] then r s = absurd s
zip_then R S T (x ∷ xs) (y ∷ ys) (z ∷ zs) then r s = (then x y z r.0 s.0, zip_then R S T xs ys zs then r.1 s.1)

ended : {G : Type 0} (may_answer : G → ℕ → ℕ → Bool → Type 0) (gate : G) (m : Machine) (bounds : Bounds) (worker : Worker) (started : Started G) (end : Result Worked RunFault) → IsStarted gate m bounds worker started
    → IsJoined may_answer started end → IsEndOf (may_answer gate) m bounds worker end
ended {G = G} may_answer gate m bounds worker (Runs handle) end is joined =
    subst (λ (z : G × Machine × Bounds × ℕ × (List Job)). Ends (may_answer z.0) z.1 z.2 z.3 z.4 end) (λ i. (is.0 i, is.1 i, is.2 i, is.3 i, is.4 i)) joined
ended may_answer gate m bounds worker Refused end is joined = subst (IsEndOf (may_answer gate) m bounds worker) (sym joined) (record { done = tt; gated = tt })

pub all_ended : {G : Type 0} (may_answer : G → ℕ → ℕ → Bool → Type 0) (gate : G) (m : Machine) (bounds : Bounds) (workers : List Worker) (started : List (Started G)) (ends : List (Result Worked RunFault))
    → AllZip (IsStarted gate m bounds) workers started → AllZip (IsJoined may_answer) started ends → AllZip (IsEndOf (may_answer gate) m bounds) workers ends
all_ended may_answer gate m bounds workers started ends s j =
    zip_then (IsStarted gate m bounds) (IsJoined may_answer) (IsEndOf (may_answer gate) m bounds) workers started ends (λ worker thread end. ended may_answer gate m bounds worker thread end) s j
