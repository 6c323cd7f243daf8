-- Workers, and how they end. `newcomers_length` counts the callers of a machine, `workers_ready`: each worker is ready;
-- `ends_each`: the worker of each worker ends as the one with its number and script, and as its gate may let it; `ends_size` counts them.
use Rattle.std.proofs.Common.{◌≡◌, ℕ, zero, suc, ◌+◌, Bool, List, [], ◌∷◌, ◌++◌, map, length, Vec, Result, Ok, Err, refl, sym, ap, ◌∙◌, subst, arith, length-append}
use Rattle.std.specs.Prelude.{All, IfOk}
use Rattle.std.specs.Global.{Global}
use Rattle.std.specs.List.{AllZip}
use Rattle.std.proofs.lemmas.Slice.Zip.{AllZip-long}
use Rattle.std.proofs.lemmas.List.{length-map}
use Rattle.vector_memory.specs.declared.bounds.Bounds.{Bounds}
use Rattle.call_history.specs.declared.request.Job.{Job}
use Rattle.combiner.specs.Standing.{Machine, Standing, newcomer, newcomers, IsNewAt}
use Rattle.script_lines.specs.declared.fault.RunFault.{RunFault}
use Rattle.script_lines.specs.Readings.{AreLawful}
use Rattle.script_main.specs.declared.settled.Settled.{Settled}
use Rattle.script_main.specs.declared.work.Worked.{Worked}
use Rattle.script_main.specs.declared.threads.Worker.{Worker}
use Rattle.script_main.specs.Settles.{IsSettled}
use Rattle.script_main.specs.Workers.{IsEnd, IsGated, IsReady, Ends, IsEndOf, EachAt, AreEnds, AreGated}

pub callers_for : (m : Machine) (bounds bounds' : Bounds) (n : ℕ) (callers : List Standing) → bounds ≡ bounds' → callers ≡ newcomers m bounds' n → callers ≡ newcomers m bounds n
callers_for m bounds bounds' n callers same are = are ∙ ap (λ (b : Bounds). newcomers m b n) (sym same)

pub newcomers_length : (m : Machine) (bounds : Bounds) (n : ℕ) → length (newcomers m bounds n) ≡ n
newcomers_length m bounds zero = refl
newcomers_length m bounds (suc n) =
    let others = newcomers_length m bounds n in let both = length-append (newcomers m bounds n) (newcomer m bounds n ∷ []) in omega (arith, others, both)

new_workers : (m : Machine) (bounds : Bounds) (workers : List Worker) → All (IsNewAt m bounds) (map (λ (worker : Worker). worker.caller) workers)
    → AreLawful (map (λ (own : Vec Job Global). own.items) (map (λ (worker : Worker). worker.script) workers)) → All (IsReady m bounds) workers
new_workers m bounds [] all lawful = λ k d lt. absurd (omega arith)
new_workers m bounds (w ∷ ws) all lawful = go (new_workers m bounds ws (λ k d lt. all (suc k) d (omega arith)) (λ k. lawful (suc k)))
  where
    go : All (IsReady m bounds) ws → All (IsReady m bounds) (w ∷ ws)
    go others zero d lt = record { new = all 0 w.caller (omega arith); lawful = lawful 0 }
    go others (suc k) d lt = others k d (omega arith)

pub workers_ready : (m : Machine) (bounds : Bounds) (workers : List Worker) (callers : List Standing) (scripts : List (Vec Job Global)) → map (λ (worker : Worker). worker.caller) workers ≡ callers
    → map (λ (worker : Worker). worker.script) workers ≡ scripts → All (IsNewAt m bounds) callers → AreLawful (map (λ (own : Vec Job Global). own.items) scripts) → All (IsReady m bounds) workers
workers_ready m bounds workers callers scripts is are all lawful =
    new_workers m bounds workers (subst (All (IsNewAt m bounds)) (sym is) all) (subst (λ (vs : List (Vec Job Global)). AreLawful (map (λ (own : Vec Job Global). own.items) vs)) (sym are) lawful)

-- callers with the numbers from k on
abbrev AreNumbered : ℕ → List Standing → Type 0
AreNumbered k [] = Unit {0}
AreNumbered k (c ∷ cs) = (c.number ≡ k) × AreNumbered (k + 1) cs

numbered_more : (k : ℕ) (cs : List Standing) (c : Standing) → AreNumbered k cs → c.number ≡ k + length cs → AreNumbered k (cs ++ c ∷ [])
numbered_more k [] c each is = (is ∙ omega arith, tt)
numbered_more k (d ∷ ds) c each is = (each.0, numbered_more (k + 1) ds c each.1 (is ∙ omega arith))

newcomers_numbered : (m : Machine) (bounds : Bounds) (n : ℕ) → AreNumbered 0 (newcomers m bounds n)
newcomers_numbered m bounds zero = tt
newcomers_numbered m bounds (suc n) = let size = newcomers_length m bounds n in numbered_more 0 (newcomers m bounds n) (newcomer m bounds n) (newcomers_numbered m bounds n) (omega (arith, size))

ends_from : (may_answer : ℕ → ℕ → Bool → Type 0) (m : Machine) (bounds : Bounds) (k : ℕ) (workers : List Worker) (scripts : List (Vec Job Global)) (ends : List (Result Worked RunFault)) → AreNumbered k (map (λ (worker : Worker). worker.caller) workers)
    → map (λ (worker : Worker). worker.script) workers ≡ scripts → AllZip (IsEndOf may_answer m bounds) workers ends → EachAt (Ends may_answer m bounds) k (map (λ (own : Vec Job Global). own.items) scripts) ends
ends_from may_answer m bounds k [] [] [] numbered are each = tt
ends_from may_answer m bounds k [] [] (e ∷ es) numbered are each = absurd each
ends_from may_answer m bounds k [] (s ∷ ss) ends numbered are each = absurd (cc are)
ends_from may_answer m bounds k (w ∷ ws) [] ends numbered are each = absurd (cc are)
ends_from may_answer m bounds k (w ∷ ws) (s ∷ ss) [] numbered are each = absurd each
ends_from may_answer m bounds k (w ∷ ws) (s ∷ ss) (e ∷ es) numbered are each =
    let first : w.script ≡ s = cc are in
    let others : map (λ (worker : Worker). worker.script) ws ≡ ss = cc are in (
      subst (λ (z : ℕ × (List Job)). Ends may_answer m bounds z.0 z.1 e) (λ i. (numbered.0 i, (first i).items)) each.0,
      ends_from may_answer m bounds (k + 1) ws ss es numbered.1 others each.1,
    )

ends_all : (may_answer : ℕ → ℕ → Bool → Type 0) (m : Machine) (bounds : Bounds) (n : ℕ) (workers : List Worker) (callers : List Standing) (scripts : List (Vec Job Global)) (ends : List (Result Worked RunFault)) → callers ≡ newcomers m bounds n
    → map (λ (worker : Worker). worker.caller) workers ≡ callers → map (λ (worker : Worker). worker.script) workers ≡ scripts → AllZip (IsEndOf may_answer m bounds) workers ends
    → EachAt (Ends may_answer m bounds) 0 (map (λ (own : Vec Job Global). own.items) scripts) ends
ends_all may_answer m bounds n workers callers scripts ends new are scripts_are each =
    ends_from may_answer m bounds 0 workers scripts ends (subst (AreNumbered 0) (sym (are ∙ new)) (newcomers_numbered m bounds n)) scripts_are each

each_of : {A B : Type 0} (P Q : ℕ → A → B → Type 0) (k : ℕ) (xs : List A) (ys : List B) → ((k : ℕ) (x : A) (y : B) → P k x y → Q k x y) → EachAt P k xs ys → EachAt Q k xs ys
each_of P Q k [] [] then each = tt
each_of P Q k [] (y ∷ ys) then each = absurd each
each_of P Q k (x ∷ xs) [] then each = absurd each
each_of P Q k (x ∷ xs) (y ∷ ys) then each = (then k x y each.0, each_of P Q (k + 1) xs ys then each.1)

pub ends_each : (may_answer : ℕ → ℕ → Bool → Type 0) (m : Machine) (bounds : Bounds) (n : ℕ) (workers : List Worker) (callers : List Standing) (scripts : List (Vec Job Global)) (ends : List (Result Worked RunFault)) → callers ≡ newcomers m bounds n
    → map (λ (worker : Worker). worker.caller) workers ≡ callers → map (λ (worker : Worker). worker.script) workers ≡ scripts → AllZip (IsEndOf may_answer m bounds) workers ends
    → AreEnds m bounds (map (λ (own : Vec Job Global). own.items) scripts) ends × AreGated may_answer (map (λ (own : Vec Job Global). own.items) scripts) ends
ends_each may_answer m bounds n workers callers scripts ends new are scripts_are each =
    let lists : List (List Job) = map (λ (own : Vec Job Global). own.items) scripts in
    let all = ends_all may_answer m bounds n workers callers scripts ends new are scripts_are each in (
      each_of (Ends may_answer m bounds) (IsEnd m bounds) 0 lists ends (λ k script end h. h.done) all,
      each_of (Ends may_answer m bounds) (λ k script end. IsGated may_answer k (length script) end) 0 lists ends (λ k script end h. h.gated) all,
    )

pub ends_size : (may_answer : ℕ → ℕ → Bool → Type 0) (m : Machine) (bounds : Bounds) (n : ℕ) (workers : List Worker) (callers : List Standing) (ends : List (Result Worked RunFault)) → callers ≡ newcomers m bounds n
    → map (λ (worker : Worker). worker.caller) workers ≡ callers → AllZip (IsEndOf may_answer m bounds) workers ends → length ends ≡ n
ends_size may_answer m bounds n workers callers ends new are each =
    AllZip-long (IsEndOf may_answer m bounds) workers ends each ∙ (sym (length-map workers (λ (worker : Worker). worker.caller)) ∙ (ap length are ∙ (ap length new ∙ newcomers_length m bounds n)))

-- what holds of a run for all scripts whose workers end so holds for these
pub settled_for : (result : Result Settled RunFault) (m : Machine) (bounds : Bounds) (scripts : List (List Job)) (ends : List (Result Worked RunFault)) → AreEnds m bounds scripts ends
    → IfOk result (λ run. (scripts : List (List Job)) → AreEnds m bounds scripts ends → IsSettled bounds scripts run.replies run.book) → IfOk result (λ run. IsSettled bounds scripts run.replies run.book)
settled_for (Ok run) m bounds scripts ends each all = all scripts each
settled_for (Err fault) m bounds scripts ends each all = tt
