-- Calls of several callers that ran together: their history, replayed, is the memory that they lead to (`replay-entered`), and no block of
-- it is cut (`whole-entered`).
use Rattle.std.proofs.Common.{◌≡◌, ℕ, List, [], ◌∷◌, ◌++◌, length, map, refl, ap, ◌∙◌, arith, append_assoc}
use Rattle.vector_memory.specs.States.{State, bounds_of}
use Rattle.cvl_text.specs.declared.call.Call.{Call}
use Rattle.cvl_text.specs.Tasks.{task_of}
use Rattle.cvl_calls.specs.Alike.{after_all}
use Rattle.cvl_calls.specs.Steps.{stepped}
use Rattle.call_history.specs.declared.entry.Entry.{Entry}
use Rattle.call_history.specs.Alike.{entered}
use Rattle.call_history.specs.Blocks.{Whole}
use Rattle.call_history.specs.Callers.{next_entry}
use Rattle.call_history.specs.History.{replay}
use Rattle.call_history.proofs.Blocks.{Whole-push}
use Rattle.call_history.proofs.Replays.{bounds-stepped, replay-push}

pub replay-entered : (m : State) (history : List Entry) (callers : List ℕ) (calls : List Call) → length callers ≡ length calls → m ≡ replay (bounds_of m) history
    → after_all m (map task_of calls) ≡ replay (bounds_of (after_all m (map task_of calls))) (entered history callers calls)
replay-entered m history [] [] same known = known
replay-entered m history [] (c ∷ cs) same known = absurd (omega arith)
replay-entered m history (k ∷ ks) [] same known = absurd (omega arith)
replay-entered m history (k ∷ ks) (c ∷ cs) same known =
    let e = next_entry history k c in
    let next = (stepped m (task_of c)).memory in
    replay-entered next (history ++ e ∷ []) ks cs (omega arith) (replay-push m next history e known refl)

pub bounds-after : (m : State) (calls : List Call) → bounds_of (after_all m (map task_of calls)) ≡ bounds_of m
bounds-after m [] = refl
bounds-after m (c ∷ cs) = bounds-after (stepped m (task_of c)).memory cs ∙ bounds-stepped m (task_of c)

pub whole-entered : (history : List Entry) (callers : List ℕ) (calls : List Call) → Whole history → Whole (entered history callers calls)
whole-entered history [] calls whole = whole
whole-entered history (k ∷ ks) [] whole = whole
whole-entered history (k ∷ ks) (c ∷ cs) whole = let e = next_entry history k c in whole-entered (history ++ e ∷ []) ks cs (Whole-push history e whole refl)

-- one call more, in few bytes
pub kept_next : {K : Type 0} (old new all added : List K) (k : K) → new ≡ old ++ k ∷ [] → all ≡ new ++ added → all ≡ old ++ k ∷ added
kept_next old new all added k pushed is = is ∙ ap (λ l. l ++ added) pushed ∙ append_assoc old (k ∷ []) added
