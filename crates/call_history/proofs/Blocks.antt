-- Blocks in a history: none is cut where two histories are joined (`Whole-append`) or a call goes behind one (`Whole-push`), and the
-- entries of a block are one (`Whole-block`), with its calls (`calls-block`). What the calls of a history make of a memory and answer
-- (`replay_from-after`, `replies_from-to`), and that a block leads where its replay does (`replay-block`).
use Rattle.std.proofs.Common.{◌≡◌, ℕ, suc, List, [], ◌∷◌, ◌++◌, length, map, None, cond, refl, sym, ap, ◌∙◌, arith, eq-eqb, ne_eqb, ◌≢◌}
use Rattle.vector_memory.specs.declared.bounds.Bounds.{Bounds}
use Rattle.vector_memory.specs.States.{State, begun, bounds_of, empty, ended, undone}
use Rattle.cvl_text.specs.declared.call.Call.{Call}
use Rattle.cvl_text.specs.Tasks.{task_of}
use Rattle.cvl_text.specs.Answers.{Answer}
use Rattle.cvl_calls.specs.Steps.{stepped}
use Rattle.call_history.specs.declared.entry.Entry.{Entry}
use Rattle.call_history.specs.History.{Begins, call_of, replay, replay_from, replies_from}
use Rattle.call_history.specs.Answers.{Answers}
use Rattle.call_history.specs.Callers.{calls_by, entries_by, next_before}
use Rattle.call_history.specs.Blocks.{IsFollowed, Whole, after, block_entries, replies_to}
use Rattle.call_history.proofs.Beginnings.{begins_trans}
use Rattle.call_history.proofs.CallerLemmas.{calls_by-append}
use Rattle.call_history.proofs.Replays.{replay_from-append, bounds-stepped}

followed-append : (e : Entry) (xs ys : List Entry) → IsFollowed e xs → IsFollowed e (xs ++ ys)
followed-append e xs ys followed = λ more. let f = followed more in (f.0, f.1 ++ ys, ap (λ (l : List Entry). l ++ ys) f.2, f.3, f.4)

pub Whole-append : (xs ys : List Entry) → Whole xs → Whole ys → Whole (xs ++ ys)
Whole-append [] ys first second = second
Whole-append (x ∷ xs) ys first second = (followed-append x xs ys first.0, Whole-append xs ys first.1 second)

-- a single call goes behind a history
pub Whole-push : (history : List Entry) (e : Entry) → Whole history → e.rest ≡ 0 → Whole (history ++ e ∷ [])
Whole-push history e whole single = Whole-append history (e ∷ []) whole ((λ more. absurd (omega (arith, more, single))), tt)

pub Whole-block : (history : List Entry) (caller : ℕ) (calls : List Call) → Whole (block_entries history caller calls)
Whole-block history caller [] = tt
Whole-block history caller (c ∷ []) = ((λ more. absurd (omega (arith, more))), tt)
Whole-block history caller (c ∷ d ∷ cs) =
    let grown = history ++ next_before history caller c (length (d ∷ cs)) ∷ [] in (
      (λ more. (next_before grown caller d (length cs), block_entries (grown ++ next_before grown caller d (length cs) ∷ []) caller cs, refl, refl, omega arith)),
      Whole-block grown caller (d ∷ cs),
    )

pub calls-block : (history : List Entry) (caller : ℕ) (calls : List Call) → map call_of (block_entries history caller calls) ≡ calls
calls-block history caller [] = refl
calls-block history caller (c ∷ cs) = ap (λ (l : List Call). c ∷ l) (calls-block (history ++ next_before history caller c (length cs) ∷ []) caller cs)

pub replay_from-after : (m : State) (es : List Entry) → replay_from m es ≡ after m (map call_of es)
replay_from-after m [] = refl
replay_from-after m (e ∷ es) = replay_from-after (stepped m (task_of e.call)).memory es

pub replies_from-to : (m : State) (es : List Entry) → replies_from m es ≡ replies_to m (map call_of es)
replies_from-to m [] = refl
replies_from-to m (e ∷ es) = ap (λ (l : List Answer). (stepped m (task_of e.call)).answer ∷ l) (replies_from-to (stepped m (task_of e.call)).memory es)

pub bounds-after : (m : State) (calls : List Call) → bounds_of (after m calls) ≡ bounds_of m
bounds-after m [] = refl
bounds-after m (c ∷ cs) = bounds-after (stepped m (task_of c)).memory cs ∙ bounds-stepped m (task_of c)

-- the calls of a block lead from the memory of a history to that of the history with the block
pub replay-block : (m next : State) (history : List Entry) (caller : ℕ) (calls : List Call) → m ≡ replay (bounds_of m) history → next ≡ after m calls → next ≡ replay (bounds_of next) (history ++ block_entries history caller calls)
replay-block m next history caller calls known leads =
    let same : bounds_of next ≡ bounds_of m = ap bounds_of leads ∙ bounds-after m calls in
    let es = block_entries history caller calls in
    leads ∙ ap (λ (s : State). after s calls) (known ∙ ap (λ (bounds : Bounds). replay bounds history) (sym same))
    ∙ ap (after (replay (bounds_of next) history)) (sym (calls-block history caller calls))
    ∙ sym (replay_from-after (replay (bounds_of next) history) es)
    ∙ sym (replay_from-append (empty (bounds_of next)) history es)

-- and answer what its replay answers
pub replies-block : (m : State) (history : List Entry) (caller : ℕ) (calls : List Call) → replies_to m calls ≡ replies_from m (block_entries history caller calls)
replies-block m history caller calls = sym (replies_from-to m (block_entries history caller calls) ∙ ap (replies_to m) (calls-block history caller calls))

-- the memory of a book as a block begins, and as one that changed nothing ends
pub ended-outside : (m : State) → m.block ≡ None → ended m ≡ m
ended-outside m outside = ap (λ o. record { entries = m.entries; room = m.room; limit = m.limit; block = o }) (sym outside)

pub ended-begun : (m b : State) (changes : ℕ) → m.block ≡ None → b ≡ begun m changes → ended b ≡ m
ended-begun m b changes outside is = ap ended is ∙ ended-outside m outside

pub undone-begun : (m b : State) (changes : ℕ) → m.block ≡ None → b ≡ begun m changes → undone b ≡ m
undone-begun m b changes outside is = ap undone is ∙ ended-outside m outside

pub length-block : (history : List Entry) (caller : ℕ) (calls : List Call) → length (block_entries history caller calls) ≡ length calls
length-block history caller [] = refl
length-block history caller (c ∷ cs) = ap suc (length-block (history ++ next_before history caller c (length cs) ∷ []) caller cs)

-- a memory that is another
pub replayed-same : (m next : State) (history same : List Entry) → m ≡ replay (bounds_of m) history → next ≡ m → same ≡ history → next ≡ replay (bounds_of next) same
replayed-same m next history same known is es = is ∙ known ∙ ap (λ (s : State). replay (bounds_of s) history) (sym is) ∙ ap (replay (bounds_of next)) (sym es)

-- the calls of a block are its caller's, and no other's
pub calls_by-block : (k : ℕ) (history : List Entry) (calls : List Call) → calls_by k (block_entries history k calls) ≡ calls
calls_by-block k history [] = refl
calls_by-block k history (c ∷ cs) =
    let e = next_before history k c (length cs) in
    let later = block_entries (history ++ e ∷ []) k cs in
    ap (λ b. map call_of (cond b (e ∷ entries_by k later) (entries_by k later))) (eq-eqb k k refl)
    ∙ ap (λ (l : List Call). c ∷ l) (calls_by-block k (history ++ e ∷ []) cs)

pub calls_by-block_other : (j k : ℕ) → k ≢ j → (history : List Entry) (calls : List Call) → calls_by j (block_entries history k calls) ≡ []
calls_by-block_other j k other history [] = refl
calls_by-block_other j k other history (c ∷ cs) =
    let e = next_before history k c (length cs) in
    let later = block_entries (history ++ e ∷ []) k cs in
    ap (λ b. map call_of (cond b (e ∷ entries_by j later) (entries_by j later))) (ne_eqb k j other)
    ∙ calls_by-block_other j k other (history ++ e ∷ []) cs

-- no block is cut where one goes behind a history
pub Whole-grown : (history : List Entry) (k : ℕ) (calls : List Call) → Whole history → Whole (history ++ block_entries history k calls)
Whole-grown history k calls whole = Whole-append history (block_entries history k calls) whole (Whole-block history k calls)

-- a block is answered behind the history
pub answers-from_block : (bounds : Bounds) (seen history : List Entry) (own : List Call) (k : ℕ) (calls : List Call) → Begins seen history → calls_by k history ≡ own → Whole history
    → Answers bounds seen own k calls (history ++ block_entries history k calls) (replies_from (replay bounds history) (block_entries history k calls))
answers-from_block bounds seen history own k calls saw had whole =
    let block = block_entries history k calls in
    record {
      before = history;
      begins = begins_trans seen history (history ++ block) saw (block, refl);
      ends = refl;
      whole = Whole-grown history k calls whole;
      owns = calls_by-append k history block ∙ (ap (λ l. l ++ calls_by k block) had ∙ ap (λ l. own ++ l) (calls_by-block k history calls));
      replies_are = refl;
    }
