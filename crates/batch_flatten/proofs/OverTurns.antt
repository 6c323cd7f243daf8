-- Requests that ran together: each had its turn, one after another (`together-serves`), and the history grew by as many entries
-- (`together-grown`).
use Rattle.std.proofs.Common.{◌≡◌, ◌≢◌, ℕ, zero, suc, ◌+◌, ◌<◌, ◌≤◌, All, List, [], ◌∷◌, ◌++◌, length, map, refl, sym, ap, ◌∙◌, subst, arith, append-nil, append_assoc, length-append, set}
use Rattle.std.specs.Borrow.{Bor}
use Rattle.std.specs.List.{AllByRecursion, AllPairs, range_with_len}
use Rattle.vector_memory.specs.declared.bounds.Bounds.{Bounds}
use Rattle.vector_memory.specs.States.{State, empty}
use Rattle.cvl_text.specs.declared.call.Call.{Call}
use Rattle.cvl_text.specs.declared.reply.Reply.TheVariants as replies
use Rattle.cvl_text.specs.declared.word.Word.{Word}
use Rattle.cvl_text.specs.Answers.{Answer}
use Rattle.cvl_text.specs.Tasks.{task_of}
use Rattle.cvl_calls.specs.Alike.{AreDone}
use Rattle.cvl_calls.specs.Steps.{stepped}
use Rattle.call_history.specs.declared.entry.Entry.{Entry}
use Rattle.call_history.specs.declared.request.Job.{Job}
use Rattle.call_history.specs.declared.request.Job.TheVariants.{One}
use Rattle.call_history.specs.declared.request.Request.{Request}
use Rattle.call_history.specs.declared.request.Outcome.{Outcome}
use Rattle.call_history.specs.declared.request.Outcome.TheVariants.{Answered}
use Rattle.call_history.specs.Alike.{entered}
use Rattle.call_history.specs.Blocks.{Whole}
use Rattle.call_history.specs.Books.{BookState, memory_of}
use Rattle.call_history.specs.Callers.{caller_limit, next_entry}
use Rattle.call_history.proofs.Replays.{replay_from-append}
use Rattle.batch_flatten.specs.Alike.{AreOfWord, RunTogether, done_from}
use Rattle.batch_flatten.specs.Batches.{RunsJob}
use Rattle.batch_flatten.specs.Counts.{word_of_job}
use Rattle.batch_flatten.specs.Serving.{Serving}
use Rattle.batch_flatten.proofs.AlikeTurns.{Turns, turns-end, turns-next, turns-start}

-- a book with one single call of a caller more
abbrev with_call : BookState → ℕ → Call → BookState
with_call b k c = record { history = b.history ++ next_entry b.history k c ∷ []; bounds = b.bounds; spaces = b.spaces }

memory-with : (b : BookState) (k : ℕ) (c : Call) → memory_of (with_call b k c) ≡ (stepped (memory_of b) (task_of c)).memory
memory-with b k c = replay_from-append (empty b.bounds) b.history (next_entry b.history k c ∷ [])

together-turns : (bounds : Bounds) (line final : List Entry) (requests now : List Request) (book : BookState) (outcomes : List Outcome) (rest : List Request) (calls : List Call) → AllPairs (λ r s. r.caller ≢ s.caller) requests
    → (t : Turns bounds line requests now book outcomes) → t.rest ≡ rest → map (λ c. One c) calls ≡ map (λ r. r.job) rest → final ≡ entered book.history (map (λ r. r.caller) rest) calls → AreDone (memory_of book) (map task_of calls)
    → Serving bounds line requests (range_with_len 0 (length requests)) final (outcomes ++ done_from (length book.history) (length rest))
together-turns bounds line final requests now book outcomes [] [] distinct t are jobs entries done =
    subst (λ (z : List Entry × (List Outcome)). Serving bounds line requests (range_with_len 0 (length requests)) z.0 z.1) (λ i. (sym entries i, sym (append-nil outcomes) i))
    (turns-end bounds line requests now book outcomes t are)
together-turns bounds line final requests now book outcomes [] (c ∷ cs) distinct t are jobs entries done = absurd cc
together-turns bounds line final requests now book outcomes (r ∷ rs) [] distinct t are jobs entries done = absurd cc
together-turns bounds line final requests now book outcomes (r ∷ rs) (c ∷ cs) distinct t are jobs entries done =
    let job : One c ≡ r.job = cc in
    let others : map (λ c. One c) cs ≡ map (λ r. r.job) rs = cc in
    let next = with_call book r.caller c in
    let here = length book.history in
    let o = Answered here replies.Done in
    let runs : RunsJob book next r.caller r.job o = subst (λ (j : Job). RunsJob book next r.caller j o) job (refl, refl, refl, ap (λ (a : Answer). a ∷ []) (sym done.0)) in
    let v = turns-next bounds line requests now (set now (length outcomes) r) book next outcomes (outcomes ++ o ∷ []) o r r rs distinct t are runs (omega arith) refl refl in
    let left = subst (λ (s : State). AreDone s (map task_of cs)) (sym (memory-with book r.caller c)) done.1 in
    let rest = together-turns bounds line final requests (set now (length outcomes) r) next (outcomes ++ o ∷ []) rs cs distinct v.0 v.1 others entries left in
    let place : length next.history ≡ here + 1 = omega (arith, length-append book.history (next_entry book.history r.caller c ∷ [])) in
    let all = append_assoc outcomes (o ∷ []) (done_from (length next.history) (length rs)) ∙ ap (λ n. outcomes ++ o ∷ done_from n (length rs)) place in
    subst (λ (os : List Outcome). Serving bounds line requests (range_with_len 0 (length requests)) final os) all rest

pub together-serves : (old new : BookState) (requests : List Request) → Whole old.history → AllPairs (λ r s. r.caller ≢ s.caller) requests → AllByRecursion (λ r. r.caller < caller_limit) requests → length requests ≤ old.spaces
    → RunTogether old new requests → Serving old.bounds old.history requests (range_with_len 0 (length requests)) new.history (done_from (length old.history) (length requests))
together-serves old new requests whole distinct lawful space ran =
    let start = turns-start old requests [] whole refl lawful space in
    together-turns old.bounds old.history new.history requests requests old [] requests ran.calls distinct start.0 start.1 ran.asked ran.entries ran.done

length-entered : (history : List Entry) (rs : List Request) (calls : List Call) → map (λ c. One c) calls ≡ map (λ r. r.job) rs → length (entered history (map (λ r. r.caller) rs) calls) ≡ length history + length rs
length-entered history [] [] jobs = omega arith
length-entered history [] (c ∷ cs) jobs = absurd cc
length-entered history (r ∷ rs) [] jobs = absurd cc
length-entered history (r ∷ rs) (c ∷ cs) jobs =
    let others : map (λ c. One c) cs ≡ map (λ r. r.job) rs = cc in
    let e = next_entry history r.caller c in
    omega (arith, length-entered (history ++ e ∷ []) rs cs others, length-append history (e ∷ []))

pub together-grown : (old new : BookState) (requests : List Request) → RunTogether old new requests → length new.history ≡ length old.history + length requests
together-grown old new requests ran = ap length ran.entries ∙ length-entered old.history requests ran.calls ran.asked

-- what the lists of callers and calls meet

pub callers-lawful : (rs : List Request) → AllByRecursion (λ r. r.caller < caller_limit) rs → AllByRecursion (λ k. k < caller_limit) (map (λ r. r.caller) rs)
callers-lawful [] lawful = tt
callers-lawful (r ∷ rs) lawful = (lawful.0, callers-lawful rs lawful.1)

pub calls-paired : (rs : List Request) (calls : List (Bor Call)) → map (λ c. One c.now) calls ≡ map (λ r. r.job) rs → length rs ≡ length calls
calls-paired [] [] jobs = refl
calls-paired [] (c ∷ cs) jobs = absurd cc
calls-paired (r ∷ rs) [] jobs = absurd cc
calls-paired (r ∷ rs) (c ∷ cs) jobs = let others : map (λ c. One c.now) cs ≡ map (λ r. r.job) rs = cc in omega (arith, calls-paired rs cs others)

pub calls-alike : (word : Word) (rs : List Request) (calls : List (Bor Call)) → map (λ c. One c.now) calls ≡ map (λ r. r.job) rs → AreOfWord word rs → All (λ c. (task_of c.now).word ≡ word) calls
calls-alike word [] [] jobs alike k d h = absurd (omega arith)
calls-alike word [] (c ∷ cs) jobs alike k d h = absurd cc
calls-alike word (r ∷ rs) [] jobs alike k d h = absurd (omega arith)
calls-alike word (r ∷ rs) (c ∷ cs) jobs alike zero d h = let job : One c.now ≡ r.job = cc in ap word_of_job job ∙ alike 0 r (omega arith)
calls-alike word (r ∷ rs) (c ∷ cs) jobs alike (suc k) d h =
    let others : map (λ c. One c.now) cs ≡ map (λ r. r.job) rs = cc in
    calls-alike word rs cs others (λ j e below. alike (suc j) e (omega arith)) k d (omega arith)
