-- What a block of a script makes of a book: the memory behind it (`block-memory`) and its replies (`block-answers`), which are
-- written one after the other (`lines-more`).
use Rattle.std.proofs.Common.{◌≡◌, ◌<◌, ◌+◌, ℕ, List, [], ◌∷◌, ◌++◌, get_or, length, map, take, refl, sym, ap, ◌∙◌}
use Rattle.std.specs.List.{flat_map}
use Rattle.std.proofs.lemmas.List.{append-nil, map-append, take_more}
use Rattle.std.proofs.lemmas.List.Concat.{flat_map-append}
use Rattle.vector_memory.specs.declared.bounds.Bounds.{Bounds}
use Rattle.vector_memory.specs.States.{State, empty}
use Rattle.cvl_text.specs.declared.call.Call.{Call}
use Rattle.cvl_text.specs.Tasks.{task_of}
use Rattle.cvl_text.specs.declared.reply.Reply.{Reply}
use Rattle.cvl_text.specs.Answers.{Answer, answer_of}
use Rattle.cvl_calls.specs.Steps.{stepped}
use Rattle.call_history.specs.History.{replay, replies_from}
use Rattle.call_history.specs.Books.{BookState, memory_of}
use Rattle.call_history.specs.Blocks.{after, block_entries, replies_to}
use Rattle.call_history.proofs.Replays.{replay_from-append}
use Rattle.call_history.proofs.Blocks.{calls-block, replay_from-after, replies-block}
use Rattle.script_lines.specs.Scripts.{memory_after_tasks, answers_to, reply_line}

after-tasks : (m : State) (calls : List Call) → after m calls ≡ memory_after_tasks m (map task_of calls)
after-tasks m [] = refl
after-tasks m (c ∷ cs) = after-tasks (stepped m (task_of c)).memory cs

replies-tasks : (m : State) (calls : List Call) → replies_to m calls ≡ answers_to m (map task_of calls)
replies-tasks m [] = refl
replies-tasks m (c ∷ cs) = ap (λ (l : List Answer). (stepped m (task_of c)).answer ∷ l) (replies-tasks (stepped m (task_of c)).memory cs)

pub block-memory : (old new : BookState) (caller : ℕ) (calls : List Call) → new.bounds ≡ old.bounds → new.history ≡ old.history ++ block_entries old.history caller calls
    → memory_of new ≡ memory_after_tasks (memory_of old) (map task_of calls)
block-memory old new caller calls same longer =
    let es = block_entries old.history caller calls in
    ap (λ (bounds : Bounds). replay bounds new.history) same ∙ ap (replay old.bounds) longer
    ∙ replay_from-append (empty old.bounds) old.history es
    ∙ replay_from-after (memory_of old) es
    ∙ ap (after (memory_of old)) (calls-block old.history caller calls)
    ∙ after-tasks (memory_of old) calls

pub block-answers : (old : BookState) (caller : ℕ) (calls : List Call) (answers : List Answer) → answers ≡ replies_from (memory_of old) (block_entries old.history caller calls)
    → answers ≡ answers_to (memory_of old) (map task_of calls)
block-answers old caller calls answers are = are ∙ sym (replies-block (memory_of old) old.history caller calls) ∙ replies-tasks (memory_of old) calls

-- one more reply
pub lines-more : (caller : ℕ) (replies : List Reply) (i : ℕ) (reply : Reply) → i < length replies → reply ≡ get_or replies i reply
    → flat_map (reply_line caller) (map answer_of (take (i + 1) replies)) ≡ flat_map (reply_line caller) (map answer_of (take i replies)) ++ reply_line caller (answer_of reply)
lines-more caller replies i reply within is =
    let f = reply_line caller in
    let front = map answer_of (take i replies) in
    ap (λ (rs : List Reply). flat_map f (map answer_of rs)) (take_more replies i reply within ∙ ap (λ (r : Reply). take i replies ++ r ∷ []) (sym is))
    ∙ ap (flat_map f) (map-append answer_of (take i replies) (reply ∷ []))
    ∙ flat_map-append f front (answer_of reply ∷ [])
    ∙ ap (λ (t : List ℕ). flat_map f front ++ t) (append-nil (f (answer_of reply)))
