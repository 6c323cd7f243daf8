-- A caller that runs its own call while it has the book.
-- `own_entered` is its entry, `own_runs` what it answers, and `own_answers` the same of what the book says.
use Rattle.std.proofs.Common.{◌≡◌, ℕ, ◌+◌, true, List, [], ◌∷◌, ◌++◌, length, append-nil, sym, ap, ◌∙◌, subst, length-append, map, Vec, Global, Result, Ok, Err, is_ok, IfOk, OnOk, OnErr}
use Rattle.vector_memory.specs.declared.bounds.Bounds.{Bounds}
use Rattle.cvl_text.specs.declared.call.Call.{Call}
use Rattle.cvl_text.specs.declared.reply.Reply.{Reply}
use Rattle.cvl_text.specs.Answers.{Answer, answer_of}
use Rattle.call_history.specs.declared.entry.Entry.{Entry}
use Rattle.call_history.specs.Blocks.{Whole, block_entries}
use Rattle.call_history.specs.History.{Begins, replay, replies_from, reply_after}
use Rattle.call_history.specs.Callers.{calls_by, next_entry}
use Rattle.call_history.specs.Answers.{Answers}
use Rattle.call_history.proofs.CallerLemmas.{calls_by-append, calls_by-other}
use Rattle.call_history.proofs.Blocks.{answers-from_block, calls_by-block_other, length-block}
use Rattle.request_slots.specs.declared.known.Known.{Known}
use Rattle.request_slots.specs.Views.{entering_line, IsEntered}
use Rattle.call_history.proofs.Beginnings.{begins_trans}
use Rattle.combiner.specs.Standing.{Standing, IsIdle}
use Rattle.combiner.specs.Own.{HasEntered, HasEnteredBlock, IsEnded, KeepsCall}

-- one more entry of a caller is no other caller's
pub own_entered : (k : ℕ) (call : Call) (line line' : List Entry) → line' ≡ line ++ next_entry line k call ∷ [] → IsEntered k line line'
own_entered k call line line' is = record {
  grows = (next_entry line k call ∷ [], is);
  others = λ i other. ap (calls_by i) is ∙ (calls_by-append i line (next_entry line k call ∷ [])
      ∙ (ap (λ l. calls_by i line ++ l) (calls_by-other i k (length (calls_by k line)) call (λ e. other (sym e))) ∙ append-nil (calls_by i line)));
}

-- and answers it
pub own_runs : (call : Call) (c k : Known) (bounds : Bounds) (line line' : List Entry) (place : ℕ) (reply : Reply) → line' ≡ line ++ next_entry line c.standing.number call ∷ [] → place ≡ length line
    → answer_of reply ≡ reply_after bounds line call → bounds ≡ c.standing.bounds → Begins c.standing.seen line → Whole line → calls_by c.standing.number line ≡ c.standing.own → k ≡ entering_line c line' → HasEntered call c k place reply
own_runs call c k bounds line line' place reply is at says bounds_is saw whole had now = record {
  line = line';
  now_is = now;
  ends_there = ap length is ∙ (length-append line (next_entry line c.standing.number call ∷ []) ∙ ap (λ (n : ℕ). n + 1) (sym at));
  answers = subst (λ (z : Bounds × (List Entry) × Answer). Answers z.0 c.standing.seen c.standing.own c.standing.number (call ∷ []) z.1 (z.2 ∷ []))
      (λ i. (bounds_is i, sym is i, sym says i))
      (answers-from_block bounds c.standing.seen line c.standing.own c.standing.number (call ∷ []) saw had whole);
}

-- where there is an answer, what holds with one does
pub on_answer : {T E P : Type 0} (r : Result T E) → true ≡ is_ok r → OnOk r P → P
on_answer (Ok _) is p = p
on_answer (Err _) is p = absurd (cc is)

-- and an answer of the book is the call's
pub own_answers : {E : Type 0} (call : Call) (c k : Known) (bounds : Bounds) (line line' : List Entry) (r : Result (ℕ × Reply) E) → OnOk r (line' ≡ line ++ next_entry line c.standing.number call ∷ [])
    → IfOk r (λ a. a.0 ≡ length line) → IfOk r (λ a. answer_of a.1 ≡ reply_after bounds line call) → bounds ≡ c.standing.bounds → Begins c.standing.seen line → Whole line → calls_by c.standing.number line ≡ c.standing.own
    → k ≡ entering_line c line' → IfOk r (λ a. HasEntered call c k a.0 a.1)
own_answers call c k bounds line line' (Ok a) is at says bounds_is saw whole had now = own_runs call c k bounds line line' a.0 a.1 is at says bounds_is saw whole had now
own_answers call c k bounds line line' (Err _) is at says bounds_is saw whole had now = tt

-- the entries of a block are no other caller's
pub block_entered : (k : ℕ) (calls : List Call) (line line' : List Entry) → line' ≡ line ++ block_entries line k calls → IsEntered k line line'
block_entered k calls line line' is = record {
  grows = (block_entries line k calls, is);
  others = λ i other. ap (calls_by i) is ∙ (calls_by-append i line (block_entries line k calls)
      ∙ (ap (λ l. calls_by i line ++ l) (calls_by-block_other i k (λ e. other (sym e)) line calls) ∙ append-nil (calls_by i line)));
}

-- and answer it
pub block_runs : (calls : List Call) (c k : Known) (bounds : Bounds) (line line' : List Entry) (place : ℕ) (replies : List Answer) → line' ≡ line ++ block_entries line c.standing.number calls → place ≡ length line
    → replies ≡ replies_from (replay bounds line) (block_entries line c.standing.number calls) → bounds ≡ c.standing.bounds → Begins c.standing.seen line → Whole line → calls_by c.standing.number line ≡ c.standing.own → k ≡ entering_line c line'
    → HasEnteredBlock calls c k place replies
block_runs calls c k bounds line line' place replies is at says bounds_is saw whole had now = record {
  line = line';
  now_is = now;
  ends_there = ap length is ∙ (length-append line (block_entries line c.standing.number calls) ∙ (ap (λ (n : ℕ). n + length (block_entries line c.standing.number calls)) (sym at)
      ∙ ap (λ (n : ℕ). place + n) (length-block line c.standing.number calls)));
  answers = subst (λ (z : Bounds × (List Entry) × (List Answer)). Answers z.0 c.standing.seen c.standing.own c.standing.number calls z.1 z.2)
      (λ i. (bounds_is i, sym is i, sym says i))
      (answers-from_block bounds c.standing.seen line c.standing.own c.standing.number calls saw had whole);
}

pub block_answers : {E : Type 0} (calls : List Call) (c k : Known) (bounds : Bounds) (line line' : List Entry) (r : Result (ℕ × Vec Reply Global) E) → OnOk r (line' ≡ line ++ block_entries line c.standing.number calls)
    → IfOk r (λ a. a.0 ≡ length line) → IfOk r (λ a. map answer_of a.1.items ≡ replies_from (replay bounds line) (block_entries line c.standing.number calls)) → bounds ≡ c.standing.bounds → Begins c.standing.seen line
    → Whole line → calls_by c.standing.number line ≡ c.standing.own → k ≡ entering_line c line' → IfOk r (λ a. HasEnteredBlock calls c k a.0 (map answer_of a.1.items))
block_answers calls c k bounds line line' (Ok a) is at says bounds_is saw whole had now = block_runs calls c k bounds line line' a.0 (map answer_of a.1.items) is at says bounds_is saw whole had now
block_answers calls c k bounds line line' (Err _) is at says bounds_is saw whole had now = tt

-- what a caller knows where its block has ended, and what others left was served
pub block_ended : {X E : Type 0} (place : X → ℕ) (replies : X → List Answer) (calls : List Call) (c k : Known) (d : Standing) (r : Result X E) → IsIdle c.standing
    → IfOk r (λ a. HasEnteredBlock calls c k (place a) (replies a)) → OnErr r (k ≡ c) → KeepsCall k.standing d → IsEnded c.standing d
block_ended place replies calls c k d (Ok a) idle ran kept goes =
    let on = subst (λ (z : Known). KeepsCall z.standing d) ran.now_is goes in
    record {
      number = on.number;
      bounds = on.bounds;
      idle = on.phase ∙ idle;
      later = begins_trans c.standing.seen ran.line d.seen ran.answers.begins on.later;
      notes = on.notes;
    }
block_ended place replies calls c k d (Err e) idle ran kept goes =
    let on = subst (λ (z : Known). KeepsCall z.standing d) kept goes in
    record { number = on.number; bounds = on.bounds; idle = on.phase ∙ idle; later = on.later; notes = on.notes }
