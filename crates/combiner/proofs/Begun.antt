-- A call that was begun and is left: what its caller knows then, and what it is told at last.
use Rattle.std.proofs.Common.{◌≡◌, ℕ, List, [], ◌∷◌, ◌++◌, refl, sym, ap, ◌∙◌, subst, inl, inr}
use Rattle.vector_memory.specs.declared.bounds.Bounds.{Bounds}
use Rattle.cvl_text.specs.declared.call.Call.{Call}
use Rattle.cvl_text.specs.declared.reply.Reply.{Reply}
use Rattle.cvl_text.specs.Answers.{answer_of}
use Rattle.call_history.specs.declared.entry.Entry.{Entry}
use Rattle.call_history.specs.declared.request.Job.TheVariants.{One}
use Rattle.call_history.specs.Answers.{Answers}
use Rattle.request_slots.specs.declared.known.Phase.TheVariants.{Left}
use Rattle.combiner.specs.declared.answers.Polled.TheVariants as poll
use Rattle.combiner.specs.Standing.{Standing, HasLeftACall}
use Rattle.combiner.specs.Own.{IsBegun, MayHaveMet}
use Rattle.combiner.specs.Says.{leaving, KeepsNotes, IsAnsweredAtLast, IsAnsweredTo, MeetsAnother}
use Rattle.combiner.proofs.Turns.{notes_kept, notes_meeting}

-- but for what it left and what it noted, it knows what it knew
pub record Knows (c b : Standing) : Type 0 where
  pub number : b.number ≡ c.number
  pub bounds : b.bounds ≡ c.bounds
  pub seen : b.seen ≡ c.seen
  pub own : b.own ≡ c.own
  pub notes : KeepsNotes c b

tried_knows : (c t : Standing) → MayHaveMet c t → Knows c t
tried_knows c t (inl is) = record {
  number = ap (λ (z : Standing). z.number) is;
  bounds = ap (λ (z : Standing). z.bounds) is;
  seen = ap (λ (z : Standing). z.seen) is;
  own = ap (λ (z : Standing). z.own) is;
  notes = subst (KeepsNotes c) (sym is) (notes_kept c c refl refl refl);
}
tried_knows c t (inr met) = record {
  number = ap (λ (z : Standing). z.number) met.2;
  bounds = ap (λ (z : Standing). z.bounds) met.2;
  seen = ap (λ (z : Standing). z.seen) met.2;
  own = ap (λ (z : Standing). z.own) met.2;
  notes = notes_meeting c t met;
}

pub begun_knows : (call : Call) (c b : Standing) → IsBegun call c b poll.Waiting → Knows c b
begun_knows call c b w =
    let t = tried_knows c w.0 w.1 in
    record {
      number = ap (λ (z : Standing). z.number) w.2 ∙ t.number;
      bounds = ap (λ (z : Standing). z.bounds) w.2 ∙ t.bounds;
      seen = ap (λ (z : Standing). z.seen) w.2 ∙ t.seen;
      own = ap (λ (z : Standing). z.own) w.2 ∙ t.own;
      notes = subst (KeepsNotes c) (sym w.2) t.notes;
    }

pub begun_left : (call : Call) (c b : Standing) → IsBegun call c b poll.Waiting → HasLeftACall b
begun_left call c b w = (call, w.0.seen, ap (λ (z : Standing). z.phase) w.2)

pub begun_answered : (call : Call) (c b d : Standing) (place : ℕ) (reply : Reply) → IsBegun call c b poll.Waiting → IsAnsweredAtLast b d place reply → IsAnsweredTo call c d place reply
begun_answered call c b d place reply w a =
    let k = begun_knows call c b w in
    let left : Left (One a.call) a.start ≡ Left (One call) w.0.seen = sym a.left ∙ ap (λ (z : Standing). z.phase) w.2 in
    let same : a.call ≡ call = cc left in
    let start : a.start ≡ c.seen = cc left ∙ (tried_knows c w.0 w.1).seen in
    record {
      history = a.history;
      ends_there = a.ends_there;
      answers = subst (λ (z : Bounds × (List Entry) × (List Call) × ℕ × Call). Answers z.0 z.1 z.2 z.3 (z.4 ∷ []) a.history (answer_of reply ∷ [])) (λ i. (k.bounds i, start i, k.own i, k.number i, same i)) a.answers;
      whole = a.whole;
      record_is = a.record_is ∙ (ap (λ (own : List Call). own ++ a.call ∷ []) k.own ∙ ap (λ (x : Call). c.own ++ x ∷ []) same);
    }
