-- What a caller knows after a call.
-- `collected_says` is an outcome as `poll` tells it; `waiting_begins`, `waiting_combines`, `waiting_answered`
-- and `waiting_given_back` are the turns of `wait`.
use Rattle.std.specs.Global.{Vec}
use Rattle.std.proofs.Common.{◌≡◌, ℕ, ◌+◌, Bool, true, false, not, List, [], ◌∷◌, ◌++◌, length, map, append-nil, append_assoc, refl, sym, ap, ◌∙◌, subst}
use Rattle.vector_memory.specs.declared.bounds.Bounds.{Bounds}
use Rattle.cvl_text.specs.declared.call.Call.{Call}
use Rattle.cvl_text.specs.declared.reply.Reply.{Reply}
use Rattle.cvl_text.specs.Answers.{answer_of}
use Rattle.call_history.specs.declared.entry.Entry.{Entry}
use Rattle.call_history.specs.declared.request.Outcome.{Outcome}
use Rattle.call_history.specs.declared.request.Outcome.TheVariants.{Answered, Refused, AnsweredBlock, RefusedBlock}
use Rattle.call_history.specs.declared.request.Job.{Job}
use Rattle.call_history.specs.declared.request.Job.TheVariants.{One, Many}
use Rattle.call_history.specs.History.{Begins}
use Rattle.call_history.specs.Answers.{Answers}
use Rattle.call_history.specs.Fits.{calls_of, fate_of, IsOfJob}
use Rattle.call_history.proofs.Beginnings.{begins_self, begins_trans}
use Rattle.request_slots.specs.declared.known.Phase.{Phase}
use Rattle.request_slots.specs.declared.known.Phase.TheVariants.{Idle, Left}
use Rattle.request_slots.specs.Standing.{left_in, left_calls, left_job, left_start}
use Rattle.request_slots.specs.Changes.{longer, answering_calls, Collected}
use Rattle.combiner.specs.declared.answers.Polled.{Polled}
use Rattle.combiner.specs.declared.answers.Polled.TheVariants as poll
use Rattle.combiner.specs.declared.answers.Combined.{Combined}
use Rattle.combiner.specs.declared.answers.Combined.TheVariants as combine
use Rattle.combiner.specs.Standing.{Standing, IsIdle, HasLeft, HasLeftABlock, HasLeftACall, HasLeftBlock, HasLeftCall, HasLeftJob}
use Rattle.combiner.specs.Cases.{is_told, IfAnswered, IfBack, IfBlockAnswered, IfBlockBack, OnBusy, OnIdle, OnServed, OnWaiting, IfServed}
use Rattle.combiner.specs.Own.{KeepsCall, IsEnded}
use Rattle.combiner.specs.Says.{leaving, meeting, serving, KeepsNotes, Continues, IsAnswered, IsBlockAnswered, IsAnsweredAtLast, IsBlockAnsweredAtLast, IsBlockThatWasLeft, IsWhatWasLeft, IsGivenBack, IsBlockGivenBack, MeetsAnother}

pub not_idle : (left idle : Bool) → idle ≡ not left → idle ≡ false → left ≡ true
not_idle true idle is e = refl
not_idle false idle is e = absurd (cc (is, e))

-- where something is left, it is a job
pub job_left : (phase : Phase) → left_in phase ≡ true → phase ≡ Left (left_job phase) (left_start phase)
job_left Idle e = absurd (cc e)
job_left (Left job start) e = refl

pub has_left : (c : Standing) → left_in c.phase ≡ true → HasLeft c
has_left c left = (left_job c.phase, left_start c.phase, job_left c.phase left)

abbrev is_block : Outcome → Bool
is_block (Answered place reply) = false
is_block (Refused call) = false
is_block (AnsweredBlock place replies) = true
is_block (RefusedBlock calls) = true

-- the job that was left is of the kind of its outcome
one_left : (c : Standing) (job : Job) (o : Outcome) → is_block o ≡ false → left_job c.phase ≡ job → IsOfJob job o → (call : Call) × (left_job c.phase ≡ One call)
one_left c (One call) o one is kind = (call, is)
one_left c (Many calls) (Answered place reply) one is kind = absurd kind
one_left c (Many calls) (Refused call) one is kind = absurd kind
one_left c (Many calls) (AnsweredBlock place replies) one is kind = absurd (cc one)
one_left c (Many calls) (RefusedBlock back) one is kind = absurd (cc one)

block_left : (c : Standing) (job : Job) (o : Outcome) → is_block o ≡ true → left_job c.phase ≡ job → IsOfJob job o → (calls : Vec Call) × (left_job c.phase ≡ Many calls)
block_left c (Many calls) o many is kind = (calls, is)
block_left c (One call) (Answered place reply) many is kind = absurd (cc many)
block_left c (One call) (Refused back) many is kind = absurd (cc many)
block_left c (One call) (AnsweredBlock place replies) many is kind = absurd kind
block_left c (One call) (RefusedBlock back) many is kind = absurd kind

-- the calls of the job that is left
left_calls-job : (c : Standing) (job : Job) → left_in c.phase ≡ true → left_job c.phase ≡ job → left_calls c.phase ≡ calls_of job
left_calls-job c job left is = ap left_calls (job_left c.phase left) ∙ ap calls_of is

is_left : (c : Standing) (job : Job) → left_in c.phase ≡ true → left_job c.phase ≡ job → HasLeftJob c job (left_start c.phase)
is_left c job left is = job_left c.phase left ∙ ap (λ (j : Job). Left j (left_start c.phase)) is

-- what became of the call that was left, as `poll` tells it
collected_answers : (c d : Standing) (place : ℕ) (reply : Reply) → left_in c.phase ≡ true → IsOfJob (left_job c.phase) (Answered place reply)
    → Collected c (fate_of (Answered place reply)) d → IsAnswered c d place reply
collected_answers c d place reply left kind told =
    let mine = one_left c (left_job c.phase) (Answered place reply) refl refl kind in
    let calls = left_calls-job c (One mine.0) left mine.1 in
    let seen : d.seen ≡ longer c.seen told.0 = ap (λ (z : Standing). z.seen) told.5 in
    record {
      call = mine.0;
      start = left_start c.phase;
      history = told.0;
      left = is_left c (One mine.0) left mine.1;
      ends_there = told.1 ∙ ap (λ (cs : List Call). place + length cs) calls;
      answers = subst (λ (cs : List Call). Answers c.bounds (left_start c.phase) c.own c.number cs told.0 (answer_of reply ∷ [])) calls told.2;
      after = told.5 ∙ ap (λ (cs : List Call). answering_calls c cs told.0) calls;
      later = subst (Begins c.seen) (sym seen) told.3;
      whole = subst (Begins told.0) (sym seen) told.4;
    }

-- and of the block
collected_answers_block : (c d : Standing) (place : ℕ) (replies : Vec Reply) → left_in c.phase ≡ true → IsOfJob (left_job c.phase) (AnsweredBlock place replies)
    → Collected c (fate_of (AnsweredBlock place replies)) d → IsBlockAnswered c d place replies
collected_answers_block c d place replies left kind told =
    let mine = block_left c (left_job c.phase) (AnsweredBlock place replies) refl refl kind in
    let calls = left_calls-job c (Many mine.0) left mine.1 in
    let seen : d.seen ≡ longer c.seen told.0 = ap (λ (z : Standing). z.seen) told.5 in
    record {
      calls = mine.0;
      start = left_start c.phase;
      history = told.0;
      left = is_left c (Many mine.0) left mine.1;
      ends_there = told.1 ∙ ap (λ (cs : List Call). place + length cs) calls;
      answers = subst (λ (cs : List Call). Answers c.bounds (left_start c.phase) c.own c.number cs told.0 (map answer_of replies.items)) calls told.2;
      after = told.5 ∙ ap (λ (cs : List Call). answering_calls c cs told.0) calls;
      later = subst (Begins c.seen) (sym seen) told.3;
      whole = subst (Begins told.0) (sym seen) told.4;
    }

collected_gives_back : (c d : Standing) (call : Call) → left_in c.phase ≡ true → IsOfJob (left_job c.phase) (Refused call)
    → Collected c (fate_of (Refused call)) d → IsGivenBack c d call
collected_gives_back c d call left kind told =
    let mine = one_left c (left_job c.phase) (Refused call) refl refl kind in
    let same : call ∷ [] ≡ mine.0 ∷ [] = told.0 ∙ left_calls-job c (One mine.0) left mine.1 in
    let call_is : mine.0 ≡ call = cc same in
    (left_start c.phase, is_left c (One call) left (mine.1 ∙ ap One call_is), told.1)

collected_block_back : (c d : Standing) (calls : Vec Call) → left_in c.phase ≡ true → IsOfJob (left_job c.phase) (RefusedBlock calls)
    → Collected c (fate_of (RefusedBlock calls)) d → IsBlockGivenBack c d calls
collected_block_back c d calls left kind told =
    let mine = block_left c (left_job c.phase) (RefusedBlock calls) refl refl kind in
    record {
      calls = mine.0;
      start = left_start c.phase;
      left = is_left c (Many mine.0) left mine.1;
      back_is = told.0 ∙ left_calls-job c (Many mine.0) left mine.1;
      after = told.1;
    }

abbrev pub polled_of : Outcome → Polled
polled_of (Answered place reply) = poll.Answered place reply
polled_of (Refused call) = poll.OutOfMemory call
polled_of (AnsweredBlock place replies) = poll.AnsweredBlock place replies
polled_of (RefusedBlock calls) = poll.OutOfMemoryBlock calls

-- what a poll says that tells an outcome
pub record IsTold (c d : Standing) (says : Polled) : Type 0 where
  pub answered : IfAnswered says (IsAnswered c d)
  pub back : IfBack says (IsGivenBack c d)
  pub block_answered : IfBlockAnswered says (IsBlockAnswered c d)
  pub block_back : IfBlockBack says (IsBlockGivenBack c d)

pub collected_says : (c d : Standing) (o : Outcome) → left_in c.phase ≡ true → IsOfJob (left_job c.phase) o → Collected c (fate_of o) d → IsTold c d (polled_of o)
collected_says c d (Answered place reply) left kind told = record { answered = collected_answers c d place reply left kind told; back = tt; block_answered = tt; block_back = tt }
collected_says c d (Refused call) left kind told = record { answered = tt; back = collected_gives_back c d call left kind told; block_answered = tt; block_back = tt }
collected_says c d (AnsweredBlock place replies) left kind told = record { answered = tt; back = tt; block_answered = collected_answers_block c d place replies left kind told; block_back = tt }
collected_says c d (RefusedBlock calls) left kind told = record { answered = tt; back = tt; block_answered = tt; block_back = collected_block_back c d calls left kind told }

continues_on : (a b c : List ℕ) → Continues a b → Continues b c → Continues a c
continues_on a b c p q = (p.0 ++ q.0, q.1 ∙ (ap (λ l. l ++ q.0) p.1 ∙ append_assoc a p.0 q.0))

pub notes_kept : (c d : Standing) → d.held ≡ c.held → d.met ≡ c.met → d.passes ≡ c.passes → KeepsNotes c d
notes_kept c d held met passes = (λ had. held ∙ had, ([], met ∙ sym (append-nil c.met)), ([], passes ∙ sym (append-nil c.passes)))

pub notes_follow : (c d e : Standing) → KeepsNotes c d → KeepsNotes d e → KeepsNotes c e
notes_follow c d e p q = (λ had. q.0 (p.0 had), continues_on c.met d.met e.met p.1 q.1, continues_on c.passes d.passes e.passes p.2 q.2)

notes_met : (c : Standing) (h : ℕ) → KeepsNotes c (meeting c h)
notes_met c h = (λ had. had, (h ∷ [], refl), ([], sym (append-nil c.passes)))

-- a caller that found another with the book
pub notes_meeting : (c d : Standing) → MeetsAnother c d → KeepsNotes c d
notes_meeting c d met = subst (KeepsNotes c) (sym met.2) (notes_met c met.0)

notes_served : (c d : Standing) (line : List Entry) (calls : ℕ) → d ≡ serving c line calls → KeepsNotes c d
notes_served c d line calls is = subst (KeepsNotes c) (sym is) (λ _. refl, ([], sym (append-nil c.met)), (calls ∷ [], refl))

pub waiting_begins : (c : Standing) → KeepsCall c c
waiting_begins c = record { number = refl; bounds = refl; phase = refl; own = refl; later = begins_self c.seen; notes = notes_kept c c refl refl refl }

pub waiting_combines : (c d d' : Standing) (says : Combined) → KeepsCall c d → OnBusy says (MeetsAnother d d') → IfServed says (λ calls waves kernels. d' ≡ serving d d'.seen calls) → OnServed says (Begins d.seen d'.seen)
    → KeepsCall c d'
waiting_combines c d d' combine.Busy w busy served later = subst (KeepsCall c) (sym busy.2) record { number = w.number; bounds = w.bounds; phase = w.phase; own = w.own; later = w.later; notes = notes_follow c d (meeting d busy.0) w.notes (notes_met d busy.0) }
waiting_combines c d d' (combine.Served calls waves kernels) w busy served later = record {
  number = ap (λ (z : Standing). z.number) served ∙ w.number;
  bounds = ap (λ (z : Standing). z.bounds) served ∙ w.bounds;
  phase = ap (λ (z : Standing). z.phase) served ∙ w.phase;
  own = ap (λ (z : Standing). z.own) served ∙ w.own;
  later = begins_trans c.seen d.seen d'.seen w.later later;
  notes = notes_follow c d d' w.notes (notes_served d d' d'.seen calls served);
}

pub waiting_waits : (c d d' : Standing) → KeepsCall c d → d' ≡ d → KeepsCall c d'
waiting_waits c d d' w is = subst (KeepsCall c) (sym is) w

waiting_not_idle : (c d : Standing) → HasLeft c → KeepsCall c d → IsIdle d → ⊥
waiting_not_idle c d left w e = cc (left.2, w.phase, e)

-- it goes on waiting where nothing is told
pub waiting_still : (c d d' : Standing) (says : Polled) → HasLeft c → KeepsCall c d → is_told says ≡ false → OnIdle says (IsIdle d × (d' ≡ d)) → OnWaiting says (HasLeft d × (d' ≡ d)) → KeepsCall c d'
waiting_still c d d' poll.Idle left w none idle waits = absurd (waiting_not_idle c d left w idle.0)
waiting_still c d d' poll.Waiting left w none idle waits = waiting_waits c d d' w waits.1
waiting_still c d d' (poll.Answered place reply) left w none idle waits = absurd (cc none)
waiting_still c d d' (poll.OutOfMemory call) left w none idle waits = absurd (cc none)
waiting_still c d d' (poll.AnsweredBlock place replies) left w none idle waits = absurd (cc none)
waiting_still c d d' (poll.OutOfMemoryBlock calls) left w none idle waits = absurd (cc none)

-- what it left is no block
pub waiting_no_block : (c d : Standing) (calls : Vec Call) (start : List Entry) → HasLeftACall c → KeepsCall c d → HasLeftBlock d calls start → ⊥
waiting_no_block c d calls start left w block = cc (left.2, w.phase, block)

-- and here no single call
pub waiting_no_call : (c d : Standing) (call : Call) (start : List Entry) → HasLeftABlock c → KeepsCall c d → HasLeftCall d call start → ⊥
waiting_no_call c d call start left w one = cc (left.2, w.phase, one)

pub waiting_answered : (c d d' : Standing) (place : ℕ) (reply : Reply) → KeepsCall c d → IsAnswered d d' place reply → IsEnded c d' × IsAnsweredAtLast c d' place reply
waiting_answered c d d' place reply w a = (
  record {
    number = ap (λ (z : Standing). z.number) a.after ∙ w.number;
    bounds = ap (λ (z : Standing). z.bounds) a.after ∙ w.bounds;
    idle = ap (λ (z : Standing). z.phase) a.after;
    later = begins_trans c.seen d.seen d'.seen w.later a.later;
    notes = notes_follow c d d' w.notes (notes_kept d d' (ap (λ (z : Standing). z.held) a.after) (ap (λ (z : Standing). z.met) a.after) (ap (λ (z : Standing). z.passes) a.after));
  },
  record {
    call = a.call;
    start = a.start;
    history = a.history;
    left = sym w.phase ∙ a.left;
    ends_there = a.ends_there;
    answers = subst (λ (z : Bounds × (List Call) × ℕ). Answers z.0 a.start z.1 z.2 (a.call ∷ []) a.history (answer_of reply ∷ [])) (λ i. (w.bounds i, w.own i, w.number i)) a.answers;
    whole = a.whole;
    record_is = ap (λ (z : Standing). z.own) a.after ∙ ap (λ (own : List Call). own ++ a.call ∷ []) w.own;
  },
)

pub waiting_given_back : (back : Call) (c d d' : Standing) → KeepsCall c d → IsGivenBack d d' back → IsEnded c d' × IsWhatWasLeft c back × (d'.own ≡ c.own)
waiting_given_back back c d d' w t = (
  record {
    number = ap (λ (z : Standing). z.number) t.2 ∙ w.number;
    bounds = ap (λ (z : Standing). z.bounds) t.2 ∙ w.bounds;
    idle = ap (λ (z : Standing). z.phase) t.2;
    later = subst (Begins c.seen) (sym (ap (λ (z : Standing). z.seen) t.2)) w.later;
    notes = notes_follow c d d' w.notes (notes_kept d d' (ap (λ (z : Standing). z.held) t.2) (ap (λ (z : Standing). z.met) t.2) (ap (λ (z : Standing). z.passes) t.2));
  },
  (t.0, sym w.phase ∙ t.1),
  ap (λ (z : Standing). z.own) t.2 ∙ w.own,
)

pub waiting_block_answered : (c d d' : Standing) (place : ℕ) (replies : Vec Reply) → KeepsCall c d → IsBlockAnswered d d' place replies → IsEnded c d' × IsBlockAnsweredAtLast c d' place replies
waiting_block_answered c d d' place replies w a = (
  record {
    number = ap (λ (z : Standing). z.number) a.after ∙ w.number;
    bounds = ap (λ (z : Standing). z.bounds) a.after ∙ w.bounds;
    idle = ap (λ (z : Standing). z.phase) a.after;
    later = begins_trans c.seen d.seen d'.seen w.later a.later;
    notes = notes_follow c d d' w.notes (notes_kept d d' (ap (λ (z : Standing). z.held) a.after) (ap (λ (z : Standing). z.met) a.after) (ap (λ (z : Standing). z.passes) a.after));
  },
  record {
    calls = a.calls;
    start = a.start;
    history = a.history;
    left = sym w.phase ∙ a.left;
    ends_there = a.ends_there;
    answers = subst (λ (z : Bounds × (List Call) × ℕ). Answers z.0 a.start z.1 z.2 a.calls.items a.history (map answer_of replies.items)) (λ i. (w.bounds i, w.own i, w.number i)) a.answers;
    whole = a.whole;
    record_is = ap (λ (z : Standing). z.own) a.after ∙ ap (λ (own : List Call). own ++ a.calls.items) w.own;
  },
)

pub waiting_block_back : (back : Vec Call) (c d d' : Standing) → KeepsCall c d → IsBlockGivenBack d d' back → IsEnded c d' × IsBlockThatWasLeft c back × (d'.own ≡ c.own)
waiting_block_back back c d d' w t = (
  record {
    number = ap (λ (z : Standing). z.number) t.after ∙ w.number;
    bounds = ap (λ (z : Standing). z.bounds) t.after ∙ w.bounds;
    idle = ap (λ (z : Standing). z.phase) t.after;
    later = subst (Begins c.seen) (sym (ap (λ (z : Standing). z.seen) t.after)) w.later;
    notes = notes_follow c d d' w.notes (notes_kept d d' (ap (λ (z : Standing). z.held) t.after) (ap (λ (z : Standing). z.met) t.after) (ap (λ (z : Standing). z.passes) t.after));
  },
  (t.calls, t.start, sym w.phase ∙ t.left, t.back_is),
  ap (λ (z : Standing). z.own) t.after ∙ w.own,
)

-- a caller that has left a call, and nothing since
pub left_by_leaving : (call : Call) (c b : Standing) → b ≡ leaving c call → HasLeftACall b
left_by_leaving call c b is = (call, c.seen, ap (λ (z : Standing). z.phase) is)
