-- What a worker is told, as it goes on. `call_done` and `block_done`: one more job is answered; `comes_first` and `work_more`: how
-- it goes through its script; `replies_same`: a longer history without more calls of a caller has the same replies to it.
use Rattle.std.proofs.Common.{◌≡◌, ℕ, suc, ◌+◌, ◌==◌, Bool, true, false, cond, List, [], ◌∷◌, ◌++◌, map, length, refl, sym, ap, ◌∙◌, subst, arith, append_assoc, append-nil, length-append, below_more, Vec, eq-eqb, ◌≤◌, ◌<◌}
use Rattle.std.proofs.lemmas.List.{length-map, map-append, nil_from_length}
use Rattle.vector_memory.specs.declared.bounds.Bounds.{Bounds}
use Rattle.std.specs.Global.{Global}
use Rattle.vector_memory.specs.States.{State, empty}
use Rattle.cvl_text.specs.declared.call.Call.{Call}
use Rattle.cvl_text.specs.declared.reply.Reply.{Reply}
use Rattle.cvl_text.specs.Tasks.{task_of}
use Rattle.cvl_text.specs.Answers.{Answer, answer_of}
use Rattle.cvl_calls.specs.Steps.{stepped}
use Rattle.call_history.specs.declared.entry.Entry.{Entry}
use Rattle.call_history.specs.History.{Begins, call_of, replay, replay_from, replies_from}
use Rattle.call_history.specs.Callers.{calls_by, entries_by, next_before}
use Rattle.call_history.specs.Answers.{Answers}
use Rattle.call_history.specs.Blocks.{block_entries}
use Rattle.call_history.specs.declared.request.Job.{Job}
use Rattle.call_history.specs.declared.request.Job.TheVariants.{One, Many}
use Rattle.call_history.specs.Fits.{calls_of}
use Rattle.call_history.proofs.Blocks.{calls_by-block}
use Rattle.call_history.proofs.CallerLemmas.{calls_by-append, calls_by-le, entries_by-append}
use Rattle.combiner.specs.Standing.{Machine, Left, Standing, IsIdle, HasLeftABlock, HasLeftACall, IsNewAt, Rests}
use Rattle.combiner.specs.Says.{leaving, leaving_block, IsAnsweredAtLast, IsBlockAnsweredAtLast}
use Rattle.script_main.specs.Settles.{calls_in, down_from, replies_by, rests_by, rests_in}
use Rattle.script_main.specs.Gates.{MayPass}
use Rattle.script_main.specs.Workers.{HasDone, TakesTurn}

-- how many more entries of its block follow an entry
abbrev rest_of : Entry → ℕ
rest_of e = e.rest

pub replies_by-append : (k : ℕ) (m : State) (xs ys : List Entry) → replies_by k m (xs ++ ys) ≡ replies_by k m xs ++ replies_by k (replay_from m xs) ys
replies_by-append k m [] ys = refl
replies_by-append k m (e ∷ es) ys = go (e.caller == k) (replies_by-append k (stepped m (task_of e.call)).memory es ys)
  where
    after : State
    after = (stepped m (task_of e.call)).memory

    answer : Answer
    answer = (stepped m (task_of e.call)).answer

    go : (b : Bool) → replies_by k after (es ++ ys) ≡ replies_by k after es ++ replies_by k (replay_from after es) ys
        → cond b (answer ∷ replies_by k after (es ++ ys)) (replies_by k after (es ++ ys)) ≡ cond b (answer ∷ replies_by k after es) (replies_by k after es) ++ replies_by k (replay_from after es) ys
    go true known = ap (λ (l : List Answer). answer ∷ l) known
    go false known = known

pub length-replies_by : (k : ℕ) (m : State) (xs : List Entry) → length (replies_by k m xs) ≡ length (calls_by k xs)
length-replies_by k m [] = refl
length-replies_by k m (e ∷ es) = go (e.caller == k) (length-replies_by k (stepped m (task_of e.call)).memory es)
  where
    after : State
    after = (stepped m (task_of e.call)).memory

    answer : Answer
    answer = (stepped m (task_of e.call)).answer

    go : (b : Bool) → length (replies_by k after es) ≡ length (calls_by k es)
        → length (cond b (answer ∷ replies_by k after es) (replies_by k after es)) ≡ length (map call_of (cond b (e ∷ entries_by k es) (entries_by k es)))
    go true known = ap suc known
    go false known = known

pub replies_same : (k : ℕ) (m : State) (xs ys : List Entry) (calls : List Call) → Begins xs ys → calls_by k xs ≡ calls → calls_by k ys ≡ calls → replies_by k m ys ≡ replies_by k m xs
replies_same k m xs ys calls p low high =
    let all : calls_by k ys ≡ calls_by k xs ++ calls_by k p.0 = ap (calls_by k) p.1 ∙ calls_by-append k xs p.0 in
    let sizes : length calls ≡ length calls + length (calls_by k p.0) =
    sym (ap length high) ∙ (ap length all ∙ (length-append (calls_by k xs) (calls_by k p.0) ∙ ap (λ (l : List Call). length l + length (calls_by k p.0)) low)) in
    let counted : length (replies_by k (replay_from m xs) p.0) ≡ length (calls_by k p.0) = length-replies_by k (replay_from m xs) p.0 in
    let none : replies_by k (replay_from m xs) p.0 ≡ [] = nil_from_length (replies_by k (replay_from m xs) p.0) (omega arith) in
    ap (replies_by k m) p.1 ∙ (replies_by-append k m xs p.0 ∙ (ap (λ (l : List Answer). replies_by k m xs ++ l) none ∙ append-nil (replies_by k m xs)))

pub rests_by-append : (k : ℕ) (xs ys : List Entry) → rests_by k (xs ++ ys) ≡ rests_by k xs ++ rests_by k ys
rests_by-append k xs ys = ap (map rest_of) (entries_by-append k xs ys) ∙ map-append rest_of (entries_by k xs) (entries_by k ys)

pub length-rests_by : (k : ℕ) (xs : List Entry) → length (rests_by k xs) ≡ length (calls_by k xs)
length-rests_by k xs = length-map (entries_by k xs) rest_of ∙ sym (length-map (entries_by k xs) call_of)

-- a longer history without more calls of a caller has its blocks alike
pub rests_same : (k : ℕ) (xs ys : List Entry) (calls : List Call) → Begins xs ys → calls_by k xs ≡ calls → calls_by k ys ≡ calls → rests_by k ys ≡ rests_by k xs
rests_same k xs ys calls p low high =
    let all : calls_by k ys ≡ calls_by k xs ++ calls_by k p.0 = ap (calls_by k) p.1 ∙ calls_by-append k xs p.0 in
    let sizes : length calls ≡ length calls + length (calls_by k p.0) =
    sym (ap length high) ∙ (ap length all ∙ (length-append (calls_by k xs) (calls_by k p.0) ∙ ap (λ (l : List Call). length l + length (calls_by k p.0)) low)) in
    let counted : length (rests_by k p.0) ≡ length (calls_by k p.0) = length-rests_by k p.0 in
    let none : rests_by k p.0 ≡ [] = nil_from_length (rests_by k p.0) (omega arith) in
    ap (rests_by k) p.1 ∙ (rests_by-append k xs p.0 ∙ (ap (λ (l : List ℕ). rests_by k xs ++ l) none ∙ append-nil (rests_by k xs)))

-- entries that are all of the caller have all replies
own_replies : (k : ℕ) (m : State) (es : List Entry) → entries_by k es ≡ es → replies_by k m es ≡ replies_from m es
own_replies k m [] own = refl
own_replies k m (e ∷ es) own = go (e.caller == k) own (λ others. own_replies k after es others)
  where
    after : State
    after = (stepped m (task_of e.call)).memory

    answer : Answer
    answer = (stepped m (task_of e.call)).answer

    go : (b : Bool) → cond b (e ∷ entries_by k es) (entries_by k es) ≡ e ∷ es → (entries_by k es ≡ es → replies_by k after es ≡ replies_from after es)
        → cond b (answer ∷ replies_by k after es) (replies_by k after es) ≡ answer ∷ replies_from after es
    go true h then = ap (λ (l : List Answer). answer ∷ l) (then (cc h))
    go false h then = absurd (let sizes = ap length h in let few = calls_by-le k es in let same = length-map (entries_by k es) call_of in omega (arith, sizes, few, same))

-- the entries of a block are all of its caller
entries-block : (k : ℕ) (history : List Entry) (calls : List Call) → entries_by k (block_entries history k calls) ≡ block_entries history k calls
entries-block k history [] = refl
entries-block k history (c ∷ cs) =
    let e = next_before history k c (length cs) in
    let others = block_entries (history ++ e ∷ []) k cs in
    ap (λ b. cond b (e ∷ entries_by k others) (entries_by k others)) (eq-eqb k k refl) ∙ ap (λ (es : List Entry). e ∷ es) (entries-block k (history ++ e ∷ []) cs)

rests-block : (k : ℕ) (history : List Entry) (calls : List Call) → map rest_of (block_entries history k calls) ≡ down_from (length calls)
rests-block k history [] = refl
rests-block k history (c ∷ cs) = ap (λ (ns : List ℕ). length cs ∷ ns) (rests-block k (history ++ next_before history k c (length cs) ∷ []) cs)

-- lists of one length are alike where they end alike
same_end : {A : Type 0} (xs ys zs ws : List A) → xs ++ zs ≡ ys ++ ws → length zs ≡ length ws → zs ≡ ws
same_end [] [] zs ws e sizes = e
same_end [] (y ∷ ys) zs ws e sizes = absurd (let both = ap length e ∙ ap suc (length-append ys ws) in omega (arith, both, sizes))
same_end (x ∷ xs) [] zs ws e sizes = absurd (let both = sym (ap suc (length-append xs zs)) ∙ ap length e in omega (arith, both, sizes))
same_end (x ∷ xs) (y ∷ ys) zs ws e sizes = same_end xs ys zs ws (cc e) sizes

-- A history that ends with one more job of the caller has its replies, and its rests, behind those of before.
module _ (k : ℕ) (bounds : Bounds) (seen history before : List Entry) (own calls : List Call) (begins : Begins seen history) (had : calls_by k seen ≡ own) (ends : history ≡ before ++ block_entries before k calls)
    (owns : calls_by k history ≡ own ++ calls) where
  abbrev block : List Entry
  block = block_entries before k calls

  abbrev from : State
  from = replay_from (empty bounds) seen

  -- what came behind all that was seen has so many calls of the caller
  more_calls : length (calls_by k begins.0) ≡ length calls
  more_calls =
      let all : calls_by k history ≡ calls_by k seen ++ calls_by k begins.0 = ap (calls_by k) begins.1 ∙ calls_by-append k seen begins.0 in
      let sizes : length own + length calls ≡ length own + length (calls_by k begins.0) =
      sym (length-append own calls) ∙ (sym (ap length owns) ∙ (ap length all ∙ (length-append (calls_by k seen) (calls_by k begins.0) ∙ ap (λ (l : List Call). length l + length (calls_by k begins.0)) had))) in
      omega (arith, sizes)

  replies_more : (answers : List Answer) → replies_from (replay bounds before) block ≡ answers → replies_by k (empty bounds) history ≡ replies_by k (empty bounds) seen ++ answers
  replies_more answers told =
      let news : List Answer = replies_by k from begins.0 in
      let one_way : replies_by k (empty bounds) history ≡ replies_by k (empty bounds) seen ++ news = ap (replies_by k (empty bounds)) begins.1 ∙ replies_by-append k (empty bounds) seen begins.0 in
      let its : replies_by k (replay bounds before) block ≡ answers = own_replies k (replay bounds before) block (entries-block k before calls) ∙ told in
      let other_way : replies_by k (empty bounds) history ≡ replies_by k (empty bounds) before ++ answers =
      ap (replies_by k (empty bounds)) ends ∙ (replies_by-append k (empty bounds) before block ∙ ap (λ (l : List Answer). replies_by k (empty bounds) before ++ l) its) in
      let many : length news ≡ length calls = length-replies_by k from begins.0 ∙ more_calls in
      let few : length answers ≡ length calls = ap length (sym its) ∙ (length-replies_by k (replay bounds before) block ∙ ap length (calls_by-block k before calls)) in
      let same : news ≡ answers = same_end (replies_by k (empty bounds) seen) (replies_by k (empty bounds) before) news answers (sym one_way ∙ other_way) (many ∙ sym few) in
      one_way ∙ ap (λ (l : List Answer). replies_by k (empty bounds) seen ++ l) same

  rests_more : rests_by k history ≡ rests_by k seen ++ down_from (length calls)
  rests_more =
      let news : List ℕ = rests_by k begins.0 in
      let one_way : rests_by k history ≡ rests_by k seen ++ news = ap (rests_by k) begins.1 ∙ rests_by-append k seen begins.0 in
      let its : rests_by k block ≡ down_from (length calls) = ap (map rest_of) (entries-block k before calls) ∙ rests-block k before calls in
      let other_way : rests_by k history ≡ rests_by k before ++ down_from (length calls) = ap (rests_by k) ends ∙ (rests_by-append k before block ∙ ap (λ (l : List ℕ). rests_by k before ++ l) its) in
      let many : length news ≡ length calls = length-rests_by k begins.0 ∙ more_calls in
      let few : length (down_from (length calls)) ≡ length calls = ap length (sym its) ∙ (length-rests_by k block ∙ ap length (calls_by-block k before calls)) in
      let same : news ≡ down_from (length calls) = same_end (rests_by k seen) (rests_by k before) news (down_from (length calls)) (sym one_way ∙ other_way) (many ∙ sym few) in
      one_way ∙ ap (λ (l : List ℕ). rests_by k seen ++ l) same

calls_in-push : (jobs : List Job) (job : Job) → calls_in (jobs ++ job ∷ []) ≡ calls_in jobs ++ calls_of job
calls_in-push [] job = append-nil (calls_of job)
calls_in-push (j ∷ js) job = ap (λ (l : List Call). calls_of j ++ l) (calls_in-push js job) ∙ sym (append_assoc (calls_of j) (calls_in js) (calls_of job))

rests_in-push : (jobs : List Job) (job : Job) → rests_in (jobs ++ job ∷ []) ≡ rests_in jobs ++ down_from (length (calls_of job))
rests_in-push [] job = append-nil (down_from (length (calls_of job)))
rests_in-push (j ∷ js) job =
    ap (λ (l : List ℕ). down_from (length (calls_of j)) ++ l) (rests_in-push js job) ∙ sym (append_assoc (down_from (length (calls_of j))) (rests_in js) (down_from (length (calls_of job))))

pub left_by_leaving : (call : Call) (c b : Standing) → b ≡ leaving c call → HasLeftACall b
left_by_leaving call c b is = (call, c.seen, ap (λ (z : Standing). z.phase) is)

pub block_left_by_leaving : (calls : Vec Call Global) (c b : Standing) → b ≡ leaving_block c calls → HasLeftABlock b
block_left_by_leaving calls c b is = (calls, c.seen, ap (λ (z : Standing). z.phase) is)

told_nothing : (m : Machine) (c : Standing) → IsNewAt m c.bounds c → HasDone m c.bounds c.number [] c []
told_nothing m c new = record {
  machine_is = new.machine_is;
  bounds_is = refl;
  number_is = refl;
  idle = new.idle;
  record_is = new.record_is;
  calls_are = ap (calls_by c.number) new.front_is;
  rests_are = ap (rests_by c.number) new.front_is;
  replies_are = sym (ap (replies_by c.number (empty c.bounds)) new.front_is);
}

-- the job that was left is done, by a history that answers its calls, all of which was seen then
job_done : (c d : Standing) (job : Job) (history : List Entry) (answers : List Answer) → d.machine ≡ c.machine → d.number ≡ c.number → d.bounds ≡ c.bounds → IsIdle d → Rests d
    → Answers c.bounds c.seen c.own c.number (calls_of job) history answers → Begins history d.seen → d.own ≡ c.own ++ calls_of job → TakesTurn c job d answers
job_done c d job history answers machine numbered bounds idle rests told whole own jobs replies h =
    let calls : List Call = calls_of job in
    let grown : calls_in jobs ++ calls ≡ calls_in (jobs ++ job ∷ []) = sym (calls_in-push jobs job) in
    let record_is : d.own ≡ calls_in jobs ++ calls = own ∙ ap (λ (l : List Call). l ++ calls) h.record_is in
    let mine : calls_by c.number d.seen ≡ calls_in jobs ++ calls = ap (λ (n : ℕ). calls_by n d.seen) (sym numbered) ∙ ((rests idle).0 ∙ record_is) in
    let owns : calls_by c.number history ≡ calls_in jobs ++ calls = told.owns ∙ ap (λ (l : List Call). l ++ calls) h.record_is in
    let more = replies_more c.number c.bounds c.seen history told.before (calls_in jobs) calls told.begins h.calls_are told.ends owns answers told.replies_are in
    let followed = rests_more c.number c.bounds c.seen history told.before (calls_in jobs) calls told.begins h.calls_are told.ends owns in
    record {
      machine_is = machine;
      bounds_is = bounds;
      number_is = numbered;
      idle = idle;
      record_is = record_is ∙ grown;
      calls_are = mine ∙ grown;
      rests_are = rests_same c.number history d.seen (calls_in jobs ++ calls) whole owns mine
          ∙ (followed ∙ (ap (λ (l : List ℕ). l ++ down_from (length calls)) h.rests_are ∙ sym (rests_in-push jobs job)));
      replies_are = ap (λ (l : List Answer). l ++ answers) h.replies_are ∙ (sym more ∙ sym (replies_same c.number (empty c.bounds) history d.seen (calls_in jobs ++ calls) whole owns mine));
    }

pub call_done : (c b d : Standing) (call : Call) (place : ℕ) (reply : Reply) → b ≡ leaving c call → d.machine ≡ c.machine → d.number ≡ b.number → d.bounds ≡ b.bounds → IsIdle d → Rests d
    → IsAnsweredAtLast b d place reply → TakesTurn c (One call) d (answer_of reply ∷ [])
call_done c b d call place reply is machine number bounds idle rests a =
    let both : Left (One a.call) a.start ≡ Left (One call) c.seen = sym a.left ∙ ap (λ (z : Standing). z.phase) is in
    let asked : a.call ∷ [] ≡ call ∷ [] = cc both in
    let start : a.start ≡ c.seen = cc both in
    let told : Answers c.bounds c.seen c.own c.number (call ∷ []) a.history (answer_of reply ∷ []) =
    subst (λ (z : Bounds × (List Entry) × (List Call) × ℕ × (List Call)). Answers z.0 z.1 z.2 z.3 z.4 a.history (answer_of reply ∷ []))
    (λ i. ((is i).bounds, start i, (is i).own, (is i).number, asked i)) a.answers in
    let own : d.own ≡ c.own ++ call ∷ [] = a.record_is ∙ (λ i. (is i).own ++ asked i) in
    job_done c d (One call) a.history (answer_of reply ∷ []) machine (number ∙ ap (λ (z : Standing). z.number) is) (bounds ∙ ap (λ (z : Standing). z.bounds) is) idle rests told a.whole own

pub block_done : (c b d : Standing) (calls : Vec Call Global) (place : ℕ) (replies : Vec Reply Global) → b ≡ leaving_block c calls → d.machine ≡ c.machine → d.number ≡ b.number → d.bounds ≡ b.bounds → IsIdle d → Rests d
    → IsBlockAnsweredAtLast b d place replies → TakesTurn c (Many calls) d (map answer_of replies.items)
block_done c b d calls place replies is machine number bounds idle rests a =
    let both : Left (Many a.calls) a.start ≡ Left (Many calls) c.seen = sym a.left ∙ ap (λ (z : Standing). z.phase) is in
    let same : a.calls ≡ calls = cc both in
    let asked : a.calls.items ≡ calls.items = ap (λ (v : Vec Call Global). v.items) same in
    let start : a.start ≡ c.seen = cc both in
    let told : Answers c.bounds c.seen c.own c.number calls.items a.history (map answer_of replies.items) =
    subst (λ (z : Bounds × (List Entry) × (List Call) × ℕ × (List Call)). Answers z.0 z.1 z.2 z.3 z.4 a.history (map answer_of replies.items))
    (λ i. ((is i).bounds, start i, (is i).own, (is i).number, asked i)) a.answers in
    let own : d.own ≡ c.own ++ calls.items = a.record_is ∙ (λ i. (is i).own ++ asked i) in
    job_done c d (Many calls) a.history (map answer_of replies.items) machine (number ∙ ap (λ (z : Standing). z.number) is) (bounds ∙ ap (λ (z : Standing). z.bounds) is) idle rests told a.whole own

-- Worker k has come so far in its script, with this rest of it, and is to take this turn: it has done the jobs before that, with these
-- replies, and its gate let it take those turns.
pub record HasCome (may_answer : ℕ → ℕ → Bool → Type 0) (m : Machine) (bounds : Bounds) (k : ℕ) (script rest : List Job) (c : Standing) (turn : ℕ) (told : List Reply) : Type 0 where
  pub jobs : List Job
  pub script_is : script ≡ jobs ++ rest
  pub done : HasDone m bounds k jobs c (map answer_of told)
  pub counted : length jobs ≡ turn
  pub passes : MayPass may_answer k turn

pub comes_first : (may_answer : ℕ → ℕ → Bool → Type 0) (m : Machine) (script : List Job) (c : Standing) → IsNewAt m c.bounds c → HasCome may_answer m c.bounds c.number script script c 0 []
comes_first may_answer m script c new = record { jobs = []; script_is = refl; done = told_nothing m c new; counted = refl; passes = λ turn lt. absurd (omega arith) }

-- the turn is one of the script
pub turn_below : (may_answer : ℕ → ℕ → Bool → Type 0) (m : Machine) (bounds : Bounds) (k turn : ℕ) (script rest others : List Job) (job : Job) (c : Standing) (told : List Reply) → rest ≡ job ∷ others
    → HasCome may_answer m bounds k script rest c turn told → turn < length script
turn_below may_answer m bounds k turn script rest others job c told next had =
    let sizes = ap length had.script_is ∙ length-append had.jobs rest in
    let some = ap length next in
    omega (arith, sizes, some, had.counted)

-- one more job of a script is done
pub work_more : (may_answer : ℕ → ℕ → Bool → Type 0) (m : Machine) (bounds : Bounds) (k turn : ℕ) (script rest others : List Job) (job : Job) (c d : Standing) (told more : List Reply) → rest ≡ job ∷ others
    → HasCome may_answer m bounds k script rest c turn told → TakesTurn c job d (map answer_of more) → may_answer c.number turn true → HasCome may_answer m bounds k script others d (turn + 1) (told ++ more)
work_more may_answer m bounds k turn script rest others job c d told more next had goes passed =
    let h = had.done in
    let here : HasDone c.machine c.bounds c.number had.jobs c (map answer_of told) =
    subst (λ (z : Machine × Bounds × ℕ). HasDone z.0 z.1 z.2 had.jobs c (map answer_of told)) (λ i. (sym h.machine_is i, sym h.bounds_is i, sym h.number_is i)) h in
    let all : HasDone m bounds k (had.jobs ++ job ∷ []) d (map answer_of told ++ map answer_of more) =
    subst (λ (z : Machine × Bounds × ℕ). HasDone z.0 z.1 z.2 (had.jobs ++ job ∷ []) d (map answer_of told ++ map answer_of more)) (λ i. (h.machine_is i, h.bounds_is i, h.number_is i))
    (goes had.jobs (map answer_of told) here) in
    record {
      jobs = had.jobs ++ job ∷ [];
      script_is = had.script_is ∙ (ap (λ (l : List Job). had.jobs ++ l) next ∙ sym (append_assoc had.jobs (job ∷ []) others));
      done = subst (λ (l : List Answer). HasDone m bounds k (had.jobs ++ job ∷ []) d l) (sym (map-append answer_of told more)) all;
      counted = length-append had.jobs (job ∷ []) ∙ ap (λ n. n + 1) had.counted;
      passes = below_more (λ (t : ℕ). may_answer k t true) turn had.passes (subst (λ (z : ℕ). may_answer z turn true) h.number_is passed);
    }
