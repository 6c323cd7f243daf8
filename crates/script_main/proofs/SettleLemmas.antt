-- A closed history and the workers' scripts. `all_entries`: the entries of a history, counted caller by caller; `settles`: where
-- there are as many as replies, the history has exactly the scripts, and the replies are those at their entries.
use Rattle.std.proofs.Common.{◌⊎◌, inl, inr, ◌≡◌, ◌≢◌, ℕ, zero, suc, ◌+◌, ◌<◌, ◌≤◌, cond, List, [], ◌∷◌, ◌++◌, map, length, take, slice_index_or, Vec, refl, sym, ap, ◌∙◌, arith, append-nil, length-append, eq-eqb, ne_eqb}
use Rattle.std.specs.Global.{Global}
use Rattle.std.proofs.lemmas.Bool.Decides.{eqb_tells, leb_tells}
use Rattle.std.proofs.lemmas.List.Sums.{sum_by-cons}
use Rattle.std.proofs.lemmas.List.{length-map, nil_from_length, get_or_past}
use Rattle.vector_memory.specs.declared.bounds.Bounds.{Bounds}
use Rattle.vector_memory.specs.States.{empty}
use Rattle.cvl_text.specs.declared.call.Call.{Call}
use Rattle.call_history.specs.declared.request.Job.{Job}
use Rattle.cvl_text.specs.declared.reply.Reply.{Reply}
use Rattle.cvl_text.specs.Answers.{Answer, answer_of}
use Rattle.call_history.specs.declared.entry.Entry.{Entry}
use Rattle.call_history.specs.History.{Begins, call_of}
use Rattle.call_history.specs.Callers.{entries_by, calls_by}
use Rattle.call_history.proofs.CallerLemmas.{calls_by-append}
use Rattle.combiner.specs.Standing.{Machine, left_calls, Standing, IsIdle, callers_of}
use Rattle.combiner.specs.Says.{HasOwnCalls}
use Rattle.script_main.specs.Settles.{calls_in, replies_by, rests_by, rests_in}
use Rattle.script_main.specs.Workers.{reply_count, EachAt}
use Rattle.script_main.proofs.WorkLemmas.{length-replies_by, length-rests_by, replies_same, rests_same}

-- how many entries are of the n callers from k on
abbrev counted : ℕ → ℕ → List Entry → ℕ
counted k zero line = 0
counted k (suc n) line = length (calls_by k line) + counted (k + 1) n line

of_other : (k : ℕ) (e : Entry) (es : List Entry) → e.caller ≢ k → calls_by k (e ∷ es) ≡ calls_by k es
of_other k e es other = ap (λ b. map call_of (cond b (e ∷ entries_by k es) (entries_by k es))) (ne_eqb e.caller k other)

of_same : (k : ℕ) (e : Entry) (es : List Entry) → e.caller ≡ k → calls_by k (e ∷ es) ≡ e.call ∷ calls_by k es
of_same k e es same = ap (λ b. map call_of (cond b (e ∷ entries_by k es) (entries_by k es))) (eq-eqb e.caller k same)

counted-out : (k n : ℕ) (e : Entry) (es : List Entry) → (e.caller < k) ⊎ (k + n ≤ e.caller) → counted k n (e ∷ es) ≡ counted k n es
counted-out k zero e es out = refl
counted-out k (suc n) e es out =
    let other : e.caller ≢ k = elim out [ inl below ↦ omega arith | inr above ↦ omega arith ] in
    let next : (e.caller < k + 1) ⊎ (k + 1 + n ≤ e.caller) = elim out [ inl below ↦ inl (omega arith) | inr above ↦ inr (omega arith) ] in
    let here = ap length (of_other k e es other) in
    let there = counted-out (k + 1) n e es next in
    omega (arith, here, there)

counted-in : (k n : ℕ) (e : Entry) (es : List Entry) → k ≤ e.caller → e.caller < k + n → counted k n (e ∷ es) ≡ suc (counted k n es)
counted-in k zero e es low high = absurd (omega arith)
counted-in k (suc n) e es low high = elim (eqb_tells e.caller k) [
  | inl same ↦
      let here = ap length (of_same k e es same.1) in
      let is : e.caller ≡ k = same.1 in
      let there = counted-out (k + 1) n e es (inl (omega arith)) in
      omega (arith, here, there)
  | inr other ↦
      let here = ap length (of_other k e es other.1) in
      let not : e.caller ≢ k = other.1 in
      let there = counted-in (k + 1) n e es (omega arith) (omega arith) in
      omega (arith, here, there)
]

counted-none : (k n : ℕ) → counted k n [] ≡ 0
counted-none k zero = refl
counted-none k (suc n) = let others = counted-none (k + 1) n in omega (arith, others)

pub all_entries : (n : ℕ) (line : List Entry) → ((k : ℕ) → n ≤ k → calls_by k line ≡ []) → counted 0 n line ≡ length line
all_entries n [] none = counted-none 0 n
all_entries n (e ∷ es) none = elim (leb_tells n e.caller) [
  | inl stranger ↦ absurd (cc (sym (of_same e.caller e es refl) ∙ none e.caller stranger.1))
  | inr known ↦ counted-in 0 n e es (omega arith) (omega (arith, known.1)) ∙ ap suc (all_entries n es (λ k far.
      let above : n ≤ k = far in
      let below : e.caller < n = known.1 in
      let other : e.caller ≢ k = omega arith in
      sym (of_other k e es other) ∙ none k far))
]

-- the history has of worker k exactly its script, each block whole, and at those entries these replies
pub record IsWhole (bounds : Bounds) (line : List Entry) (k : ℕ) (script : List Job) (replies : Vec Reply Global) : Type 0 where
  pub calls : calls_by k line ≡ calls_in script
  pub blocks : rests_by k line ≡ rests_in script
  pub replies_are : map answer_of replies.items ≡ replies_by k (empty bounds) line

pub count_first : (r : Vec Reply Global) (rs : List (Vec Reply Global)) → reply_count (r ∷ rs) ≡ length r.items + reply_count rs
count_first r rs = sum_by-cons (λ (own : Vec Reply Global). length own.items) r rs

-- worker k was given these replies, along a beginning of the history that has its script
pub record IsTold (bounds : Bounds) (line : List Entry) (k : ℕ) (script : List Job) (replies : Vec Reply Global) : Type 0 where
  pub seen : List Entry
  pub begins : Begins seen line
  pub calls_are : calls_by k seen ≡ calls_in script
  pub rests_are : rests_by k seen ≡ rests_in script
  pub replies_are : map answer_of replies.items ≡ replies_by k (empty bounds) seen

-- what a worker was told is no more than what the history has of it
told_some : (bounds : Bounds) (line : List Entry) (k : ℕ) (script : List Job) (replies : Vec Reply Global) (t : IsTold bounds line k script replies)
    → (length replies.items ≡ length (calls_in script)) × (calls_by k line ≡ calls_in script ++ calls_by k t.begins.0)
told_some bounds line k script replies t = (
  sym (length-map replies.items answer_of) ∙ (ap length t.replies_are ∙ (length-replies_by k (empty bounds) t.seen ∙ ap length t.calls_are)),
  ap (calls_by k) t.begins.1 ∙ (calls_by-append k t.seen t.begins.0 ∙ ap (λ (l : List Call). l ++ calls_by k t.begins.0) t.calls_are),
)

told_whole : (bounds : Bounds) (line : List Entry) (k : ℕ) (script : List Job) (replies : Vec Reply Global) → IsTold bounds line k script replies → length (calls_by k line) ≤ length replies.items
    → IsWhole bounds line k script replies
told_whole bounds line k script replies t few =
    let some = told_some bounds line k script replies t in
    let own : List Call = calls_in script in
    let sizes : length (calls_by k line) ≡ length own + length (calls_by k t.begins.0) = ap length some.1 ∙ length-append own (calls_by k t.begins.0) in
    let none : calls_by k t.begins.0 ≡ [] = nil_from_length (calls_by k t.begins.0) (omega (arith, few, sizes, some.0)) in
    let calls : calls_by k line ≡ own = some.1 ∙ (ap (λ (l : List Call). own ++ l) none ∙ append-nil own) in
    record {
      calls = calls;
      blocks = rests_same k t.seen line own t.begins t.calls_are calls ∙ t.rests_are;
      replies_are = t.replies_are ∙ sym (replies_same k (empty bounds) t.seen line own t.begins t.calls_are calls);
    }

told_le : (bounds : Bounds) (line : List Entry) (k : ℕ) (scripts : List (List Job)) (replies : List (Vec Reply Global)) → EachAt (IsTold bounds line) k scripts replies
    → reply_count replies ≤ counted k (length scripts) line
told_le bounds line k [] [] told = omega arith
told_le bounds line k [] (r ∷ rs) told = absurd told
told_le bounds line k (s ∷ ss) [] told = absurd told
told_le bounds line k (s ∷ ss) (r ∷ rs) told =
    let some = told_some bounds line k s r told.0 in
    let sizes : length (calls_by k line) ≡ length (calls_in s) + length (calls_by k told.0.begins.0) = ap length some.1 ∙ length-append (calls_in s) (calls_by k told.0.begins.0) in
    let others = told_le bounds line (k + 1) ss rs told.1 in
    let all : reply_count (r ∷ rs) ≡ length r.items + reply_count rs = count_first r rs in
    omega (arith, sizes, some.0, others, all)

told_all : (bounds : Bounds) (line : List Entry) (k : ℕ) (scripts : List (List Job)) (replies : List (Vec Reply Global)) → EachAt (IsTold bounds line) k scripts replies
    → counted k (length scripts) line ≤ reply_count replies → EachAt (IsWhole bounds line) k scripts replies
told_all bounds line k [] [] told few = tt
told_all bounds line k [] (r ∷ rs) told few = absurd told
told_all bounds line k (s ∷ ss) [] told few = absurd told
told_all bounds line k (s ∷ ss) (r ∷ rs) told few =
    let some = told_some bounds line k s r told.0 in
    let sizes : length (calls_by k line) ≡ length (calls_in s) + length (calls_by k told.0.begins.0) = ap length some.1 ∙ length-append (calls_in s) (calls_by k told.0.begins.0) in
    let others = told_le bounds line (k + 1) ss rs told.1 in
    let all : reply_count (r ∷ rs) ≡ length r.items + reply_count rs = count_first r rs in
    (told_whole bounds line k s r told.0 (omega (arith, few, others, all)), told_all bounds line (k + 1) ss rs told.1 (omega (arith, few, sizes, some.0, all)))

abbrev answers_in : List (Vec Reply Global) → List (List Answer)
answers_in replies = map (λ own. map answer_of own.items) replies

whole_at : (bounds : Bounds) (line : List Entry) (k : ℕ) (scripts : List (List Job)) (replies : List (Vec Reply Global)) → EachAt (IsWhole bounds line) k scripts replies → (i : ℕ) → i < length scripts
    → (calls_by (k + i) line ≡ calls_in (slice_index_or scripts i [])) × (slice_index_or (answers_in replies) i [] ≡ replies_by (k + i) (empty bounds) line)
    × (rests_by (k + i) line ≡ rests_in (slice_index_or scripts i []))
whole_at bounds line k [] replies whole i within = absurd (omega arith)
whole_at bounds line k (s ∷ ss) [] whole i within = absurd whole
whole_at bounds line k (s ∷ ss) (r ∷ rs) whole zero within =
    let here : k + 0 ≡ k = omega arith in
    (ap (λ (n : ℕ). calls_by n line) here ∙ whole.0.calls, whole.0.replies_are ∙ ap (λ (n : ℕ). replies_by n (empty bounds) line) (sym here), ap (λ (n : ℕ). rests_by n line) here ∙ whole.0.blocks)
whole_at bounds line k (s ∷ ss) (r ∷ rs) whole (suc i) within =
    let there : k + suc i ≡ k + 1 + i = omega arith in
    let others = whole_at bounds line (k + 1) ss rs whole.1 i (omega arith) in
    (ap (λ (n : ℕ). calls_by n line) there ∙ others.0, others.1 ∙ ap (λ (n : ℕ). replies_by n (empty bounds) line) (sym there), ap (λ (n : ℕ). rests_by n line) there ∙ others.2)

pub each_length : {A B : Type 0} (fact : ℕ → A → B → Type 0) (k : ℕ) (xs : List A) (ys : List B) → EachAt fact k xs ys → length ys ≡ length xs
each_length fact k [] [] each = refl
each_length fact k [] (y ∷ ys) each = absurd each
each_length fact k (x ∷ xs) [] each = absurd each
each_length fact k (x ∷ xs) (y ∷ ys) each = ap suc (each_length fact (k + 1) xs ys each.1)

pub settles : (bounds : Bounds) (line : List Entry) (scripts : List (List Job)) (replies : List (Vec Reply Global)) → EachAt (IsTold bounds line) 0 scripts replies
    → ((k : ℕ) → length scripts ≤ k → calls_by k line ≡ []) → reply_count replies ≡ length line → (k : ℕ)
    → (calls_by k line ≡ calls_in (slice_index_or scripts k [])) × (slice_index_or (answers_in replies) k [] ≡ replies_by k (empty bounds) line) × (rests_by k line ≡ rests_in (slice_index_or scripts k []))
settles bounds line scripts replies told none counts k =
    let total = all_entries (length scripts) line none in
    let whole = told_all bounds line 0 scripts replies told (omega (arith, total, counts)) in
    elim (leb_tells (length scripts) k) [
      | inl beyond ↦
          let size = each_length (IsTold bounds line) 0 scripts replies told in
          let far : length scripts ≤ k = beyond.1 in
          let mapped : length (answers_in replies) ≡ length replies = length-map replies (λ own. map answer_of own.items) in
          let unasked = none k far in
          let counted : length (replies_by k (empty bounds) line) ≡ length (calls_by k line) = length-replies_by k (empty bounds) line in
          let unanswered : replies_by k (empty bounds) line ≡ [] = nil_from_length (replies_by k (empty bounds) line) (counted ∙ ap length unasked) in
          let unfollowed : rests_by k line ≡ [] = nil_from_length (rests_by k line) (length-rests_by k line ∙ ap length unasked) in
          let past : slice_index_or scripts k [] ≡ [] = get_or_past scripts k [] far in
          (unasked ∙ sym (ap calls_in past), get_or_past (answers_in replies) k [] (omega (arith, size, mapped, far)) ∙ sym unanswered, unfollowed ∙ sym (ap rests_in past))
      | inr within ↦
          let here : 0 + k ≡ k = omega arith in
          let at = whole_at bounds line 0 scripts replies whole k within.1 in
          (ap (λ (n : ℕ). calls_by n line) (sym here) ∙ at.0, at.1 ∙ ap (λ (n : ℕ). replies_by n (empty bounds) line) here, ap (λ (n : ℕ). rests_by n line) (sym here) ∙ at.2)
    ]

pub count_below : (replies : List (Vec Reply Global)) (i : ℕ) (own : Vec Reply Global) → i < length replies → own ≡ slice_index_or replies i own
    → reply_count (take i replies) + length own.items ≤ reply_count replies
count_below [] i own within is = absurd (omega arith)
count_below (r ∷ rs) zero own within is =
    let all : reply_count (r ∷ rs) ≡ length r.items + reply_count rs = count_first r rs in
    let first : length own.items ≡ length r.items = ap (λ (v : Vec Reply Global). length v.items) is in
    omega (arith, all, first)
count_below (r ∷ rs) (suc i) own within is =
    let all : reply_count (r ∷ rs) ≡ length r.items + reply_count rs = count_first r rs in
    let some : reply_count (take (suc i) (r ∷ rs)) ≡ length r.items + reply_count (take i rs) = count_first r (take i rs) in
    let others = count_below rs i own (omega arith) is in
    omega (arith, all, some, others)

-- the history of a machine with one caller has its calls alone
pub alone_counts : (m : Machine) (c : Standing) (line : List Entry) → callers_of m ≡ 1 → c.number ≡ 0 → IsIdle c → HasOwnCalls c line → ((k : ℕ) → callers_of m ≤ k → calls_by k line ≡ [])
    → length line ≡ length c.own
alone_counts m c line alone first idle own none =
    let total = all_entries 1 line (λ k far. none k (omega arith)) in
    let left : left_calls c.phase ≡ [] = ap left_calls idle in
    let mine : calls_by c.number line ≡ c.own = elim own [ inl is ↦ is | inr more ↦ more ∙ (ap (λ (l : List Call). c.own ++ l) left ∙ append-nil c.own) ] in
    let sizes = ap length (ap (λ (n : ℕ). calls_by n line) (sym first) ∙ mine) in
    omega (arith, total, sizes)
