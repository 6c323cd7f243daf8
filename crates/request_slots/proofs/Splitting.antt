-- What a history between a caller's front and the line has of a block: none of it, or all.
-- `Stands` says that calls stand in a line next to one another, `stands_answered` that calls that are answered do, and `stands_split`
-- that a beginning that cuts no block has none of them or all.
use Rattle.std.proofs.Common.{◌≡◌, ◌⊎◌, ⊎_elim, inl, inr, ℕ, ◌+◌, ◌<◌, ◌≤◌, List, [], ◌∷◌, ◌++◌, length, take, sym, ap, ◌∙◌, subst, arith, append_assoc, length-append}
use Rattle.std.proofs.lemmas.List.{append_cancel_left, append_cancel_right}
use Rattle.std.proofs.lemmas.Bool.{cases_lt}
use Rattle.vector_memory.specs.declared.bounds.Bounds.{Bounds}
use Rattle.cvl_text.specs.declared.call.Call.{Call}
use Rattle.cvl_text.specs.Answers.{Answer}
use Rattle.call_history.specs.declared.entry.Entry.{Entry}
use Rattle.call_history.specs.History.{Begins}
use Rattle.call_history.specs.Answers.{Answers}
use Rattle.call_history.specs.Callers.{calls_by, next_before}
use Rattle.call_history.specs.Blocks.{Whole, block_entries}
use Rattle.call_history.proofs.Beginnings.{begins_shorter, take_begins}
use Rattle.call_history.proofs.Blocks.{calls_by-block, length-block}
use Rattle.call_history.proofs.CallerLemmas.{calls_by-append, calls_between}

-- the line has these calls of a caller next to one another, behind its record
pub record Stands (k : ℕ) (own calls : List Call) (line : List Entry) : Type 0 where
  pub before : List Entry
  pub begins : Begins (before ++ block_entries before k calls) line
  pub owns : calls_by k before ≡ own
  pub all : calls_by k line ≡ own ++ calls

-- or it has none of them behind its record
abbrev pub NoneOrStands : ℕ → List Call → List Call → List Entry → Type 0
NoneOrStands k own calls line = (calls_by k line ≡ own) ⊎ Stands k own calls line

pub stands_answered : (bounds : Bounds) (start line : List Entry) (k : ℕ) (own calls : List Call) (m : ℕ) (replies : List Answer) → Answers bounds start own k calls (take m line) replies → calls_by k line ≡ own ++ calls
    → Stands k own calls line
stands_answered bounds start line k own calls m replies a all =
    let before : List Entry = a.before in
    let both : calls_by k before ++ calls ≡ own ++ calls = ap (λ l. calls_by k before ++ l) (sym (calls_by-block k before calls)) ∙ (sym (calls_by-append k before (block_entries before k calls))
    ∙ (ap (calls_by k) (sym a.ends) ∙ a.owns)) in
    record {
      before = before;
      begins = subst (λ l. Begins l line) a.ends (take_begins m line);
      owns = append_cancel_right (calls_by k before) own calls both;
      all = all;
    }

-- what is behind a beginning is not cut where the whole is not
pub whole_behind : (xs ys : List Entry) → Whole (xs ++ ys) → Whole ys
whole_behind [] ys whole = whole
whole_behind (x ∷ xs) ys whole = whole_behind xs ys whole.1

same_parts : (x y : Entry) (xs ys : List Entry) → x ∷ xs ≡ y ∷ ys → (x ≡ y) × (xs ≡ ys)
same_parts x y xs ys e = (cc e, cc e)

-- a block that ends before its last entry is cut
cut_block : (history : List Entry) (k : ℕ) (calls : List Call) (part later : List Entry) → block_entries history k calls ≡ part ++ later → 0 < length part → 0 < length later → Whole part → ⊥
cut_block history k [] part later e some more whole = let none : 0 ≡ length part + length later = ap length e ∙ length-append part later in omega arith
cut_block history k (c ∷ cs) [] later e some more whole = omega arith
cut_block history k (c ∷ cs) (x ∷ []) later e some more whole =
    let next : Entry = next_before history k c (length cs) in
    let same = same_parts next x (block_entries (history ++ next ∷ []) k cs) later e in
    let left : length cs ≡ length later = sym (length-block (history ++ next ∷ []) k cs) ∙ ap length same.1 in
    let follow : length cs ≡ x.rest = ap (λ (z : Entry). z.rest) same.0 in
    let t = whole.0 (omega arith) in
    let none : length {A = Entry} [] ≡ length (t.0 ∷ t.1) = ap length t.2 in omega arith
cut_block history k (c ∷ cs) (x ∷ y ∷ part) later e some more whole =
    let next : Entry = next_before history k c (length cs) in
    let same = same_parts next x (block_entries (history ++ next ∷ []) k cs) (y ∷ part ++ later) e in
    cut_block (history ++ next ∷ []) k cs (y ∷ part) later same.1 (omega arith) more whole.1

-- a history that ends within a block is cut
cut_inside : (before ys : List Entry) (k : ℕ) (calls : List Call) → Begins before ys → Begins ys (before ++ block_entries before k calls) → length before < length ys
    → length ys < length (before ++ block_entries before k calls) → Whole ys → ⊥
cut_inside before ys k calls p q low high whole =
    let block : List Entry = block_entries before k calls in
    let ends : before ++ block ≡ before ++ (p.0 ++ q.0) = q.1 ∙ (ap (λ l. l ++ q.0) p.1 ∙ append_assoc before p.0 q.0) in
    let sizes : length ys ≡ length before + length p.0 = ap length p.1 ∙ length-append before p.0 in
    let all : length (before ++ block) ≡ length ys + length q.0 = ap length q.1 ∙ length-append ys q.0 in
    cut_block before k calls p.0 q.0 (append_cancel_left before block (p.0 ++ q.0) ends) (omega arith) (omega arith) (whole_behind before p.0 (subst Whole p.1 whole))

-- what is between a front without these calls and the line has none of them or all, where it cuts no block
pub stands_split : (k : ℕ) (xs ys line : List Entry) (own calls : List Call) → Begins xs ys → Begins ys line → Whole ys → calls_by k xs ≡ own → Stands k own calls line
    → (calls_by k ys ≡ own) ⊎ (calls_by k ys ≡ own ++ calls)
stands_split k xs ys line own calls p q whole low s =
    let before : List Entry = s.before in
    let block : List Entry = block_entries before k calls in
    let starts : Begins before line = (block ++ s.begins.0, s.begins.1 ∙ append_assoc before block s.begins.0) in
    let upper : calls_by k (before ++ block) ≡ own ++ calls = calls_by-append k before block ∙ (ap (λ l. l ++ calls_by k block) s.owns ∙ ap (λ l. own ++ l) (calls_by-block k before calls)) in
    ⊎_elim
    (λ (past : length before < length ys). ⊎_elim
    (λ (short : length ys < length (before ++ block)). absurd (cut_inside before ys k calls (begins_shorter before ys line starts q (omega arith)) (begins_shorter ys (before ++ block) line q s.begins (omega arith)) past short whole))
    (λ (long : length (before ++ block) ≤ length ys). inr (calls_between k (before ++ block) ys line (own ++ calls) (begins_shorter (before ++ block) ys line s.begins q long) q upper s.all))
    (cases_lt (length ys) (length (before ++ block))))
    (λ (early : length ys ≤ length before). inl (calls_between k xs ys before own p (begins_shorter ys before line q starts early) low s.owns))
    (cases_lt (length before) (length ys))
