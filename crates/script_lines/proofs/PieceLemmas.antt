-- The lines of a script, cut at its line feeds.
-- `cut_lines-line`: a line and its line feed are the first piece; `one-piece`: a text with no line feed is one piece;
-- `lines_of-last` and `lines_of-long` say the same of lines.
use Rattle.std.proofs.Common.{◌≡◌, ℕ, ◌<◌, Bool, true, false, eqb, not, ◌&&◌, List, [], ◌∷◌, ◌++◌, length, refl, sym, ap, ◌∙◌, arith}
use Rattle.std.specs.Cmp.Lexicographic as texts
use Rattle.std.specs.List.{list_all}
use Rattle.std.specs.Prelude.{codes}
use Rattle.vector_memory.specs.declared.edition.Edition.TheVariants.{One}
use Rattle.std.proofs.lemmas.List.{length-append}
use Rattle.std.proofs.lemmas.Bool.{lt-ltb}
use Rattle.std.proofs.Math.Dec.{eqb-suc-zero}
use Rattle.script_lines.specs.Scripts.{Stage, AtStart, Outside, Inside, Bad, IsOneLine, is_head, onto_first_line, cut_lines, but_last, but_empty_last, lines_of, plain_line, line_of, line_limit}

no-feed-by : (t r : Bool) → not t && r ≡ true → (t ≡ false) × (r ≡ true)
no-feed-by true r h = absurd cc
no-feed-by false r h = (refl, h)

no-feed-first : (b : ℕ) (bs : List ℕ) → IsOneLine (b ∷ bs) → (eqb b 10 ≡ false) × IsOneLine bs
no-feed-first b bs h = no-feed-by (eqb b 10) (list_all (λ c. not (eqb c 10)) bs) h

pub cut_lines-line : (line more : List ℕ) → IsOneLine line → cut_lines (line ++ 10 ∷ more) ≡ line ∷ cut_lines more
cut_lines-line [] more h = refl
cut_lines-line (b ∷ bs) more h =
    let first = no-feed-first b bs h in
    rw first.0 (ap (onto_first_line b) (cut_lines-line bs more first.1))

pub one-piece : (text : List ℕ) → IsOneLine text → cut_lines text ≡ text ∷ []
one-piece [] h = refl
one-piece (b ∷ bs) h =
    let first = no-feed-first b bs h in
    rw first.0 (ap (onto_first_line b) (one-piece bs first.1))

cut_lines-some : (text : List ℕ) → (l : List ℕ) × (ls : List (List ℕ)) × (cut_lines text ≡ l ∷ ls)
cut_lines-some [] = ([], [], refl)
cut_lines-some (b ∷ bs) = by (eqb b 10) refl (cut_lines-some bs)
  where
    by : (t : Bool) → eqb b 10 ≡ t → (l : List ℕ) × (ls : List (List ℕ)) × (cut_lines bs ≡ l ∷ ls) → (l : List ℕ) × (ls : List (List ℕ)) × (cut_lines (b ∷ bs) ≡ l ∷ ls)
    by true e p = ([], cut_lines bs, rw e refl)
    by false e p = (b ∷ p.0, p.1, rw e (ap (onto_first_line b) p.2))

-- what comes behind a text with no line feed may go on with its piece
long-piece : (text more : List ℕ) → IsOneLine text → (l : List ℕ) × (ls : List (List ℕ)) × (cut_lines (text ++ more) ≡ (text ++ l) ∷ ls)
long-piece [] more h = cut_lines-some more
long-piece (b ∷ bs) more h =
    let first = no-feed-first b bs h in
    let r = long-piece bs more first.1 in
    (r.0, r.1, rw first.0 (ap (onto_first_line b) r.2))

but_empty_last-more : (l text : List ℕ) → but_empty_last (l ∷ cut_lines text) ≡ l ∷ but_empty_last (cut_lines text)
but_empty_last-more l text = let p = cut_lines-some text in rw p.2 refl

pub but_empty_last-append : (ls : List (List ℕ)) (text : List ℕ) → but_empty_last (ls ++ cut_lines text) ≡ ls ++ but_empty_last (cut_lines text)
but_empty_last-append [] text = refl
but_empty_last-append (l ∷ []) text = but_empty_last-more l text
but_empty_last-append (l ∷ k ∷ ls) text = ap (λ (t : List (List ℕ)). l ∷ t) (but_empty_last-append (k ∷ ls) text)

pub but_last-append : (ls : List (List ℕ)) (text : List ℕ) → but_last (ls ++ cut_lines text) ≡ ls ++ but_last (cut_lines text)
but_last-append [] text = refl
but_last-append (l ∷ []) text = let p = cut_lines-some text in rw p.2 refl
but_last-append (l ∷ k ∷ ls) text = ap (λ (t : List (List ℕ)). l ∷ t) (but_last-append (k ∷ ls) text)

full-first : (l : List ℕ) (ls : List (List ℕ)) → 0 < length l → (ks : List (List ℕ)) × (but_empty_last (l ∷ ls) ≡ l ∷ ks)
full-first [] ls lt = absurd (omega arith)
full-first (b ∷ bs) [] lt = ([], rw (eqb-suc-zero (length bs)) refl)
full-first (b ∷ bs) (k ∷ ls) lt = (but_empty_last (k ∷ ls), refl)

full-last : (l : List ℕ) → 0 < length l → but_empty_last (l ∷ []) ≡ l ∷ []
full-last [] lt = absurd (omega arith)
full-last (b ∷ bs) lt = rw (eqb-suc-zero (length bs)) refl

pub lines_of-last : (text : List ℕ) → IsOneLine text → 0 < length text → lines_of text ≡ text ∷ []
unfolding lines_of
lines_of-last text h some = ap but_empty_last (one-piece text h) ∙ full-last text some

plain-long : (stage : Stage) (text : List ℕ) → line_limit < length text → plain_line stage text ≡ Bad
unfolding plain_line
plain-long stage text lt = rw (lt-ltb line_limit (length text) lt) refl

-- a line that is too long is no head
long-no_head : (text : List ℕ) → line_limit < length text → is_head text ≡ false
long-no_head text lt = by (is_head text) refl
  where
    by : (t : Bool) → is_head text ≡ t → is_head text ≡ false
    by false e = e
    by true e =
        let same : text ≡ codes "cvl 2" = texts.same_text text (codes "cvl 2") (sym e) in
        let short : length text ≡ 5 = ap length same in
        absurd (omega (arith, lt, short))

pub line_of-long : (stage : Stage) (text : List ℕ) → line_limit < length text → line_of stage text ≡ Bad
unfolding line_of
line_of-long AtStart text lt = rw (long-no_head text lt) (plain-long (Outside One) text lt)
line_of-long (Outside edition) text lt = plain-long (Outside edition) text lt
line_of-long (Inside caller tasks) text lt = plain-long (Inside caller tasks) text lt

-- a first line that is too long is bad at each stage, whatever comes behind it
pub lines_of-long : (text more : List ℕ) → IsOneLine text → line_limit < length text
    → (l : List ℕ) × (ls : List (List ℕ)) × ((stage : Stage) → line_of stage l ≡ Bad) × (lines_of (text ++ more) ≡ l ∷ ls)
unfolding lines_of
lines_of-long text more h long =
    let p = long-piece text more h in
    let longer : line_limit < length (text ++ p.0) = omega (arith, length-append text p.0) in
    let f = full-first (text ++ p.0) p.1 (omega arith) in
    (text ++ p.0, f.0, λ stage. line_of-long stage (text ++ p.0) longer, ap but_empty_last p.2 ∙ f.1)
