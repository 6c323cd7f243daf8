-- The stages of a script: `one_line` says what a line of edition 1 leaves, `edition-all` that the stage behind some lines tells their
-- edition, and `quiet-memory` and the like what is done at a line where nothing is.
use Rattle.std.proofs.Common.{◌≡◌, ℕ, Bool, true, false, cond, List, [], ◌∷◌, length, refl, ap, ◌∙◌, Option, Some, None}
use Rattle.std.specs.Prelude.{nat_lt, nat_le, ◌==◌, codes}
use Rattle.vector_memory.specs.declared.edition.Edition.{Edition}
use Rattle.vector_memory.specs.declared.edition.Edition.TheVariants.{One, Two}
use Rattle.vector_memory.specs.States.{State}
use Rattle.cvl_text.specs.Tasks.{Task}
use Rattle.cvl_text.specs.Words.{words_of}
use Rattle.cvl_text.specs.Lines.{task_in}
use Rattle.call_history.specs.Blocks.{block_limit}
use Rattle.script_lines.specs.Scripts.{Stage, AtStart, Outside, Inside, Line, Skipped, Bad, Heads, Asks, Opens, Adds, Closes, line_limit, is_comment, is_head, is_alone, caller_named, asked, added, one_more, closed, said, said_by, line_in, plain_line, line_of, is_good, begun, stage_after_line, stage_after, memory_after_line, line_text, edition_at, edition_of}
use Rattle.script_lines.specs.Stages.{is_start}
use Rattle.script_lines.specs.Asks.{is_quiet}

pub asked-stays : (stage : Stage) (caller : ℕ) (task : Option Task) → stage_after_line stage (asked caller task) ≡ begun stage
asked-stays stage caller None = refl
asked-stays stage caller (Some task) = refl

-- where a script has begun, a call leaves it at its stage
pub asked_keeps : (old new : Stage) (line : Line) (caller : ℕ) (task : Option Task) → is_start old ≡ false → line ≡ asked caller task → new ≡ stage_after_line old line → new ≡ old
asked_keeps old new line caller task begins is goes = goes ∙ ap (stage_after_line old) is ∙ asked-stays old caller task ∙ kept old begins
  where
    kept : (s : Stage) → is_start s ≡ false → begun s ≡ s
    kept AtStart e = absurd cc
    kept (Outside edition) e = refl
    kept (Inside own tasks) e = refl

one-words : (stage : Stage) (words : List (List ℕ)) → stage_after_line stage (line_in (Outside One) words) ≡ begun stage
one-words stage [] = refl
one-words stage (w ∷ ws) = by (is_comment w) (caller_named w)
  where
    by : (t : Bool) (named : Option ℕ) → stage_after_line stage (cond t Skipped (said_by (Outside One) named ws)) ≡ begun stage
    by true named = refl
    by false None = refl
    by false (Some caller) = asked-stays stage caller (task_in One ws)

pub one_line : (stage : Stage) (text : List ℕ) → stage_after_line stage (plain_line (Outside One) text) ≡ begun stage
unfolding plain_line
one_line stage text = by (nat_lt line_limit (length text))
  where
    by : (t : Bool) → stage_after_line stage (cond t Bad (line_in (Outside One) (words_of text))) ≡ begun stage
    by true = refl
    by false = one-words stage (words_of text)

-- what a line says at each stage
module _ (text : List ℕ) where
  pub head-line : is_head text ≡ true → line_of AtStart text ≡ Heads
  unfolding line_of
  head-line e = rw e refl

  pub first-line : is_head text ≡ false → line_of AtStart text ≡ plain_line (Outside One) text
  unfolding line_of
  first-line e = rw e refl

  pub outside-line : (edition : Edition) → line_of (Outside edition) text ≡ plain_line (Outside edition) text
  unfolding line_of
  outside-line edition = refl

  pub inside-line : (caller : ℕ) (tasks : List Task) → line_of (Inside caller tasks) text ≡ plain_line (Inside caller tasks) text
  unfolding line_of
  inside-line caller tasks = refl

-- outside a block of edition 2
two-said : (caller : ℕ) (words : List (List ℕ)) → edition_at (stage_after_line (Outside Two) (said (Outside Two) caller words)) ≡ Two
two-said caller words = by (is_alone (codes "{") words)
  where
    by : (t : Bool) → edition_at (stage_after_line (Outside Two) (cond t (Opens caller) (asked caller (task_in Two words)))) ≡ Two
    by true = refl
    by false = ap edition_at (asked-stays (Outside Two) caller (task_in Two words))

-- in a block
inside-said : (own : ℕ) (tasks : List Task) (caller : ℕ) (words : List (List ℕ)) → edition_at (stage_after_line (Inside own tasks) (said (Inside own tasks) caller words)) ≡ Two
inside-said own tasks caller words = by (caller == own) (is_alone (codes "}") words)
  where
    closes : (ts : List Task) → edition_at (stage_after_line (Inside own tasks) (closed own ts)) ≡ Two
    closes [] = refl
    closes (t ∷ ts) = refl

    adds : (full : Bool) (task : Option Task) → edition_at (stage_after_line (Inside own tasks) (cond full Bad (added task))) ≡ Two
    adds true task = refl
    adds false None = refl
    adds false (Some task) = refl

    by : (t u : Bool) → edition_at (stage_after_line (Inside own tasks) (cond t (cond u (closed own tasks) (one_more tasks (task_in Two words))) Bad)) ≡ Two
    by true true = closes tasks
    by true false = adds (nat_le block_limit (length tasks)) (task_in Two words)
    by false u = refl

-- a line that keeps the edition, whoever speaks in it
module _ (stage : Stage) (start : edition_at (begun stage) ≡ Two) (keeps : (caller : ℕ) (words : List (List ℕ)) → edition_at (stage_after_line stage (said stage caller words)) ≡ Two) where
  keeps-words : (words : List (List ℕ)) → edition_at (stage_after_line stage (line_in stage words)) ≡ Two
  keeps-words [] = start
  keeps-words (w ∷ ws) = by (is_comment w) (caller_named w)
    where
      by : (t : Bool) (named : Option ℕ) → edition_at (stage_after_line stage (cond t Skipped (said_by stage named ws))) ≡ Two
      by true named = start
      by false None = start
      by false (Some caller) = keeps caller ws

  keeps-line : (text : List ℕ) → edition_at (stage_after_line stage (plain_line stage text)) ≡ Two
  unfolding plain_line
  keeps-line text = by (nat_lt line_limit (length text))
    where
      by : (t : Bool) → edition_at (stage_after_line stage (cond t Bad (line_in stage (words_of text)))) ≡ Two
      by true = start
      by false = keeps-words (words_of text)

Started : Stage → Type 0
Started AtStart = ⊥
Started (Outside edition) = Unit {0}
Started (Inside caller tasks) = Unit {0}

started-begun : (stage : Stage) → Started (begun stage)
unfolding Started
started-begun AtStart = tt
started-begun (Outside edition) = tt
started-begun (Inside caller tasks) = tt

started-longer : (stage : Stage) (task : Task) → Started stage → Started (stage_after_line stage (Adds task))
unfolding Started
started-longer AtStart task s = absurd s
started-longer (Outside edition) task s = tt
started-longer (Inside caller tasks) task s = tt

started-line : (stage : Stage) (line : Line) → Started stage → Started (stage_after_line stage line)
unfolding Started
started-line stage Skipped s = started-begun stage
started-line stage Bad s = started-begun stage
started-line stage Heads s = tt
started-line stage (Asks caller task) s = started-begun stage
started-line stage (Opens caller) s = tt
started-line stage (Adds task) s = started-longer stage task s
started-line stage (Closes caller tasks) s = tt

edition-line : (stage : Stage) (text : List ℕ) → Started stage → edition_at (stage_after_line stage (line_of stage text)) ≡ edition_at stage
unfolding line_of Started
edition-line AtStart text s = absurd s
edition-line (Outside One) text s = ap edition_at (one_line (Outside One) text)
edition-line (Outside Two) text s = keeps-line (Outside Two) refl two-said text
edition-line (Inside caller tasks) text s = keeps-line (Inside caller tasks) refl (inside-said caller tasks) text

edition-after : (stage : Stage) (lines : List (List ℕ)) → Started stage → edition_at (stage_after stage lines) ≡ edition_at stage
edition-after stage [] s = refl
edition-after stage (l ∷ ls) s = edition-after (stage_after_line stage (line_of stage l)) ls (started-line stage (line_of stage l) s) ∙ edition-line stage l s

pub edition-all : (lines : List (List ℕ)) → edition_at (stage_after AtStart lines) ≡ edition_of lines
unfolding line_of Started
edition-all [] = refl
edition-all (l ∷ ls) = by (is_head l) refl
  where
    by : (t : Bool) → is_head l ≡ t → edition_at (stage_after AtStart (l ∷ ls)) ≡ edition_of (l ∷ ls)
    by true e = rw e (edition-after (Outside Two) ls tt)
    by false e = rw e (ap (λ (s : Stage). edition_at (stage_after s ls)) (one_line AtStart l) ∙ edition-after (Outside One) ls tt)

-- a line at which nothing is done
module _ (line : Line) (quiet : is_quiet line ≡ true) where
  pub quiet-good : is_good line ≡ true
  quiet-good = by line quiet
    where
      by : (l : Line) → is_quiet l ≡ true → is_good l ≡ true
      by Skipped q = refl
      by Bad q = q
      by Heads q = refl
      by (Asks caller task) q = refl
      by (Opens caller) q = refl
      by (Adds task) q = refl
      by (Closes caller tasks) q = refl

  pub quiet-memory : (m : State) → m ≡ memory_after_line m line
  quiet-memory m = by line quiet
    where
      by : (l : Line) → is_quiet l ≡ true → m ≡ memory_after_line m l
      by Skipped q = refl
      by Bad q = refl
      by Heads q = absurd (cc q)
      by (Asks caller task) q = absurd (cc q)
      by (Opens caller) q = refl
      by (Adds task) q = refl
      by (Closes caller tasks) q = absurd (cc q)

  pub quiet-text : (m : State) → line_text m line ≡ []
  quiet-text m = by line quiet
    where
      by : (l : Line) → is_quiet l ≡ true → line_text m l ≡ []
      by Skipped q = refl
      by Bad q = refl
      by Heads q = refl
      by (Asks caller task) q = absurd (cc q)
      by (Opens caller) q = refl
      by (Adds task) q = refl
      by (Closes caller tasks) q = absurd (cc q)
