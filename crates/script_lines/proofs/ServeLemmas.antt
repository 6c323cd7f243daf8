-- Serving the lines of an input: `served-start`, `served-next` for a line and `served-written` for what waits; what has ended where
-- all lines are served or one is not, and what the run comes to when it is finished.
use Rattle.std.proofs.Common.{◌≡◌, ◌⊎◌, inl, inr, ℕ, ◌+◌, Bool, true, false, List, [], ◌∷◌, ◌++◌, length, refl, sym, ap, ◌∙◌, subst, Option, Some, None, Ok, Err, append_assoc, arith}
use Rattle.std.specs.Option.{IfSome}
use Rattle.std.proofs.lemmas.List.{append-nil}
use Rattle.vector_memory.specs.States.{State}
use Rattle.script_lines.specs.declared.line.LineFault.{LineFault}
use Rattle.script_lines.specs.declared.line.LineFault.TheVariants as faults
use Rattle.script_lines.specs.declared.fault.InputFault.{InputFault}
use Rattle.script_lines.specs.declared.fault.InputFault.TheVariants as halts
use Rattle.script_lines.specs.declared.fault.ServeFault.TheVariants as ends
use Rattle.script_lines.specs.Scripts.{Stage, AtStart, Bad, text_from, first_bad, lines_of, text_of, bad_line_of, bad_end, or_bad_end, bad_text, bad_text_of, line_of, is_good, line_text, memory_after_line, memory_after, stage_after_line, stage_after, whole_lines}
use Rattle.script_lines.specs.Streams.{Awaits, HasBegun}
use Rattle.script_lines.specs.Walks.{Walk, unwalked, Place, HasWalked, IsBadNext, IsOpenEnd, IsHalt, FillsOrEnds, halt_at}
use Rattle.script_lines.specs.Runs.{IsTextOfSome, HasServed, ServesOn, HasEnded, Steps}
use Rattle.script_lines.proofs.StreamLemmas.{Awaits-start, Awaits-then, Awaits-done, HasBegun-more, HasBegun-done}
use Rattle.script_lines.proofs.WalkLemmas.{walked-start, walked-lines, walked-bad}

-- behind good lines
first_bad-append : (stage : Stage) (n : ℕ) (ls ms : List (List ℕ)) → first_bad stage n ls ≡ None → first_bad stage n (ls ++ ms) ≡ first_bad (stage_after stage ls) (n + length ls) ms
first_bad-append stage n [] ms good = let none : n ≡ n + 0 = omega arith in ap (λ (k : ℕ). first_bad stage k ms) none
first_bad-append stage n (l ∷ ls) ms good = by (is_good (line_of stage l)) refl (λ rest. first_bad-append (stage_after_line stage (line_of stage l)) (n + 1) ls ms rest)
  where
    by : (t : Bool) → is_good (line_of stage l) ≡ t
        → (first_bad (stage_after_line stage (line_of stage l)) (n + 1) ls ≡ None
        → first_bad (stage_after_line stage (line_of stage l)) (n + 1) (ls ++ ms) ≡ first_bad (stage_after stage (l ∷ ls)) ((n + 1) + length ls) ms)
        → first_bad stage n ((l ∷ ls) ++ ms) ≡ first_bad (stage_after stage (l ∷ ls)) (n + length (l ∷ ls)) ms
    by false e next = absurd (cc (rw e at good))
    by true e next =
        let one : (n + 1) + length ls ≡ n + length (l ∷ ls) = omega arith in
        rw e (next (rw e at good) ∙ ap (λ (k : ℕ). first_bad (stage_after stage (l ∷ ls)) k ms) one)

text_from-append : (m : State) (stage : Stage) (n : ℕ) (ls ms : List (List ℕ)) → first_bad stage n ls ≡ None
    → text_from m stage (ls ++ ms) ≡ text_from m stage ls ++ text_from (memory_after m stage ls) (stage_after stage ls) ms
text_from-append m stage n [] ms good = refl
text_from-append m stage n (l ∷ ls) ms good =
    by (is_good (line_of stage l)) refl (λ rest. text_from-append (memory_after_line m (line_of stage l)) (stage_after_line stage (line_of stage l)) (n + 1) ls ms rest)
  where
    by : (t : Bool) → is_good (line_of stage l) ≡ t
        → (first_bad (stage_after_line stage (line_of stage l)) (n + 1) ls ≡ None
        → text_from (memory_after_line m (line_of stage l)) (stage_after_line stage (line_of stage l)) (ls ++ ms)
        ≡ text_from (memory_after_line m (line_of stage l)) (stage_after_line stage (line_of stage l)) ls
        ++ text_from (memory_after m stage (l ∷ ls)) (stage_after stage (l ∷ ls)) ms)
        → text_from m stage ((l ∷ ls) ++ ms) ≡ text_from m stage (l ∷ ls) ++ text_from (memory_after m stage (l ∷ ls)) (stage_after stage (l ∷ ls)) ms
    by false e next = absurd (cc (rw e at good))
    by true e next =
        let k = memory_after_line m (line_of stage l) in
        let next_stage = stage_after_line stage (line_of stage l) in
        rw e (
        ap (λ (t : List ℕ). line_text m (line_of stage l) ++ t) (next (rw e at good))
        ∙ sym (append_assoc (line_text m (line_of stage l)) (text_from k next_stage ls) (text_from (memory_after k next_stage ls) (stage_after next_stage ls) ms))
        )

memory_after-append : (m : State) (stage : Stage) (ls ms : List (List ℕ)) → memory_after m stage (ls ++ ms) ≡ memory_after (memory_after m stage ls) (stage_after stage ls) ms
memory_after-append m stage [] ms = refl
memory_after-append m stage (l ∷ ls) ms = memory_after-append (memory_after_line m (line_of stage l)) (stage_after_line stage (line_of stage l)) ls ms

pub stage_after-append : (stage : Stage) (ls ms : List (List ℕ)) → stage_after stage (ls ++ ms) ≡ stage_after (stage_after stage ls) ms
stage_after-append stage [] ms = refl
stage_after-append stage (l ∷ ls) ms = stage_after-append (stage_after_line stage (line_of stage l)) ls ms

-- one more good line
pub good-next : (first : List (List ℕ)) (line : List ℕ) → first_bad AtStart 0 first ≡ None → is_good (line_of (stage_after AtStart first) line) ≡ true
    → first_bad AtStart 0 (first ++ line ∷ []) ≡ None
good-next first line good one = first_bad-append AtStart 0 first (line ∷ []) good ∙ rw one refl

-- the first bad line, which may be the end
pub bad-next : (input : List ℕ) (first : List (List ℕ)) (number : ℕ) → first_bad AtStart 0 first ≡ None → IsBadNext input first number ⊎ IsOpenEnd input first number
    → bad_line_of input ≡ Some number
unfolding bad_line_of
bad-next input first number good (inl b) =
    let number_is : (0 + length first) + 1 ≡ number = omega (arith, b.number_is) in
    let found : first_bad AtStart 0 (lines_of input) ≡ Some number =
    ap (first_bad AtStart 0) b.lines ∙ first_bad-append AtStart 0 first (b.line ∷ b.others) good ∙ rw b.bad (ap (λ (k : ℕ). Some k) number_is) in
    ap (λ (o : Option ℕ). or_bad_end o (stage_after AtStart (lines_of input)) (length (lines_of input))) found
bad-next input first number good (inr e) =
    ap (λ (ls : List (List ℕ)). or_bad_end (first_bad AtStart 0 ls) (stage_after AtStart ls) (length ls)) e.all
    ∙ ap (λ (o : Option ℕ). or_bad_end o (stage_after AtStart first) (length first)) good ∙ e.bad

-- no line is bad
pub good-all : (input : List ℕ) (first : List (List ℕ)) → first_bad AtStart 0 first ≡ None → lines_of input ≡ first → bad_end (stage_after AtStart first) (length first) ≡ None
    → bad_line_of input ≡ None
unfolding bad_line_of
good-all input first good all end =
    ap (λ (ls : List (List ℕ)). or_bad_end (first_bad AtStart 0 ls) (stage_after AtStart ls) (length ls)) all
    ∙ ap (λ (o : Option ℕ). or_bad_end o (stage_after AtStart first) (length first)) good ∙ end

text-all : (m : State) (input : List ℕ) (first : List (List ℕ)) → lines_of input ≡ first → bad_line_of input ≡ None → text_of m input ≡ text_from m AtStart first
unfolding text_of
text-all m input first all good =
    ap (λ (o : Option ℕ). text_from m AtStart (lines_of input) ++ bad_text_of o) good ∙ append-nil (text_from m AtStart (lines_of input)) ∙ ap (text_from m AtStart) all

text-bad : (m : State) (input : List ℕ) (first : List (List ℕ)) (number : ℕ) → first_bad AtStart 0 first ≡ None → IsBadNext input first number ⊎ IsOpenEnd input first number
    → text_of m input ≡ text_from m AtStart first ++ bad_text number
unfolding text_of
text-bad m input first number good bad =
    ap (λ (o : Option ℕ). text_from m AtStart (lines_of input) ++ bad_text_of o) (bad-next input first number good bad)
    ∙ ap (λ (t : List ℕ). t ++ bad_text number) (by bad)
  where
    by : IsBadNext input first number ⊎ IsOpenEnd input first number → text_from m AtStart (lines_of input) ≡ text_from m AtStart first
    by (inl b) = ap (text_from m AtStart) b.lines ∙ text_from-append m AtStart 0 first (b.line ∷ b.others) good ∙ rw b.bad (append-nil (text_from m AtStart first))
    by (inr e) = ap (text_from m AtStart) e.all

text-begun : (m : State) (input : List ℕ) (first others : List (List ℕ)) → first_bad AtStart 0 first ≡ None → lines_of input ≡ first ++ others
    → (more : List ℕ) × (text_of m input ≡ text_from m AtStart first ++ more)
unfolding text_of
text-begun m input first others good lines =
    let behind = text_from (memory_after m AtStart first) (stage_after AtStart first) others in (
      behind ++ bad_text_of (bad_line_of input),
      ap (λ (t : List ℕ). t ++ bad_text_of (bad_line_of input)) (ap (text_from m AtStart) lines ∙ text_from-append m AtStart 0 first others good)
          ∙ append_assoc (text_from m AtStart first) behind (bad_text_of (bad_line_of input)),
    )

module _ (m : State) (input : List ℕ) (old now : Option (List ℕ)) (first : List (List ℕ)) (memory : State) (stage : Stage) (waiting : List ℕ) (s : HasServed m old now first memory stage waiting) where
  -- one more line
  pub served-line : (line read : List ℕ) (memory' : State) (stage' : Stage) (waiting' : List ℕ) → read ≡ line → is_good (line_of stage read) ≡ true
      → memory' ≡ memory_after_line memory (line_of stage read) → stage' ≡ stage_after_line stage (line_of stage read)
      → waiting' ≡ waiting ++ line_text memory (line_of stage read) → HasServed m old now (first ++ line ∷ []) memory' stage' waiting'
  served-line line read memory' stage' waiting' is good after goes text =
      let P : List ℕ → Type 0 = λ l. HasServed m old now (first ++ l ∷ []) memory' stage' waiting' in
      let k = memory_after m AtStart first in
      let there = stage_after AtStart first in
      let good' : is_good (line_of there read) ≡ true = subst (λ (t : Stage). is_good (line_of t read) ≡ true) s.stage_is good in
      let reply = line_text k (line_of there read) in
      let made = text_from m AtStart first in
      let whole : text_from m AtStart (first ++ read ∷ []) ≡ made ++ reply =
      text_from-append m AtStart 0 first (read ∷ []) s.good ∙ rw good' (ap (λ (t : List ℕ). made ++ t) (append-nil reply)) in
      let waits : waiting' ≡ waiting ++ reply =
      text ∙ ap (λ (j : State). waiting ++ line_text j (line_of stage read)) s.memory_is ∙ ap (λ (t : Stage). waiting ++ line_text k (line_of t read)) s.stage_is in
      subst P is (record {
        good = good-next first read s.good good';
        memory_is = after ∙ ap (λ (j : State). memory_after_line j (line_of stage read)) s.memory_is ∙ ap (λ (t : Stage). memory_after_line k (line_of t read)) s.stage_is
            ∙ sym (memory_after-append m AtStart first (read ∷ []));
        stage_is = goes ∙ ap (λ (t : Stage). stage_after_line t (line_of t read)) s.stage_is ∙ sym (stage_after-append AtStart first (read ∷ []));
        text = subst (λ (t : List ℕ). Awaits old now waiting' t) (sym whole) (Awaits-then old now now waiting made reply waiting' s.text (subst (λ (t : List ℕ). Awaits now now waiting' t) waits (Awaits-start now waiting')));
      })

  -- what waited was written
  pub served-written : (new : Option (List ℕ)) (none : List ℕ) → Awaits now new [] waiting → none ≡ [] → HasServed m old new first memory stage none
  served-written new none k is =
      let all = Awaits-done old now new waiting (text_from m AtStart first) s.text k in
      record { good = s.good; memory_is = s.memory_is; stage_is = s.stage_is; text = subst (λ (t : List ℕ). Awaits old new t (text_from m AtStart first)) (sym is) all }

  -- or a beginning of it
  pub ended-unwritten : (new : Option (List ℕ)) (others : List (List ℕ)) → lines_of input ≡ first ++ others → HasBegun now new waiting → HasBegun old new (text_of m input)
  ended-unwritten new others lines begun =
      let text = text-begun m input first others s.good lines in
      subst (λ (t : List ℕ). HasBegun old new t) (sym text.1) (HasBegun-more old new (text_from m AtStart first) text.0 (HasBegun-done old now new waiting (text_from m AtStart first) s.text begun))

  pub ended-halt : (halt : InputFault) (left : Option (List ℕ)) (others : List (List ℕ)) → lines_of input ≡ first ++ others → IsHalt halt input first left
      → HasEnded (Err (ends.Input halt)) m input left old now waiting
  ended-halt (halts.BadLine number) left others lines h = (bad-next input first number s.good h, text_from m AtStart first, text-bad m input first number s.good h, s.text)
  ended-halt halts.OutOfMemory left others lines h = (text_from m AtStart first, record { first = first; others = others; lines = lines; good = s.good; text = refl }, s.text)
  ended-halt halts.Read left others lines h = (
    record { read = h.read; rest = h.rest; input_is = h.input_is; left_is = h.left_is; good = ap (first_bad AtStart 0) h.lines ∙ s.good },
    record { first = first; others = others; lines = lines; good = s.good; text = ap (text_from m AtStart) (sym h.lines) },
    subst (λ (ls : List (List ℕ)). Awaits old now waiting (text_from m AtStart ls)) (sym h.lines) s.text,
  )

  -- the line is not served
  pub ended-line : (fault : LineFault) (place : Place) (left : Option (List ℕ)) → HasWalked input left (first ++ place.line ∷ []) place.walk → (fault ≡ faults.Bad → line_of stage place.line ≡ Bad)
      → HasEnded (Err (ends.Input (halt_at place.walk.number fault))) m input left old now waiting
  ended-line fault place left w bad =
      let all = walked-lines input left (first ++ place.line ∷ []) place.walk w in
      ended-halt (halt_at place.walk.number fault) left (place.line ∷ all.0) (all.1 ∙ append_assoc first (place.line ∷ []) all.0) (walked-bad input left first place w fault left (λ e. subst (λ (t : Stage). line_of t place.line ≡ Bad) s.stage_is (bad e)))

  -- all is served
  ended-all : (left : Option (List ℕ)) → lines_of input ≡ first → bad_end (stage_after AtStart first) (length first) ≡ None → HasEnded (Ok tt) m input left old now waiting
  ended-all left all end =
      let good = good-all input first s.good all end in
      (good, subst (λ (t : List ℕ). Awaits old now waiting t) (sym (text-all m input first all good)) s.text)

  -- more is to be served, or all is
  pub served-filled : (more : Bool) (left : Option (List ℕ)) (walk : Walk) → FillsOrEnds (Ok more) input first left walk → Steps (Ok more) m input left old now walk memory stage waiting
  served-filled true left walk w = record { first = first; walked = w; served = s }
  served-filled false left walk all = ended-all left all.0 all.1

-- nothing is served yet
pub served-start : (m : State) (stage : Stage) (input old : Option (List ℕ)) (walk : Walk) (waiting : List ℕ) → walk ≡ unwalked → stage ≡ AtStart → waiting ≡ []
    → IfSome input (λ script. ServesOn m script input old old walk m stage waiting)
served-start m stage None old walk waiting is start none = tt
served-start m stage (Some script) old walk waiting is start none = record {
  first = [];
  walked = walked-start script walk is;
  served = record { good = refl; memory_is = refl; stage_is = start; text = subst (λ (t : List ℕ). Awaits old old t []) (sym none) (Awaits-start old []) };
}

-- what the run comes to when it is ended: all that waited is written, and the words on a bad line
module _ (m : State) (input : List ℕ) (left old now new : Option (List ℕ)) (waiting : List ℕ) where
  begun-some : (made : List ℕ) → IsTextOfSome m input made → Awaits old now waiting made → HasBegun now new waiting → HasBegun old new (text_of m input)
  begun-some made t s k =
      let whole = text-begun m input t.first t.others t.good t.lines in
      let begun = HasBegun-done old now new waiting made s k in
      subst (λ (l : List ℕ). HasBegun old new l) (sym whole.1) (HasBegun-more old new (text_from m AtStart t.first) whole.0 (subst (λ (l : List ℕ). HasBegun old new l) (sym t.text) begun))

  -- nothing but a beginning of what waited was written
  pub unwritten : (halt : InputFault) → HasEnded (Err (ends.Input halt)) m input left old now waiting → HasBegun now new waiting → HasBegun old new (text_of m input)
  unwritten (halts.BadLine number) s k =
      subst (λ (t : List ℕ). HasBegun old new t) (sym s.2) (HasBegun-more old new s.1 (bad_text number) (HasBegun-done old now new waiting s.1 s.3 k))
  unwritten halts.OutOfMemory s k = begun-some s.0 s.1 s.2 k
  unwritten halts.Read s k = begun-some (text_from m AtStart (whole_lines s.0.read)) s.1 s.2 k
