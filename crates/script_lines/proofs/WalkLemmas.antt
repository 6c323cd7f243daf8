-- Going through the lines of an input: `walked-start`, `walked-next` for a line, `walked-read` and `walked-end` for what is
-- read, and what the end or a fault says of the lines of the whole input.
use Rattle.std.proofs.Common.{◌≡◌, inl, inr, ℕ, ◌+◌, ◌^◌, ◌<◌, Bool, true, false, cond, List, [], ◌∷◌, ◌++◌, length, refl, sym, ap, ◌∙◌, subst, Option, Some, None, Result, Ok, append_assoc, arith}
use Rattle.std.specs.Io.KnownBytes.{Consumes, IsAtEnd, Keeps, prepend_known}
use Rattle.std.proofs.lemmas.List.{append-nil, length-append}
use Rattle.script_lines.specs.declared.fault.InputFault.{InputFault}
use Rattle.script_lines.specs.declared.line.LineFault.{LineFault}
use Rattle.script_lines.specs.declared.line.LineFault.TheVariants as faults
use Rattle.script_lines.specs.Scripts.{Stage, AtStart, bad_end, line_limit, Bad, line_of, stage_after, IsOneLine, cut_lines, but_last, but_empty_last, lines_of, whole_lines}
use Rattle.script_lines.specs.Stages.{ended_by, end_at}
use Rattle.script_lines.specs.Walks.{Walk, Place, unwalked, IsCountable, IsNextLine, IsFed, HasWalked, IsReadUpTo, IsHalt, Fills, FillsOrEnds, halt_at}
use Rattle.script_lines.proofs.PieceLemmas.{cut_lines-line, one-piece, but_last-append, but_empty_last-append, lines_of-last, lines_of-long}

-- what was read of known input, and what is left
fed-some : (fed input : List ℕ) (left : Option (List ℕ)) → prepend_known fed left ≡ Some input → (rest : List ℕ) × (left ≡ Some rest) × (fed ++ rest ≡ input)
fed-some fed input None is = absurd (cc is)
fed-some fed input (Some rest) is = (rest, refl, cc is)

fed-more : (fed input got : List ℕ) (left rest : Option (List ℕ)) → prepend_known fed left ≡ Some input → Consumes left rest got → prepend_known (fed ++ got) rest ≡ Some input
fed-more fed input got None rest is c = absurd (cc is)
fed-more fed input got (Some l) None is c = absurd c
fed-more fed input got (Some l) (Some r) is c = ap (λ (t : List ℕ). Some t) (append_assoc fed got r ∙ ap (λ (t : List ℕ). fed ++ t) (sym c)) ∙ is

at-end : (left rest : Option (List ℕ)) (l : List ℕ) → left ≡ Some l → Consumes left rest [] → IsAtEnd rest → l ≡ []
at-end None rest l is c end = absurd (cc is)
at-end (Some k) None l is c end = absurd c
at-end (Some k) (Some r) l is c end = let same : k ≡ l = cc is in sym same ∙ c ∙ end

kept : (left rest : Option (List ℕ)) (l : List ℕ) → left ≡ Some l → Keeps left rest → rest ≡ Some l
kept None rest l is k = absurd (cc is)
kept (Some m) None l is k = absurd k
kept (Some m) (Some r) l is k = ap (λ (t : List ℕ). Some t) k ∙ is

pub countable-start : (walk : Walk) (limit : ℕ) → walk ≡ unwalked → limit < 2 ^ 63 → IsCountable walk limit
countable-start walk limit is few = subst (λ (w : Walk). IsCountable w limit) (sym is) (omega arith)

pub walked-start : (input : List ℕ) (walk : Walk) → walk ≡ unwalked → HasWalked input (Some input) [] walk
walked-start input walk is = subst (λ (w : Walk). HasWalked input (Some input) [] w) (sym is) (record { fed = []; fed_is = refl; cuts = λ more. refl; number = refl })

module _ (input : List ℕ) (left : Option (List ℕ)) (first : List (List ℕ)) (old : Walk) (w : HasWalked input left first old) where
  cut-fed : cut_lines w.fed ≡ first ++ cut_lines old.unread
  cut-fed = ap cut_lines (sym (append-nil w.fed)) ∙ w.cuts [] ∙ ap (λ (t : List ℕ). first ++ cut_lines t) (append-nil old.unread)

  lines-fed : (rest : List ℕ) → w.fed ++ rest ≡ input → lines_of input ≡ first ++ lines_of (old.unread ++ rest)
  unfolding lines_of
  lines-fed rest is = ap (λ (t : List ℕ). but_empty_last (cut_lines t)) (sym is) ∙ ap but_empty_last (w.cuts rest) ∙ but_empty_last-append first (old.unread ++ rest)

  whole-fed : whole_lines w.fed ≡ first ++ but_last (cut_lines old.unread)
  unfolding whole_lines
  whole-fed = ap but_last cut-fed ∙ but_last-append first old.unread

  whole-one : IsOneLine old.unread → whole_lines w.fed ≡ first
  whole-one one = whole-fed ∙ ap (λ (t : List (List ℕ)). first ++ but_last t) (one-piece old.unread one) ∙ append-nil first

  -- these are the first lines of the input
  pub walked-lines : (others : List (List ℕ)) × (lines_of input ≡ first ++ others)
  walked-lines = by old.ended w.fed_is
    where
      by : (e : Bool) → IsFed e input w.fed left → (others : List (List ℕ)) × (lines_of input ≡ first ++ others)
      by true is = (but_last (cut_lines old.unread), is ∙ whole-fed)
      by false is = let known = fed-some w.fed input left is in (lines_of (old.unread ++ known.0), lines-fed known.0 known.2)

  pub walked-next : (line : List ℕ) (new : Walk) → IsNextLine old line new → HasWalked input left (first ++ line ∷ []) new
  walked-next line new s = record {
    fed = w.fed;
    fed_is = subst (λ (e : Bool). IsFed e input w.fed left) (sym s.ended) w.fed_is;
    cuts = λ more. w.cuts more ∙ ap (λ (t : List ℕ). first ++ cut_lines (t ++ more)) s.cut ∙ ap (λ (t : List ℕ). first ++ cut_lines t) (append_assoc line (10 ∷ new.unread) more)
        ∙ ap (λ (t : List (List ℕ)). first ++ t) (cut_lines-line line (new.unread ++ more) s.one_line) ∙ sym (append_assoc first (line ∷ []) (cut_lines (new.unread ++ more)));
    number = let longer = length-append first (line ∷ []) in omega (arith, s.number, w.number, longer);
  }

  -- no more is to be read, and no line is left
  pub walked-ended : old.ended ≡ true → IsOneLine old.unread → lines_of input ≡ first
  walked-ended e one = subst (λ (t : Bool). IsFed t input w.fed left) e w.fed_is ∙ whole-one one

  module _ (e : old.ended ≡ false) where
    fed-not_ended : prepend_known w.fed left ≡ Some input
    fed-not_ended = subst (λ (t : Bool). IsFed t input w.fed left) e w.fed_is

    known : (rest : List ℕ) × (left ≡ Some rest) × (w.fed ++ rest ≡ input)
    known = fed-some w.fed input left fed-not_ended

    -- a block was read
    pub walked-read : (rest : Option (List ℕ)) (got : List ℕ) (new : Walk) → Consumes left rest got → new.unread ≡ old.unread ++ got → new.number ≡ old.number → new.ended ≡ false
        → HasWalked input rest first new
    walked-read rest got new c unread number ended = record {
      fed = w.fed ++ got;
      fed_is = subst (λ (t : Bool). IsFed t input (w.fed ++ got) rest) (sym ended) (fed-more w.fed input got left rest fed-not_ended c);
      cuts = λ more. ap cut_lines (append_assoc w.fed got more) ∙ w.cuts (got ++ more) ∙ ap (λ (t : List ℕ). first ++ cut_lines t) (sym (append_assoc old.unread got more))
          ∙ ap (λ (t : List ℕ). first ++ cut_lines (t ++ more)) (sym unread);
      number = number ∙ w.number;
    }

    module _ (one : IsOneLine old.unread) where
      -- a read failed
      pub walked-cut : (rest : Option (List ℕ)) → Keeps left rest → IsReadUpTo input first rest
      walked-cut rest k = record { read = w.fed; rest = known.0; input_is = sym known.2; left_is = kept left rest known.0 known.1 k; lines = whole-one one }

      -- what is kept of a line is too long, or there is no memory for it
      pub walked-kept : (fault : LineFault) (rest : Option (List ℕ)) → (fault ≡ faults.Bad → line_limit < length old.unread) → IsHalt (halt_at (old.number + 1) fault) input first rest
      walked-kept faults.OutOfMemory rest long = tt
      walked-kept faults.Bad rest long =
          let next = lines_of-long old.unread known.0 one (long refl) in
          inl (record { line = next.0; others = next.1; lines = lines-fed known.0 known.2 ∙ ap (λ (t : List (List ℕ)). first ++ t) next.3; bad = next.2 (stage_after AtStart first); number_is = omega (arith, w.number) })

      -- the input is at its end
      module _ (rest : Option (List ℕ)) (c : Consumes left rest []) (end : IsAtEnd rest) where
        none-left : known.0 ≡ []
        none-left = at-end left rest known.0 known.1 c end

        lines-last : lines_of input ≡ first ++ lines_of old.unread
        lines-last = lines-fed known.0 known.2 ∙ ap (λ (t : List ℕ). first ++ lines_of (old.unread ++ t)) none-left ∙ ap (λ (t : List ℕ). first ++ lines_of t) (append-nil old.unread)

        whole-last : whole_lines (w.fed ++ 10 ∷ []) ≡ first ++ old.unread ∷ []
        unfolding whole_lines
        whole-last = ap but_last (w.cuts (10 ∷ [])) ∙ but_last-append first (old.unread ++ 10 ∷ []) ∙ ap (λ (t : List (List ℕ)). first ++ but_last t) (cut_lines-line old.unread [] one)

        lines-none : old.unread ≡ [] → lines_of input ≡ first
        unfolding lines_of
        lines-none none = lines-last ∙ ap (λ (t : List ℕ). first ++ lines_of t) none ∙ append-nil first

        pub walked-end : (some : Bool) (kept rest' : List ℕ) (B : Type 0) (new : Walk) → kept ≡ old.unread → cond some ((0 < length kept) × (rest' ≡ 10 ∷ [])) ((kept ≡ []) × B)
            → new.unread ≡ kept ++ rest' → new.number ≡ old.number → new.ended ≡ true → Fills (Ok some) input first rest new
        walked-end false kept rest' B new is none unread number ended = lines-none (sym is ∙ none.0)
        walked-end true kept rest' B new is line unread number ended =
            let full : 0 < length old.unread = subst (λ (t : List ℕ). 0 < length t) is line.0 in
            record {
              fed = w.fed ++ 10 ∷ [];
              fed_is = subst (λ (t : Bool). IsFed t input (w.fed ++ 10 ∷ []) rest) (sym ended)
                  (lines-last ∙ ap (λ (t : List (List ℕ)). first ++ t) (lines_of-last old.unread one full) ∙ sym whole-last);
              cuts = λ more. ap cut_lines (append_assoc w.fed (10 ∷ []) more) ∙ w.cuts (10 ∷ more) ∙ ap (λ (t : List ℕ). first ++ cut_lines t) (sym (append_assoc old.unread (10 ∷ []) more))
                  ∙ ap (λ (t : List ℕ). first ++ cut_lines (t ++ more)) (sym (unread ∙ ap (λ (t : List ℕ). t ++ rest') is ∙ ap (λ (t : List ℕ). old.unread ++ t) line.1));
              number = number ∙ w.number;
            }

-- the line that the walk came to is not good, or there is no memory for it
pub walked-bad : (input : List ℕ) (left : Option (List ℕ)) (first : List (List ℕ)) (place : Place) → HasWalked input left (first ++ place.line ∷ []) place.walk → (fault : LineFault) (rest : Option (List ℕ))
    → (fault ≡ faults.Bad → line_of (stage_after AtStart first) place.line ≡ Bad) → IsHalt (halt_at place.walk.number fault) input first rest
walked-bad input left first place w faults.OutOfMemory rest bad = tt
walked-bad input left first place w faults.Bad rest bad =
    let all = walked-lines input left (first ++ place.line ∷ []) place.walk w in
    let longer = length-append first (place.line ∷ []) in
    inl (record { line = place.line; others = all.0; lines = all.1 ∙ append_assoc first (place.line ∷ []) all.0; bad = bad refl; number_is = omega (arith, w.number, longer) })

-- all lines were gone through, and the end is judged
pub end-fills : (input : List ℕ) (first : List (List ℕ)) (left : Option (List ℕ)) (walk : Walk) (stage : Stage) (number : ℕ) (result : Result Bool InputFault) → lines_of input ≡ first → number ≡ length first
    → stage ≡ stage_after AtStart first → result ≡ end_at stage number → FillsOrEnds result input first left walk
end-fills input first left walk stage number result all counted goes is =
    let there : result ≡ ended_by (bad_end (stage_after AtStart first) (length first)) =
    is ∙ ap (λ (s : Stage). end_at s number) goes ∙ ap (end_at (stage_after AtStart first)) counted in
    subst (λ (r : Result Bool InputFault). FillsOrEnds r input first left walk) (sym there) (by (bad_end (stage_after AtStart first) (length first)) refl)
  where
    by : (o : Option ℕ) → bad_end (stage_after AtStart first) (length first) ≡ o → FillsOrEnds (ended_by o) input first left walk
    by None e = (all, e)
    by (Some n) e = inr (record { all = all; bad = e })
