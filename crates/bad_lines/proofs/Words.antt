-- The words of a text from a place on.
use Rattle.std.proofs.Common.{◌≡◌, ℕ, ◌+◌, ◌-◌, ◌<◌, ◌≤◌, List, [], ◌∷◌, length, drop, take, sym, ap, ◌∙◌, arith, length-drop}
use Rattle.std.proofs.lemmas.List.{drop-drop, length-take-le}
use Rattle.cvl_text.specs.Words.{words_of, skip_spaces, word_len}
use Rattle.cvl_text.proofs.WordLemmas.{words_of-skip_spaces, words_of-nothing, words_of-next, word_len-le}
use Rattle.bad_lines.specs.declared.word.Word.{Word}
use Rattle.bad_lines.specs.Places.{IsNextWord}

pub words_of-none : (text : List ℕ) (from at : ℕ) → drop at text ≡ skip_spaces (drop from text) → at ≡ length text → words_of (drop from text) ≡ []
words_of-none text from at skips is =
    let none : length (drop at text) ≡ 0 = omega (arith, length-drop at text) in
    words_of-nothing (drop from text) (sym (ap length skips) ∙ none)

pub first_at : (text : List ℕ) (from : ℕ) (word : Word) → word.bytes.now ≡ take (word.end - word.at) (drop word.at text) → word.at < length text → word.end ≤ length text
    → drop word.at text ≡ skip_spaces (drop from text) → word.end ≡ word.at + word_len (drop word.at text) → IsNextWord text from word
first_at text from word bytes begins ends skips len =
    let rest = drop word.at text in
    let some : 0 < length rest = omega (arith, length-drop word.at text) in
    let n : word.end - word.at ≡ word_len rest = omega arith in
    let long : length word.bytes.now ≡ word_len rest = ap length (bytes ∙ ap (λ (m : ℕ). take m rest) n) ∙ length-take-le (word_len rest) rest (word_len-le rest) in
    record {
      begins = begins;
      ends = ends;
      stands = ap (λ (m : ℕ). take m rest) (long ∙ sym n) ∙ sym bytes;
      first = ap words_of skips ∙ words_of-skip_spaces (drop from text);
      rest =
          words_of-next (drop from text) rest (sym skips) some
          ∙ ap (λ (w : List ℕ). w ∷ words_of (drop (word_len rest) rest)) (sym (bytes ∙ ap (λ (m : ℕ). take m rest) n))
          ∙ ap (λ (t : List ℕ). word.bytes.now ∷ words_of t) (drop-drop (word_len rest) word.at text ∙ ap (λ (m : ℕ). drop m text) (sym len));
    }
