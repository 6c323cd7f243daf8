use Rattle.std.proofs.Common.{◌≡◌, ◌<◌, length, sym, ap, ◌∙◌, arith, rules}
use Rattle.cvl_text.proofs.WordLemmas.{words_of-nothing, words_of-next, word_len-le}
use Rattle.cvl_text.proofs.text.next_word.Goals as goal

pub returns-then-is_empty : goal.returns-then-is_empty
returns-then-is_empty c =
    let none : length c.skip_spaces-text.result.now ≡ 0 = search rules in
    words_of-nothing c.args.text.now (sym (ap length c.skip_spaces-text.ensures) ∙ none)

pub split_at-requires : goal.split_at-requires
split_at-requires c = omega (arith, c.word_len.ensures, word_len-le c.skip_spaces-text.result.now)

pub returns : goal.returns
returns c =
    let rest = c.skip_spaces-text.result.now in
    let some : 0 < length rest = search rules in
    rw (c.split_at.ensures.front, c.split_at.ensures.back, c.word_len.ensures) (words_of-next c.args.text.now rest (sym c.skip_spaces-text.ensures) some)
