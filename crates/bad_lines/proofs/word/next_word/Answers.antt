use Rattle.std.proofs.Common.{refl, arith}
use Rattle.bad_lines.proofs.Words.{words_of-none, first_at}
use Rattle.bad_lines.proofs.word.next_word.Goals as goal

pub returns-then-at-text : goal.returns-then-at-text
returns-then-at-text c = words_of-none c.args.text.now c.args.from c.skip_spaces-at.result c.skip_spaces-at.ensures.skips c.if-at-text.true

pub returns : goal.returns
returns c = first_at c.args.text.now c.args.from _ refl (omega arith) c.word_end-end.ensures.within c.skip_spaces-at.ensures.skips c.word_end-end.ensures.len
