use Rattle.std.proofs.Common.{arith}
use Rattle.bad_lines.proofs.NearWords.{far, near, table_words}
use Rattle.bad_lines.proofs.nearest.nearest.Goals as goal

pub returns-then-agreement-lt-LEAST_AGREEMENT : goal.returns-then-agreement-lt-LEAST_AGREEMENT
unfolding table_words
returns-then-agreement-lt-LEAST_AGREEMENT c = far c.args.text.now c.nearest_in-word.result.now c.nearest_in-word.ensures (omega arith)

pub returns : goal.returns
unfolding table_words
returns c = near c.args.text.now c.nearest_in-word.result.now c.nearest_in-word.ensures (omega arith)
