use Rattle.std.proofs.Common.{arith}
use Rattle.cvl_text.proofs.WordLemmas.{begun-words}
use Rattle.cvl_text.proofs.text.count_words.Goals as goal

pub loop-byte-init : goal.loop-byte-init
loop-byte-init c = record { counted = omega (arith, begun-words c.args.text.now); few = omega arith }
