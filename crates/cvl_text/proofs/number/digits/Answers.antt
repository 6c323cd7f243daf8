use Rattle.std.proofs.Common.{arith}
use Rattle.cvl_text.proofs.NumberReading.{small-pow}
use Rattle.cvl_text.proofs.number.digits.Goals as goal

pub overflow_mul-value : goal.overflow_mul-value
overflow_mul-value c = omega (arith, small-pow c.loop-byte.byte-index (omega arith))

pub overflow_add-value : goal.overflow_add-value
overflow_add-value c = omega (arith, small-pow c.loop-byte.byte-index (omega arith), c.in_ok-digit.ensures)
