use Rattle.std.proofs.lemmas.Bool.{both_ways}
use Rattle.cvl_text.proofs.NumberReading.{IsNoDecimal-long, magnitude-digits}
use Rattle.cvl_text.proofs.number.magnitude.Goals as goal

pub returns-then-is_short : goal.returns-then-is_short
returns-then-is_short c = magnitude-digits c.digits.result c.args.text.now (c.is_short.ensures.0 c.if-is_short.true) c.digits.ensures

pub returns-else-is_short : goal.returns-else-is_short
returns-else-is_short c = IsNoDecimal-long c.args.text.now (λ short. both_ways c.is_short.result c.if-is_short.false (c.is_short.ensures.1 short))
