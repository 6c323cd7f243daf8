use Rattle.std.proofs.Common.{Some, w64, sym, ap, ◌∙◌, arith}
use Rattle.std.proofs.lemmas.Int.{to_z_pos}
use Rattle.std.proofs.lemmas.Bool.{lt-ltb}
use Rattle.cvl_text.proofs.NumberReading.{unsigned-some, unsigned-great}
use Rattle.cvl_text.proofs.number.unsigned_number.Goals as goal

pub returns-then-magnitude-lt-LIMIT : goal.returns-then-magnitude-lt-LIMIT
returns-then-magnitude-lt-LIMIT c =
    let n = c.in_ok-magnitude.magnitude in
    ap Some (to_z_pos w64 n c.if-magnitude-lt-LIMIT.true) ∙ sym (unsigned-some c.args.text.now n c.in_ok-magnitude.ensures (lt-ltb n _ c.if-magnitude-lt-LIMIT.true))

pub returns-else-magnitude-lt-LIMIT : goal.returns-else-magnitude-lt-LIMIT
returns-else-magnitude-lt-LIMIT c =
    sym (unsigned-great c.args.text.now c.in_ok-magnitude.magnitude c.requires c.in_ok-magnitude.ensures (omega arith) c.if-magnitude-lt-LIMIT.false)
