use Rattle.scan_kernels.specs.Lists.{ints_of}
use Rattle.scan_kernels.proofs.InTurn.{written_both}
use Rattle.scan_kernels.proofs.in_turn.+ints.Goals as goal

pub write_ints_in_turn-returns : goal.write_ints_in_turn-returns
write_ints_in_turn-returns g t c =
    let cut = c.split_at_mut-first in
    written_both (ints_of c.args.row) c.args.part.now cut.result.0.now cut.result.1.now _ _ c.args.start c.args.size cut.ensures.value cut.ensures.front_len
    c.write_both_ints.ensures.first c.write_both_ints.ensures.rest
