use Rattle.scan_kernels.specs.Lists.{ints_of}
use Rattle.scan_kernels.proofs.InTurn.{first_long, others_long, made_both}
use Rattle.scan_kernels.proofs.in_turn.+each_ints.Goals as goal

pub write_each_ints_in_turn-write_each_both_ints-requires-clause-long : goal.write_each_ints_in_turn-write_each_both_ints-requires-clause-long
write_each_ints_in_turn-write_each_both_ints-requires-clause-long g t c κs within =
    let cut = c.split_at_mut-first in
    first_long ints_of c.args.rows.now c.args.start c.args.lists.now cut.result.0.now cut.result.1.now cut.ensures.value c.requires.long

pub write_each_ints_in_turn-write_each_both_ints-requires-clause-long_rest : goal.write_each_ints_in_turn-write_each_both_ints-requires-clause-long_rest
write_each_ints_in_turn-write_each_both_ints-requires-clause-long_rest g t c κs within =
    let cut = c.split_at_mut-first in
    others_long ints_of c.args.rows.now c.args.start c.args.lists.now cut.result.0.now cut.result.1.now c.args.size cut.ensures.value cut.ensures.front_len c.requires.long

pub write_each_ints_in_turn-returns : goal.write_each_ints_in_turn-returns
write_each_ints_in_turn-returns g t c =
    let cut = c.split_at_mut-first in
    made_both ints_of c.args.rows.now c.args.start c.args.lists.now cut.result.0.now cut.result.1.now _ _ c.args.size cut.ensures.value cut.ensures.front_len
    c.write_each_both_ints.ensures.first c.write_each_both_ints.ensures.rest
