use Rattle.std.proofs.Common.{◌+◌, ◌*◌, length}
use Rattle.scan_kernels.proofs.in_turn.+each_bools.Given as goal

abbrev pub decreases-write_each_bools_in_turn : goal.decreases-write_each_bools_in_turn
decreases-write_each_bools_in_turn g l = 3 * length l.lists.now

abbrev pub decreases-write_each_both_bools : goal.decreases-write_each_both_bools
decreases-write_each_both_bools g l = 3 * length l.rest.now + 2

abbrev pub decreases-write_each_both_bools-others : goal.decreases-write_each_both_bools-others
decreases-write_each_both_bools-others g l = 3 * length l.rest.now + 1
