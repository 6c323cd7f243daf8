use Rattle.std.proofs.Common.{◌+◌, ◌*◌, length}
use Rattle.scan_kernels.proofs.in_turn.+bools.Given as goal

abbrev pub decreases-write_bools_in_turn : goal.decreases-write_bools_in_turn
decreases-write_bools_in_turn g l = 3 * length l.part.now

abbrev pub decreases-write_both_bools : goal.decreases-write_both_bools
decreases-write_both_bools g l = 3 * length l.rest.now + 2

abbrev pub decreases-write_both_bools-others : goal.decreases-write_both_bools-others
decreases-write_both_bools-others g l = 3 * length l.rest.now + 1
