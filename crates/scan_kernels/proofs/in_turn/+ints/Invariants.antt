use Rattle.std.proofs.Common.{◌+◌, ◌*◌, length}
use Rattle.scan_kernels.proofs.in_turn.+ints.Given as goal

abbrev pub decreases-write_ints_in_turn : goal.decreases-write_ints_in_turn
decreases-write_ints_in_turn g l = 3 * length l.part.now

abbrev pub decreases-write_both_ints : goal.decreases-write_both_ints
decreases-write_both_ints g l = 3 * length l.rest.now + 2

abbrev pub decreases-write_both_ints-others : goal.decreases-write_both_ints-others
decreases-write_both_ints-others g l = 3 * length l.rest.now + 1
