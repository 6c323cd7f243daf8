use Rattle.scan_kernels.proofs.Carried.{segment_within_list}
use Rattle.scan_kernels.proofs.edges.segment_of.Goals as goal

pub bounds-lengths-number : goal.bounds-lengths-number
bounds-lengths-number c =
    segment_within_list c.args.lengths.now c.loop-number.number c.loop-number.begin c.args.place c.loop-number.invariant.begin c.loop-number.invariant.behind c.requires.within
