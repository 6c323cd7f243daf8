use Rattle.scan_kernels.proofs.Written.{still_there, written_over}
use Rattle.scan_kernels.proofs.overwrite.write_over.Goals as goal

pub loop-i-preserved : goal.loop-i-preserved
loop-i-preserved g c =
    let before = c.args.list.now in
    let after = g.L.Overwrite.after c.args.change.now before in
    let item = c.index-list-i.result in
    let here = still_there after before c.loop-i.list c.loop-i.i item c.loop-i-test.true c.requires.long c.loop-i.invariant c.index-list-i.is in
    written_over after before c.loop-i.list c.loop-i.i c.at.result (c.at.ensures before c.requires.fits here) c.loop-i-test.true c.requires.long c.loop-i.invariant
