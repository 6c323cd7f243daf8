use Rattle.std.proofs.Common.{rules, ◌≡◌, pos, get_or, w64, to_z, of_z}
use Rattle.std.proofs.lemmas.Int.{ints}
use Rattle.item_operations.specs.IntegerOps.{IsShift}
use Rattle.scan_kernels.proofs.Tested.{each_more, each_all}
use Rattle.scan_kernels.proofs.conditions.shifts_ok.Goals as goal

pub loop-count-preserved : goal.loop-count-preserved
loop-count-preserved c =
    let ys = c.args.counts.now in
    let i = c.loop-count.count-index in
    let item : to_z w64 (of_z w64 (get_or ys i (pos 0))) ≡ get_or ys i (pos 0) = search (rules, ints) in
    each_more IsShift ys i c.loop-count.each c.is_shift-each.result (to_z w64 (of_z w64 (get_or ys i (pos 0)))) (pos 0) c.loop-count-test.true item c.loop-count.invariant c.is_shift-each.ensures

pub returns : goal.returns
returns c = each_all IsShift c.args.counts.now c.loop-count.count-index c.loop-count.each c.loop-count-test.false c.loop-count.invariant
