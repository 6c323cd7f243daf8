use Rattle.std.proofs.Common.{rules, ◌≡◌, pos, get_or, w64, to_z, of_z}
use Rattle.std.proofs.lemmas.Int.{ints}
use Rattle.item_operations.specs.IntegerOps.{IsDivisor}
use Rattle.scan_kernels.proofs.Tested.{each_more, each_all}
use Rattle.scan_kernels.proofs.conditions.divisors_ok.Goals as goal

pub loop-divisor-preserved : goal.loop-divisor-preserved
loop-divisor-preserved c =
    let ys = c.args.divisors.now in
    let i = c.loop-divisor.divisor-index in
    let item : to_z w64 (of_z w64 (get_or ys i (pos 0))) ≡ get_or ys i (pos 0) = search (rules, ints) in
    each_more IsDivisor ys i c.loop-divisor.each c.is_divisor-each.result (to_z w64 (of_z w64 (get_or ys i (pos 0)))) (pos 0) c.loop-divisor-test.true item c.loop-divisor.invariant c.is_divisor-each.ensures

pub returns : goal.returns
returns c = each_all IsDivisor c.args.divisors.now c.loop-divisor.divisor-index c.loop-divisor.each c.loop-divisor-test.false c.loop-divisor.invariant
