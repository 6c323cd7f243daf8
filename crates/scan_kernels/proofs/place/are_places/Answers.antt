use Rattle.std.proofs.Common.{rules, ◌≡◌, pos, get_or, w64, to_z, of_z}
use Rattle.std.proofs.lemmas.Int.{ints}
use Rattle.scan_kernels.proofs.Tested.{each_more, each_all}
use Rattle.scan_kernels.specs.Indices.{IsPlaceOf}
use Rattle.scan_kernels.proofs.place.are_places.Goals as goal

pub loop-held-preserved : goal.loop-held-preserved
loop-held-preserved c =
    let zs = c.args.index.now in
    let i = c.loop-held.held-index in
    let item : to_z w64 (of_z w64 (get_or zs i (pos 0))) ≡ get_or zs i (pos 0) = search (rules, ints) in
    each_more (IsPlaceOf c.args.length) zs i c.loop-held.each c.is_place-each.result (to_z w64 (of_z w64 (get_or zs i (pos 0)))) (pos 0) c.loop-held-test.true item c.loop-held.invariant c.is_place-each.ensures

pub returns : goal.returns
returns c = each_all (IsPlaceOf c.args.length) c.args.index.now c.loop-held.held-index c.loop-held.each c.loop-held-test.false c.loop-held.invariant
