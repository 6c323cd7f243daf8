use Rattle.std.proofs.Common.{◌≡◌, ◌<◌, ◌≤ℤ◌, length, get_or, pos, sym, subst, ◌∙◌, arith, rules, w64, to_z, of_z}
use Rattle.std.proofs.lemmas.Int.{ints}
use Rattle.scan_kernels.proofs.Counting.{each_inside}
use Rattle.scan_kernels.proofs.Places.{place_below}
use Rattle.permute_kernels.proofs.Placing.{placed_more, placed_all}
use Rattle.scan_kernels.proofs.Sending.{permuted_is}
use Rattle.permute_kernels.proofs.permute.scatter.Goals as goal

pub place_of-requires : goal.place_of-requires
place_of-requires g c =
    let index = c.args.index.now in
    let i = c.loop-i.i in
    let item : to_z w64 (of_z w64 (get_or index i (pos 0))) ≡ get_or index i (pos 0) = search (rules, ints) in
    subst (λ z. pos 0 ≤ℤ z) (sym item) (each_inside index c.requires.each_once i (pos 0) (omega arith)).0

pub bounds-made-place_of : goal.bounds-made-place_of
bounds-made-place_of g c =
    let index = c.args.index.now in
    let i = c.loop-i.i in
    let item : to_z w64 (of_z w64 (get_or index i (pos 0))) ≡ get_or index i (pos 0) = search (rules, ints) in
    let below = place_below (length index) c.place_of.result (get_or index i (pos 0)) (each_inside index c.requires.each_once i (pos 0) (omega arith)) (sym item ∙ sym c.place_of.ensures) in
    omega arith

pub offset_bounds-made-place_of : goal.offset_bounds-made-place_of
offset_bounds-made-place_of g c =
    let index = c.args.index.now in
    let i = c.loop-i.i in
    let item : to_z w64 (of_z w64 (get_or index i (pos 0))) ≡ get_or index i (pos 0) = search (rules, ints) in
    let below = place_below (length index) c.place_of.result (get_or index i (pos 0)) (each_inside index c.requires.each_once i (pos 0) (omega arith)) (sym item ∙ sym c.place_of.ensures) in
    let within : c.place_of.result < length c.loop-i.made = omega arith in
    search rules

pub loop-i-preserved : goal.loop-i-preserved
loop-i-preserved g c =
    let index = c.args.index.now in
    let i = c.loop-i.i in
    let item : to_z w64 (of_z w64 (get_or index i (pos 0))) ≡ get_or index i (pos 0) = search (rules, ints) in
    placed_more index c.args.items.now c.loop-i.made i c.place_of.result c.index-items-i.result c.requires.each_once c.requires.same_length (omega arith) (omega arith) (sym item ∙ sym c.place_of.ensures) c.index-items-i.is c.loop-i.invariant

pub returns : goal.returns
returns g c =
    let index = c.args.index.now in
    let items = c.args.items.now in
    let moved = placed_all index items c.loop-i.made c.loop-i.i (omega arith) (omega arith) c.loop-i.invariant in
    record { permute = permuted_is index items c.loop-i.made c.requires.each_once c.requires.same_length moved; places = moved }
