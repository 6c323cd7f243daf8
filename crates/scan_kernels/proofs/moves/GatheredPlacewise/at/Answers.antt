use Rattle.std.proofs.Common.{arith, rules, ◌≡◌, ◌∙◌, ◌<◌, ap, sym, pos, get_or, length, w64, to_z, of_z, Some}
use Rattle.std.proofs.lemmas.Int.{ints}
use Rattle.std.proofs.lemmas.Option.{slice_get-get_or}
use Rattle.scan_kernels.proofs.Places.{place_below}
use Rattle.scan_kernels.proofs.UndoneMoves.{length-gathered, slice_get-gathered}
use Rattle.scan_kernels.proofs.moves.GatheredPlacewise.at.Goals as goal

pub offset_bounds-self-place : goal.offset_bounds-self-place
offset_bounds-self-place g c =
    let long = length-gathered c.args.self.now.items.now c.args.self.now.index.now c.requires.fits in
    let h : c.args.place < length c.args.self.now.index.now = omega arith in
    search rules

pub bounds-self-place : goal.bounds-self-place
bounds-self-place g c =
    let long = length-gathered c.args.self.now.items.now c.args.self.now.index.now c.requires.fits in
    omega arith

pub bounds-self-place_of : goal.bounds-self-place_of
bounds-self-place_of g c =
    let index = c.args.self.now.index.now in
    let i = c.args.place in
    let long = length-gathered c.args.self.now.items.now index c.requires.fits in
    let item : to_z w64 (of_z w64 (get_or index i (pos 0))) ≡ get_or index i (pos 0) = search (rules, ints) in
    place_below _ c.place_of.result (get_or index i (pos 0)) (c.requires.fits i (pos 0) (omega arith)) (sym item ∙ sym c.place_of.ensures)

pub returns : goal.returns
returns g c =
    let index = c.args.self.now.index.now in
    let items = c.args.self.now.items.now in
    let i = c.args.place in
    let p = c.place_of.result in
    let long = length-gathered items index c.requires.fits in
    let item : to_z w64 (of_z w64 (get_or index i (pos 0))) ≡ get_or index i (pos 0) = search (rules, ints) in
    let here : get_or index i (pos 0) ≡ pos p = sym item ∙ sym c.place_of.ensures in
    let within = place_below (length items) p (get_or index i (pos 0)) (c.requires.fits i (pos 0) (omega arith)) here in
    slice_get-gathered items index c.requires.fits i p (slice_get-get_or index i (pos 0) (omega arith) ∙ ap Some here) ∙ slice_get-get_or items p c.index-self-place_of.result within
