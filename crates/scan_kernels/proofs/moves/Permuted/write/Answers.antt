use Rattle.std.proofs.Common.{arith, rules, ◌≡◌, ◌∙◌, ◌+◌, ◌<◌, ◌≤ℤ◌, ap, sym, subst, pos, get_or, length, take, drop, w64, to_z, of_z}
use Rattle.std.proofs.lemmas.Int.{ints}
use Rattle.std.proofs.lemmas.List.{length-set}
use Rattle.scan_kernels.specs.Permuted.{permuted}
use Rattle.scan_kernels.proofs.Counting.{each_inside}
use Rattle.scan_kernels.proofs.PartMoves.{PartPlaced, falls_into, part_hit, part_missed, part_whole}
use Rattle.scan_kernels.proofs.UndoneMoves.{IsPermuted-permuted}
use Rattle.scan_kernels.proofs.moves.Permuted.write.Goals as goal
use Rattle.scan_kernels.proofs.moves.Permuted.write.Goals.{then-behind-part, else-behind-part}

pub place_of-requires : goal.place_of-requires
place_of-requires g c =
    let index = c.args.self.index.now in
    let i = c.loop-i.i in
    let item : to_z w64 (of_z w64 (get_or index i (pos 0))) ≡ get_or index i (pos 0) = search (rules, ints) in
    subst (λ z. pos 0 ≤ℤ z) (sym item) (each_inside index c.requires.each_once i (pos 0) c.loop-i-test.true).0

pub loop-i-preserved : goal.loop-i-preserved
loop-i-preserved g c =
    let index = c.args.self.index.now in
    let items = c.args.self.items.now in
    let start = c.args.start in
    let part = c.loop-i.part in
    let i = c.loop-i.i in
    let q = c.place_of.result in
    let b = c.behind-behind.result in
    let item : to_z w64 (of_z w64 (get_or index i (pos 0))) ≡ get_or index i (pos 0) = search (rules, ints) in
    let here : get_or index i (pos 0) ≡ pos q = sym item ∙ sym c.place_of.ensures in
    let long = (IsPermuted-permuted index items c.requires.each_once c.requires.same_length).0 in
    elim c.if-behind-part.branch [
      | then-behind-part w ↦
          let lt : b < length part = omega arith in
          let place = falls_into start q b (length part) c.behind-behind.ensures.later c.behind-behind.ensures.before lt (omega arith) in
          let x = get_or items i w.index-self-i.result in
          let hit = part_hit index items part start i q b x c.requires.each_once c.requires.same_length (omega arith) c.loop-i-test.true here place lt (ap (get_or items i) w.index-self-i.is) c.loop-i.invariant.placed in
          record {
            long = ap length w.part-is ∙ length-set part b x ∙ c.loop-i.invariant.long;
            placed = subst (PartPlaced index items start (i + 1)) (sym w.part-is) hit;
          }
      | else-behind-part w ↦
          let missed = part_missed index items part start i q here (λ j lt e. omega (arith, c.behind-behind.ensures.later (omega arith))) c.loop-i.invariant.placed in
          record {
            long = ap length w.part-is ∙ c.loop-i.invariant.long;
            placed = subst (PartPlaced index items start (i + 1)) (sym w.part-is) missed;
          }
    ]

pub returns : goal.returns
returns g c =
    let index = c.args.self.index.now in
    let items = c.args.self.items.now in
    let start = c.args.start in
    let part = c.loop-i.part in
    let whole = part_whole index items part start c.loop-i.i c.requires.each_once c.requires.same_length (omega arith) c.loop-i-test.false c.loop-i.invariant.placed in
    whole ∙ ap (λ n. take n (drop start (permuted index items))) c.loop-i.invariant.long
