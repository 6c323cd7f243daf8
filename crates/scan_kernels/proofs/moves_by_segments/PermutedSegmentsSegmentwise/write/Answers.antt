use Rattle.std.proofs.Common.{arith, rules, ◌≡◌, ◌∙◌, ◌<◌, ap, sym, subst, drop, get_or, length, sum, take}
use Rattle.scan_kernels.specs.Indices.{HoldsEachPlaceOnce}
use Rattle.scan_kernels.specs.Permuted.{permuted}
use Rattle.scan_kernels.proofs.NextSegment.{segment_within}
use Rattle.scan_kernels.proofs.SegmentMoves.{moved_is, moved_lengths, moved_many, moved_once}
use Rattle.scan_kernels.proofs.moves_by_segments.PermutedSegmentsSegmentwise.write.Goals as goal

pub offset_bounds-self-number : goal.offset_bounds-self-number
offset_bounds-self-number g c =
    let l = c.args.self.now in
    let many = moved_many l.lengths.now l.index.now l.items.now in
    let h : c.args.number < length l.lengths.now = omega arith in
    search rules

pub bounds-self-number : goal.bounds-self-number
bounds-self-number g c =
    let l = c.args.self.now in
    omega (arith, moved_many l.lengths.now l.index.now l.items.now)

pub segment_at-requires : goal.segment_at-requires
segment_at-requires g c =
    let l = c.args.self.now in
    let n = c.args.number in
    let many = moved_many l.lengths.now l.index.now l.items.now in
    let lengths = moved_lengths l.lengths.now l.index.now l.items.now c.requires.fits.1 c.requires.fits.0 c.requires.fits.2 in
    let place : c.args.begin ≡ sum (take n l.lengths.now) = c.requires.begin ∙ ap (λ ks. sum (take n ks)) (sym lengths) in
    segment_within l.lengths.now n c.args.begin (length l.items.now) (omega arith) place (c.requires.fits.1 ∙ c.requires.fits.0)

pub segment_at-requires-2 : goal.segment_at-requires-2
segment_at-requires-2 g c =
    let l = c.args.self.now in
    let n = c.args.number in
    let many = moved_many l.lengths.now l.index.now l.items.now in
    let lengths = moved_lengths l.lengths.now l.index.now l.items.now c.requires.fits.1 c.requires.fits.0 c.requires.fits.2 in
    let place : c.args.begin ≡ sum (take n l.lengths.now) = c.requires.begin ∙ ap (λ ks. sum (take n ks)) (sym lengths) in
    segment_within l.lengths.now n c.args.begin (length l.index.now) (omega arith) place c.requires.fits.1

pub write-requires-clause-each_once : goal.write-requires-clause-each_once
write-requires-clause-each_once g c =
    let l = c.args.self.now in
    let n = c.args.number in
    let many = moved_many l.lengths.now l.index.now l.items.now in
    let lengths = moved_lengths l.lengths.now l.index.now l.items.now c.requires.fits.1 c.requires.fits.0 c.requires.fits.2 in
    let place : c.args.begin ≡ sum (take n l.lengths.now) = c.requires.begin ∙ ap (λ ks. sum (take n ks)) (sym lengths) in
    let index = c.segment_at-2.ensures ∙ ap (λ k. take (get_or l.lengths.now n 0) (drop k l.index.now)) place in
    subst HoldsEachPlaceOnce (sym index) (moved_once l.lengths.now l.index.now l.items.now c.requires.fits.2 n (omega arith))

pub write-requires-clause-within : goal.write-requires-clause-within
write-requires-clause-within g c =
    let l = c.args.self.now in
    let n = c.args.number in
    let many = moved_many l.lengths.now l.index.now l.items.now in
    let lengths = moved_lengths l.lengths.now l.index.now l.items.now c.requires.fits.1 c.requires.fits.0 c.requires.fits.2 in
    let place : c.args.begin ≡ sum (take n l.lengths.now) = c.requires.begin ∙ ap (λ ks. sum (take n ks)) (sym lengths) in
    let items = c.segment_at.ensures ∙ ap (λ k. take (get_or l.lengths.now n 0) (drop k l.items.now)) place in
    let index = c.segment_at-2.ensures ∙ ap (λ k. take (get_or l.lengths.now n 0) (drop k l.index.now)) place in
    let is = moved_is l.lengths.now l.index.now l.items.now n (omega arith) in
    let same = ap (λ i. permuted i c.segment_at.result.now) index ∙ ap (permuted (take (get_or l.lengths.now n 0) (drop (sum (take n l.lengths.now)) l.index.now))) items ∙ sym is in
    omega (arith, ap length same)

pub returns : goal.returns
returns g c =
    let l = c.args.self.now in
    let n = c.args.number in
    let many = moved_many l.lengths.now l.index.now l.items.now in
    let lengths = moved_lengths l.lengths.now l.index.now l.items.now c.requires.fits.1 c.requires.fits.0 c.requires.fits.2 in
    let place : c.args.begin ≡ sum (take n l.lengths.now) = c.requires.begin ∙ ap (λ ks. sum (take n ks)) (sym lengths) in
    let items = c.segment_at.ensures ∙ ap (λ k. take (get_or l.lengths.now n 0) (drop k l.items.now)) place in
    let index = c.segment_at-2.ensures ∙ ap (λ k. take (get_or l.lengths.now n 0) (drop k l.index.now)) place in
    let is = moved_is l.lengths.now l.index.now l.items.now n (omega arith) in
    let same = ap (λ i. permuted i c.segment_at.result.now) index ∙ ap (permuted (take (get_or l.lengths.now n 0) (drop (sum (take n l.lengths.now)) l.index.now))) items ∙ sym is in
    c.write.ensures ∙ ap (λ zs. take (length c.args.part.now) (drop c.args.offset zs)) same
