use Rattle.std.proofs.Common.{arith, rules, ◌≡◌, ◌∙◌, ◌<◌, ap, sym, subst, drop, get_or, length, sum, take, All}
use Rattle.scan_kernels.specs.Gathered.{gathered}
use Rattle.scan_kernels.specs.Indices.{IsPlaceOf}
use Rattle.scan_kernels.proofs.NextSegment.{segment_within}
use Rattle.scan_kernels.proofs.SegmentMoves.{read_is, read_lengths, read_many, read_within}
use Rattle.scan_kernels.proofs.moves_by_segments.GatheredSegmentsSegmentwise.write.Goals as goal

pub offset_bounds-self-number : goal.offset_bounds-self-number
offset_bounds-self-number g c =
    let l = c.args.self.now in
    let many = read_many l.source.now l.items.now l.by.now l.index.now c.requires.fits.2 in
    let h : c.args.number < length l.source.now = omega (arith, c.requires.fits.2) in
    search rules

pub bounds-self-number : goal.bounds-self-number
bounds-self-number g c =
    let l = c.args.self.now in
    omega (arith, read_many l.source.now l.items.now l.by.now l.index.now c.requires.fits.2, c.requires.fits.2)

pub segment_at-requires : goal.segment_at-requires
segment_at-requires g c =
    let l = c.args.self.now in
    let many = read_many l.source.now l.items.now l.by.now l.index.now c.requires.fits.2 in
    segment_within l.source.now c.args.number c.args.origin (length l.items.now) (omega (arith, c.requires.fits.2)) c.requires.origin c.requires.fits.0

pub offset_bounds-self-number-2 : goal.offset_bounds-self-number-2
offset_bounds-self-number-2 g c =
    let l = c.args.self.now in
    let many = read_many l.source.now l.items.now l.by.now l.index.now c.requires.fits.2 in
    let h : c.args.number < length l.by.now = omega arith in
    search rules

pub bounds-self-number-2 : goal.bounds-self-number-2
bounds-self-number-2 g c =
    let l = c.args.self.now in
    omega (arith, read_many l.source.now l.items.now l.by.now l.index.now c.requires.fits.2)

pub segment_at-requires-2 : goal.segment_at-requires-2
segment_at-requires-2 g c =
    let l = c.args.self.now in
    let n = c.args.number in
    let many = read_many l.source.now l.items.now l.by.now l.index.now c.requires.fits.2 in
    let lengths = read_lengths l.source.now l.items.now l.by.now l.index.now c.requires.fits.2 c.requires.fits.0 c.requires.fits.1 c.requires.fits.3 in
    let place : c.args.begin ≡ sum (take n l.by.now) = c.requires.begin ∙ ap (λ ks. sum (take n ks)) (sym lengths) in
    segment_within l.by.now n c.args.begin (length l.index.now) (omega arith) place c.requires.fits.1

pub write_from-requires-clause-fits : goal.write_from-requires-clause-fits
write_from-requires-clause-fits g c =
    let l = c.args.self.now in
    let n = c.args.number in
    let many = read_many l.source.now l.items.now l.by.now l.index.now c.requires.fits.2 in
    let lengths = read_lengths l.source.now l.items.now l.by.now l.index.now c.requires.fits.2 c.requires.fits.0 c.requires.fits.1 c.requires.fits.3 in
    let place : c.args.begin ≡ sum (take n l.by.now) = c.requires.begin ∙ ap (λ ks. sum (take n ks)) (sym lengths) in
    let items = c.segment_at.ensures ∙ ap (λ k. take (get_or l.source.now n 0) (drop k l.items.now)) c.requires.origin in
    let index = c.segment_at-2.ensures ∙ ap (λ k. take (get_or l.by.now n 0) (drop k l.index.now)) place in
    let within = read_within l.source.now l.items.now l.by.now l.index.now c.requires.fits.2 c.requires.fits.0 c.requires.fits.3 n (omega arith) in
    subst (λ xs. All (IsPlaceOf (length xs)) c.segment_at-2.result.now) (sym items)
    (subst (All (IsPlaceOf (length (take (get_or l.source.now n 0) (drop (sum (take n l.source.now)) l.items.now))))) (sym index) within)

pub write_from-requires-clause-within : goal.write_from-requires-clause-within
write_from-requires-clause-within g c =
    let l = c.args.self.now in
    let n = c.args.number in
    let many = read_many l.source.now l.items.now l.by.now l.index.now c.requires.fits.2 in
    let lengths = read_lengths l.source.now l.items.now l.by.now l.index.now c.requires.fits.2 c.requires.fits.0 c.requires.fits.1 c.requires.fits.3 in
    let place : c.args.begin ≡ sum (take n l.by.now) = c.requires.begin ∙ ap (λ ks. sum (take n ks)) (sym lengths) in
    let items = c.segment_at.ensures ∙ ap (λ k. take (get_or l.source.now n 0) (drop k l.items.now)) c.requires.origin in
    let index = c.segment_at-2.ensures ∙ ap (λ k. take (get_or l.by.now n 0) (drop k l.index.now)) place in
    let is = read_is l.source.now l.items.now l.by.now l.index.now c.requires.fits.2 n (omega arith) in
    let same = ap (λ i. gathered i c.segment_at.result.now) index ∙ ap (gathered (take (get_or l.by.now n 0) (drop (sum (take n l.by.now)) l.index.now))) items ∙ sym is in
    omega (arith, ap length same)

pub returns : goal.returns
returns g c =
    let l = c.args.self.now in
    let n = c.args.number in
    let many = read_many l.source.now l.items.now l.by.now l.index.now c.requires.fits.2 in
    let lengths = read_lengths l.source.now l.items.now l.by.now l.index.now c.requires.fits.2 c.requires.fits.0 c.requires.fits.1 c.requires.fits.3 in
    let place : c.args.begin ≡ sum (take n l.by.now) = c.requires.begin ∙ ap (λ ks. sum (take n ks)) (sym lengths) in
    let items = c.segment_at.ensures ∙ ap (λ k. take (get_or l.source.now n 0) (drop k l.items.now)) c.requires.origin in
    let index = c.segment_at-2.ensures ∙ ap (λ k. take (get_or l.by.now n 0) (drop k l.index.now)) place in
    let is = read_is l.source.now l.items.now l.by.now l.index.now c.requires.fits.2 n (omega arith) in
    let same = ap (λ i. gathered i c.segment_at.result.now) index ∙ ap (gathered (take (get_or l.by.now n 0) (drop (sum (take n l.by.now)) l.index.now))) items ∙ sym is in
    c.write_from.ensures ∙ ap (λ zs. take (length c.args.part.now) (drop c.args.offset zs)) same
