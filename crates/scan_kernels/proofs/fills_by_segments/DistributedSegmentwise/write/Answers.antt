use Rattle.std.proofs.Common.{arith, rules, ◌∙◌, ◌<◌, ap, sym, drop, length, replicate, take}
use Rattle.scan_kernels.proofs.SegmentLists.{segment_is, segments_many}
use Rattle.scan_kernels.proofs.fills_by_segments.DistributedSegmentwise.write.Goals as goal

pub offset_bounds-self-number : goal.offset_bounds-self-number
offset_bounds-self-number g c =
    let many = segments_many (λ p. replicate p.0 p.1) c.args.self.now.lengths.now c.args.self.now.values.now c.requires.fits.0 in
    let h : c.args.number < length c.args.self.now.values.now = omega arith in
    search rules

pub bounds-self-number : goal.bounds-self-number
bounds-self-number g c =
    omega (arith, segments_many (λ p. replicate p.0 p.1) c.args.self.now.lengths.now c.args.self.now.values.now c.requires.fits.0)

pub offset_bounds-self-number-2 : goal.offset_bounds-self-number-2
offset_bounds-self-number-2 g c =
    let many = segments_many (λ p. replicate p.0 p.1) c.args.self.now.lengths.now c.args.self.now.values.now c.requires.fits.0 in
    let h : c.args.number < length c.args.self.now.lengths.now = omega arith in
    search rules

pub bounds-self-number-2 : goal.bounds-self-number-2
bounds-self-number-2 g c =
    omega (arith, segments_many (λ p. replicate p.0 p.1) c.args.self.now.lengths.now c.args.self.now.values.now c.requires.fits.0)

pub write_from-requires-clause-within : goal.write_from-requires-clause-within
write_from-requires-clause-within g c =
    let ls = c.args.self.now.lengths.now in
    let values = c.args.self.now.values.now in
    let n = c.args.number in
    let x = c.index-self-number.result in
    let many = segments_many (λ p. replicate p.0 p.1) ls values c.requires.fits.0 in
    let is = ap length (segment_is (λ p. replicate p.0 p.1) ls values n 0 x c.requires.fits.0 (omega arith)) in
    omega arith

pub returns : goal.returns
returns g c =
    let ls = c.args.self.now.lengths.now in
    let values = c.args.self.now.values.now in
    let n = c.args.number in
    let x = c.index-self-number.result in
    let many = segments_many (λ p. replicate p.0 p.1) ls values c.requires.fits.0 in
    let is = segment_is (λ p. replicate p.0 p.1) ls values n 0 x c.requires.fits.0 (omega arith) in
    c.write_from.ensures ∙ ap (λ zs. take (length c.args.part.now) (drop c.args.offset zs)) (sym is)
