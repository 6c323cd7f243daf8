use Rattle.std.proofs.Common.{arith, rules, ◌∙◌, ◌<◌, ap, sym, drop, get_or, length, of_z, pos, take, to_z, w64, SFits}
use Rattle.std.proofs.lemmas.Int.{to_z-of_z}
use Rattle.scan_kernels.specs.Indexed.{indexed}
use Rattle.scan_kernels.proofs.ResultLengths.{length-indexed}
use Rattle.scan_kernels.proofs.SegmentLists.{rising_is, rising_many}
use Rattle.scan_kernels.proofs.fills_by_segments.RisingSegmentsSegmentwiseI64.write.Goals as goal

pub offset_bounds-self-number : goal.offset_bounds-self-number
offset_bounds-self-number c =
    let l = c.args.self.now in
    let many = rising_many l.lengths.now l.starts.now l.strides.now c.requires.fits.0 c.requires.fits.1 in
    let h : c.args.number < length l.starts.now = omega arith in
    search rules

pub bounds-self-number : goal.bounds-self-number
bounds-self-number c =
    let l = c.args.self.now in
    omega (arith, rising_many l.lengths.now l.starts.now l.strides.now c.requires.fits.0 c.requires.fits.1)

pub offset_bounds-self-number-2 : goal.offset_bounds-self-number-2
offset_bounds-self-number-2 c =
    let l = c.args.self.now in
    let many = rising_many l.lengths.now l.starts.now l.strides.now c.requires.fits.0 c.requires.fits.1 in
    let h : c.args.number < length l.strides.now = omega arith in
    search rules

pub bounds-self-number-2 : goal.bounds-self-number-2
bounds-self-number-2 c =
    let l = c.args.self.now in
    omega (arith, rising_many l.lengths.now l.starts.now l.strides.now c.requires.fits.0 c.requires.fits.1)

pub offset_bounds-self-number-3 : goal.offset_bounds-self-number-3
offset_bounds-self-number-3 c =
    let l = c.args.self.now in
    let many = rising_many l.lengths.now l.starts.now l.strides.now c.requires.fits.0 c.requires.fits.1 in
    let h : c.args.number < length l.lengths.now = omega arith in
    search rules

pub bounds-self-number-3 : goal.bounds-self-number-3
bounds-self-number-3 c =
    let l = c.args.self.now in
    omega (arith, rising_many l.lengths.now l.starts.now l.strides.now c.requires.fits.0 c.requires.fits.1)

pub write_from-requires-clause-within : goal.write_from-requires-clause-within
write_from-requires-clause-within c =
    let l = c.args.self.now in
    let n = c.args.number in
    let many = rising_many l.lengths.now l.starts.now l.strides.now c.requires.fits.0 c.requires.fits.1 in
    let is = ap length (rising_is l.lengths.now l.starts.now l.strides.now n c.requires.fits.0 c.requires.fits.1 (omega arith)) in
    let long = length-indexed (get_or l.starts.now n (pos 0)) (get_or l.strides.now n (pos 0)) (get_or l.lengths.now n 0) in
    let also = length-indexed (to_z w64 (of_z w64 (get_or l.starts.now n (pos 0)))) (to_z w64 (of_z w64 (get_or l.strides.now n (pos 0)))) (get_or l.lengths.now n 0) in
    omega arith

pub returns : goal.returns
returns c =
    let l = c.args.self.now in
    let n = c.args.number in
    let many = rising_many l.lengths.now l.starts.now l.strides.now c.requires.fits.0 c.requires.fits.1 in
    let is = rising_is l.lengths.now l.starts.now l.strides.now n c.requires.fits.0 c.requires.fits.1 (omega arith) in
    let start_fits : SFits w64 (get_or l.starts.now n (pos 0)) = search rules in
    let stride_fits : SFits w64 (get_or l.strides.now n (pos 0)) = search rules in
    let start = to_z-of_z w64 (get_or l.starts.now n (pos 0)) start_fits in
    let stride = to_z-of_z w64 (get_or l.strides.now n (pos 0)) stride_fits in
    let many_items = get_or l.lengths.now n 0 in
    let written =
    ap (λ s. indexed s (to_z w64 (of_z w64 (get_or l.strides.now n (pos 0)))) many_items) start
    ∙ ap (λ d. indexed (get_or l.starts.now n (pos 0)) d many_items) stride in
    c.write_from.ensures ∙ ap (λ zs. take (length c.args.part.now) (drop c.args.offset zs)) (written ∙ sym is)
