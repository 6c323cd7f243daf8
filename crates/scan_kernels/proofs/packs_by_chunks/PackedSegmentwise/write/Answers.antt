use Rattle.std.proofs.Common.{arith, rules, ◌∙◌, ◌<◌, ap, sym, drop, get_or, length, take}
use Rattle.scan_kernels.specs.Packed.{number_set, packed}
use Rattle.scan_kernels.proofs.NextSegment.{segment_within}
use Rattle.scan_kernels.proofs.PackedChunks.{packed_is, packed_many, packed_same}
use Rattle.scan_kernels.proofs.PackedLists.{length-packed}
use Rattle.scan_kernels.proofs.packs_by_chunks.PackedSegmentwise.write.Goals as goal

pub offset_bounds-self-number : goal.offset_bounds-self-number
offset_bounds-self-number g c =
    let l = c.args.self.now in
    let many = packed_many l.lengths.now l.flags.now l.items.now in
    let h : c.args.number < length l.lengths.now = omega arith in
    search rules

pub bounds-self-number : goal.bounds-self-number
bounds-self-number g c =
    omega (arith, packed_many c.args.self.now.lengths.now c.args.self.now.flags.now c.args.self.now.items.now)

pub segment_at-items-requires : goal.segment_at-items-requires
segment_at-items-requires g c =
    let l = c.args.self.now in
    let many = packed_many l.lengths.now l.flags.now l.items.now in
    segment_within l.lengths.now c.args.number c.args.origin (length l.items.now) (omega arith) c.requires.origin (c.requires.fits.1 ∙ c.requires.fits.0)

pub segment_at-flags-requires : goal.segment_at-flags-requires
segment_at-flags-requires g c =
    let l = c.args.self.now in
    let many = packed_many l.lengths.now l.flags.now l.items.now in
    segment_within l.lengths.now c.args.number c.args.origin (length l.flags.now) (omega arith) c.requires.origin c.requires.fits.1

pub write_packed-requires-clause-within : goal.write_packed-requires-clause-within
write_packed-requires-clause-within g c =
    let l = c.args.self.now in
    let n = c.args.number in
    let at = c.args.origin in
    let many = packed_many l.lengths.now l.flags.now l.items.now in
    let is = packed_is l.lengths.now l.flags.now l.items.now n at (omega arith) c.requires.origin in
    let same = packed_same l.lengths.now l.flags.now l.items.now (get_or l.lengths.now n 0) at c.requires.fits.0 in
    let kept = length-packed (take (get_or l.lengths.now n 0) (drop at l.flags.now)) (take (get_or l.lengths.now n 0) (drop at l.items.now)) same in
    let number = ap number_set c.segment_at-flags.ensures in
    omega (arith, ap length is)

pub returns : goal.returns
returns g c =
    let l = c.args.self.now in
    let n = c.args.number in
    let at = c.args.origin in
    let many = packed_many l.lengths.now l.flags.now l.items.now in
    let is = packed_is l.lengths.now l.flags.now l.items.now n at (omega arith) c.requires.origin in
    let kept =
    ap (λ fs. packed fs c.segment_at-items.result.now) c.segment_at-flags.ensures
    ∙ ap (packed (take (get_or l.lengths.now n 0) (drop at l.flags.now))) c.segment_at-items.ensures
    ∙ sym is in
    c.write_packed.ensures ∙ ap (λ zs. take (length c.args.part.now) (drop c.args.offset zs)) kept
