use Rattle.std.proofs.Common.{arith, ◌∙◌, [], ap, sym, get_or, length, map, sum, take}
use Rattle.std.proofs.lemmas.List.{get_or-map}
use Rattle.segment_desc.specs.Cut.{cut}
use Rattle.scan_kernels.specs.Marked.{marks}
use Rattle.scan_kernels.proofs.MarkedPlaces.{marks_lengths, marks_many}
use Rattle.scan_kernels.proofs.marks.MarkedSegmentwiseBool.write.Goals as goal

pub mark_segment-requires-clause-number : goal.mark_segment-requires-clause-number
mark_segment-requires-clause-number c = omega (arith, marks_many c.args.self.now.lengths.now c.args.self.now.index.now)

pub mark_segment-requires-clause-begin : goal.mark_segment-requires-clause-begin
mark_segment-requires-clause-begin c =
    let l = c.args.self.now in
    c.requires.begin ∙ ap (λ ks. sum (take c.args.number ks)) (sym (marks_lengths l.lengths.now l.index.now c.requires.fits))

pub mark_segment-requires-clause-within : goal.mark_segment-requires-clause-within
mark_segment-requires-clause-within c =
    let l = c.args.self.now in
    let n = c.args.number in
    let many = marks_many l.lengths.now l.index.now in
    let segments = map marks (cut l.lengths.now l.index.now) in
    let long = ap (λ ks. get_or ks n 0) (marks_lengths l.lengths.now l.index.now c.requires.fits) ∙ get_or-map length segments n [] 0 (omega arith) in
    omega arith
