use Rattle.std.proofs.Common.{arith, ◌∙◌, ap, sym, drop, get_or, length, take}
use Rattle.std.proofs.lemmas.List.{length-drop, length-take-le}
use Rattle.scan_kernels.specs.Marked.{marks}
use Rattle.scan_kernels.proofs.MarkedPlaces.{marks_is}
use Rattle.scan_kernels.proofs.NextSegment.{segment_within}
use Rattle.scan_kernels.proofs.marks.Marked.mark_segment.Goals as goal

pub segment_at-segment-requires : goal.segment_at-segment-requires
segment_at-segment-requires c =
    let l = c.args.self in
    segment_within l.lengths.now c.args.number c.args.begin (length l.index.now) c.requires.number c.requires.begin c.requires.total

pub mark_blank-requires-clause-within : goal.mark_blank-requires-clause-within
mark_blank-requires-clause-within c =
    let l = c.args.self in
    let n = c.args.number in
    let end = segment_within l.lengths.now n c.args.begin (length l.index.now) c.requires.number c.requires.begin c.requires.total in
    let rest = length-drop c.args.begin l.index.now in
    omega (arith, ap length c.segment_at-segment.ensures, length-take-le (get_or l.lengths.now n 0) (drop c.args.begin l.index.now) (omega arith))

pub returns : goal.returns
returns c =
    let l = c.args.self in
    let n = c.args.number in
    let index = c.segment_at-segment.ensures ∙ ap (λ k. take (get_or l.lengths.now n 0) (drop k l.index.now)) c.requires.begin in
    let is = marks_is l.lengths.now l.index.now n c.requires.number in
    c.mark_blank.ensures ∙ ap (λ zs. take (length c.args.part.now) (drop c.args.offset zs)) (ap marks index ∙ sym is)
