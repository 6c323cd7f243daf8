use Rattle.std.proofs.Common.{arith, ◌≡◌, ◌∙◌, ◌+◌, ◌-◌, ap, sym, drop, false, length, take, true}
use Rattle.std.proofs.lemmas.List.{length-take-le}
use Rattle.scan_kernels.specs.Marked.{all_set, segmented_marks}
use Rattle.scan_kernels.proofs.PlaceTests.{all_set-more, all_set-part}
use Rattle.scan_kernels.proofs.chunks_marked.are_marked.Goals as goal

pub returns-then-not-is_block_marked : goal.returns-then-not-is_block_marked
returns-then-not-is_block_marked c =
    let flags = segmented_marks c.args.marked.lengths.now c.args.marked.index.now in
    let at = c.loop-at.at in
    let many = c.min-many.result in
    let long : length (take many c.loop-at.marks) ≡ many = length-take-le many c.loop-at.marks (omega (arith, c.segment_of-segment.array_long)) in
    let here : (at + many) - at ≡ length (take many c.loop-at.marks) = omega arith in
    let unset : all_set (take ((at + many) - at) (drop at flags)) ≡ false =
    ap (λ n. all_set (take n (drop at flags))) here ∙ sym c.is_block_marked.ensures ∙ c.if-not-is_block_marked.true in
    sym (all_set-part flags c.args.start at (at + many) c.args.end c.loop-at.invariant.started (omega arith) (omega arith) unset)

pub loop-at-preserved : goal.loop-at-preserved
loop-at-preserved c =
    let flags = segmented_marks c.args.marked.lengths.now c.args.marked.index.now in
    let at = c.loop-at.at in
    let many = c.min-many.result in
    let long : length (take many c.loop-at.marks) ≡ many = length-take-le many c.loop-at.marks (omega (arith, c.segment_of-segment.array_long)) in
    let here : (at + many) - at ≡ length (take many c.loop-at.marks) = omega arith in
    let set : all_set (take ((at + many) - at) (drop at flags)) ≡ true =
    ap (λ n. all_set (take n (drop at flags))) here ∙ sym c.is_block_marked.ensures ∙ c.if-not-is_block_marked.false in
    record {
      set = all_set-more flags c.args.start at (at + many) c.loop-at.invariant.started (omega arith) c.loop-at.invariant.set set;
      started = omega arith;
      within = λ h. omega arith;
      begin = c.segment_of-segment.ensures.begin_is;
      behind = omega (arith, c.segment_of-segment.ensures.behind_begin);
    }
