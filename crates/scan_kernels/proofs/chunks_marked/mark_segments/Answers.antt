use Rattle.std.proofs.Common.{arith, ◌≡◌, ◌∙◌, ◌+◌, ◌-◌, ◌<◌, [], ap, sym, false, take, drop, length, get_or, sum, map}
use Rattle.std.specs.Prelude.{replicate}
use Rattle.std.proofs.lemmas.List.{drop-replicate, get_or-map, length-drop, length-take-le, drop-drop, take-replicate, take-take}
use Rattle.std.proofs.lemmas.Slice.{drop-put_mid}
use Rattle.segment_desc.specs.Cut.{cut}
use Rattle.scan_kernels.specs.Marked.{marks, segmented_marks}
use Rattle.scan_kernels.proofs.Carried.{part-of_take, segment_within_list}
use Rattle.scan_kernels.proofs.MarkedPlaces.{length-segmented_marks, marks_lengths, marks_many}
use Rattle.scan_kernels.proofs.NextSegment.{sum-take_more}
use Rattle.scan_kernels.proofs.SegmentLists.{joined_map}
use Rattle.scan_kernels.proofs.SegmentRuns.{segment-run}
use Rattle.scan_kernels.proofs.Written.{written_next}
use Rattle.scan_kernels.proofs.chunks_marked.mark_segments.Goals as goal

pub mark_segment-requires-clause-blank : goal.mark_segment-requires-clause-blank
mark_segment-requires-clause-blank c =
    let old = c.args.block.now in
    let block = c.loop-done.block in
    let done = c.loop-done.done in
    let r = c.min.result in
    let more = done + r - done in
    let rest : drop done block ≡ replicate (length old - done) false =
    c.loop-done.invariant.blank ∙ ap (drop done) c.requires.blank ∙ drop-replicate done (length old) false in
    let left = length-drop done block in
    let piece = take more (drop done block) in
    let size : length piece ≡ more = length-take-le more (drop done block) (omega arith) in
    ap (take more) rest ∙ take-replicate more (length old - done) false (omega arith) ∙ ap (λ n. replicate n false) (sym size)

pub loop-done-preserved : goal.loop-done-preserved
loop-done-preserved c =
    let ls = c.args.marked.lengths.now in
    let index = c.args.marked.index.now in
    let zss = map marks (cut ls index) in
    let all = segmented_marks ls index in
    let start = c.args.start in
    let block = c.loop-done.block in
    let done = c.loop-done.done in
    let n = c.loop-done.number in
    let b = c.loop-done.begin in
    let r = c.min.result in
    let new = c.mark_segment.new.part in
    let place = start + done in
    let inside : done < length c.args.block.now = omega arith in
    let number = c.loop-done.invariant.number inside in
    let begin_is = c.loop-done.invariant.begin inside in
    let behind = c.loop-done.invariant.behind inside in
    let before = c.loop-done.invariant.before inside in
    let whole = length-segmented_marks ls index c.requires.total in
    let as_many = marks_many ls index in
    let lengths = marks_lengths ls index c.requires.total in
    let long_n : get_or ls n 0 ≡ length (get_or zss n []) = ap (λ l. get_or l n 0) lengths ∙ get_or-map length zss n [] 0 (omega arith) in
    let later = sum-take_more ls n number in
    let rest = length-drop start all in
    let wanted = take (length block) (drop start all) in
    let long : length wanted ≡ length block = length-take-le (length block) (drop start all) (omega arith) in
    let piece = take (done + r - done) (drop done block) in
    let left = length-drop done block in
    let size : length piece ≡ r = length-take-le (done + r - done) (drop done block) (omega arith) ∙ omega arith in
    let run = segment-run zss n b (place - b) r (omega arith) (begin_is ∙ ap (λ l. sum (take n l)) lengths) (omega arith) in
    let here : b + (place - b) ≡ place = omega arith in
    let wrote : new ≡ take r (drop place all) =
    c.mark_segment.ensures
    ∙ ap (λ k. take k (drop (place - b) (get_or zss n []))) size
    ∙ sym run
    ∙ ap (λ l. take r (drop (b + (place - b)) l)) (joined_map marks (cut ls index))
    ∙ ap (λ k. take r (drop k all)) here in
    let there : take r (drop done wanted) ≡ take r (drop place all) =
    part-of_take done (length block) r (drop start all) (omega arith) ∙ ap (take r) (drop-drop done start all) in
    let is : new ≡ take (length piece) (drop done wanted) = wrote ∙ sym there ∙ ap (λ k. take k (drop done wanted)) (sym size) in
    let so_far : take done block ≡ take done wanted = c.loop-done.invariant.made ∙ sym (take-take done (length block) (drop start all) (omega arith)) in
    let behind_place = length-drop place all in
    let many : length new ≡ done + r - done = ap length wrote ∙ length-take-le r (drop place all) (omega arith) ∙ omega arith in
    record {
      made =
          written_next wanted block new piece done (done + r) (omega arith) (omega arith) (sym long) (omega arith) is so_far
          ∙ take-take (done + r) (length block) (drop start all) (omega arith);
      blank =
          drop-put_mid done (done + r - done) block new (done + r) (omega arith) (omega arith) many
          ∙ sym (drop-drop r done block)
          ∙ ap (drop r) c.loop-done.invariant.blank
          ∙ drop-drop r done c.args.block.now;
      within = omega arith;
      begin = λ h. omega arith;
      behind = λ h. omega arith;
      before = λ h. omega arith;
      number = λ h. segment_within_list ls (n + 1) (start + (done + r)) (start + (done + r)) (omega arith) (omega arith) (omega arith);
    }
