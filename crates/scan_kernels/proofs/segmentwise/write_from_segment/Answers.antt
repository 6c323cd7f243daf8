use Rattle.std.proofs.Common.{arith, rules, ◌≡◌, ◌∙◌, ◌+◌, ◌-◌, ◌<◌, [], ap, sym, take, drop, length, get_or, sum}
use Rattle.std.proofs.lemmas.List.{get_or-map, length-drop, length-map, length-take-le, drop-drop, take-take}
use Rattle.segment_desc.specs.Cut.{joined}
use Rattle.scan_kernels.proofs.Carried.{part-of_take, segment_within_list}
use Rattle.scan_kernels.proofs.NextSegment.{sum-take_more}
use Rattle.scan_kernels.proofs.SegmentRuns.{length-joined, segment-run}
use Rattle.scan_kernels.proofs.Written.{written_next}
use Rattle.scan_kernels.proofs.segmentwise.write_from_segment.Goals as goal

pub offset_bounds-lengths-number : goal.offset_bounds-lengths-number
offset_bounds-lengths-number g c =
    let inside : c.loop-done.done < length c.args.part.now = omega arith in
    let h : c.loop-done.number < length c.lengths-lengths.result.now = c.loop-done.invariant.number inside in
    search rules

pub bounds-lengths-number : goal.bounds-lengths-number
bounds-lengths-number g c = c.loop-done.invariant.number (omega arith)

pub write-requires-clause-number : goal.write-requires-clause-number
write-requires-clause-number g c =
    omega (arith, c.loop-done.invariant.number (omega arith), ap length c.lengths-lengths.ensures, length-map (g.L.Segmentwise.segments c.args.list.now) length)

pub next-origin-requires-clause-number : goal.next-origin-requires-clause-number
next-origin-requires-clause-number g c =
    omega (arith, c.loop-done.invariant.number (omega arith), ap length c.lengths-lengths.ensures, length-map (g.L.Segmentwise.segments c.args.list.now) length)

pub overflow_add-number : goal.overflow_add-number
overflow_add-number g c =
    let inside : c.loop-done.done < length c.args.part.now = omega arith in
    let h : c.loop-done.number < length c.lengths-lengths.result.now = c.loop-done.invariant.number inside in
    search rules

pub loop-done-smaller : goal.loop-done-smaller
loop-done-smaller g c =
    let h = c.loop-done.invariant.number (omega arith) in
    omega arith

pub loop-done-preserved : goal.loop-done-preserved
loop-done-preserved g c =
    let zss = g.L.Segmentwise.segments c.args.list.now in
    let all = joined zss in
    let ls = c.lengths-lengths.result.now in
    let start = c.args.start in
    let part = c.loop-done.part in
    let done = c.loop-done.done in
    let n = c.loop-done.number in
    let b = c.loop-done.begin in
    let r = c.min.result in
    let new = c.write.new.part in
    let place = start + done in
    let inside : done < length c.args.part.now = omega arith in
    let number = c.loop-done.invariant.number inside in
    let begin_is = c.loop-done.invariant.begin inside in
    let behind = c.loop-done.invariant.behind inside in
    let before = c.loop-done.invariant.before inside in
    let many = length-joined zss ∙ sym (ap sum c.lengths-lengths.ensures) in
    let as_many = ap length c.lengths-lengths.ensures ∙ length-map zss length in
    let long_n : get_or ls n 0 ≡ length (get_or zss n []) = ap (λ l. get_or l n 0) c.lengths-lengths.ensures ∙ get_or-map length zss n [] 0 (omega arith) in
    let later = sum-take_more ls n number in
    let rest = length-drop start all in
    let wanted = take (length part) (drop start all) in
    let long : length wanted ≡ length part = length-take-le (length part) (drop start all) (omega arith) in
    let piece = take (done + r - done) (drop done part) in
    let left = length-drop done part in
    let size : length piece ≡ r = length-take-le (done + r - done) (drop done part) (omega arith) ∙ omega arith in
    let run = segment-run zss n b (place - b) r (omega arith) (begin_is ∙ ap (λ l. sum (take n l)) c.lengths-lengths.ensures) (omega arith) in
    let here : b + (place - b) ≡ place = omega arith in
    let wrote : new ≡ take r (drop place all) =
    c.write.ensures
    ∙ ap (λ k. take k (drop (place - b) (get_or zss n []))) size
    ∙ sym run
    ∙ ap (λ k. take r (drop k all)) here in
    let there : take r (drop done wanted) ≡ take r (drop place all) =
    part-of_take done (length part) r (drop start all) (omega arith) ∙ ap (take r) (drop-drop done start all) in
    let is : new ≡ take (length piece) (drop done wanted) = wrote ∙ sym there ∙ ap (λ k. take k (drop done wanted)) (sym size) in
    let so_far : take done part ≡ take done wanted = c.loop-done.invariant.made ∙ sym (take-take done (length part) (drop start all) (omega arith)) in
    record {
      made =
          written_next wanted part new piece done (done + r) (omega arith) (omega arith) (sym long) (omega arith) is so_far
          ∙ take-take (done + r) (length part) (drop start all) (omega arith);
      within = omega arith;
      begin = λ h. omega arith;
      behind = λ h. omega arith;
      before = λ h. omega arith;
      number = λ h. segment_within_list ls (n + 1) (start + (done + r)) (start + (done + r)) (omega arith) (omega arith) (omega arith);
      origin = λ h. c.next-origin.ensures;
    }
