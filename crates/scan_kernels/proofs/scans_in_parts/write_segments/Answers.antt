use Rattle.std.proofs.Common.{arith, ◌≡◌, ◌∙◌, ◌+◌, ◌-◌, ◌<◌, ap, sym, take, drop, length}
use Rattle.std.specs.List.{fold}
use Rattle.std.proofs.lemmas.List.{length-drop, length-take-le, drop-drop, take-take, take_all}
use Rattle.scan_kernels.specs.Segmented.{scanned, segmented_scan}
use Rattle.scan_kernels.proofs.Carried.{part-of_take, scan-run, segment_within_list}
use Rattle.scan_kernels.proofs.NextSegment.{sum-take_more}
use Rattle.scan_kernels.proofs.ResultLengths.{length-segmented_scan}
use Rattle.scan_kernels.proofs.Written.{written_next}
use Rattle.scan_kernels.proofs.scans_in_parts.write_segments.Goals as goal

pub bounds-lengths-number : goal.bounds-lengths-number
bounds-lengths-number g c =
    let inside : c.loop-done.done < length c.args.part.now = omega arith in
    segment_within_list c.args.lengths.now c.loop-done.number c.loop-done.begin (c.args.start + c.loop-done.done) (c.loop-done.invariant.begin inside) (c.loop-done.invariant.behind inside) (omega arith)

pub loop-done-preserved : goal.loop-done-preserved
loop-done-preserved g c =
    let op = g.O.Combine.combined c.args.op in
    let u = g.O.Combine.unit_of c.args.op in
    let ls = c.args.lengths.now in
    let xs = c.args.items.now in
    let scan = segmented_scan op u ls xs in
    let start = c.args.start in
    let old = c.args.part.now in
    let part = c.loop-done.part in
    let done = c.loop-done.done in
    let n = c.loop-done.number in
    let b = c.loop-done.begin in
    let r = c.min.result in
    let carry = c.loop-done.carry in
    let new = c.write_scanned.new.part in
    let place = start + done in
    let inside : done < length old = omega arith in
    let begin_is = c.loop-done.invariant.begin inside in
    let behind = c.loop-done.invariant.behind inside in
    let before = c.loop-done.invariant.before inside in
    let number = segment_within_list ls n b place begin_is behind (omega arith) in
    let later = sum-take_more ls n number in
    let all = length-segmented_scan op u ls xs (omega arith) in
    let rest = length-drop start scan in
    let wanted = take (length part) (drop start scan) in
    let long : length wanted ≡ length part = length-take-le (length part) (drop start scan) (omega arith) in
    let piece = take (done + r - done) (drop done part) in
    let left = length-drop done part in
    let many : length piece ≡ r = length-take-le (done + r - done) (drop done part) (omega arith) ∙ omega arith in
    let run = scan-run op u ls xs n b place r c.requires.total number begin_is behind (omega arith) in
    let slice = drop place xs in
    let wrote : new ≡ take r (drop place scan) =
    c.write_scanned.ensures
    ∙ ap (λ k. scanned op carry (take k slice)) (omega arith)
    ∙ ap (λ a. scanned op a (take r slice)) (c.loop-done.invariant.carry inside)
    ∙ sym run in
    let there : take r (drop done wanted) ≡ take r (drop place scan) =
    part-of_take done (length part) r (drop start scan) (omega arith) ∙ ap (take r) (drop-drop done start scan) in
    let is : new ≡ take (length piece) (drop done wanted) = wrote ∙ sym there ∙ ap (λ k. take k (drop done wanted)) (sym many) in
    let none : start + (done + r) - (start + (done + r)) ≡ 0 = omega arith in
    let so_far : take done part ≡ take done wanted = c.loop-done.invariant.made ∙ sym (take-take done (length part) (drop start scan) (omega arith)) in
    let none : start + (done + r) - (start + (done + r)) ≡ 0 = omega arith in
    record {
      made =
          written_next wanted part new piece done (done + r) (omega arith) (omega arith) (sym long) (omega arith) is so_far
          ∙ take-take (done + r) (length part) (drop start scan) (omega arith);
      within = omega arith;
      begin = λ h. omega arith;
      behind = λ h. omega arith;
      before = λ h. omega arith;
      carry = λ h. c.unit-carry.ensures ∙ sym (ap (λ k. fold op u (take k (drop (start + (done + r)) xs))) none);
    }

pub returns : goal.returns
returns g c =
    let op = g.O.Combine.combined c.args.op in
    let u = g.O.Combine.unit_of c.args.op in
    let rest = drop c.args.start (segmented_scan op u c.args.lengths.now c.args.items.now) in
    let done = c.loop-done.done in
    let all : done ≡ length c.args.part.now = omega arith in
    sym (take_all done c.loop-done.part c.loop-done-test.false) ∙ c.loop-done.invariant.made ∙ ap (λ n. take n rest) all
