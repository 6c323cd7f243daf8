use Rattle.std.proofs.Common.{arith, ◌≡◌, ◌∙◌, ◌+◌, ◌-◌, ap, sym, drop, false, get_or, inl, inr, map, take}
use Rattle.std.proofs.lemmas.Bool.{cases_Bool}
use Rattle.scan_kernels.specs.Marked.{all_set, each_within, is_place}
use Rattle.scan_kernels.proofs.Carried.{segment_within_list}
use Rattle.scan_kernels.proofs.NextSegment.{sum-take_more}
use Rattle.scan_kernels.proofs.PlaceTests.{all_set-more, all_set-part, places_all, within-run}
use Rattle.scan_kernels.proofs.chunks_within.part_within.Goals as goal

pub returns-then-not-are_places : goal.returns-then-not-are_places
returns-then-not-are_places c =
    let ss = c.args.source.now in
    let ts = c.args.by.now in
    let index = c.args.index.now in
    let flags = each_within ss ts index in
    let at = c.loop-at.at in
    let stop = c.min-stop.result in
    let n = c.loop-at.number in
    let number = c.loop-at.invariant.number (omega arith) in
    let begin = c.loop-at.invariant.begin (omega arith) in
    let behind = c.loop-at.invariant.behind (omega arith) in
    let before = c.loop-at.invariant.before (omega arith) in
    let run = within-run ss ts index n c.loop-at.begin at (stop - at) c.requires.counts c.requires.total number begin behind (omega arith) in
    let all = places_all (get_or ss n 0) (take (stop - at) (drop at index)) in
    let unset : all_set (map (is_place (get_or ss n 0)) (take (stop - at) (drop at index))) ≡ false =
    elim (cases_Bool (all_set (map (is_place (get_or ss n 0)) (take (stop - at) (drop at index))))) [
      | inl set ↦ absurd (let told = c.are_places.ensures.1 (all.0 set) in cc)
      | inr unset ↦ unset
    ] in
    sym (all_set-part flags c.args.start at stop c.args.end c.loop-at.invariant.started (omega arith) (omega arith) (ap all_set run ∙ unset))

pub loop-at-preserved : goal.loop-at-preserved
loop-at-preserved c =
    let ss = c.args.source.now in
    let ts = c.args.by.now in
    let index = c.args.index.now in
    let flags = each_within ss ts index in
    let at = c.loop-at.at in
    let stop = c.min-stop.result in
    let n = c.loop-at.number in
    let number = c.loop-at.invariant.number (omega arith) in
    let begin = c.loop-at.invariant.begin (omega arith) in
    let behind = c.loop-at.invariant.behind (omega arith) in
    let before = c.loop-at.invariant.before (omega arith) in
    let run = within-run ss ts index n c.loop-at.begin at (stop - at) c.requires.counts c.requires.total number begin behind (omega arith) in
    let all = places_all (get_or ss n 0) (take (stop - at) (drop at index)) in
    let later = sum-take_more ts n number in
    record {
      set = all_set-more flags c.args.start at stop c.loop-at.invariant.started (omega arith) c.loop-at.invariant.set (ap all_set run ∙ all.1 (c.are_places.ensures.0 c.if-not-are_places.false));
      started = omega arith;
      within = omega arith;
      begin = λ h. omega arith;
      behind = λ h. omega arith;
      before = λ h. omega arith;
      number = λ h. segment_within_list ts (n + 1) (c.loop-at.begin + get_or ts n 0) stop (omega arith) (omega arith) (omega arith);
    }
