use Rattle.std.proofs.Common.{arith, ◌≡◌, ◌<◌, None, [], ◌∷◌, length, get_or, slice_set, sym, ap, ◌∙◌}
use Rattle.std.proofs.lemmas.List.{get_or-map}
use Rattle.cvl_text.specs.Tasks.{target, task_of}
use Rattle.call_history.specs.declared.request.Request.{Request}
use Rattle.batch_flatten.specs.Waves.{asked, tasks_of, wave_of}
use Rattle.batch_flatten.specs.Plans.{is_single, placed, single_target, single_targets}
use Rattle.batch_flatten.specs.Targets.{target_at}
use Rattle.batch_flatten.proofs.PlanLemmas.{single-more}
use Rattle.batch_flatten.proofs.WaveLemmas.{length-made, length-placed, made-more, wave_of-le}
use Rattle.batch_flatten.proofs.planning.waves_of_calls.Goals as goal

pub put-requires-clause-few_waves : goal.put-requires-clause-few_waves
put-requires-clause-few_waves c =
    let rs = c.args.requests.now in
    let i = c.loop-i.i in
    let ws = c.loop-i.plan.waves in
    let t = task_of c.in-One.call ∷ [] in
    let full = length-made i ws rs (omega arith) (omega arith) c.loop-i.invariant.made in
    let long = length-placed i ws rs (omega arith) (omega arith) in
    let le = wave_of-le (placed i ws rs) t in
    let is : c.wave_of-wave.result ≡ wave_of (placed i ws rs) t = c.wave_of-wave.ensures in
    omega arith

pub loop-i-preserved : goal.loop-i-preserved
loop-i-preserved c =
    let rs = c.args.requests.now in
    let i = c.loop-i.i in
    let ws = c.loop-i.plan.waves in
    let d = c.index-requests-i.result in
    let t = task_of c.in-One.call in
    let lt : i < length rs = omega arith in
    let its : asked (get_or rs i d) ≡ t ∷ [] = ap tasks_of c.in-One.is in
    let is : c.wave_of-wave.result ≡ wave_of (placed i ws rs) (asked (get_or rs i d)) = c.wave_of-wave.ensures ∙ ap (wave_of (placed i ws rs)) (sym its) in
    let to : target_at (single_targets rs) i ≡ target t = get_or-map (λ (r : Request). single_target r.job) rs i d None lt ∙ ap single_target c.in-One.is in
    record {
      made = c.put.ensures.waves ∙ ap (slice_set ws i) is ∙ made-more i ws rs d lt (omega arith) c.loop-i.invariant.made;
      plan = c.put.ensures.plan (single_targets rs) to c.loop-i.invariant.plan;
      single = single-more rs i d lt c.loop-i.invariant.single (ap is_single c.in-One.is);
    }
