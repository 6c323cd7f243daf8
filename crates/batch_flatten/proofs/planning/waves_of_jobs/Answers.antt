use Rattle.std.proofs.Common.{arith, ◌≡◌, [], map, get_or, slice_set, ap, ◌∙◌}
use Rattle.std.proofs.lemmas.List.{get_or-map}
use Rattle.batch_flatten.specs.Waves.{asked, wave_of}
use Rattle.batch_flatten.specs.Plans.{placed}
use Rattle.batch_flatten.specs.BlockPlans.{job_at}
use Rattle.batch_flatten.proofs.WaveLemmas.{length-made, length-placed, made-more, wave_of-le}
use Rattle.batch_flatten.proofs.planning.waves_of_jobs.Goals as goal

pub put-requires-clause-few_waves : goal.put-requires-clause-few_waves
put-requires-clause-few_waves c =
    let rs = c.args.requests.now in
    let i = c.loop-i.i in
    let ws = c.loop-i.plan.waves in
    let t = asked (get_or rs i c.index-requests-i.result) in
    let full = length-made i ws rs (omega arith) (omega arith) c.loop-i.invariant.made in
    let long = length-placed i ws rs (omega arith) (omega arith) in
    let le = wave_of-le (placed i ws rs) t in
    let is : c.wave_of-wave.result ≡ wave_of (placed i ws rs) t = c.wave_of-wave.ensures in
    omega arith

pub loop-i-preserved : goal.loop-i-preserved
loop-i-preserved c =
    let rs = c.args.requests.now in
    let i = c.loop-i.i in
    let ws = c.loop-i.plan.waves in
    let d = c.index-requests-i.result in
    let t = asked (get_or rs i d) in
    let is : c.wave_of-wave.result ≡ wave_of (placed i ws rs) t = c.wave_of-wave.ensures in
    let its : job_at (map asked rs) i ≡ t = get_or-map asked rs i d [] (omega arith) in
    record {
      made = c.put.ensures.waves ∙ ap (slice_set ws i) is ∙ made-more i ws rs d (omega arith) (omega arith) c.loop-i.invariant.made;
      plan = c.put.ensures.plan (map asked rs) its c.loop-i.invariant.plan;
    }
