use Rattle.std.proofs.Common.{arith, ◌<◌, length}
use Rattle.std.proofs.lemmas.List.Sums.{sum_by_more}
use Rattle.call_history.specs.declared.request.Request.{Request}
use Rattle.call_history.specs.Fits.{calls_of}
use Rattle.batch_flatten.proofs.RollLemmas.{few-calls}
use Rattle.batch_flatten.proofs.roll.count_calls.Goals as goal

pub loop-i-preserved : goal.loop-i-preserved
loop-i-preserved c =
    let i = c.loop-i.i in
    let rs = c.args.requests.now in
    let d = c.index-requests-i.result in
    let lt : i < length rs = omega arith in
    let more = sum_by_more (λ (r : Request). length (calls_of r.job)) rs i d lt in
    let few = few-calls rs i d c.requires.jobs lt in
    let inv = c.loop-i.invariant in
    let counted = inv.counted in
    let most = inv.few in
    let here = c.call_count-calls.ensures in
    record { counted = omega arith; few = omega arith }

pub overflow_add-calls : goal.overflow_add-calls
overflow_add-calls c =
    let rs = c.args.requests.now in
    let lt : c.loop-i.i < length rs = omega arith in
    let few = few-calls rs c.loop-i.i c.index-requests-i.result c.requires.jobs lt in
    let most = c.loop-i.invariant.few in
    let here = c.call_count-calls.ensures in
    omega arith
