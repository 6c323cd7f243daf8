use Rattle.std.proofs.Common.{arith, map, take, get_or, sym, ap, ◌∙◌}
use Rattle.std.proofs.lemmas.List.{map_more}
use Rattle.cvl_text.specs.declared.call.Call.{Call}
use Rattle.cvl_text.specs.Tasks.{reads, task_of}
use Rattle.batch_flatten.specs.BlockPlans.{is_held, is_suspect}
use Rattle.batch_flatten.proofs.BlockLemmas.{suspect-more}
use Rattle.batch_flatten.proofs.block_plan.BlockPlan.suspects_of_all.Goals as goal

pub loop-call-preserved : goal.loop-call-preserved
loop-call-preserved c i =
    let rows = c.args.self.now.holders in
    let calls = c.args.calls.now in
    let k = c.loop-call.call-index in
    let d = c.call-item.result in
    suspect-more rows i c.loop-call.places c.suspects_of-places.result (map task_of (take k calls)) (task_of (get_or calls k d)) (c.loop-call.invariant i) (c.suspects_of-places.ensures i ∙ ap (λ (q : Call). is_held rows i (reads (task_of q))) c.call-item.is)
    ∙ sym (ap (λ l. is_suspect rows i l) (map_more task_of calls k d (omega arith)))
