use Rattle.std.proofs.Common.{arith, ◌<◌, ◌||◌, length, get_or, sym, ap, ◌∙◌}
use Rattle.cvl_text.specs.declared.call.Call.{Call}
use Rattle.cvl_text.specs.Tasks.{target, task_of}
use Rattle.batch_flatten.specs.Targets.{lies_in}
use Rattle.batch_flatten.specs.BlockPlans.{is_in}
use Rattle.batch_flatten.proofs.BlockLemmas.{target-lies}
use Rattle.batch_flatten.proofs.block_plan.hold_all.Goals as goal

pub loop-call-preserved : goal.loop-call-preserved
loop-call-preserved c =
    let calls = c.args.calls.now in
    let k = c.loop-call.call-index in
    let d = c.call-item.result in
    let within : k < length calls = omega arith in
    record {
      here = λ b. c.hold.ensures.here b ∙ ap (λ x. x || lies_in b (target (task_of d))) (c.loop-call.invariant.here b)
          ∙ target-lies (is_in (get_or c.args.holders.now b 0) c.args.place) b calls k d (target (task_of d)) within (ap (λ (q : Call). target (task_of q)) (sym c.call-item.is));
      others = λ b i apart. c.hold.ensures.others b i apart ∙ c.loop-call.invariant.others b i apart;
    }
