use Rattle.std.proofs.Common.{arith, ◌||◌, map, take, get_or, sym, ap, ◌∙◌}
use Rattle.std.specs.List.{list_any}
use Rattle.std.proofs.lemmas.List.{map_more}
use Rattle.cvl_text.specs.declared.call.Call.{Call}
use Rattle.cvl_text.specs.Tasks.{task_of}
use Rattle.batch_flatten.specs.Waves.{clashes, jobs_clash}
use Rattle.batch_flatten.proofs.TargetLemmas.{call-found, clash-at, clash-more, clash-none}
use Rattle.batch_flatten.proofs.targets.blocks_clash.Goals as goal

pub loop-call-init : goal.loop-call-init
loop-call-init c = clash-none (map task_of c.args.earlier.now)

pub returns-then-are_read : goal.returns-then-are_read
returns-then-are_read c =
    let earlier = c.args.earlier.now in
    let later = c.args.later.now in
    let k = c.loop-call.call-index in
    let d = c.call-item.result in
    sym (clash-at (map task_of earlier) later k d (omega arith)
    (ap (λ (q : Call). list_any (λ t. clashes t (task_of q)) (map task_of earlier)) (sym c.call-item.is)
    ∙ sym (call-found earlier (task_of d)) ∙ sym c.are_read.ensures ∙ c.if-are_read.true))

pub loop-call-preserved : goal.loop-call-preserved
loop-call-preserved c =
    let earlier = c.args.earlier.now in
    let later = c.args.later.now in
    let k = c.loop-call.call-index in
    let d = c.call-item.result in
    let u = task_of (get_or later k d) in
    ap (jobs_clash (map task_of earlier)) (map_more task_of later k d (omega arith))
    ∙ clash-more (map task_of earlier) (map task_of (take k later)) u
    ∙ ap (λ b. b || list_any (λ t. clashes t u) (map task_of earlier)) c.loop-call.invariant
    ∙ ap (λ (q : Call). list_any (λ t. clashes t (task_of q)) (map task_of earlier)) (sym c.call-item.is)
    ∙ sym (call-found earlier (task_of d)) ∙ sym c.are_read.ensures ∙ c.if-are_read.false
