use Rattle.std.proofs.Common.{arith, ◌≡◌, ℕ, suc, ◌<◌, get_or, sym, ap, ◌∙◌}
use Rattle.vector_memory.specs.Names.{bucket_of}
use Rattle.cvl_text.specs.Tasks.{target, task_of}
use Rattle.batch_flatten.specs.Targets.{is_target, target_at, targets_of}
use Rattle.batch_flatten.proofs.TargetLemmas.{target-is, walk-begin, walk-hit, walk-less, walk-on}
use Rattle.batch_flatten.proofs.targets.Targets.has.Goals as goal

pub loop-next-init : goal.loop-next-init
loop-next-init c =
    let n = c.args.name.now in
    let last = c.args.self.now.last in
    let there : c.from.result ≡ bucket_of n = c.from.ensures ∙ c.bucket.ensures in
    let low : bucket_of n < 256 = omega arith in
    walk-begin c.args.self.now (target_at (targets_of c.args.calls.now)) c.args.count n (get_or last c.from.result 0) c.requires.table low (ap (λ (k : ℕ). get_or last k 0) there)

pub returns-then-is_target : goal.returns-then-is_target
returns-then-is_target c =
    let calls = c.args.calls.now in
    let n = c.args.name.now in
    let j = c.from-place.result in
    let d = c.index-calls-place.result in
    let here : c.loop-next.next ≡ suc j = omega arith in
    let within = c.loop-next.invariant.within in
    let enough = c.requires.within in
    let its : target_at (targets_of calls) j ≡ target (task_of d) = target-is calls j d (omega arith) c.index-calls-place.is in
    sym (walk-hit c.args.self.now (target_at (targets_of calls)) c.args.count n c.loop-next.next j c.loop-next.invariant here
    (ap (is_target n) its ∙ sym c.is_target.ensures ∙ c.if-is_target.true))

pub loop-next-smaller : goal.loop-next-smaller
loop-next-smaller c =
    let j = c.from-place.result in
    let here : c.loop-next.next ≡ suc j = omega arith in
    let less = walk-less c.args.self.now (target_at (targets_of c.args.calls.now)) c.args.count c.args.name.now c.loop-next.next j c.loop-next.invariant here in
    omega arith

pub loop-next-preserved : goal.loop-next-preserved
loop-next-preserved c =
    let calls = c.args.calls.now in
    let n = c.args.name.now in
    let j = c.from-place.result in
    let d = c.index-calls-place.result in
    let here : c.loop-next.next ≡ suc j = omega arith in
    let within = c.loop-next.invariant.within in
    let enough = c.requires.within in
    let its : target_at (targets_of calls) j ≡ target (task_of d) = target-is calls j d (omega arith) c.index-calls-place.is in
    walk-on c.args.self.now (target_at (targets_of calls)) c.args.count n c.loop-next.next j c.loop-next.invariant here
    (ap (is_target n) its ∙ sym c.is_target.ensures ∙ c.if-is_target.false)
