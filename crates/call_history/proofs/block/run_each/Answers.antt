use Rattle.std.proofs.Common.{◌≡◌, ◌+◌, ◌++◌, ◌∷◌, [], List, suc, drop, length, map, sym, ap, ◌∙◌, arith}
use Rattle.vector_memory.specs.States.{changes_left, ended}
use Rattle.cvl_text.specs.declared.call.Call.{Call}
use Rattle.cvl_text.specs.Tasks.{task_of}
use Rattle.cvl_text.specs.Answers.{Answer, answer_of}
use Rattle.cvl_calls.specs.Steps.{Stepped, runs_on, stepped}
use Rattle.cvl_calls.proofs.BlockSteps.{left-stepped}
use Rattle.call_history.specs.Blocks.{after, metered, replies_to}
use Rattle.call_history.proofs.BlockRuns.{answers-on, counts-on, drop-item, in_block-stepped, leads-on, undone-stepped}
use Rattle.call_history.proofs.Rises.{rises-both, rises-step}
use Rattle.std.proofs.lemmas.List.{map-append}
use Rattle.call_history.proofs.block.run_each.Goals as goal

pub returns-in_err-reply-clause-rises : goal.returns-in_err-reply-clause-rises
returns-in_err-reply-clause-rises g c =
    let within = c.loop-call-test.true in
    rises-both c.loop-call.call-index 1 (length c.args.calls.now) c.args.meter.now c.loop-call.meter c.step_with.new.meter (omega arith) c.loop-call.invariant.rises
    (rises-step (runs_on c.loop-call.memory (task_of c.call-item.result)) c.step_with.result c.loop-call.meter c.step_with.new.meter c.step_with.ensures.counted)

pub loop-call-preserved : goal.loop-call-preserved
loop-call-preserved g c =
    let calls = c.args.calls.now in
    let i = c.loop-call.call-index in
    let call = c.call-item.result in
    let m = c.loop-call.memory in
    let next = c.step_with.new.memory in
    let reply = answer_of c.in_ok-reply.reply in
    let behind = drop-item calls i call (omega arith) c.call-item.is in
    let later = drop (i + 1) calls in
    let steps : stepped m (task_of call) ≡ record { memory = next; answer = reply } = c.in_ok-reply.ensures.ok in
    let replies : map answer_of c.push_reserved.new.self.items ≡ map answer_of c.loop-call.replies.items ++ reply ∷ [] =
    ap (map answer_of) c.push_reserved.ensures.items ∙ map-append answer_of c.loop-call.replies.items (c.in_ok-reply.reply ∷ []) in
    let left = left-stepped m (task_of call) in
    let taken : changes_left (stepped m (task_of call)).memory ≡ changes_left next = ap (λ (s : Stepped). changes_left s.memory) steps in
    let count : length (drop i calls) ≡ suc (length later) = ap (λ (l : List Call). length l) behind in
    record {
      leads = leads-on m next call reply later steps ∙ ap (after (ended m)) (sym behind) ∙ c.loop-call.invariant.leads;
      answers = ap (λ (l : List Answer). l ++ replies_to (ended next) later) replies
          ∙ answers-on m next call reply later steps (map answer_of c.loop-call.replies.items)
          ∙ ap (λ (l : List Call). map answer_of c.loop-call.replies.items ++ replies_to (ended m) l) (sym behind) ∙ c.loop-call.invariant.answers;
      counts = counts-on m next call reply later steps _ c.in_ok-reply.reply c.loop-call.meter c.step_with.new.meter c.in_ok-reply.ensures.counted
          ∙ ap (λ (l : List Call). metered (ended m) l c.loop-call.meter) (sym behind) ∙ c.loop-call.invariant.counts;
      rises = rises-both i 1 (i + 1) c.args.meter.now c.loop-call.meter c.step_with.new.meter (omega arith) c.loop-call.invariant.rises
          (rises-step (runs_on m (task_of call)) c.step_with.result c.loop-call.meter c.step_with.new.meter c.step_with.ensures.counted);
      in_block = in_block-stepped m next call reply later steps c.loop-call.invariant.in_block;
      changes = omega (arith, c.loop-call.invariant.changes);
      space = omega (arith, c.loop-call.invariant.space, c.push_reserved.ensures.len, c.push_reserved.ensures.capacity);
      before = undone-stepped m next call reply later steps c.loop-call.invariant.in_block ∙ c.loop-call.invariant.before;
    }
