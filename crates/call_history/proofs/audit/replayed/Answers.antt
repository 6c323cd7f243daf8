use Rattle.std.proofs.Common.{◌+◌, drop, sym, ap, ◌∙◌, arith}
use Rattle.std.proofs.lemmas.Option.{get_or_from_slice_get}
use Rattle.cvl_text.specs.declared.call.Call.{Call}
use Rattle.cvl_text.specs.Tasks.{task_of}
use Rattle.cvl_calls.specs.Steps.{Stepped, stepped}
use Rattle.cvl_calls.proofs.BlockSteps.{steps_outside}
use Rattle.call_history.specs.History.{replay_from}
use Rattle.call_history.specs.Refs.{entry_of}
use Rattle.call_history.proofs.BlockRuns.{drop-item}
use Rattle.call_history.proofs.audit.replayed.Goals as goal

pub loop-place-preserved : goal.loop-place-preserved
loop-place-preserved g c =
    let entries = c.args.log.now.entries in
    let i = c.loop-place.place in
    let e = entry_of c.entry-entry.result in
    let there = get_or_from_slice_get entries i e e c.entry-entry.ensures in
    let behind = drop-item entries i e (omega arith) (sym there) in
    let steps = ap (λ (x : Call). stepped c.loop-place.memory (task_of x)) (sym c.deref.ensures) ∙ c.in_ok-step_with.ensures.ok in
    record {
      leads = ap (λ (s : Stepped). replay_from s.memory (drop (i + 1) entries)) (sym steps)
          ∙ ap (replay_from c.loop-place.memory) (sym behind) ∙ c.loop-place.invariant.leads;
      outside = steps_outside c.loop-place.memory c.step_with.new.memory (task_of e.call) _ steps c.loop-place.invariant.outside;
    }
