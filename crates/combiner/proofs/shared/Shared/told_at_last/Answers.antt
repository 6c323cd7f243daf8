use Rattle.std.proofs.Common.{sym, ◌∙◌}
use Rattle.combiner.proofs.Turns.{waiting_begins, waiting_combines, waiting_still}
use Rattle.combiner.proofs.shared.Shared.told_at_last.Goals as goal

pub loop-init : goal.loop-init
loop-init g c = (c.requires.machine, waiting_begins _)

pub returns-then-is_told-clause-told : goal.returns-then-is_told-clause-told
returns-then-is_told-clause-told g c = record {
  waited = c.loop.caller;
  keeps = c.loop.invariant.1;
  told = sym c.is_told.ensures ∙ c.if-is_told.true;
  answered = c.poll-told.ensures.answered;
  back = c.poll-told.ensures.back;
  block_answered = c.poll-told.ensures.block_answered;
  block_back = c.poll-told.ensures.block_back;
}

pub loop-preserved : goal.loop-preserved
loop-preserved g c = (
  c.combine.ensures.machine,
  waiting_combines _ _ _ c.combine.result (waiting_still _ _ _ c.poll-told.result c.requires.left c.loop.invariant.1 (sym c.is_told.ensures ∙ c.if-is_told.false) c.poll-told.ensures.idle c.poll-told.ensures.waiting) c.combine.ensures.busy c.combine.ensures.served c.combine.ensures.later,
)
