use Rattle.std.proofs.Common.{◌∙◌}
use Rattle.batch_flatten.proofs.TargetLemmas.{clash-calls}
use Rattle.batch_flatten.proofs.clash.lists_clash.Goals as goal

pub returns-then-earlier-gt-BLOCK_LIMIT : goal.returns-then-earlier-gt-BLOCK_LIMIT
returns-then-earlier-gt-BLOCK_LIMIT c = c.any_clash.ensures ∙ clash-calls c.args.earlier.now c.args.later.now
