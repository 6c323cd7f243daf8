use Rattle.std.proofs.Common.{◌∙◌}
use Rattle.cvl_calls.specs.Joined.{effects_of}
use Rattle.cvl_calls.specs.Judging.{made}
use Rattle.cvl_calls.proofs.Joined.{same-made}
use Rattle.cvl_calls.proofs.joining.run_joined_with.Goals as goal

pub returns-in-Ok-clause-makes : goal.returns-in-Ok-clause-makes
returns-in-Ok-clause-makes g c = c.products_of.ensures ∙ same-made made (effects_of c.run_group.new.made) c.args.group.now c.in-Ok.ensures.makes
