use Rattle.std.proofs.Common.{length, sym, ap, ◌∙◌}
use Rattle.std.proofs.lemmas.List.{length-map}
use Rattle.cvl_c.specs.Callers.{port_boxed}
use Rattle.cvl_c.proofs.OpenLemmas.{length-new}
use Rattle.cvl_c.proofs.opening.open_all.Goals as goal

pub fill_all-requires-clause-long : goal.fill_all-requires-clause-long
fill_all-requires-clause-long c = sym (length-map c.in-Some.boxes.items port_boxed) ∙ ap length c.in-Some.ensures ∙ length-new _ _ _ c.in_ok-ports.ensures.callers
