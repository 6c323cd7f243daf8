use Rattle.std.proofs.Common.{Some, sym, ap, ◌∙◌}
use Rattle.cvl_text.specs.Tasks.{task_of}
use Rattle.cvl_port.specs.Posts.{prepared_task}
use Rattle.cvl_port.proofs.BeginLemmas.{begun-as}
use Rattle.cvl_port.proofs.port.Port.begin_prepared.Goals as goal

pub returns-clause-begun : goal.returns-clause-begun
returns-clause-begun c =
    begun-as c.begin.result _ _ (task_of c.copy_flat-call.result) _ c.args.self.now c.begin.new.self
    (ap (λ calls. prepared_task calls c.args.number) (sym c.deref.ensures.value) ∙ c.in-Some.ensures.found ∙ ap Some (sym c.copy_flat-call.ensures)) c.begin.ensures.begun
