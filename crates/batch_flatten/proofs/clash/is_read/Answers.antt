use Rattle.std.proofs.Common.{◌≡◌, None, sym, ap, ◌∙◌}
use Rattle.std.specs.List.{list_any}
use Rattle.cvl_text.specs.Tasks.{reads, target, task_of}
use Rattle.batch_flatten.specs.Waves.{is_among}
use Rattle.batch_flatten.proofs.TargetLemmas.{any_false}
use Rattle.batch_flatten.proofs.clash.is_read.Goals as goal

pub returns-in-None : goal.returns-in-None
returns-in-None c =
    let later = c.args.later.now in
    let its : target (task_of c.args.earlier.now) ≡ None = sym c.target.ensures ∙ c.in-None.is in
    sym (ap (λ o. list_any (λ call. is_among o (reads (task_of call))) later) its ∙ any_false later)
