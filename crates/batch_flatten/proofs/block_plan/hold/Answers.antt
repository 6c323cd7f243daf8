use Rattle.std.proofs.Common.{rules, arith, ◌≡◌, ◌==◌, ℕ, ◌||◌, Some, length, get_or, sym, ap, ◌∙◌}
use Rattle.vector_memory.specs.Names.{bucket_of}
use Rattle.cvl_text.specs.Tasks.{target, task_of}
use Rattle.batch_flatten.specs.Targets.{lies_in}
use Rattle.batch_flatten.specs.BlockPlans.{is_in}
use Rattle.batch_flatten.proofs.BlockLemmas.{held-here, held-other}
use Rattle.batch_flatten.proofs.block_plan.hold.Goals as goal

pub returns-in-Some-clause-here : goal.returns-in-Some-clause-here
returns-in-Some-clause-here c = λ b.
    let rows = c.args.holders.now in
    let place = c.args.place in
    let full : length rows ≡ 256 = search rules in
    let there : c.from.result ≡ bucket_of c.in-Some.to = c.from.ensures ∙ c.bucket.ensures in
    let its : target (task_of c.args.call.now) ≡ Some c.in-Some.to = sym c.target.ensures ∙ c.in-Some.is in
    held-here rows c.from.result b place (omega arith) c.requires
    ∙ ap (λ (n : ℕ). is_in (get_or rows b 0) place || n == b) there
    ∙ ap (λ o. is_in (get_or rows b 0) place || lies_in b o) (sym its)

pub returns-in-Some-clause-others : goal.returns-in-Some-clause-others
returns-in-Some-clause-others c = λ b other apart.
    let rows = c.args.holders.now in
    let full : length rows ≡ 256 = search rules in
    let there : c.from.result ≡ bucket_of c.in-Some.to = c.from.ensures ∙ c.bucket.ensures in
    held-other rows c.from.result b c.args.place other (omega arith) c.requires apart
