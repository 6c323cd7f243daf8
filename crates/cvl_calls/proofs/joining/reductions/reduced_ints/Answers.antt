use Rattle.std.proofs.Common.{◌∙◌, ℤ, Bor, List, ap, map}
use Rattle.std.proofs.lemmas.Result.{on_ok_weaker}
use Rattle.item_operations.specs.IntegerScans.{combine_z, unit_z}
use Rattle.scan_kernels.specs.Segmented.{reduced}
use Rattle.cvl_text.specs.Answers.{IntOf}
use Rattle.cvl_calls.specs.Outcomes.{Effect, Answers}
use Rattle.cvl_calls.proofs.Joined.{effects-made}
use Rattle.cvl_calls.proofs.joining.reductions.reduced_ints.Goals as goal

pub returns-then-are_few-clause-makes : goal.returns-then-are_few-clause-makes
returns-then-are_few-clause-makes g c =
    let said : Bor (List ℤ) → Effect = λ p. Answers (IntOf (reduced (combine_z c.args.op) (unit_z c.args.op) p.now)) in
    on_ok_weaker c.int_replies.result (λ so. effects-made said _ c.put_ints.new.parts (g.G.Group.works c.args.group.now) (so ∙ ap (map said) c.as_slice-few.ensures) c.in_ok-put_ints.ensures.makes) c.int_replies.ensures.makes

pub returns-clause-makes : goal.returns-clause-makes
returns-clause-makes g c =
    let said : Bor (List ℤ) → Effect = λ p. Answers (IntOf (reduced (combine_z c.args.op) (unit_z c.args.op) p.now)) in
    on_ok_weaker c.int_replies-2.result (λ so. effects-made said _ c.in_ok-parts.parts.items (g.G.Group.works c.args.group.now) (so ∙ ap (map said) c.deref.ensures.value) c.in_ok-parts.ensures.makes) c.int_replies-2.ensures.makes
