use Rattle.std.proofs.Common.{◌∙◌, Bool, Bor, List, ap, map}
use Rattle.std.proofs.lemmas.Result.{on_ok_weaker}
use Rattle.item_operations.specs.BooleanScans.{combine_b, unit_b}
use Rattle.scan_kernels.specs.Segmented.{reduced}
use Rattle.cvl_text.specs.Answers.{BoolOf}
use Rattle.cvl_calls.specs.Outcomes.{Effect, Answers}
use Rattle.cvl_calls.proofs.Joined.{effects-made}
use Rattle.cvl_calls.proofs.joining.reductions.reduced_bools.Goals as goal

pub returns-then-are_few-clause-makes : goal.returns-then-are_few-clause-makes
returns-then-are_few-clause-makes g c =
    let said : Bor (List Bool) → Effect = λ p. Answers (BoolOf (reduced (combine_b c.args.op) (unit_b c.args.op) p.now)) in
    on_ok_weaker c.bool_replies.result (λ so. effects-made said _ c.put_bools.new.parts (g.G.Group.works c.args.group.now) (so ∙ ap (map said) c.as_slice-few.ensures) c.in_ok-put_bools.ensures.makes) c.bool_replies.ensures.makes

pub returns-clause-makes : goal.returns-clause-makes
returns-clause-makes g c =
    let said : Bor (List Bool) → Effect = λ p. Answers (BoolOf (reduced (combine_b c.args.op) (unit_b c.args.op) p.now)) in
    on_ok_weaker c.bool_replies-2.result (λ so. effects-made said _ c.in_ok-parts.parts.items (g.G.Group.works c.args.group.now) (so ∙ ap (map said) c.deref.ensures.value) c.in_ok-parts.ensures.makes) c.bool_replies-2.ensures.makes
