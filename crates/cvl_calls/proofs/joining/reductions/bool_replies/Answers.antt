use Rattle.std.proofs.Common.{◌∙◌, Bool, Bor, List, ap, map}
use Rattle.std.proofs.lemmas.Simd.{map-map}
use Rattle.item_operations.specs.BooleanScans.{combine_b, unit_b}
use Rattle.scan_kernels.specs.Segmented.{reduced}
use Rattle.cvl_text.specs.Answers.{BoolOf}
use Rattle.cvl_calls.specs.Outcomes.{Effect, Answers}
use Rattle.cvl_calls.proofs.joining.reductions.bool_replies.Goals as goal

pub returns-clause-makes : goal.returns-clause-makes
returns-clause-makes g c =
    let mk : Bor (List Bool) → Bool = λ p. reduced (combine_b c.args.op) (unit_b c.args.op) p.now in
    let said : Bool → Effect = λ item. Answers (BoolOf item) in
    ap (map said) c.in_ok-reduce_whole_b_joined.ensures.parts ∙ map-map said mk c.args.parts.now
