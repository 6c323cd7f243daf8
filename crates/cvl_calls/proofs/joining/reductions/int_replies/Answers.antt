use Rattle.std.proofs.Common.{◌∙◌, Bor, ℤ, List, ap, map}
use Rattle.std.proofs.lemmas.Simd.{map-map}
use Rattle.item_operations.specs.IntegerScans.{combine_z, unit_z}
use Rattle.scan_kernels.specs.Segmented.{reduced}
use Rattle.cvl_text.specs.Answers.{IntOf}
use Rattle.cvl_calls.specs.Outcomes.{Effect, Answers}
use Rattle.cvl_calls.proofs.joining.reductions.int_replies.Goals as goal

pub returns-clause-makes : goal.returns-clause-makes
returns-clause-makes g c =
    let mk : Bor (List ℤ) → ℤ = λ p. reduced (combine_z c.args.op) (unit_z c.args.op) p.now in
    let said : ℤ → Effect = λ item. Answers (IntOf item) in
    ap (map said) c.in_ok-reduce_whole_z_joined.ensures.parts ∙ map-map said mk c.args.parts.now
