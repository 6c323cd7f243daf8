use Rattle.permute_kernels.proofs.OneSegment.{permutes_one}
use Rattle.permute_kernels.proofs.conditions.is_whole_permutation_by.Goals as goal

pub returns-in_ok-permutes_by_chunks-in-Some : goal.returns-in_ok-permutes_by_chunks-in-Some
returns-in_ok-permutes_by_chunks-in-Some g c =
    let one = permutes_one c.args.index.now in
    let each = c.in_ok-permutes_by_chunks-in-Some.ensures in
    (λ h. one.0 (each.0 h), λ h. each.1 (one.1 h))
