-- Permuted and gathered items keep the limit.
use Rattle.std.proofs.Common.{ℕ, length, sum, sym, ◌∙◌}
use Rattle.std.specs.Prelude.{◌==◌}
use Rattle.std.specs.List.{list_all}
use Rattle.std.proofs.Math.Nat.{le_trans}
use Rattle.std.proofs.lemmas.Bool.{eqb-true}
use Rattle.scan_kernels.specs.Permuted.{permuted, segmented_permute}
use Rattle.scan_kernels.specs.Gathered.{gathered, segmented_gather}
use Rattle.vector_memory.specs.Contents.{size_of}
use Rattle.cvl_text.specs.declared.fault.Fault.TheVariants.{BadIndex, BadSegments, WrongLength}
use Rattle.cvl_text.specs.declared.word.Kind.{Kind}
use Rattle.cvl_calls.specs.Conditions.{holds_each_place, permutes, is_place, lies_within}
use Rattle.cvl_calls.specs.Operands.{ints, items, segs}
use Rattle.cvl_calls.specs.Outcomes.{Operand}
use Rattle.cvl_calls.specs.Work.{permute, permute_segments, gather, gather_segments}
use Rattle.cvl_calls.proofs.Fitting.{IsFit, MakesFitting, MakesFitting-bind, MakesFitting-check, ints-short, items-fit, over_items-fits, same-few, size-fits}
use Rattle.cvl_calls.proofs.Sizes.{length-gathered, length-segmented_gather, length-permuted, length-segmented_permute}
use Rattle.cvl_calls.proofs.Tested.{once-holds, permutes-hold}

pub permute-fits : (limit : ℕ) (kind : Kind) (a i : Operand) → IsFit limit a → MakesFitting limit (permute kind a i)
unfolding permute
permute-fits limit kind a i fit =
    MakesFitting-bind limit (items kind a) _ (λ v was.
    MakesFitting-bind limit (ints i) _ (λ places _.
    MakesFitting-check limit (size_of v == length places) WrongLength _ (λ same.
    MakesFitting-check limit (holds_each_place places) BadIndex _ (λ each.
    let few = size-fits limit kind a v fit was in
    let agree = eqb-true _ _ same in
    record { fits = over_items-fits limit (λ X xs. permuted places xs) v (items-fit limit a fit kind v was) (λ X xs long. same-few (length-permuted places xs (once-holds places each) (sym (long ∙ agree))) (same-few long few)) }))))

pub permute_segments-fits : (limit : ℕ) (kind : Kind) (a i s : Operand) → IsFit limit a → MakesFitting limit (permute_segments kind a i s)
unfolding permute_segments
permute_segments-fits limit kind a i s fit =
    MakesFitting-bind limit (items kind a) _ (λ v was.
    MakesFitting-bind limit (ints i) _ (λ places _.
    MakesFitting-bind limit (segs s) _ (λ ls _.
    MakesFitting-check limit (size_of v == length places) WrongLength _ (λ same.
    MakesFitting-check limit (sum ls == size_of v) BadSegments _ (λ _.
    MakesFitting-check limit (permutes ls places) BadIndex _ (λ each.
    let few = size-fits limit kind a v fit was in
    let agree = eqb-true _ _ same in
    record { fits = over_items-fits limit (λ X xs. segmented_permute ls places xs) v (items-fit limit a fit kind v was) (λ X xs long. le_trans (length-segmented_permute ls places xs (permutes-hold ls places each) (sym (long ∙ agree))) (same-few long few)) }))))))

pub gather-fits : (limit : ℕ) (kind : Kind) (a i : Operand) → IsFit limit a → IsFit limit i → MakesFitting limit (gather kind a i)
unfolding gather
gather-fits limit kind a i fit fit_i =
    MakesFitting-bind limit (items kind a) _ (λ v was.
    MakesFitting-bind limit (ints i) _ (λ places was_i.
    MakesFitting-check limit (list_all (is_place (size_of v)) places) BadIndex _ (λ _.
    let few = ints-short limit i fit_i places was_i in
    record { fits = over_items-fits limit (λ X xs. gathered places xs) v (items-fit limit a fit kind v was) (λ X xs _. le_trans (length-gathered places xs) few) })))

pub gather_segments-fits : (limit : ℕ) (kind : Kind) (a s i t : Operand) → IsFit limit a → IsFit limit i → MakesFitting limit (gather_segments kind a s i t)
unfolding gather_segments
gather_segments-fits limit kind a s i t fit fit_i =
    MakesFitting-bind limit (items kind a) _ (λ v was.
    MakesFitting-bind limit (segs s) _ (λ ss _.
    MakesFitting-bind limit (ints i) _ (λ places was_i.
    MakesFitting-bind limit (segs t) _ (λ ts _.
    MakesFitting-check limit (sum ss == size_of v) BadSegments _ (λ _.
    MakesFitting-check limit (sum ts == length places) BadSegments _ (λ _.
    MakesFitting-check limit (length ss == length ts) BadSegments _ (λ _.
    MakesFitting-check limit (lies_within ss ts places) BadIndex _ (λ _.
    let few = ints-short limit i fit_i places was_i in
    record { fits = over_items-fits limit (λ X xs. segmented_gather ss xs ts places) v (items-fit limit a fit kind v was) (λ X xs _. le_trans (length-segmented_gather ss ts xs places) few) }))))))))
