-- Packed items, and how many there are, keep the limit.
use Rattle.std.proofs.Common.{ℕ, length, sum, ap, sym, ◌∙◌}
use Rattle.std.specs.Prelude.{◌==◌}
use Rattle.std.proofs.Math.Nat.{le_trans}
use Rattle.std.proofs.lemmas.Bool.{eqb-true}
use Rattle.scan_kernels.specs.Packed.{packed}
use Rattle.vector_memory.specs.Contents.{size_of}
use Rattle.cvl_text.specs.declared.fault.Fault.TheVariants.{BadSegments, WrongLength}
use Rattle.cvl_text.specs.declared.word.Kind.{Kind}
use Rattle.cvl_calls.specs.Operands.{bools, items, segs}
use Rattle.cvl_calls.specs.Outcomes.{Operand}
use Rattle.cvl_calls.specs.SegmentedPack.{segmented_pack}
use Rattle.cvl_calls.specs.Work.{pack, pack_segments, pack_lengths}
use Rattle.cvl_calls.proofs.Fitting.{IsFit, MakesFitting, MakesFitting-bind, MakesFitting-check, items-fit, over_items-fits, same-few, segs-within, size-fits}
use Rattle.cvl_calls.proofs.Sizes.{length-packed-le, length-numbers_set}
use Rattle.cvl_calls.proofs.Whole.{segmented_pack-joined}

pub pack-fits : (limit : ℕ) (kind : Kind) (a f : Operand) → IsFit limit a → MakesFitting limit (pack kind a f)
unfolding pack
pack-fits limit kind a f fit =
    MakesFitting-bind limit (items kind a) _ (λ v was.
    MakesFitting-bind limit (bools f) _ (λ flags _.
    MakesFitting-check limit (size_of v == length flags) WrongLength _ (λ _.
    let few = size-fits limit kind a v fit was in
    record { fits = over_items-fits limit (λ X xs. packed flags xs) v (items-fit limit a fit kind v was) (λ X xs long. le_trans (length-packed-le flags xs) (same-few long few)) })))

pub pack_segments-fits : (limit : ℕ) (kind : Kind) (a f s : Operand) → IsFit limit a → MakesFitting limit (pack_segments kind a f s)
unfolding pack_segments
pack_segments-fits limit kind a f s fit =
    MakesFitting-bind limit (items kind a) _ (λ v was.
    MakesFitting-bind limit (bools f) _ (λ flags _.
    MakesFitting-bind limit (segs s) _ (λ ls _.
    MakesFitting-check limit (size_of v == length flags) WrongLength _ (λ same.
    MakesFitting-check limit (sum ls == size_of v) BadSegments _ (λ all.
    let few = size-fits limit kind a v fit was in
    let agree = eqb-true _ _ same in
    let total = eqb-true _ _ all in
    record {
      fits = over_items-fits limit (λ X xs. segmented_pack ls flags xs) v (items-fit limit a fit kind v was) (λ X xs long.
          same-few (ap length (segmented_pack-joined ls flags xs (total ∙ agree) (sym (long ∙ agree)))) (le_trans (length-packed-le flags xs) (same-few long few)));
    })))))

pub pack_lengths-fits : (limit : ℕ) (f s : Operand) → IsFit limit s → MakesFitting limit (pack_lengths f s)
unfolding pack_lengths
pack_lengths-fits limit f s fit =
    MakesFitting-bind limit (bools f) _ (λ flags _.
    MakesFitting-bind limit (segs s) _ (λ ls was.
    MakesFitting-check limit (sum ls == length flags) BadSegments _ (λ _.
    let within = segs-within limit s fit ls was in
    record { fits = same-few (length-numbers_set ls flags) within.0 })))
