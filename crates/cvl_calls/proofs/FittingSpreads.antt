-- Repeated items and numbers that rise by a stride keep the limit.
use Rattle.std.proofs.Common.{ℕ, ◌≤◌, length, replicate}
use Rattle.std.specs.Prelude.{◌==◌}
use Rattle.std.proofs.Math.Nat.{le_trans}
use Rattle.std.proofs.lemmas.List.{length-replicate}
use Rattle.scan_kernels.specs.Distributed.{distributed}
use Rattle.vector_memory.specs.Contents.{size_of}
use Rattle.cvl_text.specs.declared.fault.Fault.TheVariants.{BadSegments, WrongLength}
use Rattle.cvl_text.specs.declared.word.Kind.{Kind}
use Rattle.cvl_calls.specs.Operands.{count, ints, items, number, segs, ItemType}
use Rattle.cvl_calls.specs.Outcomes.{Operand}
use Rattle.cvl_calls.specs.Work.{distribute, index, index_segments, repeat}
use Rattle.cvl_calls.proofs.Fitting.{IsFit, ItemsFit, MakesFitting, MakesFitting-bind, MakesFitting-check, count-few, items-fit, over_items-fits, same-few, segs-within}
use Rattle.cvl_calls.proofs.Sizes.{length-distributed, length-indexed, length-segmented_index}

pub repeat-fits : {X : Type 0} (limit : ℕ) (type : ItemType X) (x n : Operand) → ItemsFit limit type → MakesFitting limit (repeat limit type x n)
unfolding repeat
repeat-fits limit type x n fit_type =
    MakesFitting-bind limit (type.one x) _ (λ item _.
    MakesFitting-bind limit (count limit n) _ (λ many was.
    let few : length (replicate many item) ≤ limit = same-few (length-replicate many item) (count-few limit n many was) in
    record { fits = fit_type.fit (replicate many item) few }))

pub distribute-fits : (limit : ℕ) (kind : Kind) (a s : Operand) → IsFit limit a → IsFit limit s → MakesFitting limit (distribute kind a s)
unfolding distribute
distribute-fits limit kind a s fit fit_s =
    MakesFitting-bind limit (items kind a) _ (λ v was.
    MakesFitting-bind limit (segs s) _ (λ ls was_s.
    MakesFitting-check limit (length ls == size_of v) BadSegments _ (λ _.
    let within = segs-within limit s fit_s ls was_s in
    record { fits = over_items-fits limit (λ X xs. distributed ls xs) v (items-fit limit a fit kind v was) (λ X xs _. le_trans (length-distributed ls xs) within.1) })))

pub index-fits : (limit : ℕ) (u v n : Operand) → MakesFitting limit (index limit u v n)
unfolding index
index-fits limit u v n =
    MakesFitting-bind limit (number u) _ (λ start _.
    MakesFitting-bind limit (number v) _ (λ stride _.
    MakesFitting-bind limit (count limit n) _ (λ many was.
    record { fits = same-few (length-indexed start stride many) (count-few limit n many was) })))

pub index_segments-fits : (limit : ℕ) (a b s : Operand) → IsFit limit s → MakesFitting limit (index_segments a b s)
unfolding index_segments
index_segments-fits limit a b s fit =
    MakesFitting-bind limit (ints a) _ (λ starts _.
    MakesFitting-bind limit (ints b) _ (λ strides _.
    MakesFitting-bind limit (segs s) _ (λ ls was.
    MakesFitting-check limit (length starts == length strides) WrongLength _ (λ _.
    MakesFitting-check limit (length ls == length starts) BadSegments _ (λ _.
    let within = segs-within limit s fit ls was in
    record { fits = le_trans (length-segmented_index ls starts strides) within.1 })))))
