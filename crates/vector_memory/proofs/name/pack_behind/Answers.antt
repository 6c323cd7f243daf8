use Rattle.std.proofs.Common.{◌≡◌, true, false, length, take, drop, Some, ap, sym, refl, ◌∙◌}
use Rattle.std.specs.List.{list_all}
use Rattle.std.proofs.lemmas.Bool.{eqb-true}
use Rattle.std.proofs.lemmas.List.{nil_from_length}
use Rattle.vector_memory.specs.Names.{is_name_byte, packed}
use Rattle.vector_memory.proofs.NameLemmas.{all-parts, nothing-behind, nothing-first, told-none, told-some}
use Rattle.vector_memory.proofs.name.pack_behind.Goals as goal

pub returns-then-is_empty : goal.returns-then-is_empty
returns-then-is_empty c =
    let size = eqb-true (length c.args.behind.now) 0 (sym c.is_empty.ensures ∙ c.if-is_empty.true) in
    let all : list_all is_name_byte c.args.behind.now ≡ true = ap (list_all is_name_byte) (nil_from_length c.args.behind.now size) in
    (λ i. Some (nothing-first c.args.behind.now size i, nothing-behind c.args.behind.now size i)) ∙ sym (rw all refl)

pub returns-in_err-pack : goal.returns-in_err-pack
returns-in_err-pack c =
    let behind = c.args.behind.now in
    let not_first : list_all is_name_byte (take 12 behind) ≡ false = ap (list_all is_name_byte) (sym c.split.ensures.first) ∙ told-none (list_all is_name_byte c.split.result.0.now) (packed c.split.result.0.now) c.in_err-pack.ensures in
    let not_all : list_all is_name_byte behind ≡ false = all-parts 12 behind ∙ rw not_first refl in
    c.from_residual.ensures ∙ sym (rw not_all refl)

pub returns-in_err-pack-2 : goal.returns-in_err-pack-2
returns-in_err-pack-2 c =
    let behind = c.args.behind.now in
    let first = told-some (list_all is_name_byte c.split.result.0.now) c.in_ok-pack.field-0 (packed c.split.result.0.now) c.in_ok-pack.ensures in
    let firsts : list_all is_name_byte (take 12 behind) ≡ true = ap (list_all is_name_byte) (sym c.split.ensures.first) ∙ first.0 in
    let not_rest : list_all is_name_byte (drop 12 behind) ≡ false = ap (list_all is_name_byte) (sym c.split.ensures.rest) ∙ told-none (list_all is_name_byte c.split.result.1.now) (packed c.split.result.1.now) c.in_err-pack-2.ensures in
    let not_all : list_all is_name_byte behind ≡ false = all-parts 12 behind ∙ rw (firsts, not_rest) refl in
    c.from_residual-in_err-pack-2.ensures ∙ sym (rw not_all refl)

pub returns : goal.returns
returns c =
    let behind = c.args.behind.now in
    let first = told-some (list_all is_name_byte c.split.result.0.now) c.in_ok-pack.field-0 (packed c.split.result.0.now) c.in_ok-pack.ensures in
    let rest = told-some (list_all is_name_byte c.split.result.1.now) c.in_ok-pack-2.field-0 (packed c.split.result.1.now) c.in_ok-pack-2.ensures in
    let firsts : list_all is_name_byte (take 12 behind) ≡ true = ap (list_all is_name_byte) (sym c.split.ensures.first) ∙ first.0 in
    let others : list_all is_name_byte (drop 12 behind) ≡ true = ap (list_all is_name_byte) (sym c.split.ensures.rest) ∙ rest.0 in
    let all : list_all is_name_byte behind ≡ true = all-parts 12 behind ∙ rw (firsts, others) refl in
    let middle = first.1 ∙ ap packed c.split.ensures.first in
    let back = rest.1 ∙ ap packed c.split.ensures.rest in
    (λ i. Some (middle i, back i)) ∙ sym (rw all refl)
