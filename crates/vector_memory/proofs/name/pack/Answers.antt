use Rattle.std.proofs.Common.{◌≡◌, ℕ, ◌-◌, true, drop, Some, ap, arith, slice_index_or, sym, refl, ◌∙◌}
use Rattle.std.specs.List.{list_all}
use Rattle.std.proofs.lemmas.List.{length-drop}
use Rattle.vector_memory.specs.Names.{code_of, is_name_byte, packed}
use Rattle.vector_memory.proofs.NameLemmas.{none-left, none-packed, one-left, one-packed, one-strange, packed-small, told-none, told-some}
use Rattle.vector_memory.proofs.name.pack.Goals as goal

pub loop-i-init : goal.loop-i-init
loop-i-init c = (none-packed c.args.bytes.now, none-left c.args.bytes.now)

pub overflow_mul-word : goal.overflow_mul-word
overflow_mul-word c =
    let size = length-drop c.loop-i.i c.args.bytes.now in
    let small = packed-small 11 (drop c.loop-i.i c.args.bytes.now) (omega (arith, size, c.requires.few, c.loop-i-test.true, c.loop-i.auto.i)) c.loop-i.invariant.1 in
    omega (arith, small, c.loop-i.invariant.0)

pub overflow_add-word : goal.overflow_add-word
overflow_add-word c =
    let size = length-drop c.loop-i.i c.args.bytes.now in
    let small = packed-small 11 (drop c.loop-i.i c.args.bytes.now) (omega (arith, size, c.requires.few, c.loop-i-test.true, c.loop-i.auto.i)) c.loop-i.invariant.1 in
    omega (arith, small, c.loop-i.invariant.0, c.in_ok-word.ensures.small)

pub loop-i-preserved : goal.loop-i-preserved
loop-i-preserved c =
    let read = slice_index_or c.args.bytes.now (c.loop-i.i - 1) 0 in
    let byte = told-some (is_name_byte read) c.in_ok-word.field-0 (code_of read) c.in_ok-word.ensures.code in
    let bytes = c.args.bytes.now in
    let i = c.loop-i.i in (
      one-packed bytes i c.loop-i.word c.in_ok-word.field-0 c.loop-i-test.true c.loop-i.auto.i c.loop-i.invariant.0 byte.1,
      one-left bytes i c.loop-i-test.true c.loop-i.auto.i c.loop-i.invariant.1 byte.0,
    )

pub returns-in_err-word : goal.returns-in_err-word
returns-in_err-word c =
    let read = slice_index_or c.args.bytes.now (c.loop-i.i - 1) 0 in
    let byte = told-none (is_name_byte read) (code_of read) c.in_err-word.ensures.code in
    let not_all = one-strange c.args.bytes.now c.loop-i.i c.loop-i-test.true c.loop-i.auto.i byte in
    c.from_residual.ensures ∙ sym (rw not_all refl)

pub returns : goal.returns
returns c =
    let none : c.loop-i.i ≡ 0 = omega (arith, c.loop-i-test.false) in
    let whole : drop c.loop-i.i c.args.bytes.now ≡ c.args.bytes.now = ap (λ (n : ℕ). drop n c.args.bytes.now) none in
    let all : list_all is_name_byte c.args.bytes.now ≡ true = ap (list_all is_name_byte) (sym whole) ∙ c.loop-i.invariant.1 in
    ap Some (c.loop-i.invariant.0 ∙ ap packed whole) ∙ sym (rw all refl)
