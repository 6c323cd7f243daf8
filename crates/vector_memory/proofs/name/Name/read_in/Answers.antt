use Rattle.std.proofs.Common.{◌≡◌, false, take, drop, Some, ap, arith, sym, refl, ◌∙◌}
use Rattle.std.specs.List.{list_all}
use Rattle.vector_memory.specs.Editions.{longest_name}
use Rattle.vector_memory.specs.Names.{is_name, is_name_byte, packed}
use Rattle.vector_memory.proofs.NameLemmas.{is_name-wide, name_of-name, named-by-parts, named-by-words, told-none, told-some}
use Rattle.vector_memory.proofs.name.Name.read_in.Goals as goal

pub invariant_of-result : goal.invariant_of-result
invariant_of-result c =
    let text = c.args.text.now in
    let first = c.split.result.0.now in
    let behind = c.split.result.1.now in
    let named = named-by-parts c.args.edition text first behind c.in_ok-first.field-0.now c.in_ok-first.ensures.value (sym c.is_letter.ensures ∙ c.if-not-is_letter.false) (omega (arith, c.if-text-longest_name.false, c.longest_name.ensures)) c.split.ensures.first c.split.ensures.rest in
    let front = told-some (list_all is_name_byte first) c.in_ok-front.front (packed first) c.in_ok-front.ensures in
    let others = told-some (list_all is_name_byte behind) (c.in_ok-middle.middle, c.in_ok-middle.back) (packed (take 12 behind), packed (drop 12 behind)) c.in_ok-middle.ensures in
    let wide = is_name-wide c.args.edition text (named ∙ rw (front.0, others.0) refl) in
    (named-by-words text first behind c.in_ok-front.front c.in_ok-middle.middle c.in_ok-middle.back wide c.split.ensures.first c.split.ensures.rest front.1 others.1).0

pub returns : goal.returns
returns c =
    let text = c.args.text.now in
    let first = c.split.result.0.now in
    let behind = c.split.result.1.now in
    let named = named-by-parts c.args.edition text first behind c.in_ok-first.field-0.now c.in_ok-first.ensures.value (sym c.is_letter.ensures ∙ c.if-not-is_letter.false) (omega (arith, c.if-text-longest_name.false, c.longest_name.ensures)) c.split.ensures.first c.split.ensures.rest in
    let front = told-some (list_all is_name_byte first) c.in_ok-front.front (packed first) c.in_ok-front.ensures in
    let others = told-some (list_all is_name_byte behind) (c.in_ok-middle.middle, c.in_ok-middle.back) (packed (take 12 behind), packed (drop 12 behind)) c.in_ok-middle.ensures in
    let lawful = named ∙ rw (front.0, others.0) refl in
    let words = named-by-words text first behind c.in_ok-front.front c.in_ok-middle.middle c.in_ok-middle.back (is_name-wide c.args.edition text lawful) c.split.ensures.first c.split.ensures.rest front.1 others.1 in
    ap Some words.1 ∙ sym (name_of-name c.args.edition text lawful)

pub returns-in_err-front : goal.returns-in_err-front
returns-in_err-front c =
    let text = c.args.text.now in
    let first = c.split.result.0.now in
    let named = named-by-parts c.args.edition text first c.split.result.1.now c.in_ok-first.field-0.now c.in_ok-first.ensures.value (sym c.is_letter.ensures ∙ c.if-not-is_letter.false) (omega (arith, c.if-text-longest_name.false, c.longest_name.ensures)) c.split.ensures.first c.split.ensures.rest in
    let not_first = told-none (list_all is_name_byte first) (packed first) c.in_err-front.ensures in
    let not_all : is_name (longest_name c.args.edition) text ≡ false = named ∙ rw not_first refl in
    c.from_residual-in_err-front.ensures ∙ sym (rw not_all refl)

pub returns-in_err-middle : goal.returns-in_err-middle
returns-in_err-middle c =
    let text = c.args.text.now in
    let first = c.split.result.0.now in
    let behind = c.split.result.1.now in
    let named = named-by-parts c.args.edition text first behind c.in_ok-first.field-0.now c.in_ok-first.ensures.value (sym c.is_letter.ensures ∙ c.if-not-is_letter.false) (omega (arith, c.if-text-longest_name.false, c.longest_name.ensures)) c.split.ensures.first c.split.ensures.rest in
    let front = told-some (list_all is_name_byte first) c.in_ok-front.front (packed first) c.in_ok-front.ensures in
    let not_rest = told-none (list_all is_name_byte behind) (packed (take 12 behind), packed (drop 12 behind)) c.in_err-middle.ensures in
    let not_all : is_name (longest_name c.args.edition) text ≡ false = named ∙ rw (front.0, not_rest) refl in
    c.from_residual-in_err-middle.ensures ∙ sym (rw not_all refl)
