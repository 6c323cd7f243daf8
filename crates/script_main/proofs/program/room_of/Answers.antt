use Rattle.std.proofs.Common.{◌≡◌, ℕ, Ok, true, sym, ap, ◌∙◌, subst, arith, rules}
use Rattle.std.specs.Fmt.{decimal}
use Rattle.std.proofs.lemmas.Fmt.{parse-decimal}
use Rattle.vector_memory.specs.States.{IsLawfulRoom}
use Rattle.script_main.proofs.program.room_of.Goals as goal

pub returns-in_default : goal.returns-in_default
returns-in_default c = λ room lawful spelled.
    let read : c.parse.result ≡ Ok room = parse-decimal 64 room c.args.word.now c.parse.result (omega arith) (omega arith) spelled c.parse.ensures.value.0 in
    absurd cc

pub returns-then-ne : goal.returns-then-ne
returns-then-ne c = λ room lawful spelled.
    let read : c.parse.result ≡ Ok room = parse-decimal 64 room c.args.word.now c.parse.result (omega arith) (omega arith) spelled c.parse.ensures.value.0 in
    let same : c.in-Ok.room ≡ room = cc in
    let text : c.format.result.now ≡ c.args.word.now = c.format.ensures.text ∙ ap decimal same ∙ sym spelled in
    search rules

pub returns-else-is_lawful_room : goal.returns-else-is_lawful_room
returns-else-is_lawful_room c = λ room lawful spelled.
    let read : c.parse.result ≡ Ok room = parse-decimal 64 room c.args.word.now c.parse.result (omega arith) (omega arith) spelled c.parse.ensures.value.0 in
    let same : c.in-Ok.room ≡ room = cc in
    let is : c.is_lawful_room.result ≡ true = c.is_lawful_room.ensures.1 (subst (λ (n : ℕ). IsLawfulRoom n) (sym same) lawful) in
    absurd cc
