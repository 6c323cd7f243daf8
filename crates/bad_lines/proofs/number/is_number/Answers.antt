use Rattle.std.proofs.Common.{subst, ◌≡◌, w64}
use Rattle.std.specs.Str.Parse.{ParsesSigned}
use Rattle.bad_lines.proofs.Numbers.{no_number-no_text, no_number-unread}
use Rattle.bad_lines.proofs.number.is_number.Goals as goal

pub returns-in_default : goal.returns-in_default
returns-in_default c = no_number-no_text c.args.word.now c.in_default.ensures.cases.0

pub returns-in_default-parse : goal.returns-in_default-parse
returns-in_default-parse c =
    let same : c.in-Ok.text.now ≡ c.args.word.now = c.in-Ok.ensures.cases.0 in
    no_number-unread c.args.word.now c.parse.result c.in_default-parse.field-0 c.in_default-parse.is (subst (λ t. ParsesSigned w64 10 t c.parse.result) same c.parse.ensures.value.0)
