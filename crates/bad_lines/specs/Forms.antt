-- What stands round a call word: a target or none, and which arguments.
use Rattle.std.proofs.Common.{Bor}
use Rattle.std.specs.Prelude.{ℕ, Bool, false, ◌||◌, List, [], ◌∷◌, Option, Some, None, if◌then◌else◌}
use Rattle.cvl_text.specs.declared.word.Word.{Word}
use Rattle.cvl_text.specs.Words.{same_text, words_of}
use Rattle.cvl_text.specs.Lines.{ArgumentKind, NameKind, NumberKind, TruthKind, NumbersKind, TruthsKind, is_targeted, kinds_of}
use Rattle.bad_lines.specs.declared.kind.Kind.{Kind}
use Rattle.bad_lines.specs.declared.kind.Kind.TheVariants.{Name, Number, Truth}
use Rattle.bad_lines.specs.declared.table.Further.{Further}
use Rattle.bad_lines.specs.declared.table.Usage.{Usage}
use Rattle.bad_lines.specs.declared.table.Further.TheVariants.{Nothing, Numbers, Truths}

pub record Form : Type 0 where
  pub is_targeted : Bool
  pub arguments : List ArgumentKind

-- what the grammar says of a word
abbrev pub form_of_word : Word → Form
form_of_word word = record { is_targeted = is_targeted word; arguments = kinds_of word }

abbrev pub argument_kind : Kind → ArgumentKind
argument_kind Name = NameKind
argument_kind Number = NumberKind
argument_kind Truth = TruthKind

abbrev pub argument_kinds : List Kind → Further → List ArgumentKind
argument_kinds [] Nothing = []
argument_kinds [] Numbers = NumbersKind ∷ []
argument_kinds [] Truths = TruthsKind ∷ []
argument_kinds (k ∷ ks) further = argument_kind k ∷ argument_kinds ks further

-- a row of the table: words with spaces between, and what stands round each of them
abbrev pub Row : Type 0
Row = Bor (List ℕ) × Bool × Bor (List Kind) × Further

-- what a row of the table says of its words
abbrev pub form_of_row : Row → Form
form_of_row row = record { is_targeted = row.1; arguments = argument_kinds row.2.now row.3 }

abbrev pub form_of_usage : Usage → Form
form_of_usage usage = record { is_targeted = usage.has_target; arguments = argument_kinds usage.kinds.now usage.further }

abbrev pub is_among : List ℕ → List (List ℕ) → Bool
is_among text [] = false
is_among text (w ∷ ws) = same_text w text || is_among text ws

unfoldable pub form_among : List Row → List ℕ → Option Form
form_among [] text = None
form_among (row ∷ rows) text = if is_among text (words_of row.0.now) then Some (form_of_row row) else form_among rows text
