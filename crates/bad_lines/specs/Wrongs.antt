-- What is wrong with the words of a text that is to be a call: the first of them, from left to right.
use Rattle.std.specs.Prelude.{◌≡◌, ℕ, ◌≤◌, ◌==◌, ◌&&◌, Bool, true, false, is_none, List, [], ◌∷◌, Option, Some, None, MatchOption, length, drop, take, if◌then◌else◌, codes}
use Rattle.std.specs.List.{list_any}
use Rattle.std.specs.Option.{option_map}
use Rattle.vector_memory.specs.declared.edition.Edition.{Edition}
use Rattle.cvl_text.specs.Words.{same_text, word_of, words_of}
use Rattle.cvl_text.specs.Lines.{ArgumentKind, NameKind, NumberKind, TruthKind, NumbersKind, TruthsKind}
use Rattle.bad_lines.specs.declared.kind.Kind.{Kind}
use Rattle.bad_lines.specs.declared.kind.Kind.TheVariants.{Name, Number, Truth}
use Rattle.bad_lines.specs.declared.reason.Reason.{Reason}
use Rattle.bad_lines.specs.declared.reason.Why.{Why}
use Rattle.bad_lines.specs.declared.reason.Why.TheVariants.{NoCall, NoWord, NoTarget, HasTarget, NoName, NoNumber, NoTruth, Ends, TooMany}
use Rattle.bad_lines.specs.Forms.{Form, form_of_word}
use Rattle.bad_lines.specs.Kinds.{fits}

pub record Wrong : Type 0 where
  pub why : Why
  -- the words from the wrong one on; none where the text ends too soon
  pub words : List (List ℕ)
  -- the call word whose arguments are wrong, else no byte
  pub call : List ℕ

abbrev pub wrong : Why → List ℕ → List (List ℕ) → Option Wrong
wrong why call words = Some (record { why = why; words = words; call = call })

-- a word that is not of the kind
abbrev pub misfit : Edition → Kind → Why
misfit edition Name = NoName edition
misfit edition Number = NoNumber
misfit edition Truth = NoTruth

-- all words are to be of a kind
abbrev pub first_misfit : Edition → List ℕ → Kind → List (List ℕ) → Option Wrong
first_misfit edition call kind [] = None
first_misfit edition call kind (w ∷ ws) = if fits edition kind w then first_misfit edition call kind ws else wrong (misfit edition kind) call (w ∷ ws)

-- a word is to be of a kind, and those behind it as it is said
abbrev pub wrong_from : Edition → List ℕ → Kind → List (List ℕ) → (List (List ℕ) → Option Wrong) → Option Wrong
wrong_from edition call kind [] behind = wrong (Ends kind) call []
wrong_from edition call kind (w ∷ ws) behind = if fits edition kind w then behind ws else wrong (misfit edition kind) call (w ∷ ws)

-- no word is to stand there
abbrev pub first_extra : List ℕ → List (List ℕ) → Option Wrong
first_extra call [] = None
first_extra call (w ∷ ws) = wrong TooMany call (w ∷ ws)

-- the words behind a call word are to be its arguments
abbrev pub first_wrong : Edition → List ℕ → List ArgumentKind → List (List ℕ) → Option Wrong
first_wrong edition call [] ws = first_extra call ws
first_wrong edition call (NameKind ∷ kinds) ws = wrong_from edition call Name ws (λ later. first_wrong edition call kinds later)
first_wrong edition call (NumberKind ∷ kinds) ws = wrong_from edition call Number ws (λ later. first_wrong edition call kinds later)
first_wrong edition call (TruthKind ∷ kinds) ws = wrong_from edition call Truth ws (λ later. first_wrong edition call kinds later)
first_wrong edition call (NumbersKind ∷ kinds) ws = first_misfit edition call Number ws
first_wrong edition call (TruthsKind ∷ kinds) ws = first_misfit edition call Truth ws

-- a word used with a target or without one, and the words behind it
abbrev pub wrong_use : Edition → Bool → Option Form → List ℕ → List (List ℕ) → Option Wrong
wrong_use edition targeted None w ws = wrong NoWord [] (w ∷ ws)
wrong_use edition true (Some form) w ws = if form.is_targeted then first_wrong edition w form.arguments ws else wrong HasTarget [] (w ∷ ws)
wrong_use edition false (Some form) w ws = if form.is_targeted then wrong NoTarget [] (w ∷ ws) else first_wrong edition w form.arguments ws

-- the words from the call word on
unfoldable pub wrong_behind : Edition → Bool → List (List ℕ) → Option Wrong
wrong_behind edition targeted [] = wrong NoCall [] []
wrong_behind edition targeted (w ∷ ws) = wrong_use edition targeted (option_map form_of_word (word_of w)) w ws

abbrev pub has_byte : List ℕ → ℕ → Bool
has_byte word byte = list_any (λ b. b == byte) word

-- All words of the text. Where no call word stands first, and behind it a `=` with something at it, that is to blame.
unfoldable pub wrong_in : Edition → List (List ℕ) → Option Wrong
wrong_in edition [] = wrong_behind edition false []
wrong_in edition (w ∷ []) = wrong_behind edition false (w ∷ [])
wrong_in edition (w ∷ v ∷ ws) =
    if same_text v (codes "=")
    then (if fits edition Name w then wrong_behind edition true ws else wrong (NoName edition) [] (w ∷ v ∷ ws))
    else (if has_byte v 61 && is_none (word_of w) then wrong NoWord [] (v ∷ ws) else wrong_behind edition false (w ∷ v ∷ ws))

-- the first word, if there is one
abbrev pub first_of : List (List ℕ) → List ℕ
first_of [] = []
first_of (w ∷ ws) = w

-- what a reason finds stands at its place, and is the word there
pub record IsFound (text : List ℕ) (reason : Reason) : Type 0 where
  pub within : reason.at ≤ length text
  pub stands : take (length reason.found.now) (drop reason.at text) ≡ reason.found.now
  pub word : reason.found.now ≡ first_of (words_of (drop reason.at text))

-- a reason says of a text what is said of its words
pub record IsReason (text : List ℕ) (said : Option Wrong) (reason : Reason) : Type 0 where
  pub found : IsFound text reason
  pub says : said ≡ wrong reason.why reason.call.now (words_of (drop reason.at text))

-- a reason is told where something is said, and says it
abbrev pub Tells : Option Reason → List ℕ → Option Wrong → Type 0
Tells result text said = MatchOption result (said ≡ None) (IsReason text said)
