-- What the program's words ask for: one mode and one room at most.
use Rattle.std.proofs.Common.{◌≡◌, ℕ, List, [], ◌∷◌, refl, sym, ◌∙◌, arith}
use Rattle.std.proofs.lemmas.Fmt.{decimal_injective}
use Rattle.script_main.specs.declared.mode.Mode.{Mode}
use Rattle.script_main.specs.declared.mode.Mode.TheVariants.{Serial, Threads}
use Rattle.script_main.specs.Programs.{mode_word, AsksRoom, AsksRun}

pub mode-same : (mode other : Mode) → mode_word mode ≡ mode_word other → mode ≡ other
mode-same Serial Serial e = refl
mode-same Serial Threads e = absurd (cc e)
mode-same Threads Serial e = absurd (cc e)
mode-same Threads Threads e = refl

room-same : (words : List (List ℕ)) (room other : ℕ) → AsksRoom words room → AsksRoom words other → room ≡ other
room-same [] room other a b = a ∙ sym b
room-same (word ∷ []) room other a b = decimal_injective room other (omega arith) (omega arith) (sym a.0 ∙ b.0)
room-same (word ∷ also ∷ words) room other a b = absurd a

pub AsksRun-same : (words : List (List ℕ)) (mode other : Mode) (room room' : ℕ) → AsksRun mode words room → AsksRun other words room' → (mode ≡ other) × (room ≡ room')
AsksRun-same [] mode other room room' a b = absurd a
AsksRun-same (word ∷ words) mode other room room' a b = (mode-same mode other (sym a.0 ∙ b.0), room-same words room room' a.1 b.1)
