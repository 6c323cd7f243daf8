-- Names and their texts: a name is the text that it was read from, `name_of-read`, and is a word, `IsWord-name`.
use Rattle.std.proofs.Common.{◌≡◌, ℕ, Bool, true, false, eqb, not, List, [], ◌∷◌, length, Some, refl, sym, ap, subst}
use Rattle.std.specs.Prelude.{nat_lt}
use Rattle.std.specs.List.{list_all}
use Rattle.cvl_text.proofs.Truths.{both}
use Rattle.std.proofs.lemmas.Bool.{and_from, both_ways, ne_eqb}
use Rattle.std.proofs.lemmas.Option.{cond_some}
use Rattle.vector_memory.specs.declared.edition.Edition.{Edition}
use Rattle.vector_memory.specs.Editions.{longest_name}
use Rattle.vector_memory.specs.declared.name.Name.{Name}
use Rattle.vector_memory.specs.Names.{is_letter, is_name_byte, is_name, name_of}
use Rattle.cvl_text.proofs.Spaced.{IsWord}
use Rattle.cvl_text.specs.Words.{is_filled}

-- a byte that a test of bytes does not take
not_byte : (test : ℕ → Bool) (b c : ℕ) → test b ≡ true → test c ≡ false → not (eqb b c) ≡ true
not_byte test b c taken never = ap not (ne_eqb b c (λ e. both_ways (test c) never (subst (λ (x : ℕ). test x ≡ true) e taken)))

-- bytes that each pass a test have none that it does not take
none_of : (test : ℕ → Bool) (c : ℕ) (bs : List ℕ) → test c ≡ false → list_all test bs ≡ true → list_all (λ b. not (eqb b c)) bs ≡ true
none_of test c [] never h = refl
none_of test c (b ∷ bs) never h =
    let parts = both (test b) (list_all test bs) h in
    and_from _ _ (not_byte test b c parts.0 never) (none_of test c bs never parts.1)

-- the bytes of a name but one c that no name has
name_without : (longest c : ℕ) (w : List ℕ) → is_letter c ≡ false → is_name_byte c ≡ false → is_name longest w ≡ true → list_all (λ b. not (eqb b c)) w ≡ true
name_without longest c [] no_letter no_byte h = absurd cc
name_without longest c (b ∷ bs) no_letter no_byte h =
    let parts = both (is_letter b) _ h in
    let rest = both (nat_lt (length bs) longest) (list_all is_name_byte bs) parts.1 in
    and_from _ _ (not_byte is_letter b c parts.0 no_letter) (none_of is_name_byte c bs no_byte rest.1)

name-filled : (longest : ℕ) (w : List ℕ) → is_name longest w ≡ true → is_filled w ≡ true
name-filled longest [] h = absurd cc
name-filled longest (b ∷ bs) h = refl

-- a name is the text that it was read from
pub name_of-read : (edition : Edition) (w : List ℕ) (n : Name) → name_of edition w ≡ Some n → n ≡ w
name_of-read edition w n e = sym (cond_some (is_name (longest_name edition) w) w n e).1

pub IsWord-name : (edition : Edition) (w : List ℕ) (n : Name) → name_of edition w ≡ Some n → IsWord w
IsWord-name edition w n e =
    let longest = longest_name edition in
    let read = cond_some (is_name longest w) w n e in
    record { filled = name-filled longest w read.0; solid = name_without longest 32 w refl refl read.0 }
