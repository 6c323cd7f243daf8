-- Four bytes are the same as four others exactly where their numbers are.
use Rattle.std.proofs.Common.{◌≡◌, ◌<◌, ℕ, List, length, Bool, true, false, eqb, eq-eqb, refl, sym, ap, ◌∙◌}
use Rattle.std.specs.Prelude.{get_or}
use Rattle.std.specs.Cmp.Lexicographic as texts
use Rattle.std.specs.Int.{from_le_bytes, to_le_bytes, w32}
use Rattle.std.proofs.lemmas.Bool.{eqb-true}
use Rattle.std.proofs.lemmas.Nat.{le_bytes_4}
use Rattle.cvl_text.specs.Words.{same_text}

pub same_number : (a b : List ℕ) (m n : ℕ) → length a ≡ 4 → length b ≡ 4 → ((i : ℕ) → get_or a i 0 < 256) → ((i : ℕ) → get_or b i 0 < 256) → m ≡ from_le_bytes w32 a → n ≡ from_le_bytes w32 b → eqb m n ≡ same_text a b
same_number a b m n four_a four_b bytes_a bytes_b is_a is_b = by (eqb m n) refl (same_text a b) refl
  where
    same : m ≡ n → a ≡ b
    same e = sym (le_bytes_4 a m four_a bytes_a is_a) ∙ ap (to_le_bytes w32) e ∙ le_bytes_4 b n four_b bytes_b is_b

    by : (x : Bool) → eqb m n ≡ x → (y : Bool) → same_text a b ≡ y → eqb m n ≡ same_text a b
    by true one y two = one ∙ sym ((texts.bytes_decides a b).1 (same (eqb-true m n one)))
    by false one true two = absurd (let x : false ≡ true = sym one ∙ eq-eqb m n (is_a ∙ ap (from_le_bytes w32) (texts.same_text a b (sym two)) ∙ sym is_b) in cc x)
    by false one false two = one ∙ sym two
