-- Printing one thing behind another.
use Rattle.std.proofs.Common.{◌≡◌, ℕ, List, [], ◌∷◌, ◌++◌, map, sym, ap, ◌∙◌, append_assoc, append-nil}
use Rattle.std.proofs.lemmas.List.{map-append}
use Rattle.bad_lines.specs.Printed.{IsPrintedOn, shown}

pub printed_nothing : (old : List ℕ) → IsPrintedOn old old
printed_nothing old = record { more = []; behind = sym (append-nil old) }

pub printed_then : (old middle new : List ℕ) → IsPrintedOn old middle → IsPrintedOn middle new → IsPrintedOn old new
printed_then old middle new first second = record {
  more = first.more ++ second.more;
  behind =
      second.behind
      ∙ ap (λ (t : List ℕ). t ++ map shown second.more) first.behind
      ∙ append_assoc old (map shown first.more) (map shown second.more)
      ∙ ap (λ (t : List ℕ). old ++ t) (sym (map-append shown first.more second.more));
}

pub printed_byte : (old middle new : List ℕ) (byte : ℕ) → IsPrintedOn old middle → new ≡ middle ++ shown byte ∷ [] → IsPrintedOn old new
printed_byte old middle new byte first is = printed_then old middle new first (record { more = byte ∷ []; behind = is })
