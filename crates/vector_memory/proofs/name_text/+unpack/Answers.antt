use Rattle.std.proofs.Common.{◌≡◌, ℕ, List, ◌∷◌, length, sym, ap, ◌∙◌}
use Rattle.std.proofs.lemmas.List.{nil_from_length}
use Rattle.vector_memory.specs.Names.{unpacked}
use Rattle.vector_memory.proofs.name_text.+unpack.Goals as goal

pub returns-in-Some : goal.returns-in-Some
unfolding unpacked
returns-in-Some t c =
    let is : c.args.bytes.now ≡ c.in-Some.first.now ∷ c.in-Some.rest.now = c.in-Some.ensures.cases.0 in
    (λ i. c.byte_of.ensures i ∷ c.unpack.ensures i) ∙ sym (ap (λ (l : List ℕ). unpacked (length l) c.args.word) is)

pub returns-in_default : goal.returns-in_default
unfolding unpacked
returns-in_default t c =
    let none = nil_from_length c.args.bytes.now c.in_default.ensures.cases in
    none ∙ sym (ap (λ (l : List ℕ). unpacked (length l) c.args.word) none)
