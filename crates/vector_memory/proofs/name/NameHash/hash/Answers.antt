use Rattle.std.proofs.Common.{◌≡◌, sym, ap, ◌∙◌, ne_eqb}
use Rattle.std.specs.List.{fold}
use Rattle.vector_memory.specs.Names.{back_of, fed_words, front_of, middle_of}
use Rattle.vector_memory.proofs.name.NameHash.hash.Goals as goal

pub returns-then-self-ne0 : goal.returns-then-self-ne0
returns-then-self-ne0 g c =
    let write = g.H.Hasher.write in
    let old = c.args.state.now in
    let i = c.self.inside in
    let three : fold write old (fed_words i.front i.middle i.back) ≡ write (write (write old c.to_le_bytes.result) c.to_le_bytes-then-self-ne0.result) c.to_le_bytes-then-self-ne0-2.result =
    rw (ne_eqb i.middle 0 c.if-self-ne0.true) (λ j. write (write (write old (sym c.to_le_bytes.ensures j)) (sym c.to_le_bytes-then-self-ne0.ensures j)) (sym c.to_le_bytes-then-self-ne0-2.ensures j)) in
    c.write-then-self-ne0-2.ensures
    ∙ (ap (λ s. write s c.to_le_bytes-then-self-ne0-2.result) (c.write-then-self-ne0.ensures ∙ ap (λ s. write s c.to_le_bytes-then-self-ne0.result) c.write.ensures)
    ∙ (sym three
    ∙ (λ j. fold write old (fed_words ((c.self.invariant.front_is ∙ ap front_of c.self.view_is) j) ((c.self.invariant.middle_is ∙ ap middle_of c.self.view_is) j) ((c.self.invariant.back_is ∙ ap back_of c.self.view_is) j)))))
