use Rattle.std.proofs.Common.{◌≤◌, ℤ, List, [], ◌∷◌, length, sym, subst}
use Rattle.vector_memory.specs.States.{State}
use Rattle.cvl_text.specs.declared.word.TwoWord.TheVariants as twos
use Rattle.cvl_text.specs.declared.word.Word.{Word}
use Rattle.cvl_text.specs.declared.word.Word.TheVariants as words
use Rattle.cvl_text.specs.Tasks.{Argument, Vector}
use Rattle.cvl_calls.specs.declared.judged.Judged.{Judged}
use Rattle.cvl_calls.specs.Judging.{made}
use Rattle.cvl_calls.specs.Outcomes.{IsFittingEffect, operands_of}
use Rattle.cvl_calls.proofs.Fitting.{MakesFitting, operands_of-fits}
use Rattle.cvl_calls.proofs.WorkLemmas.{work-fits}
use Rattle.cvl_calls.proofs.over.two.map_step.Goals as goal

-- what was judged makes no more than the limit, as work does
pub store-requires-clause-fits : goal.store-requires-clause-fits
store-requires-clause-fits g c =
    let m : State = c.args.memory.now in
    let word : Word = words.Two (twos.MapZ2 c.args.op) in
    let arguments : List Argument = Vector c.args.a.now ∷ Vector c.args.b.now ∷ [] in
    let fit = work-fits m.limit word (operands_of m arguments) (operands_of-fits m arguments c.memories_are_lawful.ensures) in
    let few : IsFittingEffect m.limit (made c.in-Ok.judged) = (subst (MakesFitting m.limit) (sym c.in-Ok.ensures.0) fit).fits in
    let P : Judged → Type 0 = λ j. IsFittingEffect m.limit (made j) in
    let Q : List ℤ → Type 0 = λ items. length items ≤ m.limit in
    subst Q (sym c.in-Ok-map2_z.ensures.map) (subst P c.in-MapInts.is few)
