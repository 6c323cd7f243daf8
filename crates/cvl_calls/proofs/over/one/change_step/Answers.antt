use Rattle.std.proofs.Common.{◌≡◌, Option, Some, Ok, refl, sym, ap, ◌∙◌}
use Rattle.std.proofs.lemmas.Bool.Decides.{Decides-eqb}
use Rattle.std.proofs.lemmas.Slice.Eq.{slice_eq-Decides}
use Rattle.vector_memory.specs.Contents.{Content, Ints}
use Rattle.vector_memory.specs.Names.{same_name}
use Rattle.vector_memory.specs.States.{State, value_at}
use Rattle.cvl_text.specs.Answers.{Answer}
use Rattle.cvl_calls.specs.Outcomes.{Held, Stores}
use Rattle.cvl_calls.specs.Over.{made_by, work_by}
use Rattle.cvl_calls.specs.Steps.{Stepped, followed}
use Rattle.cvl_calls.proofs.Written.{work_by-ints}
use Rattle.cvl_calls.proofs.over.one.change_step.Goals as goal

-- the integers at the target are those that the call reads
pub returns-then-goes_over-clause-ok : goal.returns-then-goes_over-clause-ok
returns-then-goes_over-clause-ok g c =
    let m : State = c.args.memory.now in
    let to = c.args.to.now in
    let a = c.args.a.now in
    let change = c.args.change in
    let same : to ≡ a = (slice_eq-Decides Decides-eqb to a (same_name to a) refl).0 (c.goes_over.ensures.same c.if-goes_over.true) in
    let held = c.goes_over.ensures.ints c.if-goes_over.true in
    let there : value_at m a ≡ Some (Ints held.0) = ap (value_at m) (sym same) ∙ held.1 in
    let works : work_by change (Held (value_at m a)) ≡ Ok (Stores (Ints (made_by change held.0))) =
    ap (λ (o : Option Content). work_by change (Held o)) there ∙ work_by-ints change held.0 in
    let said : Answer → Stepped = λ a. record { memory = c.change_over.new.memory; answer = a } in
    ap (followed m (Some to)) works ∙ (c.change_over.ensures.step held.0 held.1 ∙ ap said (sym c.done.ensures))
