use Rattle.std.proofs.Common.{◌≡◌, Bool, true, false, not, Some, refl, sym, ◌∙◌, subst}
use Rattle.std.proofs.lemmas.Bool.Decides.{Decides-eqb}
use Rattle.std.proofs.lemmas.Slice.Eq.{slice_eq-Decides}
use Rattle.vector_memory.specs.declared.name.Name.{Name}
use Rattle.vector_memory.specs.Names.{same_name}
use Rattle.vector_memory.specs.States.{value_at}
use Rattle.item_operations.specs.IntegerOps.{apply_z}
use Rattle.cvl_text.specs.Answers.{Done}
use Rattle.cvl_calls.specs.Conditions.{seconds}
use Rattle.cvl_calls.specs.Operands.{integers}
use Rattle.cvl_calls.specs.Outcomes.{Held}
use Rattle.cvl_calls.specs.Steps.{Stepped, followed}
use Rattle.cvl_calls.specs.Work.{map_two}
use Rattle.cvl_calls.proofs.over.two.map_over.Goals as goal

not_false : (b : Bool) → false ≡ not b → b ≡ true
not_false true e = refl
not_false false e = absurd (cc e)

-- where the target is not the first name, it is the second
pub returns-else-eq-clause-step : goal.returns-else-eq-clause-step
returns-else-eq-clause-step c =
    let to = c.args.to in
    let b = c.args.b.now in
    let other : same_name to c.args.a.now ≡ false = sym c.eq.ensures ∙ c.if-eq.false in
    let second : same_name to b ≡ true = not_false (same_name to b) (sym other ∙ c.requires.either) in
    let same : to ≡ b = (slice_eq-Decides Decides-eqb to b (same_name to b) refl).0 second in
    let m = c.args.memory.now in
    let step : Stepped = record { memory = c.apply_over_second.new.memory; answer = Done } in
    subst (λ (n : Name). followed m (Some to) (map_two integers integers (seconds c.args.op) (apply_z c.args.op) (Held (value_at m c.args.a.now)) (Held (value_at m n))) ≡ step) same c.apply_over_second.ensures.step
