use Rattle.std.proofs.Common.{rules, ◌≡◌, ◌∙◌, ap, ℕ, List, ℤ, Result, Ok, refl}
use Rattle.std.specs.List.{list_all}
use Rattle.scan_kernels.specs.Gathered.{gathered}
use Rattle.vector_memory.specs.Contents.{Content, size_of}
use Rattle.vector_memory.specs.States.{value_at}
use Rattle.cvl_text.specs.declared.fault.Fault.{Fault}
use Rattle.cvl_text.specs.declared.fault.Fault.TheVariants.{BadIndex}
use Rattle.cvl_text.specs.declared.word.Kind.{Kind}
use Rattle.cvl_calls.specs.Conditions.{is_place}
use Rattle.cvl_calls.specs.Operands.{ints, items, over_items}
use Rattle.cvl_calls.specs.Outcomes.{Effect, Held, Operand, Stores, check, ◌>>=◌}
use Rattle.cvl_calls.specs.Work.{gather}
use Rattle.cvl_calls.proofs.shapes.moves.gather.Goals as goal

-- a gather whose index was tested against as many items as there are
gather-tested : (kind : Kind) (a i : Operand) (v : Content) (places : List ℤ) (n : ℕ) (tested : Result (Unit {0}) Fault) → Ok v ≡ items kind a → Ok places ≡ ints i → n ≡ size_of v → tested ≡ check (list_all (is_place n) places) BadIndex
    → (tested >>= λ each. Ok (Stores (over_items (λ X xs. gathered places xs) v))) ≡ gather kind a i
unfolding gather
gather-tested kind a i v places n tested held index same was =
    let next : Unit {0} → Result Effect Fault = λ each. Ok (Stores (over_items (λ X xs. gathered places xs) v)) in
    ap (λ (r : Result (Unit {0}) Fault). r >>= next) (was ∙ ap (λ (m : ℕ). check (list_all (is_place m) places) BadIndex) same) ∙ rw (← held, ← index) refl

pub returns-in_err-within : goal.returns-in_err-within
returns-in_err-within g c =
    let told = gather-tested c.args.kind (Held (value_at c.args.memory.now c.args.a.now)) (Held (value_at c.args.memory.now c.args.i.now)) _ _ _ _ c.in_ok-xs.ensures.items c.in_ok-places.ensures.items c.len.ensures c.in_err-within.ensures.fault in
    search rules

pub returns : goal.returns
returns g c =
    (gather-tested c.args.kind (Held (value_at c.args.memory.now c.args.a.now)) (Held (value_at c.args.memory.now c.args.i.now)) _ _ _ _ c.in_ok-xs.ensures.items c.in_ok-places.ensures.items c.len.ensures c.in_ok-within.ensures.fault, search rules, search rules)
