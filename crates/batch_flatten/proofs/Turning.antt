-- A call's work depends on what its names stand for alone, and a call changes its target alone. So the calls of a wave make of the
-- memory at the wave's beginning what each makes at its own turn: `works_stay`, `same_memory`, `same_answers`.
use Rattle.std.proofs.Common.{◌≡◌, ℕ, Bool, true, false, cond, ◌||◌, List, [], ◌∷◌, map, Option, Some, None, Result, Ok, Err, refl, sym, ap, ◌∙◌}
use Rattle.std.specs.List.{AllByRecursion, filter_map}
use Rattle.std.specs.Map.{lookup, remove_entry}
use Rattle.vector_memory.specs.declared.name.Name.{Name}
use Rattle.vector_memory.specs.declared.memory.StoreFault.{StoreFault}
use Rattle.vector_memory.specs.declared.memory.StoreFault.TheVariants.{NoRoom, TooManyNames, OutOfMemory}
use Rattle.vector_memory.specs.Contents.{Content}
use Rattle.vector_memory.specs.Names.{same_name}
use Rattle.vector_memory.specs.States.{State, value_at, put, refusal}
use Rattle.vector_memory.proofs.Putting.{apart, lookup-inserted}
use Rattle.cvl_text.specs.declared.fault.Fault.{Fault}
use Rattle.cvl_text.specs.Answers.{Answer}
use Rattle.cvl_text.specs.declared.call.Call.{Call}
use Rattle.cvl_text.specs.Tasks.{Task, Argument, Vector, Number, Truth, Numbers, Truths, name_in, target, task_of}
use Rattle.cvl_calls.specs.Outcomes.{Effect, Stores, Frees, Answers, Operand, Held, operand_of, operands_of}
use Rattle.cvl_calls.specs.Steps.{refused, applied, followed, stepped, work_on}
use Rattle.cvl_calls.specs.Work.{work}
use Rattle.call_history.specs.Blocks.{after}
use Rattle.batch_flatten.specs.Waves.{is_among, clashes, jobs_clash}
use Rattle.batch_flatten.specs.Turns.{memory_after_tasks, answers_after, done_to, memory_done, answers_done, ReadsNoTarget, IsWave}

lookup-removed : (es : List (Name × Content)) (n k : Name) → same_name n k ≡ false → lookup (same_name k) (remove_entry (same_name n) es) ≡ lookup (same_name k) es
lookup-removed [] n k f = refl
lookup-removed (e ∷ es) n k f = by (same_name n e.0) refl (lookup-removed es n k f)
  where
    by : (b : Bool) → same_name n e.0 ≡ b → lookup (same_name k) (remove_entry (same_name n) es) ≡ lookup (same_name k) es
        → lookup (same_name k) (cond b es (e ∷ remove_entry (same_name n) es)) ≡ cond (same_name k e.0) (Some e.1) (lookup (same_name k) es)
    by true h rest = sym (ap (λ b. cond b (Some e.1) (lookup (same_name k) es)) (apart k n e.0 h f))
    by false h rest = ap (cond (same_name k e.0) (Some e.1)) rest

-- the name is the target
abbrev is_target : Option Name → Name → Bool
is_target None k = false
is_target (Some n) k = same_name n k

-- all names but the target stand for what they stood for
abbrev KeepsOthers : State → State → Option Name → Type 0
KeepsOthers m now to = (k : Name) → is_target to k ≡ false → value_at now k ≡ value_at m k

refused-keeps : (m stored : State) (why : Option StoreFault) (k : Name) → value_at stored k ≡ value_at m k → value_at (refused m why stored).memory k ≡ value_at m k
refused-keeps m stored None k same = same
refused-keeps m stored (Some NoRoom) k same = refl
refused-keeps m stored (Some TooManyNames) k same = refl
refused-keeps m stored (Some OutOfMemory) k same = refl

applied-keeps : (m : State) (to : Option Name) (effect : Effect) → KeepsOthers m (applied m to effect).memory to
applied-keeps m None (Answers a) k f = refl
applied-keeps m (Some n) (Answers a) k f = refl
applied-keeps m (Some n) (Stores v) k f = refused-keeps m (put m n v) (refusal m n v) k (lookup-inserted m.entries n k v f)
applied-keeps m None (Stores v) k f = refl
applied-keeps m (Some n) Frees k f = lookup-removed m.entries n k f
applied-keeps m None Frees k f = refl

followed-keeps : (m : State) (to : Option Name) (worked : Result Effect Fault) → KeepsOthers m (followed m to worked).memory to
followed-keeps m to (Ok effect) k f = applied-keeps m to effect k f
followed-keeps m to (Err fault) k f = refl

refused-limit : (m stored : State) (why : Option StoreFault) → stored.limit ≡ m.limit → (refused m why stored).memory.limit ≡ m.limit
refused-limit m stored None same = same
refused-limit m stored (Some NoRoom) same = refl
refused-limit m stored (Some TooManyNames) same = refl
refused-limit m stored (Some OutOfMemory) same = refl

applied-limit : (m : State) (to : Option Name) (effect : Effect) → (applied m to effect).memory.limit ≡ m.limit
applied-limit m None (Answers a) = refl
applied-limit m (Some n) (Answers a) = refl
applied-limit m (Some n) (Stores v) = refused-limit m (put m n v) (refusal m n v) refl
applied-limit m None (Stores v) = refl
applied-limit m (Some n) Frees = refl
applied-limit m None Frees = refl

-- a call leaves the limit of a vector's items
followed-limit : (m : State) (to : Option Name) (worked : Result Effect Fault) → (followed m to worked).memory.limit ≡ m.limit
followed-limit m to (Ok effect) = applied-limit m to effect
followed-limit m to (Err fault) = refl

-- a call changes its target alone
pub stepped-keeps : (m : State) (t : Task) → KeepsOthers m (stepped m t).memory (target t)
stepped-keeps m t k f = followed-keeps m (target t) (work_on m t) k f

or_false : (a b : Bool) → (a || b) ≡ false → (a ≡ false) × (b ≡ false)
or_false true b e = absurd cc
or_false false b e = (refl, e)

among-first : (to : Option Name) (n : Name) (ns : List Name) → is_among to (n ∷ ns) ≡ false → (is_target to n ≡ false) × (is_among to ns ≡ false)
among-first None n ns f = (refl, refl)
among-first (Some m) n ns f = or_false (same_name m n) _ f

operands-kept : (m now : State) (to : Option Name) → KeepsOthers m now to → (arguments : List Argument) → is_among to (filter_map name_in arguments) ≡ false → operands_of now arguments ≡ operands_of m arguments
operands-kept m now to keeps [] f = refl
operands-kept m now to keeps (Vector n ∷ rest) f =
    let parts = among-first to n (filter_map name_in rest) f in
    ap (λ v. Held v ∷ operands_of now rest) (keeps n parts.0) ∙ ap (λ (l : List Operand). Held (value_at m n) ∷ l) (operands-kept m now to keeps rest parts.1)
operands-kept m now to keeps (Number x ∷ rest) f = ap (λ (l : List Operand). operand_of m (Number x) ∷ l) (operands-kept m now to keeps rest f)
operands-kept m now to keeps (Truth b ∷ rest) f = ap (λ (l : List Operand). operand_of m (Truth b) ∷ l) (operands-kept m now to keeps rest f)
operands-kept m now to keeps (Numbers xs ∷ rest) f = ap (λ (l : List Operand). operand_of m (Numbers xs) ∷ l) (operands-kept m now to keeps rest f)
operands-kept m now to keeps (Truths bs ∷ rest) f = ap (λ (l : List Operand). operand_of m (Truths bs) ∷ l) (operands-kept m now to keeps rest f)

-- a call that does not read the target of another makes the same of the memory before that call and behind it
pub work-stays : (m : State) (e t : Task) → clashes e t ≡ false → work_on (stepped m e).memory t ≡ work_on m t
work-stays m e t f =
    ap (λ (limit : ℕ). work limit t.word (operands_of (stepped m e).memory t.arguments)) (followed-limit m (target e) (work_on m e))
    ∙ ap (work m.limit t.word) (operands-kept m (stepped m e).memory (target e) (stepped-keeps m e) t.arguments f)

-- nor does it make anything else behind the calls of a job of which it reads no target
pub after-stays : (m : State) (calls : List Call) (t : Task) → jobs_clash (map task_of calls) (t ∷ []) ≡ false → work_on (after m calls) t ≡ work_on m t
after-stays m [] t f = refl
after-stays m (c ∷ cs) t f =
    let parts = or_false (clashes (task_of c) t || false) (jobs_clash (map task_of cs) (t ∷ [])) f in
    let first = or_false (clashes (task_of c) t) false parts.0 in
    after-stays (stepped m (task_of c)).memory cs t parts.1 ∙ work-stays m (task_of c) t first.0

pub works_stay : (m : State) (before : List Task) (t : Task) → ReadsNoTarget before t → work_on (memory_after_tasks m before) t ≡ work_on m t
works_stay m [] t h = refl
works_stay m (e ∷ es) t h = works_stay (stepped m e).memory es t h.1 ∙ work-stays m e t h.0

-- each of these makes of one memory what it makes of the other
abbrev SeeTheSame : State → State → List Task → Type 0
SeeTheSame seen m ts = AllByRecursion (λ t. work_on m t ≡ work_on seen t) ts

still_see : (seen m : State) (t : Task) (ts : List Task) → AllByRecursion (λ later. clashes t later ≡ false) ts → SeeTheSame seen m ts → SeeTheSame seen (stepped m t).memory ts
still_see seen m t [] apart same = tt
still_see seen m t (x ∷ xs) apart same = (work-stays m t x apart.0 ∙ same.0, still_see seen m t xs apart.1 same.1)

done-turn : (seen m : State) (t : Task) → work_on m t ≡ work_on seen t → done_to seen m t ≡ stepped m t
done-turn seen m t same = ap (followed m (target t)) (sym same)

memory-turns : (seen m : State) (ts : List Task) → IsWave ts → SeeTheSame seen m ts → memory_done seen m ts ≡ memory_after_tasks m ts
memory-turns seen m [] wave same = refl
memory-turns seen m (t ∷ ts) wave same =
    ap (λ s. memory_done seen s.memory ts) (done-turn seen m t same.0) ∙ memory-turns seen (stepped m t).memory ts wave.1 (still_see seen m t ts wave.0 same.1)

answers-turns : (seen m : State) (ts : List Task) → IsWave ts → SeeTheSame seen m ts → answers_done seen m ts ≡ answers_after m ts
answers-turns seen m [] wave same = refl
answers-turns seen m (t ∷ ts) wave same =
    ap (λ s. s.answer ∷ answers_done seen s.memory ts) (done-turn seen m t same.0)
    ∙ ap (λ (l : List Answer). (stepped m t).answer ∷ l) (answers-turns seen (stepped m t).memory ts wave.1 (still_see seen m t ts wave.0 same.1))

sees_itself : (m : State) (ts : List Task) → SeeTheSame m m ts
sees_itself m [] = tt
sees_itself m (t ∷ ts) = (refl, sees_itself m ts)

-- the calls of a wave, all of which see the memory at its beginning, leave what they leave one after the other, and reply so
pub same_memory : (m : State) (ts : List Task) → IsWave ts → memory_done m m ts ≡ memory_after_tasks m ts
same_memory m ts wave = memory-turns m m ts wave (sees_itself m ts)

pub same_answers : (m : State) (ts : List Task) → IsWave ts → answers_done m m ts ≡ answers_after m ts
same_answers m ts wave = answers-turns m m ts wave (sees_itself m ts)
