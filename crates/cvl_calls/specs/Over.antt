-- Calls whose result may be written over an operand.
use Rattle.std.specs.Prelude.{◌≡◌, ◌≤◌, ℕ, ℤ, List, [], length, map, All, None, Some, Ok, Result}
use Rattle.item_operations.specs.declared.operation.Z2.{Z2}
use Rattle.item_operations.specs.IntegerOps.{IsAllowed, alter_z}
use Rattle.item_operations.specs.IntegerScans.{combine_z, unit_z}
use Rattle.scan_kernels.specs.Segmented.{scanned}
use Rattle.vector_memory.specs.declared.name.Name.{Name}
use Rattle.vector_memory.specs.Contents.{Ints}
use Rattle.vector_memory.specs.States.{State, IsLawful, value_at, put}
use Rattle.cvl_text.specs.declared.fault.Fault.{Fault}
use Rattle.cvl_calls.specs.Conditions.{seconds}
use Rattle.cvl_calls.specs.Operands.{integers}
use Rattle.cvl_calls.specs.Outcomes.{Effect, Operand}
use Rattle.cvl_calls.specs.Work.{map_one, scan}
use Rattle.cvl_calls.specs.declared.over.one.Change.{Change}
use Rattle.cvl_calls.specs.declared.over.one.Change.TheVariants as changes

-- The operation can be applied item by item to the integers of two names.
pub record CanApply (m : State) (op : Z2) (a b : Name) : Type 0 where
  pub left : List ℤ
  pub right : List ℤ
  pub left_is : value_at m a ≡ Some (Ints left)
  pub right_is : value_at m b ≡ Some (Ints right)
  pub same : length left ≡ length right
  pub allowed : All (IsAllowed op) right
  pub taken : seconds op right ≡ Ok tt

-- a name stands for integers
abbrev pub IsInts : State → Name → Type 0
IsInts m a = (xs : List ℤ) × (value_at m a ≡ Some (Ints xs))

-- As many integers or more were taken out of a lawful memory outside a block, which left none of them at their name.
pub record WasTaken (held : State) (to : Name) (count : ℕ) : Type 0 where
  pub before : State
  pub taken : List ℤ
  pub lawful : IsLawful before
  pub outside : before.block ≡ None
  pub there : value_at before to ≡ Some (Ints taken)
  pub left : held ≡ put before to (Ints [])
  pub enough : count ≤ length taken

-- what a call makes of one vector
abbrev pub made_by : Change → List ℤ → List ℤ
made_by (changes.Alter op) xs = map (alter_z op) xs
made_by (changes.Scan op) xs = scanned (combine_z op) (unit_z op) xs

-- the work of such a call
abbrev pub work_by : Change → Operand → Result Effect Fault
work_by (changes.Alter op) a = map_one integers integers (alter_z op) a
work_by (changes.Scan op) a = scan integers (combine_z op) (unit_z op) a
