-- Steps and blocks: a step takes one change at most of the block that it runs in (`left-stepped`), keeps what that block began with
-- (`in-stepped`), and begins and ends none (`outside-stepped`; `put_outside` to `steps_outside` say so of what a change led to).
-- Apart from that it does in a block what it does outside (`blind-memory`, `blind-answer`). Room and limit stay (`room-stepped`,
-- `limit-stepped`).
use Rattle.std.proofs.Common.{◌≡◌, ◌+◌, ◌≤◌, ◌<◌, Bool, true, false, List, [], ◌∷◌, Option, None, Some, Result, Ok, Err, refl, sym, ap, ◌∙◌, subst, arith}
use Rattle.std.specs.Prelude.{IfSome, is_some}
use Rattle.std.specs.Option.{option_map_or}
use Rattle.vector_memory.specs.declared.name.Name.{Name}
use Rattle.vector_memory.specs.declared.memory.StoreFault.{StoreFault}
use Rattle.vector_memory.specs.declared.memory.StoreFault.TheVariants as refusals
use Rattle.vector_memory.specs.Contents.{Content}
use Rattle.vector_memory.specs.States.{State, Began, MayChange, changes_left, ended, put, refusal, spent, value_at, without}
use Rattle.cvl_text.specs.declared.fault.Fault.{Fault}
use Rattle.cvl_text.specs.Answers.{Answer}
use Rattle.cvl_text.specs.Tasks.{Argument, Task, Vector, Number, Truth, Numbers, Truths, target}
use Rattle.cvl_calls.specs.Outcomes.{Operand, Effect, Stores, Frees, Answers, operand_of, operands_of}
use Rattle.cvl_calls.specs.Steps.{Stepped, applied, followed, refused, stepped, work_on}
use Rattle.cvl_calls.specs.Work.{work}

-- outside a block a memory may change
pub outside_may_change : (m : State) → m.block ≡ None → MayChange m
outside_may_change m outside = subst (λ (o : Option Began). IfSome o (λ b. 0 < b.left)) (sym outside) tt

-- the block behind a step is the one before it, after a change or after none
abbrev Spends : State → State → Type 0
Spends m after = (changed : Bool) × (after.block ≡ spent changed m.block)

unspent : (o : Option Began) → o ≡ spent false o
unspent None = refl
unspent (Some b) = refl

stays : (m : State) → Spends m m
stays m = (false, unspent m.block)

spends-refused : (m : State) (why : Option StoreFault) (n : Name) (v : Content) → Spends m (refused m why (put m n v)).memory
spends-refused m None n v = (true, refl)
spends-refused m (Some refusals.NoRoom) n v = stays m
spends-refused m (Some refusals.TooManyNames) n v = stays m
spends-refused m (Some refusals.OutOfMemory) n v = stays m

spends-applied : (m : State) (to : Option Name) (effect : Effect) → Spends m (applied m to effect).memory
spends-applied m None (Answers a) = stays m
spends-applied m (Some n) (Answers a) = stays m
spends-applied m (Some n) (Stores v) = spends-refused m (refusal m n v) n v
spends-applied m None (Stores v) = stays m
spends-applied m (Some n) Frees = (is_some (value_at m n), refl)
spends-applied m None Frees = stays m

spends-followed : (m : State) (to : Option Name) (r : Result Effect Fault) → Spends m (followed m to r).memory
spends-followed m to (Ok effect) = spends-applied m to effect
spends-followed m to (Err fault) = stays m

spends-stepped : (m : State) (t : Task) → Spends m (stepped m t).memory
spends-stepped m t = spends-followed m (target t) (work_on m t)

-- a step outside a block stays outside
pub outside-stepped : (m : State) (t : Task) → m.block ≡ None → (stepped m t).memory.block ≡ None
outside-stepped m t outside = let s = spends-stepped m t in s.1 ∙ ap (spent s.0) outside

spends_outside : (m next after : State) → Spends m next → next ≡ after → m.block ≡ None → after.block ≡ None
spends_outside m next after s is outside = ap (λ (x : State). x.block) (sym is) ∙ s.1 ∙ ap (spent s.0) outside

-- what a change led to outside a block is outside too
pub put_outside : (m after : State) (n : Name) (v : Content) → after ≡ put m n v → m.block ≡ None → after.block ≡ None
put_outside m after n v is outside = spends_outside m (put m n v) after (true, refl) (sym is) outside

pub without_outside : (m after : State) (n : Name) → after ≡ without m n → m.block ≡ None → after.block ≡ None
without_outside m after n is outside = spends_outside m (without m n) after (is_some (value_at m n), refl) (sym is) outside

pub applies_outside : (m after : State) (to : Option Name) (effect : Effect) (a : Answer) → applied m to effect ≡ record { memory = after; answer = a } → m.block ≡ None → after.block ≡ None
applies_outside m after to effect a is outside = spends_outside m (applied m to effect).memory after (spends-applied m to effect) (ap (λ (s : Stepped). s.memory) is) outside

pub steps_outside : (m after : State) (t : Task) (a : Answer) → stepped m t ≡ record { memory = after; answer = a } → m.block ≡ None → after.block ≡ None
steps_outside m after t a is outside = spends_outside m (stepped m t).memory after (spends-stepped m t) (ap (λ (s : Stepped). s.memory) is) outside

left-spent : (changed : Bool) (o : Option Began) → option_map_or (λ (b : Began). b.left) o 0 ≤ option_map_or (λ (b : Began). b.left) (spent changed o) 0 + 1
left-spent changed None = omega arith
left-spent true (Some b) = omega arith
left-spent false (Some b) = omega arith

-- a step takes one change at most
pub left-stepped : (m : State) (t : Task) → changes_left m ≤ changes_left (stepped m t).memory + 1
left-stepped m t =
    let s = spends-stepped m t in
    subst (λ (o : Option Began). changes_left m ≤ option_map_or (λ (b : Began). b.left) o 0 + 1) (sym s.1) (left-spent s.0 m.block)

-- the block b, perhaps with fewer changes left
abbrev pub IsIn : State → Began → Type 0
IsIn m b = (now : Began) × (m.block ≡ Some now) × (now.entries ≡ b.entries)

-- a step in a block stays in it
pub in-stepped : (m : State) (t : Task) (b : Began) → m.block ≡ Some b → IsIn (stepped m t).memory b
in-stepped m t b inside = let s = spends-stepped m t in (_, s.1 ∙ ap (spent s.0) inside, refl)

-- what a store and a freed name leave as it is, a step does too
module _ {X : Type 0} (part : State → X) (put-keeps : (m : State) (n : Name) (v : Content) → part (put m n v) ≡ part m) (without-keeps : (m : State) (n : Name) → part (without m n) ≡ part m) where
  refused-keeps : (m stored : State) (why : Option StoreFault) → part stored ≡ part m → part (refused m why stored).memory ≡ part m
  refused-keeps m stored None same = same
  refused-keeps m stored (Some refusals.NoRoom) same = refl
  refused-keeps m stored (Some refusals.TooManyNames) same = refl
  refused-keeps m stored (Some refusals.OutOfMemory) same = refl

  applied-keeps : (m : State) (to : Option Name) (effect : Effect) → part (applied m to effect).memory ≡ part m
  applied-keeps m None (Answers a) = refl
  applied-keeps m (Some n) (Answers a) = refl
  applied-keeps m (Some n) (Stores v) = refused-keeps m (put m n v) (refusal m n v) (put-keeps m n v)
  applied-keeps m None (Stores v) = refl
  applied-keeps m (Some n) Frees = without-keeps m n
  applied-keeps m None Frees = refl

  followed-keeps : (m : State) (to : Option Name) (worked : Result Effect Fault) → part (followed m to worked).memory ≡ part m
  followed-keeps m to (Ok effect) = applied-keeps m to effect
  followed-keeps m to (Err fault) = refl

  pub stepped-keeps : (m : State) (t : Task) → part (stepped m t).memory ≡ part m
  stepped-keeps m t = followed-keeps m (target t) (work_on m t)

pub room-stepped : (m : State) (t : Task) → (stepped m t).memory.room ≡ m.room
room-stepped = stepped-keeps (λ m. m.room) (λ m n v. refl) (λ m n. refl)

pub limit-stepped : (m : State) (t : Task) → (stepped m t).memory.limit ≡ m.limit
limit-stepped = stepped-keeps (λ m. m.limit) (λ m n v. refl) (λ m n. refl)

-- what a step makes and what it answers are the same without the block
record Blind (in_block outside : Stepped) : Type 0 where
  pub memory : ended in_block.memory ≡ outside.memory
  pub answer : in_block.answer ≡ outside.answer

blind-refused : (m : State) (why : Option StoreFault) (n : Name) (v : Content) → Blind (refused m why (put m n v)) (refused (ended m) why (put (ended m) n v))
blind-refused m None n v = record { memory = refl; answer = refl }
blind-refused m (Some refusals.NoRoom) n v = record { memory = refl; answer = refl }
blind-refused m (Some refusals.TooManyNames) n v = record { memory = refl; answer = refl }
blind-refused m (Some refusals.OutOfMemory) n v = record { memory = refl; answer = refl }

blind-applied : (m : State) (to : Option Name) (effect : Effect) → Blind (applied m to effect) (applied (ended m) to effect)
blind-applied m None (Answers a) = record { memory = refl; answer = refl }
blind-applied m (Some n) (Answers a) = record { memory = refl; answer = refl }
blind-applied m (Some n) (Stores v) = blind-refused m (refusal m n v) n v
blind-applied m None (Stores v) = record { memory = refl; answer = refl }
blind-applied m (Some n) Frees = record { memory = refl; answer = refl }
blind-applied m None Frees = record { memory = refl; answer = refl }

blind-followed : (m : State) (to : Option Name) (r : Result Effect Fault) → Blind (followed m to r) (followed (ended m) to r)
blind-followed m to (Ok effect) = blind-applied m to effect
blind-followed m to (Err fault) = record { memory = refl; answer = refl }

blind-operand : (m : State) (argument : Argument) → operand_of m argument ≡ operand_of (ended m) argument
blind-operand m (Vector n) = refl
blind-operand m (Number x) = refl
blind-operand m (Truth b) = refl
blind-operand m (Numbers xs) = refl
blind-operand m (Truths bs) = refl

blind-operands : (m : State) (arguments : List Argument) → operands_of m arguments ≡ operands_of (ended m) arguments
blind-operands m [] = refl
blind-operands m (a ∷ rest) = ap (λ (o : Operand). o ∷ operands_of m rest) (blind-operand m a) ∙ ap (λ (os : List Operand). operand_of (ended m) a ∷ os) (blind-operands m rest)

-- a call makes the same of the values in a block and outside
pub blind-work : (m : State) (t : Task) → work_on m t ≡ work_on (ended m) t
blind-work m t = ap (work m.limit t.word) (blind-operands m t.arguments)

blind-stepped : (m : State) (t : Task) → Blind (stepped m t) (stepped (ended m) t)
blind-stepped m t = subst (λ (r : Result Effect Fault). Blind (stepped m t) (followed (ended m) (target t) r)) (blind-work m t) (blind-followed m (target t) (work_on m t))

pub blind-memory : (m : State) (t : Task) → ended (stepped m t).memory ≡ (stepped (ended m) t).memory
blind-memory m t = (blind-stepped m t).memory

pub blind-answer : (m : State) (t : Task) → (stepped m t).answer ≡ (stepped (ended m) t).answer
blind-answer m t = (blind-stepped m t).answer
