-- One more call of a block: what it leaves for those behind it (`leads-on`, `answers-on`, `counts-on`), and that the block goes on
-- (`undone-stepped`, `in_block-stepped`).
use Rattle.std.proofs.Common.{◌≡◌, ℕ, suc, ◌+◌, ◌<◌, Bool, true, false, cond, ◌&&◌, List, [], ◌∷◌, ◌++◌, drop, length, get_or, Option, None, Some, Ok, refl, sym, ap, ◌∙◌, append_assoc, add-one}
use Rattle.std.specs.Prelude.{is_some, is_ok}
use Rattle.std.proofs.Math.Seq.{drop-cons}
use Rattle.scan_kernels.specs.Metering.{Metered, raised}
use Rattle.vector_memory.specs.States.{State, Began, ended, undone}
use Rattle.cvl_text.specs.declared.call.Call.{Call}
use Rattle.cvl_text.specs.Tasks.{task_of}
use Rattle.cvl_text.specs.Answers.{Answer}
use Rattle.cvl_calls.specs.Runs.{runs_kernel}
use Rattle.cvl_calls.specs.Steps.{CountsStep, Stepped, runs_on, stepped}
use Rattle.cvl_calls.proofs.BlockSteps.{blind-answer, blind-memory, blind-work, in-stepped, limit-stepped, room-stepped}
use Rattle.call_history.specs.Blocks.{after, metered, replies_to}

-- the item at a place, and those behind it
pub drop-item : {A : Type 0} (xs : List A) (i : ℕ) (x : A) → i < length xs → x ≡ get_or xs i x → drop i xs ≡ x ∷ drop (i + 1) xs
drop-item xs i x within is = drop-cons xs i x within ∙ ap (λ y. y ∷ drop (suc i) xs) (sym is) ∙ ap (λ n. x ∷ drop n xs) (sym (add-one i))

module _ (m next : State) (c : Call) (a : Answer) (rest : List Call) (is : stepped m (task_of c) ≡ record { memory = next; answer = a }) where
  follows : ended next ≡ (stepped (ended m) (task_of c)).memory
  follows = ap (λ (s : Stepped). ended s.memory) (sym is) ∙ blind-memory m (task_of c)

  pub leads-on : after (ended next) rest ≡ after (ended m) (c ∷ rest)
  leads-on = ap (λ (s : State). after s rest) follows

  pub answers-on : (done : List Answer) → (done ++ a ∷ []) ++ replies_to (ended next) rest ≡ done ++ replies_to (ended m) (c ∷ rest)
  answers-on done =
      append_assoc done (a ∷ []) (replies_to (ended next) rest)
      ∙ ap (λ (x : Answer). done ++ x ∷ replies_to (ended next) rest) (ap (λ (s : Stepped). s.answer) (sym is) ∙ blind-answer m (task_of c))
      ∙ ap (λ (s : State). done ++ (stepped (ended m) (task_of c)).answer ∷ replies_to s rest) follows

  pub counts-on : (E : Type 0) {X : Type 0} (x : X) (old new : Metered) → CountsStep {E = E} (runs_on m (task_of c)) (Ok x) old new → metered (ended next) rest new ≡ metered (ended m) (c ∷ rest) old
  counts-on E x old new counted =
      ap (λ (s : State). metered s rest new) follows
      ∙ ap (metered (stepped (ended m) (task_of c)).memory rest) (by (runs_on m (task_of c)) counted ∙ ap (λ b. cond b (raised old) old) (ap (λ r. runs_kernel (task_of c).word && is_ok r) (blind-work m (task_of c))))
    where
      by : (b : Bool) → CountsStep {E = E} b (Ok x) old new → new ≡ cond b (raised old) old
      by true counted = counted
      by false counted = counted

  pub in_block-stepped : is_some m.block ≡ true → is_some next.block ≡ true
  in_block-stepped inside = ap (λ (s : Stepped). is_some s.memory.block) (sym is) ∙ by m.block refl inside
    where
      by : (o : Option Began) → m.block ≡ o → is_some o ≡ true → is_some (stepped m (task_of c)).memory.block ≡ true
      by None was there = absurd (let no : false ≡ true = there in cc)
      by (Some b) was there = ap is_some (in-stepped m (task_of c) b was).1

  pub undone-stepped : is_some m.block ≡ true → undone next ≡ undone m
  undone-stepped inside = ap (λ (s : Stepped). undone s.memory) (sym is) ∙ by m.block refl inside
    where
      undone-in : (s : State) (b : Began) → s.block ≡ Some b → undone s ≡ record { entries = b.entries; room = s.room; limit = s.limit; block = None }
      undone-in s b e = ap (λ (o : Option Began). undone (record { entries = s.entries; room = s.room; limit = s.limit; block = o })) e

      by : (o : Option Began) → m.block ≡ o → is_some o ≡ true → undone (stepped m (task_of c)).memory ≡ undone m
      by None was there = absurd (let no : false ≡ true = there in cc)
      by (Some b) was there =
          let i = in-stepped m (task_of c) b was in
          undone-in (stepped m (task_of c)).memory i.0 i.1
          ∙ ap (λ es. record { entries = es; room = (stepped m (task_of c)).memory.room; limit = (stepped m (task_of c)).memory.limit; block = None }) i.2
          ∙ ap (λ (n : ℕ). record { entries = b.entries; room = n; limit = (stepped m (task_of c)).memory.limit; block = None }) (room-stepped m (task_of c))
          ∙ ap (λ (n : ℕ). record { entries = b.entries; room = m.room; limit = n; block = None }) (limit-stepped m (task_of c))
          ∙ sym (undone-in m b was)
