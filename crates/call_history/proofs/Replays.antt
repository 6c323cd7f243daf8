-- A replay goes call by call, and keeps the bounds.
use Rattle.std.proofs.Common.{◌≡◌, suc, length, slice_get, List, [], ◌∷◌, ◌++◌, Option, Some, None, refl, sym, ap, ◌∙◌}
use Rattle.vector_memory.specs.declared.name.Name.{Name}
use Rattle.vector_memory.specs.Contents.{Content}
use Rattle.vector_memory.specs.States.{State, bounds_of, empty, put, without}
use Rattle.cvl_text.specs.Tasks.{Task, task_of}
use Rattle.cvl_calls.specs.Steps.{stepped}
use Rattle.cvl_calls.proofs.BlockSteps.{stepped-keeps}
use Rattle.call_history.specs.declared.entry.Entry.{Entry}
use Rattle.std.specs.List.{last_or}
use Rattle.vector_memory.specs.declared.bounds.Bounds.{Bounds}
use Rattle.cvl_text.specs.Answers.{Answer}
use Rattle.call_history.specs.History.{replay_from, replay, replies_from, last_reply, reply_after}

pub replay_from-append : (m : State) (xs ys : List Entry) → replay_from m (xs ++ ys) ≡ replay_from (replay_from m xs) ys
replay_from-append m [] ys = refl
replay_from-append m (x ∷ xs) ys = replay_from-append (stepped m (task_of x.call)).memory xs ys

-- what a store and a freed name leave as it is, a replay does too
module _ {X : Type 0} (part : State → X) (put-keeps : (m : State) (n : Name) (v : Content) → part (put m n v) ≡ part m) (without-keeps : (m : State) (n : Name) → part (without m n) ≡ part m) where
  replay_from-keeps : (m : State) (history : List Entry) → part (replay_from m history) ≡ part m
  replay_from-keeps m [] = refl
  replay_from-keeps m (e ∷ es) = replay_from-keeps (stepped m (task_of e.call)).memory es ∙ stepped-keeps part put-keeps without-keeps m (task_of e.call)

pub bounds-replay_from : (m : State) (history : List Entry) → bounds_of (replay_from m history) ≡ bounds_of m
bounds-replay_from = replay_from-keeps bounds_of (λ m n v. refl) (λ m n. refl)

pub bounds-stepped : (m : State) (t : Task) → bounds_of (stepped m t).memory ≡ bounds_of m
bounds-stepped = stepped-keeps bounds_of (λ m n v. refl) (λ m n. refl)

-- a step from the memory that a history leads to is the next of its replay
pub replay-push : (m next : State) (history : List Entry) (e : Entry) → m ≡ replay (bounds_of m) history → (stepped m (task_of e.call)).memory ≡ next → next ≡ replay (bounds_of next) (history ++ e ∷ [])
replay-push m next history e known steps =
    let same : bounds_of next ≡ bounds_of m = ap bounds_of (sym steps) ∙ bounds-stepped m (task_of e.call) in
    sym steps ∙ (ap (λ s. (stepped s (task_of e.call)).memory) (known ∙ ap (λ (bounds : Bounds). replay bounds history) (sym same))
    ∙ sym (replay_from-append (empty (bounds_of next)) history (e ∷ [])))

pub replies_from-append : (m : State) (xs ys : List Entry) → replies_from m (xs ++ ys) ≡ replies_from m xs ++ replies_from (replay_from m xs) ys
replies_from-append m [] ys = refl
replies_from-append m (x ∷ xs) ys = ap (λ l. (stepped m (task_of x.call)).answer ∷ l) (replies_from-append (stepped m (task_of x.call)).memory xs ys)

pub length-replies_from : (m : State) (history : List Entry) → length (replies_from m history) ≡ length history
length-replies_from m [] = refl
length-replies_from m (e ∷ es) = ap suc (length-replies_from (stepped m (task_of e.call)).memory es)

last_or-snoc : (o : Option Answer) (xs : List Answer) (x : Answer) → last_or o (xs ++ x ∷ []) ≡ Some x
last_or-snoc o [] x = refl
last_or-snoc o (y ∷ ys) x = last_or-snoc (Some y) ys x

pub last_reply-push : (bounds : Bounds) (history : List Entry) (e : Entry) → last_reply bounds (history ++ e ∷ []) ≡ Some (reply_after bounds history e.call)
last_reply-push bounds history e = ap (last_or None) (replies_from-append (empty bounds) history (e ∷ [])) ∙ last_or-snoc None (replies_from (empty bounds) history) (reply_after bounds history e.call)

-- the reply at each place is the one behind the history before it
pub reply-at_place : (m : State) (before after : List Entry) (e : Entry)
    → slice_get (replies_from m (before ++ e ∷ after)) (length before) ≡ Some (stepped (replay_from m before) (task_of e.call)).answer
reply-at_place m [] after e = refl
reply-at_place m (x ∷ before) after e = reply-at_place (stepped m (task_of x.call)).memory before after e
