-- The third clause of the rule: the lock word names exactly the seat that has the desk.
-- `LockHolds` says what word and slot of the desk are, `HolderSits`, `SitApart` and `MadeSit` that one seat alone is the holder's, and
-- that each caller has one.
use Rattle.std.specs.Global.{Box}
use Rattle.std.specs.Prelude.{◌≡◌, ℕ, ◌+◌, ◌<◌, ◌≤◌, true, false, List, [], Option, Some, None, vec_capacity}
use mathlib.Core.Option.{some}
use Rattle.vector_memory.specs.declared.bounds.Bounds.{Bounds}
use lib.ListN.{get_elem?}
use Rattle.call_history.specs.declared.entry.Entry.{Entry}
use Rattle.call_history.specs.History.{Begins}
use Rattle.call_history.specs.Fits.{request_by}
use Rattle.request_slots.specs.declared.desk.Desk.{Desk}
use Rattle.request_slots.specs.declared.desk.Slot.TheVariants.{Kept}
use Rattle.request_slots.specs.declared.known.Pass.{Pass}
use Rattle.request_slots.specs.declared.known.Known.{Known}
use Rattle.request_slots.specs.declared.known.View.{View}
use Rattle.request_slots.specs.declared.known.View.TheVariants.{Maker, Newcomer, Caller, Bare, Spent}
use Rattle.request_slots.specs.Stages.{Station, Home, at_home, is_out}
use Rattle.request_slots.specs.Passes.{Lock, free, held_by, is_in}

-- a desk at home has the book of the line, and empty vectors with space for each caller
pub record DeskRests (bounds : Bounds) (n : ℕ) (line : List Entry) (d : Desk) : Type 0 where
  pub bounds_is : d.book.bounds ≡ bounds
  pub history_is : d.book.history ≡ line
  pub no_requests : d.requests.items ≡ []
  pub no_outcomes : d.outcomes.items ≡ []
  pub request_spaces : n ≤ vec_capacity d.requests
  pub outcome_spaces : n ≤ vec_capacity d.outcomes

-- a pass has the line. Before its commit that is the line as it was, and after it every word was tried
pub record PassHolds (n : ℕ) (line : List Entry) (p : Pass) : Type 0 where
  pub line_is : p.line ≡ line
  pub before_is : p.committed ≡ false → p.before ≡ line
  pub grows : Begins p.before line
  pub all_tried : p.committed ≡ true → (k : ℕ) → k < n → is_in p.tried k ≡ true
  pub of_callers : (k : ℕ) → n ≤ k → request_by k p.taken ≡ None

-- nobody has the desk, and it is at home
pub record FreeHolds (bounds : Bounds) (n : ℕ) (line : List Entry) (word : ℕ) (home : Home) : Type 0 where
  pub word_is : word ≡ 0
  pub desk : Box Desk
  pub home_is : home ≡ at_home (Kept desk)
  pub rests : DeskRests bounds n line desk.value

-- caller h has the desk, and it is out
pub record HeldHolds (n : ℕ) (line : List Entry) (word : ℕ) (home : Home) (h : ℕ) (p : Pass) : Type 0 where
  pub word_is : word ≡ h + 1
  pub inside : h < n
  pub home_is : home ≡ is_out
  pub pass : PassHolds n line p

abbrev pub LockHolds : Bounds → ℕ → List Entry → ℕ → Home → Lock → Type 0
LockHolds bounds n line word home free = FreeHolds bounds n line word home
LockHolds bounds n line word home (held_by h p) = HeldHolds n line word home h p

-- the caller that the lock names has a seat, which has the pass
abbrev pub HolderSits : List View → (ℕ → Station) → Lock → Type 0
HolderSits views station free = Unit {0}
HolderSits views station (held_by h p) =
    (c : Known) × (get_elem? views (station h).seat ≡ some (Caller c)) × (c.standing.number ≡ h) × (c.pass ≡ Some p)

-- the caller that a view is of
abbrev pub sitter_of : View → Option ℕ
sitter_of (Maker bounds k) = None
sitter_of (Newcomer bounds k) = Some k
sitter_of (Caller c) = Some c.standing.number
sitter_of (Bare seen) = None
sitter_of Spent = None

-- no two views are of one caller
abbrev pub SitApart : List View → Type 0
SitApart views = (i j k : ℕ) (v w : View) → get_elem? views i ≡ some v → get_elem? views j ≡ some w
    → sitter_of v ≡ Some k → sitter_of w ≡ Some k → i ≡ j

-- each caller that was made has a view, which stands where its station says
abbrev pub MadeSit : List View → (ℕ → Station) → ℕ → Type 0
MadeSit views station made = (k : ℕ) → k < made → (v : View) × (get_elem? views (station k).seat ≡ some v) × (sitter_of v ≡ Some k)
