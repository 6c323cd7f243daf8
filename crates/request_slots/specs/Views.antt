-- What a seat knows, and how each step changes it: the words of the contracts of the steps.
-- `Known` is a `Standing`, what another caller has told, and the pass of the caller that has the desk; what a function does not name
-- stays as it was. What steps do to a standing is in `Changes`.
use Rattle.std.specs.Prelude.{◌≡◌, ◌≢◌, ℕ, ◌+◌, ◌≤◌, List, [], length, Option, Some, None, vec_capacity}
use Rattle.call_history.specs.declared.entry.Entry.{Entry}
use Rattle.call_history.specs.declared.request.Outcome.{Outcome}
use Rattle.call_history.specs.History.{Begins}
use Rattle.call_history.specs.Callers.{calls_by}
use Rattle.request_slots.specs.declared.desk.Desk.{Desk}
use Rattle.request_slots.specs.declared.known.Pass.{Pass}
use Rattle.request_slots.specs.declared.known.Known.{Known}
use Rattle.request_slots.specs.declared.known.View.{View}
use Rattle.request_slots.specs.declared.known.View.TheVariants.{Maker, Newcomer, Caller, Bare, Spent}
use Rattle.request_slots.specs.Passes.{is_in, fresh_pass, commits}
use Rattle.request_slots.specs.Standing.{Standing, nowhere, boundless, newcomer}
use Rattle.request_slots.specs.Changes.{longer, seeing, holding, noting, entering, settling}

-- a caller that stands so was told nothing, and does not have the desk
abbrev pub untold : Standing → Known
untold c = record { standing = c; told = []; pass = None }

-- the caller stands so, and nothing else changes
abbrev pub with_standing : Known → Standing → Known
with_standing c d = record c { standing = d }

-- what the seat of a caller knows; of another seat this says nothing
abbrev pub known_of : View → Known
known_of (Caller c) = c
known_of (Maker bounds k) = untold (newcomer nowhere boundless 0)
known_of (Newcomer bounds k) = untold (newcomer nowhere boundless 0)
known_of (Bare seen) = untold (newcomer nowhere boundless 0)
known_of Spent = untold (newcomer nowhere boundless 0)

-- what a bare view has seen; of another view this says nothing
abbrev pub seen_in : View → List Entry
seen_in (Bare seen) = seen
seen_in (Maker bounds k) = []
seen_in (Newcomer bounds k) = []
seen_in (Caller c) = []
seen_in Spent = []

abbrev pub pass_or : Option Pass → Pass
pass_or (Some p) = p
pass_or None = fresh_pass []

-- the pass of the caller that has the desk; of another caller this says nothing
abbrev pub pass_in : Known → Pass
pass_in c = pass_or c.pass

abbrev pub HasDesk : Known → Type 0
HasDesk c = c.pass ≡ Some (pass_in c)

-- it takes the desk, with this line
abbrev pub locking : Known → List Entry → Known
locking c line = record c { standing = holding c.standing; pass = Some (fresh_pass line) }

-- its pass goes on
abbrev pub passing : Known → Pass → Known
passing c p = record c { pass = Some p }

-- it commits
abbrev pub committing : Known → Pass → List Entry → List Outcome → Known
committing c p line outcomes = record c { standing = noting c.standing (length p.taken); pass = Some (commits p line outcomes) }

-- it enters calls of its own, and this is the line then
abbrev pub entering_line : Known → List Entry → Known
entering_line c line = record c { standing = entering c.standing line; pass = Some (fresh_pass line) }

-- it gives the desk back
abbrev pub unlocking : Known → Pass → Known
unlocking c p = record c { standing = settling c.standing p.line (is_in p.tried c.standing.number); pass = None }

-- it is told what another has seen
abbrev pub informed : Known → List Entry → Known
informed c line = record c { told = line }

-- it sees the longer of what it had seen and what it was told
abbrev pub adopting : Known → Known
adopting c = with_standing c (seeing c.standing (longer c.standing.seen c.told))

-- a desk whose vectors are empty, with space for the callers of a table of so many slots
pub record IsSpare (slots : ℕ) (d : Desk) : Type 0 where
  pub no_requests : d.requests.items ≡ []
  pub no_outcomes : d.outcomes.items ≡ []
  pub request_spaces : slots ≤ vec_capacity d.requests + 1
  pub outcome_spaces : slots ≤ vec_capacity d.outcomes + 1

-- the line goes on with calls of this caller alone
pub record IsEntered (k : ℕ) (line line' : List Entry) : Type 0 where
  pub grows : Begins line line'
  pub others : (i : ℕ) → i ≢ k → calls_by i line' ≡ calls_by i line

-- the maker goes on to the next caller
abbrev pub next_maker : View → View
next_maker (Maker bounds k) = Maker bounds (k + 1)
next_maker (Newcomer bounds k) = Spent
next_maker (Caller c) = Spent
next_maker (Bare seen) = Spent
next_maker Spent = Spent

-- the caller that the maker gives a seat
abbrev pub next_caller : View → View
next_caller (Maker bounds k) = Newcomer bounds k
next_caller (Newcomer bounds k) = Spent
next_caller (Caller c) = Spent
next_caller (Bare seen) = Spent
next_caller Spent = Spent

-- what a caller has seen, for another
abbrev pub bare_view : View → View
bare_view v = Bare (known_of v).standing.seen

abbrev pub sees_also : View → View → View
sees_also v w = Caller (informed (known_of v) (seen_in w))
