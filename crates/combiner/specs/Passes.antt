-- A pass: each word is tried, what was taken is run, and after the commit each caller is told.
-- `Taking` is a pass up to the last try, `IsReadyDesk` its desk then, `IsBatch` what may be run in it, `Telling` a pass behind its commit,
-- and `HasPassed` what a whole pass comes to.
use Rattle.std.specs.Prelude.{◌≡◌, ℕ, ◌<◌, ◌≤◌, true, false, List, [], ◌++◌, length, map, take, None, vec_capacity}
use Rattle.std.specs.List.{AllByRecursion}
use Rattle.call_history.specs.declared.entry.Entry.{Entry}
use Rattle.call_history.specs.declared.request.Request.{Request}
use Rattle.call_history.specs.declared.request.Outcome.{Outcome}
use Rattle.call_history.specs.History.{Begins}
use Rattle.call_history.specs.Callers.{caller_limit}
use Rattle.call_history.specs.Fits.{IsLawfulJob, request_by}
use Rattle.request_slots.specs.declared.desk.Desk.{Desk}
use Rattle.request_slots.specs.declared.known.Known.{Known}
use Rattle.request_slots.specs.Passes.{is_in}
use Rattle.request_slots.specs.Changes.{serving}
use Rattle.request_slots.specs.Views.{pass_in, passing, HasDesk}
use Rattle.request_slots.specs.Seating.{IsDistinct}

abbrev pub asker : Request → ℕ
asker r = r.caller

-- the words below i were tried, and these requests were taken, of the callers with these numbers
pub record Taking (before now : Known) (i : ℕ) (requests : List Request) (numbers : List ℕ) : Type 0 where
  pub has : HasDesk now
  pub now_is : now ≡ passing before (pass_in now)
  pub line_is : (pass_in now).line ≡ (pass_in before).line
  pub open_yet : (pass_in now).committed ≡ false
  pub tried : (k : ℕ) → k < i → is_in (pass_in now).tried k ≡ true
  pub untried : (k : ℕ) → i ≤ k → is_in (pass_in now).tried k ≡ false
  pub untaken : (k : ℕ) → i ≤ k → request_by k (pass_in now).taken ≡ None
  pub distinct : IsDistinct (pass_in now).taken
  pub jobs : AllByRecursion (λ r. IsLawfulJob r.job) (pass_in now).taken
  pub requests_are : requests ≡ (pass_in now).taken
  pub few : length requests ≤ i
  pub numbered : take (length requests) numbers ≡ map asker requests

-- A caller that has the desk has tried all words: the requests taken lie there, with space for their outcomes, beside the book of the
-- line.
pub record IsReadyDesk (callers : ℕ) (c : Known) (numbers : List ℕ) (d : Desk) : Type 0 where
  pub taken : Taking c c callers d.requests.items numbers
  pub inside : c.standing.number < callers
  pub held : c.standing.held ≡ true
  pub begins : Begins c.standing.seen d.book.history
  pub line_is : d.book.history ≡ (pass_in c).line
  pub bounds_is : d.book.bounds ≡ c.standing.bounds
  pub no_outcomes : d.outcomes.items ≡ []
  pub request_spaces : callers ≤ vec_capacity d.requests
  pub outcome_spaces : callers ≤ vec_capacity d.outcomes

-- requests of distinct callers, of so many, for jobs that may be asked for
pub record IsBatch (callers : ℕ) (requests : List Request) : Type 0 where
  pub distinct : IsDistinct requests
  pub inside : AllByRecursion (λ r. r.caller < callers) requests
  pub lawful : AllByRecursion (λ r. r.caller < caller_limit) requests
  pub jobs : AllByRecursion (λ r. IsLawfulJob r.job) requests

-- the outcomes that are left are those of the requests that are left, of all that the commit had
pub record Telling (callers : ℕ) (before now : Known) (outcomes : List Outcome) (numbers : List ℕ) (count : ℕ) : Type 0 where
  pub has : HasDesk now
  pub now_is : now ≡ passing before (pass_in now)
  pub line_is : (pass_in now).line ≡ (pass_in before).line
  pub tried_is : (pass_in now).tried ≡ (pass_in before).tried
  pub committed : (pass_in now).committed ≡ true
  pub asked_later : List Request
  pub told_later : List Outcome
  pub asked_is : (pass_in now).asked ≡ (pass_in now).taken ++ asked_later
  pub outcomes_are : (pass_in now).outcomes ≡ outcomes ++ told_later
  pub untaken : (k : ℕ) → callers ≤ k → request_by k (pass_in now).taken ≡ None
  pub distinct : IsDistinct (pass_in now).taken
  pub paired : length outcomes ≡ length (pass_in now).taken
  pub numbered : take count numbers ≡ map asker (pass_in now).taken
  pub counted : count ≡ length (pass_in now).taken

-- a caller that served so many calls in a pass has seen this line, and what it left has an outcome
abbrev pub past : Known → List Entry → ℕ → Known
past c line count = record c { standing = serving c.standing line count; pass = None }

abbrev pub HasPassed : Known → Known → ℕ → Type 0
HasPassed before now count = (line : List Entry) × Begins before.standing.seen line × (now ≡ past before line count)
