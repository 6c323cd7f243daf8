-- What closing a port comes to.
use Rattle.std.specs.Prelude.{◌≡◌, length}
use Rattle.call_history.specs.declared.book.Book.{Book}
use Rattle.call_history.specs.Blocks.{Whole}
use Rattle.call_history.specs.History.{Begins}
use Rattle.combiner.specs.Standing.{Standing, IsIdle, IsOfCallers, callers_of}
use Rattle.combiner.specs.Says.{HasOwnCalls}
use Rattle.cvl_port.specs.declared.closing.Closing.{Closing}
use Rattle.cvl_port.specs.declared.closing.Closing.TheVariants as closing

-- The book of the machine: its history begins with all that the closer had seen, has the closer's answered calls, and what it left if
-- that was served, has no calls but of the machine's callers, and cuts no block. With one caller, which is idle, it has its answered
-- calls and no others.
pub record IsBookOf (c : Standing) (book : Book) : Type 0 where
  pub bounds_is : book.bounds ≡ c.bounds
  pub begins : Begins c.seen book.history
  pub own : HasOwnCalls c book.history
  pub no_strangers : IsOfCallers (callers_of c.machine) book.history
  pub whole : Whole book.history
  pub alone : callers_of c.machine ≡ 1 → IsIdle c → length book.history ≡ length c.own

abbrev pub IfClosed : Closing → (Book → Type 0) → Type 0
IfClosed closing.OthersOpen fact = Unit {0}
IfClosed closing.Unfinished fact = Unit {0}
IfClosed (closing.Closed book) fact = fact book

abbrev pub OnUnfinished : Closing → Type 0 → Type 0
OnUnfinished closing.OthersOpen fact = Unit {0}
OnUnfinished closing.Unfinished fact = fact
OnUnfinished (closing.Closed book) fact = Unit {0}
