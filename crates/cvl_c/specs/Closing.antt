-- What closing a caller comes to.
use Rattle.std.specs.Prelude.{◌≡◌, ℤ, pos, negsuc, ◌<◌, ◌==◌, true, false, length, MatchBool}
use Rattle.call_history.specs.declared.book.Book.{Book}
use Rattle.combiner.specs.Standing.{Standing, callers_of}
use Rattle.combiner.specs.Says.{FindsAnother}
use Rattle.cvl_port.specs.Closings.{IsBookOf}
use Rattle.cvl_c.specs.declared.closing.Closed.{Closed}

-- the length of the machine's history, and whether it was audited
abbrev pub TellsBook : Closed → Standing → Type 0
TellsBook s c = (book : Book) × IsBookOf c book × (s.history ≡ length book.history)

-- 0: it was the last, the history has this length, and done again it gave the memory. 1: others are open. 2: it was the last, and the
-- book was not given back. Below 0: it was the last, and for want of memory the history was not done again.
abbrev pub Closes : ℤ → Closed → Standing → Type 0
Closes (pos n) s c = MatchBool (n == 0) (TellsBook s c × (s.audited ≡ true)) (MatchBool (n == 1) (Unit {0}) (FindsAnother c × (1 < callers_of c.machine)))
Closes (negsuc n) s c = TellsBook s c × (s.audited ≡ false)
