-- How the fields of a book show its history, and what each book keeps.
use Rattle.std.specs.Prelude.{◌≡◌}
use Rattle.vector_memory.specs.States.{bounds_of}
use Rattle.call_history.specs.declared.book.Book.TheInside.{Inside}
use Rattle.call_history.specs.Books.{BookState}
use Rattle.call_history.specs.History.{replay}
use Rattle.call_history.specs.Blocks.{Whole}
use Rattle.call_history.specs.Callers.{AreTickets, IsTicketed, HasLawfulCallers}

abbrev pub book_state : Inside → BookState
book_state b = record { history = b.log.entries; bounds = bounds_of b.memory; spaces = b.log.spaces }

pub record KeepsHistory (b : Inside) : Type 0 where
  -- the memory is the history, replayed
  pub replayed : b.memory ≡ replay (bounds_of b.memory) b.log.entries
  pub ticketed : IsTicketed b.log.entries
  pub lawful_callers : HasLawfulCallers b.log.entries
  pub whole : Whole b.log.entries
  pub counted : AreTickets b.tickets.value b.log.entries
