use Rattle.std.proofs.Common.{◌≡◌, ◌+◌, ◌≤◌, ◌++◌, ℕ, List, All, sum, take, vec_len, vec_capacity}
use Rattle.call_history.specs.declared.entry.Entry.{Entry}
use Rattle.call_history.specs.declared.request.Request.{Request}
use Rattle.call_history.specs.Books.{memory_of}
use Rattle.batch_flatten.specs.Places.{IsOutside, at_places}
use Rattle.batch_flatten.specs.Counts.{RisesBy, count_back, different_kernels, sizes_back}
use Rattle.batch_flatten.specs.Joining.{AreOpenTogether, ArePrepared}
use Rattle.batch_flatten.specs.Serving.{AnswersSure, AreAskedBy, Serving, WereBack}
use Rattle.batch_flatten.proofs.wave.serve_wave.Given as goal

abbrev pub invariant-loop-position : goal.invariant-loop-position
invariant-loop-position g l = record {
  serves : (line : List Entry) (rs : List Request) (done : List ℕ) → AreAskedBy rs l.callers → All (IsOutside done) l.places → Serving l.fn.book.bounds line rs done l.fn.book.history l.fn.outcomes.items
      → Serving l.fn.book.bounds line rs (done ++ take l.position l.places) l.book.history l.outcomes.items;
  sure : (done : List ℕ) → AnswersSure l.fn.outcomes.items done → AnswersSure l.outcomes.items (done ++ take l.position l.places);
  prepared : ArePrepared (memory_of l.book) l.outcomes.items l.places l.words l.turns l.works.items l.position;
  together : AreOpenTogether l.words l.turns l.position;
  counted : RisesBy (different_kernels (take l.position l.words) + (sum (at_places (sizes_back l.fn.outcomes.items) (take l.position l.places)) + l.singles)) l.fn.meter l.meter;
  few_singles : l.singles ≤ l.position;
  back : WereBack l.fn.outcomes.items l.outcomes.items;
  bounds : l.book.bounds ≡ l.fn.book.bounds;
  space : count_back l.outcomes.items ≤ l.book.spaces;
  count : vec_len l.outcomes ≡ vec_len l.fn.outcomes;
  spaces : vec_capacity l.outcomes ≡ vec_capacity l.fn.outcomes;
}
