use Rattle.std.proofs.Common.{◌≡◌, ◌+◌, ◌≤◌, [], List, length, take, vec_len, vec_capacity}
use Rattle.call_history.specs.declared.entry.Entry.{Entry}
use Rattle.call_history.specs.declared.request.Request.{Request}
use Rattle.batch_flatten.specs.Places.{places_of_first}
use Rattle.batch_flatten.specs.Counts.{RisesBy, count_back, kernels_below, sizes_back}
use Rattle.batch_flatten.specs.Serving.{AnswersSure, AreAskedBy, Serving, WereBack}
use Rattle.batch_flatten.proofs.running.serve_waves.Given as goal

abbrev pub invariant-loop-wave : goal.invariant-loop-wave
invariant-loop-wave g l = record {
  serves : (line : List Entry) (rs : List Request) → AreAskedBy rs l.roll.callers → Serving l.fn.book.bounds line rs [] l.fn.book.history l.fn.outcomes.items
      → Serving l.fn.book.bounds line rs (places_of_first (take (vec_len l.fn.outcomes) l.roll.waves) l.wave) l.book.history l.outcomes.items;
  sure : AnswersSure l.outcomes.items (places_of_first (take (vec_len l.fn.outcomes) l.roll.waves) l.wave);
  counted : RisesBy (kernels_below (take (vec_len l.fn.outcomes) l.roll.waves) (take (vec_len l.fn.outcomes) l.roll.words) (sizes_back l.fn.outcomes.items) l.wave + l.singles) l.fn.meter l.meter;
  few_singles : l.singles ≤ length (places_of_first (take (vec_len l.fn.outcomes) l.roll.waves) l.wave);
  back : WereBack l.fn.outcomes.items l.outcomes.items;
  bounds : l.book.bounds ≡ l.fn.book.bounds;
  space : count_back l.outcomes.items ≤ l.book.spaces;
  count : vec_len l.outcomes ≡ vec_len l.fn.outcomes;
  spaces : vec_capacity l.outcomes ≡ vec_capacity l.fn.outcomes;
}
