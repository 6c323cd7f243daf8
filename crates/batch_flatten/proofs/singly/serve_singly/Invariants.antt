use Rattle.std.proofs.Common.{◌≡◌, length, vec_len, vec_capacity}
use Rattle.std.specs.List.{AllByRecursion}
use Rattle.batch_flatten.specs.Alike.{IsForCall}
use Rattle.batch_flatten.specs.Counts.{RisesBy}
use Rattle.batch_flatten.proofs.AlikeTurns.{Turns}
use Rattle.batch_flatten.proofs.singly.serve_singly.Given as goal

abbrev pub invariant-loop-place : goal.invariant-loop-place
invariant-loop-place g l = record {
  turns : (t : Turns l.fn.book.bounds l.fn.book.history l.fn.requests.items l.requests.items l.book l.outcomes.items) × AllByRecursion IsForCall t.rest;
  long : vec_len l.requests ≡ vec_len l.fn.requests;
  many : length l.outcomes.items ≡ l.place;
  counted : RisesBy l.place l.fn.meter l.meter;
  request_spaces : vec_capacity l.requests ≡ vec_capacity l.fn.requests;
  outcome_spaces : vec_capacity l.outcomes ≡ vec_capacity l.fn.outcomes;
}
