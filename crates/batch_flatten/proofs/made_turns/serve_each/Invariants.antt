use Rattle.std.proofs.Common.{◌≡◌, drop, length, map, vec_capacity}
use Rattle.batch_flatten.proofs.AlikeTurns.{UnderWay}
use Rattle.batch_flatten.proofs.made_turns.serve_each.Given as goal

abbrev pub invariant-loop-place : goal.invariant-loop-place
invariant-loop-place g l = record {
  under_way : UnderWay l.fn.book.bounds l.fn.book.history l.fn.requests.items l.requests.items (map g.T.Turned.effect (drop l.place l.made.items)) l.book l.outcomes.items;
  here : length l.outcomes.items ≡ l.place;
  requests_long : length l.requests.items ≡ length l.fn.requests.items;
  made_long : length l.made.items ≡ length l.fn.requests.items;
  request_spaces : vec_capacity l.requests ≡ vec_capacity l.fn.requests;
  outcome_spaces : vec_capacity l.outcomes ≡ vec_capacity l.fn.outcomes;
}
