use Rattle.std.proofs.Common.{◌≡◌, ◌≤◌, length, map, take, vec_len, vec_capacity}
use Rattle.cvl_text.specs.Answers.{BoolOf}
use Rattle.cvl_calls.specs.Outcomes.{Answers, effect_of}
use Rattle.cvl_calls.proofs.made.bool_replies.Given as goal

abbrev pub invariant-loop-item : goal.invariant-loop-item
invariant-loop-item l = record {
  replies : map effect_of l.products.items ≡ map (λ item. Answers (BoolOf item)) (take l.item-index l.items);
  long : vec_len l.products ≡ l.item-index;
  room : length l.items ≤ vec_capacity l.products;
}
