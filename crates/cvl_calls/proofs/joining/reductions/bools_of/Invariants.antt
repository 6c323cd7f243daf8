use Rattle.std.proofs.Common.{◌≡◌, Ok, map, take, vec_len, vec_capacity}
use Rattle.item_operations.specs.BooleanScans.{combine_b, unit_b}
use Rattle.scan_kernels.specs.Segmented.{reduced}
use Rattle.cvl_text.specs.Answers.{BoolOf}
use Rattle.cvl_calls.specs.Outcomes.{Answers}
use Rattle.cvl_calls.proofs.joining.reductions.bools_of.Given as goal

abbrev pub invariant-loop-place : goal.invariant-loop-place
invariant-loop-place g l = record {
  makes : map (λ p. Ok (Answers (BoolOf (reduced (combine_b l.fn.op) (unit_b l.fn.op) p.now)))) l.parts.items ≡ take l.place (g.G.Group.works l.group);
  long : vec_len l.parts ≡ l.place;
  room : vec_capacity l.parts ≡ l.count;
}
