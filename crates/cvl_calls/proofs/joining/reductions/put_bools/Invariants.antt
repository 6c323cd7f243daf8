use Rattle.std.proofs.Common.{◌≡◌, Ok, length, map, take}
use Rattle.item_operations.specs.BooleanScans.{combine_b, unit_b}
use Rattle.scan_kernels.specs.Segmented.{reduced}
use Rattle.cvl_text.specs.Answers.{BoolOf}
use Rattle.cvl_calls.specs.Outcomes.{Answers}
use Rattle.cvl_calls.proofs.joining.reductions.put_bools.Given as goal

abbrev pub invariant-loop-place : goal.invariant-loop-place
invariant-loop-place g l = record {
  makes : map (λ p. Ok (Answers (BoolOf (reduced (combine_b l.fn.op) (unit_b l.fn.op) p.now)))) l.parts ≡ take l.place (g.G.Group.works l.group);
  long : length l.parts ≡ l.place;
}
