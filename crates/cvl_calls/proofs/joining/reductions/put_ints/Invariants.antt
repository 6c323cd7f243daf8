use Rattle.std.proofs.Common.{◌≡◌, Ok, length, map, take}
use Rattle.item_operations.specs.IntegerScans.{combine_z, unit_z}
use Rattle.scan_kernels.specs.Segmented.{reduced}
use Rattle.cvl_text.specs.Answers.{IntOf}
use Rattle.cvl_calls.specs.Outcomes.{Answers}
use Rattle.cvl_calls.proofs.joining.reductions.put_ints.Given as goal

abbrev pub invariant-loop-place : goal.invariant-loop-place
invariant-loop-place g l = record {
  makes : map (λ p. Ok (Answers (IntOf (reduced (combine_z l.fn.op) (unit_z l.fn.op) p.now)))) l.parts ≡ take l.place (g.G.Group.works l.group);
  long : length l.parts ≡ l.place;
}
