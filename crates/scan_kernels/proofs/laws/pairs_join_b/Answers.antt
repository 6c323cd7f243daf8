use Rattle.item_operations.specs.BooleanScans.{combine_b, unit_b}
use Rattle.scan_kernels.proofs.BooleanLaws.{combine_b-assoc, combine_b-unit, combine_b-left_unit}
use Rattle.scan_kernels.proofs.JoinedPairs.{join_pairs-assoc, join_pairs-left_unit, join_pairs-right_unit}
use Rattle.scan_kernels.proofs.laws.pairs_join_b.Goals as goal

pub returns : goal.returns
returns c =
    let op = c.args.op in
    record {
      associative = join_pairs-assoc (combine_b op) c.args.p c.args.q c.args.r (combine_b-assoc op c.args.p.1 c.args.q.1 c.args.r.1);
      left_unit = join_pairs-left_unit (combine_b op) (unit_b op) c.args.p (combine_b-left_unit op c.args.p.1);
      right_unit = join_pairs-right_unit (combine_b op) (unit_b op) c.args.p (combine_b-unit op c.args.p.1);
    }
