use Rattle.std.proofs.Common.{SFits, w64, rules}
use Rattle.item_operations.specs.IntegerScans.{combine_z, unit_z}
use Rattle.scan_kernels.proofs.IntegerLaws.{combine_z-assoc, combine_z-unit, combine_z-left_unit}
use Rattle.scan_kernels.proofs.JoinedPairs.{join_pairs-assoc, join_pairs-left_unit, join_pairs-right_unit}
use Rattle.scan_kernels.proofs.laws.pairs_join_z.Goals as goal

pub returns : goal.returns
returns c =
    let op = c.args.op in
    let p : SFits w64 c.args.p.1 = search rules in
    let q : SFits w64 c.args.q.1 = search rules in
    let r : SFits w64 c.args.r.1 = search rules in
    record {
      associative = join_pairs-assoc (combine_z op) c.args.p c.args.q c.args.r (combine_z-assoc op c.args.p.1 c.args.q.1 c.args.r.1 p q r);
      left_unit = join_pairs-left_unit (combine_z op) (unit_z op) c.args.p (combine_z-left_unit op c.args.p.1 p);
      right_unit = join_pairs-right_unit (combine_z op) (unit_z op) c.args.p (combine_z-unit op c.args.p.1 p);
    }
