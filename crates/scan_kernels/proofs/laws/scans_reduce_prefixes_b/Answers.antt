use Rattle.item_operations.specs.BooleanScans.{combine_b, unit_b}
use Rattle.scan_kernels.proofs.Scanned.{length-scanned, slice_get-scanned}
use Rattle.scan_kernels.proofs.laws.scans_reduce_prefixes_b.Goals as goal

pub returns : goal.returns
returns c = record {
  each = length-scanned (combine_b c.args.op) (unit_b c.args.op);
  prefixes = slice_get-scanned (combine_b c.args.op) (unit_b c.args.op);
}
