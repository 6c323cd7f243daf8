use Rattle.item_operations.specs.IntegerScans.{combine_z, unit_z}
use Rattle.scan_kernels.proofs.Scanned.{length-scanned, slice_get-scanned}
use Rattle.scan_kernels.proofs.laws.scans_reduce_prefixes_z.Goals as goal

pub returns : goal.returns
returns c = record {
  each = length-scanned (combine_z c.args.op) (unit_z c.args.op);
  prefixes = slice_get-scanned (combine_z c.args.op) (unit_z c.args.op);
}
