use Rattle.std.proofs.Common.{◌≡◌, take, drop, sum}
use Rattle.scan_kernels.specs.Packed.{numbers_set}
use Rattle.scan_kernels.proofs.set_flags.write_each_number.Given as goal

abbrev pub invariant-loop-i : goal.invariant-loop-i
invariant-loop-i l = record {
  rest : l.rest ≡ drop (sum (take l.i l.lengths)) l.flags;
  done : take l.i l.part ≡ numbers_set (take l.i l.lengths) l.flags;
}
