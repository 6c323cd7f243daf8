use Rattle.std.proofs.Common.{◌≡◌, ◌++◌, take, drop}
use Rattle.scan_kernels.proofs.overwrite.write_over.Given as goal

abbrev pub invariant-loop-i : goal.invariant-loop-i
invariant-loop-i g l = l.list ≡ take l.i (g.L.Overwrite.after l.change l.initial.list) ++ drop l.i l.initial.list
