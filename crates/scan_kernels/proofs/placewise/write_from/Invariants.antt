use Rattle.std.proofs.Common.{◌≡◌, ◌++◌, take, drop}
use Rattle.scan_kernels.proofs.placewise.write_from.Given as goal

abbrev pub invariant-loop-i : goal.invariant-loop-i
invariant-loop-i g l = l.part ≡ take l.i (drop l.start (g.L.Placewise.items l.list)) ++ drop l.i l.initial.part
