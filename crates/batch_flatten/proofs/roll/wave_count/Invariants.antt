use Rattle.std.proofs.Common.{◌≡◌, take}
use Rattle.batch_flatten.specs.Waves.{count_of}
use Rattle.batch_flatten.proofs.roll.wave_count.Given as goal

abbrev pub invariant-loop-i : goal.invariant-loop-i
invariant-loop-i l = l.most ≡ count_of (take l.i l.waves)
