use Rattle.std.proofs.Common.{◌≡◌, ◌≤◌, take}
use Rattle.std.specs.List.{range_with_len}
use Rattle.batch_flatten.specs.Waves.{in_wave}
use Rattle.batch_flatten.proofs.wave.find_wave.Given as goal

abbrev pub invariant-loop-i : goal.invariant-loop-i
invariant-loop-i l = record {
  few : l.many ≤ l.i;
  places : take l.many l.found ≡ in_wave l.wave (take l.i l.waves) (take l.i (range_with_len 0 l.count));
  words : take l.many l.found_words ≡ in_wave l.wave (take l.i l.waves) (take l.i l.words);
}
