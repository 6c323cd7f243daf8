use Rattle.std.proofs.Common.{◌≡◌, length, map, take}
use Rattle.batch_flatten.specs.Counts.{word_asked}
use Rattle.batch_flatten.proofs.roll.words_of.Given as goal

abbrev pub invariant-loop-i : goal.invariant-loop-i
invariant-loop-i l = record {
  noted : take l.i l.words ≡ map word_asked (take l.i l.requests);
  long : length l.words ≡ 64;
}
