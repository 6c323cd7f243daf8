use Rattle.std.proofs.Common.{◌≡◌, ◌+◌, length, reverse}
use Rattle.bad_lines.specs.Agreement.{agreeing}
use Rattle.bad_lines.proofs.nearest.agreeing_end.Given as goal

abbrev pub invariant-loop-a : goal.invariant-loop-a
invariant-loop-a l = record {
  counted : l.count + agreeing (reverse l.word) (reverse l.text) ≡ agreeing (reverse l.initial.word) (reverse l.initial.text);
  within_word : l.count + length l.word ≡ length l.initial.word;
}

abbrev pub decreases-loop-a : goal.decreases-loop-a
decreases-loop-a l = length l.word
