use Rattle.std.proofs.Common.{◌≡◌, ◌+◌, length}
use Rattle.bad_lines.specs.Agreement.{agreeing}
use Rattle.bad_lines.proofs.nearest.agreeing_front.Given as goal

abbrev pub invariant-loop-a : goal.invariant-loop-a
invariant-loop-a l = record {
  counted : l.count + agreeing l.word l.text ≡ agreeing l.initial.word l.initial.text;
  within_word : l.count + length l.word ≡ length l.initial.word;
  within_text : l.count + length l.text ≡ length l.initial.text;
}

abbrev pub decreases-loop-a : goal.decreases-loop-a
decreases-loop-a l = length l.word
