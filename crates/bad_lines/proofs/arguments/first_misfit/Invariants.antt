use Rattle.std.proofs.Common.{◌≡◌, ◌≤◌, length, drop}
use Rattle.cvl_text.specs.Words.{words_of}
use Rattle.bad_lines.specs.Wrongs.{first_misfit}
use Rattle.bad_lines.proofs.arguments.first_misfit.Given as goal

abbrev pub invariant-loop-word : goal.invariant-loop-word
invariant-loop-word l = record {
  within : l.from ≤ length l.text;
  same : first_misfit l.edition l.call l.kind (words_of (drop l.from l.text)) ≡ first_misfit l.edition l.call l.kind (words_of (drop l.initial.from l.text));
}

abbrev pub decreases-loop-word : goal.decreases-loop-word
decreases-loop-word l = length (words_of (drop l.from l.text))
