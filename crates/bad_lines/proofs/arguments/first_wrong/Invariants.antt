use Rattle.std.proofs.Common.{◌≡◌, ◌≤◌, length, drop}
use Rattle.cvl_text.specs.Words.{words_of}
use Rattle.bad_lines.specs.Forms.{argument_kinds}
use Rattle.bad_lines.specs.Wrongs.{first_wrong}
use Rattle.bad_lines.proofs.arguments.first_wrong.Given as goal

abbrev pub invariant-loop-kind : goal.invariant-loop-kind
invariant-loop-kind l = record {
  within : l.from ≤ length l.text;
  same : first_wrong l.edition l.call (argument_kinds (drop l.kind-index l.usage.kinds.now) l.usage.further) (words_of (drop l.from l.text))
      ≡ first_wrong l.edition l.call (argument_kinds l.usage.kinds.now l.usage.further) (words_of (drop l.initial.from l.text));
}
