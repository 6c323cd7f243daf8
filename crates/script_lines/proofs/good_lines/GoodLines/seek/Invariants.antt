use Rattle.std.proofs.Common.{◌≡◌, ◌≤◌, false, length, None, IfSome}
use Rattle.script_lines.specs.Stages.{stage_of}
use Rattle.script_lines.specs.Handed.{IsJudged}
use Rattle.script_lines.specs.Walks.{IsCountable, work_left}
use Rattle.script_lines.proofs.good_lines.GoodLines.seek.Given as goal

abbrev pub invariant-loop-self : goal.invariant-loop-self
invariant-loop-self g l = record {
  countable : l.self.ended ≡ false → IsCountable l.self.lines.walk (g.R.Source.limit l.self.reader);
  readable : g.R.Source.can_read l.self.reader;
  writable : IfSome l.self.notes g.N.Sink.can_write;
  left : l.self.left ≡ l.initial.self.left;
  within : IfSome l.self.given (λ n. n ≤ length l.self.lines.line);
  found : l.initial.self.given ≡ None → IsJudged l.self.given (stage_of l.initial.self.progress) (stage_of l.self.progress) 0 0 l.self.lines.line;
  failures : l.self.failures ≡ l.initial.self.failures;
}

abbrev pub decreases-loop-self : goal.decreases-loop-self
decreases-loop-self g l = work_left l.self.lines.walk (g.R.Source.limit l.self.reader)
