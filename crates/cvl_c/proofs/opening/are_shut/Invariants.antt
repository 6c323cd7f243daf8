use Rattle.std.proofs.Common.{ℕ, ◌<◌, get_or}
use Rattle.cvl_c.specs.declared.caller.CallerLine.{CallerLine}
use Rattle.cvl_c.specs.Callers.{IsLineShut}
use Rattle.cvl_c.proofs.opening.are_shut.Given as goal

abbrev pub invariant-loop-line : goal.invariant-loop-line
invariant-loop-line l = (k : ℕ) (d : CallerLine) → k < l.line-index → IsLineShut (get_or l.callers k d)
