use Rattle.std.proofs.Common.{◌≡◌, ℕ, ◌<◌, ◌≤◌, ◌++◌, length, vec_len, get_or, map, drop}
use Rattle.cvl_c.specs.declared.caller.CallerLine.{CallerLine}
use Rattle.cvl_c.specs.Callers.{IsLineShut, port_on}
use Rattle.cvl_c.proofs.FillLemmas.{awaited}
use Rattle.cvl_c.proofs.opening.fill_all.Given as goal

abbrev pub invariant-loop-port : goal.invariant-loop-port
invariant-loop-port l = record {
  few : vec_len l.ports ≤ length l.callers;
  shut : (k : ℕ) (d : CallerLine) → k < vec_len l.ports → IsLineShut (get_or l.callers k d);
  filled : awaited l.ports.items ++ map port_on (drop (length l.ports.items) l.callers) ≡ awaited l.fn.ports.items;
}

abbrev pub decreases-loop-port : goal.decreases-loop-port
decreases-loop-port l = vec_len l.ports
