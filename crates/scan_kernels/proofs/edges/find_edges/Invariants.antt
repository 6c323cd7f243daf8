use Rattle.std.proofs.Common.{◌≡◌, ℕ, ◌*◌, ◌<◌, ◌≤◌, sum, take, get_or}
use Rattle.scan_kernels.specs.Edges.{IsEdge}
use Rattle.scan_kernels.specs.declared.edges.Edge.{Edge}
use Rattle.scan_kernels.proofs.edges.find_edges.Given as goal

abbrev pub invariant-loop-k : goal.invariant-loop-k
invariant-loop-k l = record {
  begin : l.segment.begin ≡ sum (take l.segment.number l.lengths);
  behind : l.segment.begin ≤ l.k * l.size;
  found : (j : ℕ) (d : Edge) → j < l.k → IsEdge l.lengths l.size j (get_or l.edges j d);
}
