use Rattle.std.proofs.Common.{◌≡◌, ℕ, ◌+◌, ◌<◌, get_or}
use Rattle.scan_kernels.specs.Pairs.{join_pairs}
use Rattle.std.specs.Prelude.{false}
use Rattle.scan_kernels.specs.declared.edges.Edge.{Edge}
use Rattle.scan_kernels.proofs.carries.carry_on.Given as goal

abbrev pub invariant-loop-k : goal.invariant-loop-k
invariant-loop-k g l = record {
  first : (d : g.row.O-Item.Denot) → get_or l.carries 0 d ≡ get_or l.initial.carries 0 d;
  carried : (j : ℕ) (e : Edge) (d : g.row.O-Item.Denot) → j < l.k
      → get_or l.carries (j + 1) d ≡ (join_pairs (g.O.Combine.combined l.op) (false, get_or l.carries j d) ((get_or l.edges j e).began, get_or l.initial.carries (j + 1) d)).1;
  later : (j : ℕ) (d : g.row.O-Item.Denot) → l.k < j → get_or l.carries j d ≡ get_or l.initial.carries j d;
}
