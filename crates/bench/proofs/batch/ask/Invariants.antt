use Rattle.std.proofs.Common.{◌≡◌, ◌≢◌, vec_len}
use Rattle.std.specs.List.{AllPairs}
use Rattle.bench.proofs.AskLemmas.{AreCallersBelow, AreLawful}
use Rattle.bench.proofs.batch.ask.Given as goal

abbrev pub invariant-loop-k : goal.invariant-loop-k
invariant-loop-k l = record {
  count : vec_len l.requests ≡ l.k;
  below : AreCallersBelow l.k l.requests.items;
  distinct : AllPairs (λ r s. r.caller ≢ s.caller) l.requests.items;
  lawful : AreLawful l.requests.items;
}
