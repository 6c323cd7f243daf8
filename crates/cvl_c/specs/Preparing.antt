-- What preparing a call comes to.
use Rattle.std.specs.Prelude.{◌≡◌, ℕ, ℤ, pos, negsuc, Option, None, IsSome, length, ◌==◌, MatchBool}
use Rattle.cvl_text.specs.Tasks.{Task}
use Rattle.cvl_port.specs.declared.port.Port.{Port}
use Rattle.cvl_port.specs.Ports.{KeepsAllButPrepared, Prepares}

-- It is prepared under the next number; or, below 0, it is not, since it is no call or for want of memory.
abbrev pub IsPrepared : ℤ → ℕ → Option Task → Port → Port → Type 0
IsPrepared (pos n) number said p q = (n ≡ 0) × (number ≡ length p.prepared.items) × Prepares said p.prepared.items q.prepared.items × KeepsAllButPrepared p q
IsPrepared (negsuc n) number said p q = MatchBool (n == 0) (IsSome said) ((n ≡ 2) × (said ≡ None)) × (q.prepared.items ≡ p.prepared.items) × KeepsAllButPrepared p q
