use Rattle.std.proofs.Common.{◌≡◌, Some, length, map, take, vec_len, vec_capacity}
use Rattle.cvl_text.specs.Tasks.{target, task_of}
use Rattle.cvl_calls.proofs.over.alike.targets_of.Given as goal

-- the names so far are the targets of the first calls
abbrev pub invariant-loop-call : goal.invariant-loop-call
invariant-loop-call l = record {
  names : map (λ n. Some n) l.names.items ≡ map (λ c. target (task_of c.now)) (take l.call-index l.calls);
  count : vec_len l.names ≡ l.call-index;
  room : vec_capacity l.names ≡ length l.calls;
}
