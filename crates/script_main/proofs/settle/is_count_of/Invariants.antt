use Rattle.std.proofs.Common.{◌≡◌, ◌+◌, take}
use Rattle.script_main.specs.Workers.{reply_count}
use Rattle.script_main.proofs.settle.is_count_of.Given as goal

abbrev pub invariant-loop-own : goal.invariant-loop-own
invariant-loop-own l = reply_count (take l.own-index l.replies) + l.left ≡ l.fn.count
