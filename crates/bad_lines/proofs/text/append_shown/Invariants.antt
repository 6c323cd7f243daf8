use Rattle.std.proofs.Common.{◌≡◌, ◌++◌, map, take}
use Rattle.bad_lines.specs.Printed.{shown}
use Rattle.bad_lines.proofs.text.append_shown.Given as goal

abbrev pub invariant-loop-byte : goal.invariant-loop-byte
invariant-loop-byte l = l.out.items ≡ l.initial.out.items ++ map shown (take l.byte-index l.text)
