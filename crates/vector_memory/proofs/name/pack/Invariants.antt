use Rattle.std.proofs.Common.{◌≡◌, true, drop}
use Rattle.std.specs.List.{list_all}
use Rattle.vector_memory.specs.Names.{is_name_byte, packed}
use Rattle.vector_memory.proofs.name.pack.Given as goal

abbrev pub invariant-loop-i : goal.invariant-loop-i
invariant-loop-i l = (l.word ≡ packed (drop l.i l.bytes)) × (list_all is_name_byte (drop l.i l.bytes) ≡ true)
