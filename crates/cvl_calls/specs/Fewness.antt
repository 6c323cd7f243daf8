-- Lists of few items, which lie on the stack.
use Rattle.std.specs.Borrow.{RattleType}
use Rattle.std.specs.Mem.{FitsInMemory}
use Rattle.cvl_calls.specs.contracts.joining.few.Few.{the_row}

-- a list of few such items is no larger than memory, as is so wherever one exists
abbrev pub FewFit : RattleType → Type 0
FewFit P = FitsInMemory (the_row P)
