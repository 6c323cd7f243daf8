use Rattle.std.proofs.Common.{◌++◌, sym, ap, subst, ◌∙◌, arith}
use Rattle.std.specs.List.{IsDistinct}
use Rattle.std.specs.Map.{keys_of}
use Rattle.vector_memory.specs.Names.{same_name}
use Rattle.vector_memory.specs.States.{NamedValues}
use Rattle.vector_memory.proofs.block.Block.end.Goals as goal

pub add_late-requires-clause-distinct : goal.add_late-requires-clause-distinct
add_late-requires-clause-distinct c =
    subst (λ (es : NamedValues). IsDistinct same_name (keys_of (es ++ c.args.self.now.late.entries))) (sym c.drop_freed.ensures.held) c.requires.distinct

pub add_late-requires-clause-room : goal.add_late-requires-clause-room
add_late-requires-clause-room c = omega (arith, c.requires.room.held, c.drop_freed.ensures.spare)

pub returns-clause-held : goal.returns-clause-held
returns-clause-held c =
    c.add_late.ensures.held ∙ ap (λ (es : NamedValues). es ++ c.args.self.now.late.entries) c.drop_freed.ensures.held
