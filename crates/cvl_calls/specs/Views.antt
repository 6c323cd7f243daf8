-- The items of a vector as they lie in the memory, seen as its content, and their kind.
use Rattle.vector_memory.specs.Contents.{Content, Ints, Bools}
use Rattle.cvl_text.specs.declared.word.Kind.{Kind}
use Rattle.cvl_text.specs.declared.word.Kind.TheVariants as kinds
use Rattle.cvl_calls.specs.declared.operands.Vector.{Vector}
use Rattle.cvl_calls.specs.declared.operands.Vector.TheVariants as lent

abbrev pub vector_of : Vector → Content
vector_of (lent.Ints xs) = Ints xs.now
vector_of (lent.Bools bs) = Bools bs.now

abbrev pub kind_of : Vector → Kind
kind_of (lent.Ints xs) = kinds.Z
kind_of (lent.Bools bs) = kinds.B
