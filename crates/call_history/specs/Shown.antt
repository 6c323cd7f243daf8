-- An entry of a memory as it is lent.
use Rattle.std.specs.Borrow.{Bor}
use Rattle.vector_memory.specs.declared.name.Name.{Name}
use Rattle.vector_memory.specs.declared.value.Value.{Value}
use Rattle.vector_memory.specs.Contents.{Content, content_of}

-- a name, and the items that it stands for
abbrev pub shown : Bor Name × Bor Value → Name × Content
shown e = (e.0.now, content_of e.1.now)
