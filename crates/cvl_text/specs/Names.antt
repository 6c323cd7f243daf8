-- The names that a call reads, as they are lent.
use Rattle.std.specs.Prelude.{List, [], ◌∷◌}
use Rattle.vector_memory.specs.declared.name.Name.{Name}
use Rattle.cvl_text.specs.declared.names.NamesRead.{NamesRead}
use Rattle.cvl_text.specs.declared.names.NamesRead.TheVariants.{Zero, One, Two, Three, Four}

-- from left to right
abbrev pub listed : NamesRead → List Name
listed Zero = []
listed (One a) = a.now ∷ []
listed (Two a b) = a.now ∷ b.now ∷ []
listed (Three a b c) = a.now ∷ b.now ∷ c.now ∷ []
listed (Four a b c d) = a.now ∷ b.now ∷ c.now ∷ d.now ∷ []
