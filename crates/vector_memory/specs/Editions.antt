-- The editions of the profile: how many items a value may have, and how long a name may be.
use Rattle.std.specs.Prelude.{ℕ}
use Rattle.vector_memory.specs.declared.edition.Edition.{Edition}
use Rattle.vector_memory.specs.declared.edition.Edition.TheVariants.{One, Two}

-- the greatest number of items of a value, and the greatest sum of the lengths of a segment list
abbrev pub item_limit : Edition → ℕ
item_limit One = 1048576
item_limit Two = 16777216

-- the greatest number of bytes of a name
abbrev pub longest_name : Edition → ℕ
longest_name One = 16
longest_name Two = 32
