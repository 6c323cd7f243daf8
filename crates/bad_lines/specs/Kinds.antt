-- Which words are of a kind.
use Rattle.std.specs.Prelude.{ℕ, Bool, is_some, List}
use Rattle.vector_memory.specs.declared.edition.Edition.{Edition}
use Rattle.vector_memory.specs.Editions.{longest_name}
use Rattle.vector_memory.specs.Names.{is_name}
use Rattle.cvl_text.specs.Numbers.{number_of}
use Rattle.cvl_text.specs.TruthValues.{truth_of}
use Rattle.bad_lines.specs.declared.kind.Kind.{Kind}
use Rattle.bad_lines.specs.declared.kind.Kind.TheVariants.{Name, Number, Truth}

unfoldable pub fits : Edition → Kind → List ℕ → Bool
fits edition Name word = is_name (longest_name edition) word
fits edition Number word = is_some (number_of word)
fits edition Truth word = is_some (truth_of word)
