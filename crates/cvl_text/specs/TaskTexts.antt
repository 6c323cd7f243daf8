-- How a task is written, and which tasks can be: the grammar seen from its meaning.
-- The laws say that a line reads as a task exactly where its words are those of the task's text.
use Rattle.std.specs.Prelude.{◌≡◌, ◌↔◌, ℕ, Bool, true, false, IsTrue, List, [], ◌∷◌, ◌++◌, map, Option, Some, None, codes}
use Rattle.std.specs.List.{AllByRecursion, flat_map}
use Rattle.std.specs.Fmt.{signed_decimal}
use Rattle.vector_memory.specs.declared.edition.Edition.{Edition}
use Rattle.vector_memory.specs.declared.name.Name.{Name}
use Rattle.vector_memory.specs.Names.{name_of}
use Rattle.cvl_text.specs.Lines.{ArgumentKind, NameKind, NumberKind, TruthKind, NumbersKind, TruthsKind, kinds_of, is_targeted, task_in}
use Rattle.cvl_text.specs.Numbers.{is_in_range}
use Rattle.cvl_text.specs.Tasks.{Argument, Vector, Number, Truth, Numbers, Truths, Task}
use Rattle.cvl_text.specs.TruthValues.{truth_text}
use Rattle.cvl_text.specs.Words.{words_of, word_text}

-- the words of an argument
abbrev pub argument_words : Argument → List (List ℕ)
argument_words (Vector n) = n ∷ []
argument_words (Number x) = signed_decimal x ∷ []
argument_words (Truth b) = truth_text b ∷ []
argument_words (Numbers xs) = map signed_decimal xs
argument_words (Truths bs) = map truth_text bs

-- a target and `=`
abbrev pub target_words : Option Name → List (List ℕ)
target_words None = []
target_words (Some n) = n ∷ codes "=" ∷ []

-- target, call word and arguments
abbrev pub task_words : Task → List (List ℕ)
task_words t = target_words t.to ++ word_text t.word ∷ flat_map argument_words t.arguments

-- words with one space between each two
abbrev pub spaced : List (List ℕ) → List ℕ
spaced [] = []
spaced (w ∷ []) = w
spaced (w ∷ v ∷ ws) = w ++ 32 ∷ spaced (v ∷ ws)

abbrev pub task_text : Task → List ℕ
task_text t = spaced (task_words t)

-- a text that is a name of the edition
abbrev pub IsGoodName : Edition → Name → Type 0
IsGoodName edition n = name_of edition n ≡ Some n

-- arguments of the kinds that a word takes, each one that can be written
abbrev pub AreWritable : Edition → List ArgumentKind → List Argument → Type 0
AreWritable edition [] [] = Unit {0}
AreWritable edition (NameKind ∷ kinds) (Vector n ∷ others) = IsGoodName edition n × AreWritable edition kinds others
AreWritable edition (NumberKind ∷ kinds) (Number x ∷ others) = IsTrue (is_in_range x) × AreWritable edition kinds others
AreWritable edition (TruthKind ∷ kinds) (Truth b ∷ others) = AreWritable edition kinds others
AreWritable edition (NumbersKind ∷ kinds) (Numbers xs ∷ []) = AllByRecursion (λ x. IsTrue (is_in_range x)) xs
AreWritable edition (TruthsKind ∷ kinds) (Truths bs ∷ []) = Unit {0}
AreWritable _ _ _ = ⊥

-- a target exactly where the word has one
abbrev pub IsWritableTarget : Edition → Bool → Option Name → Type 0
IsWritableTarget edition true (Some n) = IsGoodName edition n
IsWritableTarget edition false None = Unit {0}
IsWritableTarget _ _ _ = ⊥

-- a task that has a text in the edition
pub record CanBeWritten (edition : Edition) (t : Task) : Type 0 where
  pub target : IsWritableTarget edition (is_targeted t.word) t.to
  pub arguments : AreWritable edition (kinds_of t.word) t.arguments

-- A line reads as a task exactly where the task can be written and the line has the words of its text.
abbrev pub ReadsExactly : Type 0
ReadsExactly = (edition : Edition) (line : List ℕ) (t : Task) → (task_in edition (words_of line) ≡ Some t) ↔ (CanBeWritten edition t × (words_of line ≡ task_words t))

-- The words of a task's text are the words that the task has.
abbrev pub HasItsWords : Type 0
HasItsWords = (edition : Edition) (t : Task) → CanBeWritten edition t → words_of (task_text t) ≡ task_words t

-- The text of a task reads back as the task.
abbrev pub ReadsBack : Type 0
ReadsBack = (edition : Edition) (t : Task) → CanBeWritten edition t → task_in edition (words_of (task_text t)) ≡ Some t
