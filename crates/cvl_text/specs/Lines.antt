-- The grammar of a call in an edition: its words, and the task that they ask for. A word stands by its place alone: `z = z 1` sets z.
use Rattle.std.specs.Prelude.{◌≡◌, ℕ, Bool, true, false, List, [], ◌∷◌, Option, Some, None, IsSome, Result, Ok, Err, option_and_then, if◌then◌else◌, codes}
use Rattle.vector_memory.specs.declared.edition.Edition.{Edition}
use Rattle.vector_memory.specs.declared.name.Name.{Name}
use Rattle.vector_memory.specs.Names.{name_of}
use Rattle.cvl_text.specs.declared.fault.ReadFault.{ReadFault}
use Rattle.cvl_text.specs.declared.fault.ReadFault.TheVariants.{BadCall, OutOfMemory}
use Rattle.cvl_text.specs.declared.word.Word.{Word}
use Rattle.cvl_text.specs.declared.word.Word.TheVariants.{SetInts, SetBools, Ask, One, Two, Three, BckSeg, Alo, DisZ, DisB, Ind, Ext, Rep}
use Rattle.cvl_text.specs.Numbers.{number_of}
use Rattle.cvl_text.specs.Tasks.{Argument, Vector, Number, Truth, Numbers, Truths, Task}
use Rattle.cvl_text.specs.TruthValues.{truth_of}
use Rattle.cvl_text.specs.Words.{same_text, word_of}

-- what stands at an argument's place
pub data ArgumentKind : Type 0 where
  NameKind : ArgumentKind
  NumberKind : ArgumentKind
  TruthKind : ArgumentKind
  -- all words that are left
  NumbersKind : ArgumentKind
  TruthsKind : ArgumentKind

-- the arguments that a word takes, from left to right
abbrev pub kinds_of : Word → List ArgumentKind
kinds_of SetInts = NumbersKind ∷ []
kinds_of SetBools = TruthsKind ∷ []
kinds_of (Ask word) = NameKind ∷ []
kinds_of (One word) = NameKind ∷ []
kinds_of (Two word) = NameKind ∷ NameKind ∷ []
kinds_of (Three word) = NameKind ∷ NameKind ∷ NameKind ∷ []
kinds_of (BckSeg kind) = NameKind ∷ NameKind ∷ NameKind ∷ NameKind ∷ []
kinds_of Alo = NumberKind ∷ []
kinds_of DisZ = NumberKind ∷ NumberKind ∷ []
kinds_of DisB = TruthKind ∷ NumberKind ∷ []
kinds_of Ind = NumberKind ∷ NumberKind ∷ NumberKind ∷ []
kinds_of Ext = NameKind ∷ NumberKind ∷ []
kinds_of Rep = NameKind ∷ NumberKind ∷ NumberKind ∷ []

-- whether a name and `=` stand before the word
abbrev pub is_targeted : Word → Bool
is_targeted (Ask word) = false
is_targeted Ext = false
is_targeted word = true

infixl 10 ◌>>=◌
abbrev pub ◌>>=◌ : {A B : Type 0} → Option A → (A → Option B) → Option B
o >>= f = option_and_then f o

abbrev pub all_of : {A : Type 0} → (List ℕ → Option A) → List (List ℕ) → Option (List A)
all_of read [] = Some []
all_of read (w ∷ ws) = do
  x ← read w
  xs ← all_of read ws
  Some (x ∷ xs)

-- the item of a list that has no other
abbrev pub only : {A : Type 0} → List A → Option A
only [] = None
only (x ∷ []) = Some x
only (x ∷ y ∷ xs) = None

-- the arguments that words spell in an edition, which says how long names may be
abbrev pub arguments_in : Edition → List ArgumentKind → List (List ℕ) → Option (List Argument)
arguments_in edition [] [] = Some []
arguments_in edition [] (w ∷ ws) = None
arguments_in edition (NameKind ∷ kinds) [] = None
arguments_in edition (NameKind ∷ kinds) (w ∷ ws) = do
  name ← name_of edition w
  others ← arguments_in edition kinds ws
  Some (Vector name ∷ others)
arguments_in edition (NumberKind ∷ kinds) [] = None
arguments_in edition (NumberKind ∷ kinds) (w ∷ ws) = do
  number ← number_of w
  others ← arguments_in edition kinds ws
  Some (Number number ∷ others)
arguments_in edition (TruthKind ∷ kinds) [] = None
arguments_in edition (TruthKind ∷ kinds) (w ∷ ws) = do
  truth ← truth_of w
  others ← arguments_in edition kinds ws
  Some (Truth truth ∷ others)
arguments_in edition (NumbersKind ∷ kinds) ws = do
  numbers ← all_of number_of ws
  Some (Numbers numbers ∷ [])
arguments_in edition (TruthsKind ∷ kinds) ws = do
  truths ← all_of truth_of ws
  Some (Truths truths ∷ [])

-- the task of a word that stands behind `=`
unfoldable pub targeted : Edition → Name → Word → List (List ℕ) → Option Task
targeted edition to word ws =
    if is_targeted word then (do
      arguments ← arguments_in edition (kinds_of word) ws
      Some (record { word = word; to = Some to; arguments = arguments })) else None

-- the task of a word that stands first
unfoldable pub untargeted : Edition → Word → List (List ℕ) → Option Task
untargeted edition word ws =
    if is_targeted word then None else (do
      arguments ← arguments_in edition (kinds_of word) ws
      Some (record { word = word; to = None; arguments = arguments }))

-- the task of the words behind the first and `=`
unfoldable pub behind_target : Edition → List ℕ → List (List ℕ) → Option Task
behind_target edition to [] = None
behind_target edition to (w ∷ ws) = do
  name ← name_of edition to
  word ← word_of w
  targeted edition name word ws

unfoldable pub without_target : Edition → List ℕ → List (List ℕ) → Option Task
without_target edition w ws = do
  word ← word_of w
  untargeted edition word ws

-- the task that the words of a call ask for
unfoldable pub task_in : Edition → List (List ℕ) → Option Task
task_in edition [] = None
task_in edition (w ∷ []) = without_target edition w []
task_in edition (w ∷ v ∷ ws) = if same_text v (codes "=") then behind_target edition w ws else without_target edition w (v ∷ ws)

-- What a function read, seen by view, is what the definition says; memory runs out only where there is something to read.
abbrev pub Reads : {X Y : Type 0} → (X → Y) → Result X ReadFault → Option Y → Type 0
Reads view (Ok x) said = said ≡ Some (view x)
Reads view (Err BadCall) said = said ≡ None
Reads view (Err OutOfMemory) said = IsSome said
