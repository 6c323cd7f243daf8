-- What a call asks for, apart from where it lies: a word, a target and arguments.
use Rattle.std.specs.Prelude.{ℤ, Bool, ◌-◌, List, [], ◌∷◌, ◌++◌, length, map, replicate, Option, Some, None, filter_map}
use Rattle.vector_memory.specs.declared.name.Name.{Name}
use Rattle.cvl_text.specs.declared.word.Word.{Word}
use Rattle.cvl_text.specs.declared.word.Word.TheVariants as words
use Rattle.cvl_text.specs.declared.word.AskWord.{AskWord}
use Rattle.cvl_text.specs.declared.word.AskWord.TheVariants as asks
use Rattle.cvl_text.specs.declared.word.OneWord.TheVariants as ones
use Rattle.cvl_text.specs.declared.word.TwoWord.TheVariants as twos
use Rattle.cvl_text.specs.declared.word.ThreeWord.TheVariants as threes
use Rattle.cvl_text.specs.declared.call.Call.{Call}
use Rattle.cvl_text.specs.declared.call.Call.TheVariants as calls

pub data Argument : Type 0 where
  -- a name that is read
  Vector : Name → Argument
  Number : ℤ → Argument
  Truth : Bool → Argument
  -- all that a set form sets
  Numbers : List ℤ → Argument
  Truths : List Bool → Argument

pub record Task : Type 0 where
  pub word : Word
  -- the name before `=`, if there is one
  pub to : Option Name
  pub arguments : List Argument

-- a task with a target, and one without
abbrev pub into : Name → Word → List Argument → Task
into to word arguments = record { word = word; to = Some to; arguments = arguments }

abbrev pub asking : Word → List Argument → Task
asking word arguments = record { word = word; to = None; arguments = arguments }

-- names that are read
abbrev pub vectors : List Name → List Argument
vectors names = map (λ n. Vector n) names

abbrev pub task_of : Call → Task
task_of (calls.SetInts to items) = into to words.SetInts (Numbers items.items ∷ [])
task_of (calls.SetBools to items) = into to words.SetBools (Truths items.items ∷ [])
task_of (calls.Get a) = asking (words.Ask asks.Get) (vectors (a ∷ []))
task_of (calls.Mov to a) = into to (words.One ones.Mov) (vectors (a ∷ []))
task_of (calls.Free a) = asking (words.Ask asks.Free) (vectors (a ∷ []))
task_of (calls.Alo to n) = into to words.Alo (Number n ∷ [])
task_of (calls.Len a) = asking (words.Ask asks.Len) (vectors (a ∷ []))
task_of (calls.MakeSegs to a) = into to (words.One ones.MakeSegs) (vectors (a ∷ []))
task_of (calls.LenSegs to s) = into to (words.One ones.LenSegs) (vectors (s ∷ []))
task_of (calls.MapZ2 op to a b) = into to (words.Two (twos.MapZ2 op)) (vectors (a ∷ b ∷ []))
task_of (calls.MapZ1 op to a) = into to (words.One (ones.MapZ1 op)) (vectors (a ∷ []))
task_of (calls.CmpZ op to a b) = into to (words.Two (twos.CmpZ op)) (vectors (a ∷ b ∷ []))
task_of (calls.MapB2 op to a b) = into to (words.Two (twos.MapB2 op)) (vectors (a ∷ b ∷ []))
task_of (calls.MapB1 op to a) = into to (words.One (ones.MapB1 op)) (vectors (a ∷ []))
task_of (calls.Sel kind to f a b) = into to (words.Three (threes.Sel kind)) (vectors (f ∷ a ∷ b.value ∷ []))
task_of (calls.Boo to a) = into to (words.One ones.Boo) (vectors (a ∷ []))
task_of (calls.IntOf to a) = into to (words.One ones.IntOf) (vectors (a ∷ []))
task_of (calls.ScanOfZ op to a None) = into to (words.One (ones.ScanZ op)) (vectors (a ∷ []))
task_of (calls.ScanOfZ op to a (Some s)) = into to (words.Two (twos.ScanSegZ op)) (vectors (a ∷ s ∷ []))
task_of (calls.ScanOfB op to a None) = into to (words.One (ones.ScanB op)) (vectors (a ∷ []))
task_of (calls.ScanOfB op to a (Some s)) = into to (words.Two (twos.ScanSegB op)) (vectors (a ∷ s ∷ []))
task_of (calls.RedZ op a) = asking (words.Ask (asks.RedZ op)) (vectors (a ∷ []))
task_of (calls.RedB op a) = asking (words.Ask (asks.RedB op)) (vectors (a ∷ []))
task_of (calls.RedSegZ op to a s) = into to (words.Two (twos.RedSegZ op)) (vectors (a ∷ s ∷ []))
task_of (calls.RedSegB op to a s) = into to (words.Two (twos.RedSegB op)) (vectors (a ∷ s ∷ []))
task_of (calls.DisZ to x n) = into to words.DisZ (Number x ∷ Number n ∷ [])
task_of (calls.DisB to x n) = into to words.DisB (Truth x ∷ Number n ∷ [])
task_of (calls.DisSeg kind to a s) = into to (words.Two (twos.DisSeg kind)) (vectors (a ∷ s ∷ []))
task_of (calls.Ind to u v n) = into to words.Ind (Number u ∷ Number v ∷ Number n ∷ [])
task_of (calls.IndSeg to a b s) = into to (words.Three threes.IndSeg) (vectors (a ∷ b ∷ s.value ∷ []))
task_of (calls.Smp kind to a i) = into to (words.Two (twos.Smp kind)) (vectors (a ∷ i ∷ []))
task_of (calls.SmpSeg kind to a i s) = into to (words.Three (threes.SmpSeg kind)) (vectors (a ∷ i ∷ s.value ∷ []))
task_of (calls.Bck kind to a i) = into to (words.Two (twos.Bck kind)) (vectors (a ∷ i ∷ []))
task_of (calls.BckSeg kind to a s index) = into to (words.BckSeg kind) (vectors (a ∷ s ∷ index.value.i ∷ index.value.t ∷ []))
task_of (calls.Pck kind to a f) = into to (words.Two (twos.Pck kind)) (vectors (a ∷ f ∷ []))
task_of (calls.PckSeg kind to a f s) = into to (words.Three (threes.PckSeg kind)) (vectors (a ∷ f ∷ s.value ∷ []))
task_of (calls.Pkl to f s) = into to (words.Two twos.Pkl) (vectors (f ∷ s ∷ []))
task_of (calls.Ext a p) = asking words.Ext (Vector a ∷ Number p ∷ [])
task_of (calls.Rep to a p x) = into to words.Rep (Vector a ∷ Number p ∷ Number x ∷ [])

abbrev pub name_in : Argument → Option Name
name_in (Vector n) = Some n
name_in (Number x) = None
name_in (Truth b) = None
name_in (Numbers xs) = None
name_in (Truths bs) = None

-- the names that are read, from left to right
abbrev pub reads : Task → List Name
reads t = filter_map name_in t.arguments

abbrev pub head_of : List Name → Option Name
head_of [] = None
head_of (n ∷ ns) = Some n

-- the name that is freed, if the word frees one
abbrev pub freed_by : AskWord → List Name → Option Name
freed_by asks.Free names = head_of names
freed_by word names = None

-- the name before `=`, or the one that is freed
abbrev pub target_by : Word → Option Name → List Name → Option Name
target_by (words.Ask word) to names = freed_by word names
target_by word to names = to

-- the name that a call writes or frees
abbrev pub target : Task → Option Name
target t = target_by t.word t.to (reads t)

-- a list of at most four, filled up with None
abbrev pub four_of : {A : Type 0} → List A → List (Option A)
four_of xs = map Some xs ++ replicate (4 - length xs) None
