-- What it means that calls were left, and why they were not.
use Rattle.std.specs.Global.{Vec}
use Rattle.std.specs.Prelude.{◌≡◌, ◌⊎◌, ℕ, ℤ, Bool, ◌<◌, List, [], ◌∷◌, length, map, Option, Some, None, Result, Ok, Err, IsSome, slice_get}
use Rattle.std.specs.Option.{option_map}
use Rattle.vector_memory.specs.declared.name.Name.{Name}
use Rattle.vector_memory.specs.declared.edition.Edition.TheVariants as edition
use Rattle.vector_memory.specs.Names.{name_of}
use Rattle.cvl_text.specs.declared.call.Call.{Call}
use Rattle.cvl_text.specs.declared.fault.ReadFault.{ReadFault}
use Rattle.cvl_text.specs.declared.fault.ReadFault.TheVariants as reads
use Rattle.cvl_text.specs.declared.word.Word.TheVariants as words
use Rattle.cvl_text.specs.declared.word.AskWord.TheVariants as asks
use Rattle.cvl_text.specs.declared.word.OneWord.TheVariants as ones
use Rattle.cvl_text.specs.Tasks.{Task, task_of, into, asking, vectors, Numbers, Truths}
use Rattle.call_history.specs.Blocks.{block_limit}
use Rattle.combiner.specs.Standing.{Standing, IsIdle, HasLeft}
use Rattle.combiner.specs.Says.{leaving, leaving_block}
use Rattle.cvl_port.specs.declared.fault.PostFault.{PostFault}
use Rattle.cvl_port.specs.declared.fault.PostFault.TheVariants as posts
use Rattle.cvl_port.specs.Lines.{each}

abbrev pub post_fault_of : ReadFault → PostFault
post_fault_of reads.BadCall = posts.BadCall
post_fault_of reads.OutOfMemory = posts.OutOfMemory

-- an idle caller leaves a call that asks for this
abbrev pub Posts : Option Task → Standing → Standing → Type 0
Posts said c d = (call : Call) × (said ≡ Some (task_of call)) × IsIdle c × (d ≡ leaving c call)

-- an idle caller leaves a block of calls that ask for these, in order
abbrev pub PostsBlock : Option (List Task) → Standing → Standing → Type 0
PostsBlock said c d = (calls : Vec Call) × (said ≡ Some (map task_of calls.items)) × IsIdle c × (d ≡ leaving_block c calls)

-- Why nothing was left: something is left already; memory was wanted; else nothing is asked for, and the fault says so.
abbrev pub IsRefusal : PostFault → Option Task → Standing → PostFault → Type 0
IsRefusal unsaid said c posts.Occupied = IsSome said × HasLeft c
IsRefusal unsaid said c posts.OutOfMemory = IsSome said
IsRefusal unsaid said c other = (other ≡ unsaid) × (said ≡ None)

-- a call was left, or was not and nothing changed
abbrev pub AnswersPost : Result (Unit {0}) PostFault → PostFault → Option Task → Standing → Standing → Type 0
AnswersPost (Ok done) unsaid said c d = Posts said c d
AnswersPost (Err fault) unsaid said c d = IsRefusal unsaid said c fault × (d ≡ c)

abbrev pub IsBadCount : ℕ → Type 0
IsBadCount count = (count ≡ 0) ⊎ (block_limit < count)

-- The same of a block. A block of none or of too many calls is not left.
abbrev pub IsBlockRefusal : PostFault → Option (List Task) → Standing → PostFault → Type 0
IsBlockRefusal unsaid said c posts.Occupied = IsSome said × HasLeft c
IsBlockRefusal unsaid said c posts.OutOfMemory = Unit {0}
IsBlockRefusal unsaid said c posts.BadCount = (tasks : List Task) × (said ≡ Some tasks) × IsBadCount (length tasks)
IsBlockRefusal unsaid said c other = (other ≡ unsaid) × (said ≡ None)

-- why a line was not kept
abbrev pub IsNotRead : Option Task → ReadFault → Type 0
IsNotRead said reads.BadCall = said ≡ None
IsNotRead said reads.OutOfMemory = IsSome said

-- why a prepared call was not copied, and why some were not
abbrev pub IsNotCopied : Option Task → PostFault → Type 0
IsNotCopied said posts.NotPrepared = said ≡ None
IsNotCopied said posts.OutOfMemory = IsSome said
IsNotCopied said other = ⊥

abbrev pub AreNotCopied : Option (List Task) → PostFault → Type 0
AreNotCopied said posts.NotPrepared = said ≡ None
AreNotCopied said posts.OutOfMemory = Unit {0}
AreNotCopied said other = ⊥

-- a block was left, or was not and nothing changed
abbrev pub AnswersBlock : Result (Unit {0}) PostFault → PostFault → Option (List Task) → Standing → Standing → Type 0
AnswersBlock (Ok done) unsaid said c d = PostsBlock said c d
AnswersBlock (Err fault) unsaid said c d = IsBlockRefusal unsaid said c fault × (d ≡ c)

-- what the prepared call of a number asks for
abbrev pub prepared_task : List Call → ℕ → Option Task
prepared_task prepared number = option_map task_of (slice_get prepared number)

-- what those of some numbers ask for, unless one is not there
abbrev pub prepared_tasks : List Call → List ℕ → Option (List Task)
prepared_tasks prepared numbers = each (prepared_task prepared) numbers

-- to set a name to these
abbrev pub ints_set : List ℕ → List ℤ → Option Task
ints_set name items = option_map (λ to. into to words.SetInts (Numbers items ∷ [])) (name_of edition.One name)

abbrev pub bools_set : List ℕ → List Bool → Option Task
bools_set name items = option_map (λ to. into to words.SetBools (Truths items ∷ [])) (name_of edition.One name)

-- to set a name to the segment list of these lengths, by way of a vector of the name
abbrev pub segment_tasks : List ℤ → Name → List Task
segment_tasks lengths to = into to words.SetInts (Numbers lengths ∷ []) ∷ into to (words.One ones.MakeSegs) (vectors (to ∷ [])) ∷ []

abbrev pub segments_set : List ℕ → List ℤ → Option (List Task)
segments_set name lengths = option_map (segment_tasks lengths) (name_of edition.One name)

-- to ask for the value of a name
abbrev pub value_asked : List ℕ → Option Task
value_asked name = option_map (λ a. asking (words.Ask asks.Get) (vectors (a ∷ []))) (name_of edition.One name)
