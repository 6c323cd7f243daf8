-- What a joined run takes and makes of calls of one word.
use Rattle.std.specs.Prelude.{◌≡◌, List, map, Option, Some, Result, Ok}
use Rattle.vector_memory.specs.Contents as contents
use Rattle.cvl_text.specs.declared.fault.Fault.{Fault}
use Rattle.cvl_text.specs.declared.word.Word.{Word}
use Rattle.cvl_text.specs.Answers.{IntOf, BoolOf}
use Rattle.cvl_text.specs.Tasks.{task_of}
use Rattle.cvl_calls.specs.declared.made.Made.{Made}
use Rattle.cvl_calls.specs.declared.made.Made.TheVariants as mades
use Rattle.cvl_calls.specs.declared.joining.group.Item.{Item}
use Rattle.cvl_calls.specs.declared.joining.group.Item.TheVariants as items
use Rattle.cvl_calls.specs.Judging.{IsReady, made, word_of}
use Rattle.cvl_calls.specs.Outcomes.{Effect, Stores, Answers}
use Rattle.cvl_calls.specs.Steps.{work_on}

-- what was made, call by call
abbrev pub effects_of : Made → List Effect
effects_of (mades.Ints vectors) = map (λ v. Stores (contents.Ints v.items)) vectors.items
effects_of (mades.Bools vectors) = map (λ v. Stores (contents.Bools v.items)) vectors.items
effects_of (mades.Numbers xs) = map (λ x. Answers (IntOf x)) xs.items
effects_of (mades.Truths xs) = map (λ x. Answers (BoolOf x)) xs.items

-- the item is a call of this word, of which this comes
abbrev pub IsItem : Item → Word → Option (Result Effect Fault) → Type 0
IsItem (items.Judged judged) word work = (word_of judged.now ≡ word) × IsReady judged.now × (work ≡ Some (Ok (made judged.now)))
IsItem (items.Call memory call) word work = ((task_of call.now).word ≡ word) × (work ≡ Some (work_on memory.now (task_of call.now)))
