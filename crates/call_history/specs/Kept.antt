-- Calls as a history keeps them.
use Rattle.std.specs.Prelude.{◌≡◌, ◌+◌, ◌≤◌, ℕ, Bool, true, false, List, [], length, Option, Some, None, IfSome}
use Rattle.std.specs.List.{AllByRecursion}
use Rattle.cvl_text.specs.declared.call.Call.{Call}
use Rattle.cvl_text.specs.declared.call.Call.TheVariants as calls
use Rattle.cvl_text.specs.Named.{ask_call, one_call, two_call}
use Rattle.cvl_text.specs.Tasks.{Argument, Vector, Number, Truth, Numbers, Truths, Task}
use Rattle.cvl_text.specs.declared.word.Word.{Word}
use Rattle.cvl_text.specs.declared.word.Word.TheVariants as words
use Rattle.vector_memory.specs.declared.name.Name.{Name}
use Rattle.call_history.specs.declared.kept.Kept.{Kept}
use Rattle.call_history.specs.declared.kept.Kept.TheVariants as kepts

-- whether the call lies whole elsewhere
abbrev pub is_whole : Kept → Bool
is_whole (kepts.Whole place) = true
is_whole other = false

-- the call itself, where it does not lie whole
abbrev pub call_of : Kept → Call
call_of (kepts.Ask word a) = ask_call word a
call_of (kepts.One word to a) = one_call word to a
call_of (kepts.Two word to a b) = two_call word to a b
call_of (kepts.Alo to n) = calls.Alo to n
call_of (kepts.DisZ to x n) = calls.DisZ to x n
call_of (kepts.DisB to x n) = calls.DisB to x n
call_of (kepts.Ext a p) = calls.Ext a p
call_of (kepts.Whole place) = calls.Get []

-- it is the call, and does not lie whole
abbrev pub IsBrief : Call → Kept → Type 0
IsBrief call kept = (call_of kept ≡ call) × (is_whole kept ≡ false)

-- the call can be kept so that it does not lie whole
abbrev pub MayBeBrief : Call → Type 0
MayBeBrief call = (kept : Kept) × IsBrief call kept

-- a name of up to twelve bytes, which is one word, or a number
abbrev pub IsShort : Argument → Type 0
IsShort (Vector n) = length n ≤ 12
IsShort (Number x) = Unit {0}
IsShort (Truth b) = Unit {0}
IsShort (Numbers xs) = ⊥
IsShort (Truths bs) = ⊥

-- how many targets it has
abbrev pub count_of : Option Name → ℕ
count_of None = 0
count_of (Some n) = 1

-- it has at most three names and numbers, each name has up to twelve bytes, and it has no items of its own
abbrev pub FitsFew : Task → Type 0
FitsFew t = (count_of t.to + length t.arguments ≤ 3) × IfSome t.to (λ n. length n ≤ 12) × AllByRecursion IsShort t.arguments

-- words of calls that have names alone, three at most
abbrev pub is_named : Word → Bool
is_named (words.Ask word) = true
is_named (words.One word) = true
is_named (words.Two word) = true
is_named word = false
