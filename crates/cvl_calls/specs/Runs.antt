-- Which calls run a kernel, which take no memory, whose test of an index takes some, and which have a step of their own.
use Rattle.std.specs.Prelude.{Bool, true, false}
use Rattle.cvl_text.specs.declared.word.Word.{Word}
use Rattle.cvl_text.specs.declared.word.Word.TheVariants.{SetInts, SetBools, Ask, One, Two, Three, Alo, Ext, Rep}
use Rattle.cvl_text.specs.declared.word.AskWord.TheVariants.{Get, Free, Len}
use Rattle.cvl_text.specs.declared.word.OneWord.TheVariants.{Mov, MakeSegs, LenSegs, MapZ1, ScanZ}
use Rattle.cvl_text.specs.declared.word.TwoWord.TheVariants.{MapZ2, Smp}
use Rattle.cvl_text.specs.declared.word.ThreeWord.TheVariants.{SmpSeg}

-- every call runs one kernel, except these
abbrev pub runs_kernel : Word → Bool
runs_kernel SetInts = false
runs_kernel SetBools = false
runs_kernel (Ask Get) = false
runs_kernel (Ask Free) = false
runs_kernel (Ask Len) = false
runs_kernel (One Mov) = false
runs_kernel (One MakeSegs) = false
runs_kernel (One LenSegs) = false
runs_kernel Alo = false
runs_kernel Ext = false
runs_kernel Rep = false
runs_kernel word = true

-- whether the index is a permutation is seen by marks, a byte for each place
abbrev pub tests_index : Word → Bool
tests_index (Two (Smp kind)) = true
tests_index (Three (SmpSeg kind)) = true
tests_index word = false

-- on integers, item by item, and a scan of all: a step of its own judges, runs and stores such a call
abbrev pub has_own_step : Word → Bool
has_own_step (One (MapZ1 op)) = true
has_own_step (One (ScanZ op)) = true
has_own_step (Two (MapZ2 op)) = true
has_own_step word = false

-- words whose calls take no memory: they are always answered
abbrev pub TakesNoMemory : Word → Type 0
TakesNoMemory (Ask Free) = Unit {0}
TakesNoMemory (Ask Len) = Unit {0}
TakesNoMemory Ext = Unit {0}
TakesNoMemory word = ⊥
