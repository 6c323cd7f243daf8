-- Calls whose arguments are names alone: the call of a word and its names.
use Rattle.std.specs.Prelude.{ℕ, List, Some, None}
use Rattle.cvl_text.specs.declared.word.AskWord.{AskWord}
use Rattle.cvl_text.specs.declared.word.AskWord.TheVariants as asks
use Rattle.cvl_text.specs.declared.word.OneWord.{OneWord}
use Rattle.cvl_text.specs.declared.word.OneWord.TheVariants as ones
use Rattle.cvl_text.specs.declared.word.TwoWord.{TwoWord}
use Rattle.cvl_text.specs.declared.word.TwoWord.TheVariants as twos
use Rattle.cvl_text.specs.declared.call.Call.{Call}
use Rattle.cvl_text.specs.declared.call.Call.TheVariants as calls

-- a word that stands first
abbrev pub ask_call : AskWord → List ℕ → Call
ask_call asks.Get a = calls.Get a
ask_call asks.Free a = calls.Free a
ask_call asks.Len a = calls.Len a
ask_call (asks.RedZ op) a = calls.RedZ op a
ask_call (asks.RedB op) a = calls.RedB op a

-- a word with a target and one name
abbrev pub one_call : OneWord → List ℕ → List ℕ → Call
one_call ones.Mov to a = calls.Mov to a
one_call ones.MakeSegs to a = calls.MakeSegs to a
one_call ones.LenSegs to s = calls.LenSegs to s
one_call (ones.MapZ1 op) to a = calls.MapZ1 op to a
one_call (ones.MapB1 op) to a = calls.MapB1 op to a
one_call ones.Boo to a = calls.Boo to a
one_call ones.IntOf to a = calls.IntOf to a
one_call (ones.ScanZ op) to a = calls.ScanOfZ op to a None
one_call (ones.ScanB op) to a = calls.ScanOfB op to a None

-- a word with a target and two names
abbrev pub two_call : TwoWord → List ℕ → List ℕ → List ℕ → Call
two_call (twos.MapZ2 op) to a b = calls.MapZ2 op to a b
two_call (twos.CmpZ op) to a b = calls.CmpZ op to a b
two_call (twos.MapB2 op) to a b = calls.MapB2 op to a b
two_call (twos.ScanSegZ op) to a s = calls.ScanOfZ op to a (Some s)
two_call (twos.ScanSegB op) to a s = calls.ScanOfB op to a (Some s)
two_call (twos.RedSegZ op) to a s = calls.RedSegZ op to a s
two_call (twos.RedSegB op) to a s = calls.RedSegB op to a s
two_call (twos.DisSeg kind) to a s = calls.DisSeg kind to a s
two_call (twos.Smp kind) to a i = calls.Smp kind to a i
two_call (twos.Bck kind) to a i = calls.Bck kind to a i
two_call (twos.Pck kind) to a f = calls.Pck kind to a f
two_call twos.Pkl to f s = calls.Pkl to f s
