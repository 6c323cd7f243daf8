-- The families of calls, by which they are copied.
use Rattle.std.specs.Prelude.{Bool, true, false}
use Rattle.cvl_text.specs.declared.call.Call.{Call}
use Rattle.cvl_text.specs.declared.call.Call.TheVariants as calls

-- elementwise
abbrev pub is_map : Call → Bool
is_map (calls.MapZ2 op to a b) = true
is_map (calls.MapZ1 op to a) = true
is_map (calls.CmpZ op to a b) = true
is_map (calls.MapB2 op to a b) = true
is_map (calls.MapB1 op to a) = true
is_map (calls.Boo to a) = true
is_map (calls.IntOf to a) = true
is_map other = false

-- scans and reductions
abbrev pub is_scan : Call → Bool
is_scan (calls.ScanOfZ op to a s) = true
is_scan (calls.ScanOfB op to a s) = true
is_scan (calls.RedZ op a) = true
is_scan (calls.RedB op a) = true
is_scan (calls.RedSegZ op to a s) = true
is_scan (calls.RedSegB op to a s) = true
is_scan other = false

-- what distributes, counts up or moves items, and names no more than three
abbrev pub is_move : Call → Bool
is_move (calls.DisZ to x n) = true
is_move (calls.DisB to x n) = true
is_move (calls.DisSeg kind to a s) = true
is_move (calls.Ind to u v n) = true
is_move (calls.Smp kind to a i) = true
is_move (calls.Bck kind to a i) = true
is_move (calls.Pck kind to a f) = true
is_move (calls.Pkl to f s) = true
is_move other = false

-- without items or names behind a pointer, and of none of these
abbrev pub is_plain : Call → Bool
is_plain (calls.Get a) = true
is_plain (calls.Mov to a) = true
is_plain (calls.Free a) = true
is_plain (calls.Alo to n) = true
is_plain (calls.Len a) = true
is_plain (calls.MakeSegs to a) = true
is_plain (calls.LenSegs to s) = true
is_plain (calls.Ext a p) = true
is_plain (calls.Rep to a p x) = true
is_plain other = false
