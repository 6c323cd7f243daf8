-- A call in which no fault was found: its word, what the run of it makes, and what its operands keep.
use Rattle.std.specs.Prelude.{◌≡◌, ◌<◌, ◌≤◌, pos, Bool, map, length, sum, replicate, slice_set, All, Result, Ok, Err}
use Rattle.segment_desc.specs.Lengths.{IsWithinLimits, most, sizes}
use Rattle.item_operations.specs.IntegerOps.{IsAllowed, apply_z, alter_z, compares}
use Rattle.item_operations.specs.BooleanOps.{apply_b, alter_b}
use Rattle.item_operations.specs.IntegerScans.{combine_z, unit_z}
use Rattle.item_operations.specs.BooleanScans.{combine_b, unit_b}
use Rattle.scan_kernels.specs.Elementwise.{item_by_item, selected, is_true, as_number}
use Rattle.scan_kernels.specs.Segmented.{reduced, scanned, segmented_scan, segmented_reduce}
use Rattle.scan_kernels.specs.Distributed.{distributed}
use Rattle.scan_kernels.specs.Indexed.{indexed, segmented_index}
use Rattle.scan_kernels.specs.Permuted.{permuted, segmented_permute}
use Rattle.scan_kernels.specs.Gathered.{gathered, segmented_gather}
use Rattle.scan_kernels.specs.Indices.{HoldsEachPlaceOnce, IsPlaceOf, LieWithin, PermuteSegments}
use Rattle.scan_kernels.specs.Packed.{packed, numbers_set}
use Rattle.vector_memory.specs.Contents.{Ints, Bools, Segs, content_of, size_of}
use Rattle.cvl_text.specs.declared.fault.Fault.{Fault}
use Rattle.cvl_text.specs.declared.word.Word.{Word}
use Rattle.cvl_text.specs.declared.word.Word.TheVariants as words
use Rattle.cvl_text.specs.declared.word.AskWord.TheVariants as asks
use Rattle.cvl_text.specs.declared.word.OneWord.TheVariants as ones
use Rattle.cvl_text.specs.declared.word.TwoWord.TheVariants as twos
use Rattle.cvl_text.specs.declared.word.ThreeWord.TheVariants as threes
use Rattle.cvl_text.specs.declared.word.Kind.TheVariants as kinds
use Rattle.cvl_text.specs.Answers.{IntOf, BoolOf, VectorOf}
use Rattle.cvl_calls.specs.declared.stop.Stop.{Stop}
use Rattle.cvl_calls.specs.declared.stop.Stop.TheVariants as stops
use Rattle.cvl_calls.specs.declared.judged.Judged.{Judged}
use Rattle.cvl_calls.specs.declared.judged.Judged.TheVariants as judged
use Rattle.cvl_calls.specs.Operands.{over_items}
use Rattle.cvl_calls.specs.Outcomes.{Effect, Stores, Frees, Answers, Fails}
use Rattle.cvl_calls.specs.SegmentedPack.{segmented_pack}
use Rattle.cvl_calls.specs.Views.{vector_of, kind_of}

-- the word of the call
abbrev pub word_of : Judged → Word
word_of (judged.SetInts xs) = words.SetInts
word_of (judged.SetBools bs) = words.SetBools
word_of (judged.Get v) = words.Ask asks.Get
word_of (judged.Mov v) = words.One ones.Mov
word_of judged.Free = words.Ask asks.Free
word_of (judged.Alo n) = words.Alo
word_of (judged.Len n) = words.Ask asks.Len
word_of (judged.MakeSegs xs total) = words.One ones.MakeSegs
word_of (judged.LenSegs s) = words.One ones.LenSegs
word_of (judged.MapInts op a b) = words.Two (twos.MapZ2 op)
word_of (judged.Compare op a b) = words.Two (twos.CmpZ op)
word_of (judged.MapBools op a b) = words.Two (twos.MapB2 op)
word_of (judged.AlterInts op a) = words.One (ones.MapZ1 op)
word_of (judged.AlterBools op a) = words.One (ones.MapB1 op)
word_of (judged.TruthsOf a) = words.One ones.Boo
word_of (judged.NumbersOf a) = words.One ones.IntOf
word_of (judged.SelectInts f a b) = words.Three (threes.Sel kinds.Z)
word_of (judged.SelectBools f a b) = words.Three (threes.Sel kinds.B)
word_of (judged.ScanInts op a) = words.One (ones.ScanZ op)
word_of (judged.ScanIntSegments op a s) = words.Two (twos.ScanSegZ op)
word_of (judged.ScanBools op a) = words.One (ones.ScanB op)
word_of (judged.ScanBoolSegments op a s) = words.Two (twos.ScanSegB op)
word_of (judged.ReduceInts op a) = words.Ask (asks.RedZ op)
word_of (judged.ReduceBools op a) = words.Ask (asks.RedB op)
word_of (judged.ReduceIntSegments op a s) = words.Two (twos.RedSegZ op)
word_of (judged.ReduceBoolSegments op a s) = words.Two (twos.RedSegB op)
word_of (judged.RepeatInt x n) = words.DisZ
word_of (judged.RepeatBool x n) = words.DisB
word_of (judged.Distribute v s) = words.Two (twos.DisSeg (kind_of v))
word_of (judged.Index u v n) = words.Ind
word_of (judged.IndexSegments a b s) = words.Three threes.IndSeg
word_of (judged.Permute v i) = words.Two (twos.Smp (kind_of v))
word_of (judged.PermuteSegments v i s) = words.Three (threes.SmpSeg (kind_of v))
word_of (judged.Gather v i) = words.Two (twos.Bck (kind_of v))
word_of (judged.GatherSegments v s i t) = words.BckSeg (kind_of v)
word_of (judged.Pack v f) = words.Two (twos.Pck (kind_of v))
word_of (judged.PackSegments v f s) = words.Three (threes.PckSeg (kind_of v))
word_of (judged.PackLengths f s) = words.Two twos.Pkl
word_of (judged.Ext x) = words.Ext
word_of (judged.Rep a p x) = words.Rep

-- what the run of it makes
abbrev pub made : Judged → Effect
made (judged.SetInts xs) = Stores (Ints xs.now)
made (judged.SetBools bs) = Stores (Bools bs.now)
made (judged.Get v) = Answers (VectorOf (content_of v.now))
made (judged.Mov v) = Stores (content_of v.now)
made judged.Free = Frees
made (judged.Alo n) = Stores (Ints (replicate n (pos 0)))
made (judged.Len n) = Answers (IntOf n)
made (judged.MakeSegs xs total) = Stores (Segs (sizes xs.now))
made (judged.LenSegs s) = Stores (Ints (map pos s.now))
made (judged.MapInts op a b) = Stores (Ints (item_by_item (apply_z op) a.now b.now))
made (judged.Compare op a b) = Stores (Bools (item_by_item (compares op) a.now b.now))
made (judged.MapBools op a b) = Stores (Bools (item_by_item (apply_b op) a.now b.now))
made (judged.AlterInts op a) = Stores (Ints (map (alter_z op) a.now))
made (judged.AlterBools op a) = Stores (Bools (map (alter_b op) a.now))
made (judged.TruthsOf a) = Stores (Bools (map is_true a.now))
made (judged.NumbersOf a) = Stores (Ints (map as_number a.now))
made (judged.SelectInts f a b) = Stores (Ints (selected f.now a.now b.now))
made (judged.SelectBools f a b) = Stores (Bools (selected f.now a.now b.now))
made (judged.ScanInts op a) = Stores (Ints (scanned (combine_z op) (unit_z op) a.now))
made (judged.ScanIntSegments op a s) = Stores (Ints (segmented_scan (combine_z op) (unit_z op) s.now a.now))
made (judged.ScanBools op a) = Stores (Bools (scanned (combine_b op) (unit_b op) a.now))
made (judged.ScanBoolSegments op a s) = Stores (Bools (segmented_scan (combine_b op) (unit_b op) s.now a.now))
made (judged.ReduceInts op a) = Answers (IntOf (reduced (combine_z op) (unit_z op) a.now))
made (judged.ReduceBools op a) = Answers (BoolOf (reduced (combine_b op) (unit_b op) a.now))
made (judged.ReduceIntSegments op a s) = Stores (Ints (segmented_reduce (combine_z op) (unit_z op) s.now a.now))
made (judged.ReduceBoolSegments op a s) = Stores (Bools (segmented_reduce (combine_b op) (unit_b op) s.now a.now))
made (judged.RepeatInt x n) = Stores (Ints (replicate n x))
made (judged.RepeatBool x n) = Stores (Bools (replicate n x))
made (judged.Distribute v s) = Stores (over_items (λ X xs. distributed s.now xs) (vector_of v))
made (judged.Index u v n) = Stores (Ints (indexed u v n))
made (judged.IndexSegments a b s) = Stores (Ints (segmented_index s.now a.now b.now))
made (judged.Permute v i) = Stores (over_items (λ X xs. permuted i.now xs) (vector_of v))
made (judged.PermuteSegments v i s) = Stores (over_items (λ X xs. segmented_permute s.now i.now xs) (vector_of v))
made (judged.Gather v i) = Stores (over_items (λ X xs. gathered i.now xs) (vector_of v))
made (judged.GatherSegments v s i t) = Stores (over_items (λ X xs. segmented_gather s.now xs t.now i.now) (vector_of v))
made (judged.Pack v f) = Stores (over_items (λ X xs. packed f.now xs) (vector_of v))
made (judged.PackSegments v f s) = Stores (over_items (λ X xs. segmented_pack s.now f.now xs) (vector_of v))
made (judged.PackLengths f s) = Stores (Ints (numbers_set s.now f.now))
made (judged.Ext x) = Answers (IntOf x)
made (judged.Rep a p x) = Stores (Ints (slice_set a.now p x))

-- what the operands keep together, so that the call may be run
abbrev pub IsReady : Judged → Type 0
IsReady (judged.MakeSegs xs total) = IsWithinLimits (sizes xs.now) × (sum (sizes xs.now) ≡ total)
IsReady (judged.MapInts op a b) = (length a.now ≡ length b.now) × All (IsAllowed op) b.now
IsReady (judged.Compare op a b) = length a.now ≡ length b.now
IsReady (judged.MapBools op a b) = length a.now ≡ length b.now
IsReady (judged.SelectInts f a b) = (length f.now ≡ length a.now) × (length f.now ≡ length b.now)
IsReady (judged.SelectBools f a b) = (length f.now ≡ length a.now) × (length f.now ≡ length b.now)
IsReady (judged.ScanIntSegments op a s) = sum s.now ≡ length a.now
IsReady (judged.ScanBoolSegments op a s) = sum s.now ≡ length a.now
IsReady (judged.ReduceIntSegments op a s) = sum s.now ≡ length a.now
IsReady (judged.ReduceBoolSegments op a s) = sum s.now ≡ length a.now
IsReady (judged.Distribute v s) = length s.now ≡ size_of (vector_of v)
IsReady (judged.Index u v n) = n ≤ most
IsReady (judged.IndexSegments a b s) = (length a.now ≡ length b.now) × (length s.now ≡ length a.now)
IsReady (judged.Permute v i) = (size_of (vector_of v) ≡ length i.now) × HoldsEachPlaceOnce i.now
IsReady (judged.PermuteSegments v i s) = (size_of (vector_of v) ≡ length i.now) × (sum s.now ≡ size_of (vector_of v)) × PermuteSegments s.now i.now
IsReady (judged.Gather v i) = All (IsPlaceOf (size_of (vector_of v))) i.now
IsReady (judged.GatherSegments v s i t) = (sum s.now ≡ size_of (vector_of v)) × (sum t.now ≡ length i.now) × (length s.now ≡ length t.now) × LieWithin s.now t.now i.now
IsReady (judged.Pack v f) = size_of (vector_of v) ≡ length f.now
IsReady (judged.PackSegments v f s) = (size_of (vector_of v) ≡ length f.now) × (sum s.now ≡ size_of (vector_of v))
IsReady (judged.PackLengths f s) = sum s.now ≡ length f.now
IsReady (judged.Rep a p x) = p < length a.now
IsReady other = Unit {0}

-- What the checks of a call of this word return, where the definition of its work says what comes of it: what is left to be
-- done, ready to be run, or the first fault.
abbrev pub Judges : Word → Result Effect Fault → Result Judged Stop → Type 0
Judges word said (Ok judged) = (Ok (made judged) ≡ said) × (word_of judged ≡ word) × IsReady judged
Judges word said (Err (stops.Fault fault)) = Err fault ≡ said
Judges word said (Err stops.OutOfMemory) = ⊥

-- The same where memory may run out in the checks.
abbrev pub JudgesBy : Bool → Word → Result Effect Fault → Result Judged Stop → Type 0
JudgesBy tested word said (Ok judged) = (said ≡ Ok (made judged)) × (word_of judged ≡ word) × IsReady judged
JudgesBy tested word said (Err stop) = Fails tested stop said
