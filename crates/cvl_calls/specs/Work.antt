-- The work of each shape of call: its result, or the first fault, from the operands alone. `limit` is the greatest number of
-- items of a value. A block has one line a check, in the order in which they are made: a name that stands for nothing, a
-- value of another type, and then the shape's own. Room and the number of names are judged where the result is stored.
use Rattle.std.specs.Prelude.{ℕ, pos, unsigned_abs, not, List, length, map, sum, replicate, None, Result, Ok, nat_le, ◌==◌, unwrap_or, slice_get, slice_set}
use Rattle.std.specs.List.{list_all}
use Rattle.segment_desc.specs.Lengths.{has_negative, sizes}
use Rattle.item_operations.specs.IntegerOps.{apply_z, alter_z, compares}
use Rattle.item_operations.specs.BooleanOps.{apply_b, alter_b}
use Rattle.item_operations.specs.IntegerScans.{combine_z, unit_z}
use Rattle.item_operations.specs.BooleanScans.{combine_b, unit_b}
use Rattle.scan_kernels.specs.Elementwise.{item_by_item, selected, is_true, as_number}
use Rattle.scan_kernels.specs.Segmented.{reduced, scanned, segmented_scan, segmented_reduce}
use Rattle.scan_kernels.specs.Distributed.{distributed}
use Rattle.scan_kernels.specs.Indexed.{indexed, segmented_index}
use Rattle.scan_kernels.specs.Permuted.{permuted, segmented_permute}
use Rattle.scan_kernels.specs.Gathered.{item_at, gathered, segmented_gather}
use Rattle.scan_kernels.specs.Packed.{packed, numbers_set}
use Rattle.cvl_calls.specs.SegmentedPack.{segmented_pack}
use Rattle.vector_memory.specs.Contents.{Ints, Segs, size_of}
use Rattle.cvl_text.specs.declared.fault.Fault.{Fault}
use Rattle.cvl_text.specs.declared.fault.Fault.TheVariants.{BadSegments, BadIndex, TooLong}
use Rattle.cvl_text.specs.declared.word.Word.{Word}
use Rattle.cvl_text.specs.declared.word.Word.TheVariants as words
use Rattle.cvl_text.specs.declared.word.AskWord.{AskWord}
use Rattle.cvl_text.specs.declared.word.AskWord.TheVariants as asks
use Rattle.cvl_text.specs.declared.word.OneWord.{OneWord}
use Rattle.cvl_text.specs.declared.word.OneWord.TheVariants as ones
use Rattle.cvl_text.specs.declared.word.TwoWord.{TwoWord}
use Rattle.cvl_text.specs.declared.word.TwoWord.TheVariants as twos
use Rattle.cvl_text.specs.declared.word.ThreeWord.{ThreeWord}
use Rattle.cvl_text.specs.declared.word.ThreeWord.TheVariants as threes
use Rattle.cvl_text.specs.declared.word.Kind.{Kind}
use Rattle.cvl_text.specs.declared.word.Kind.TheVariants as kinds
use Rattle.cvl_text.specs.Answers.{IntOf, VectorOf}
use Rattle.cvl_calls.specs.Outcomes.{Operand, Held, Effect, Stores, Frees, Answers, ◌>>=◌, check}
use Rattle.cvl_calls.specs.Operands.{any_value, ints, bools, segs, ItemType, integers, truths, items, over_items, number, count}
use Rattle.cvl_calls.specs.Conditions.{same_length, has_all, has_each, any_seconds, seconds, is_place, holds_each_place, permutes, lies_within, found}

-- d = z x .., d = b T F ..
unfoldable pub set : {X : Type 0} → ℕ → ItemType X → Operand → Result Effect Fault
set limit type a = do
  xs ← type.listed a
  fits ← check (nat_le (length xs) limit) TooLong
  Ok (Stores (type.vector xs))

-- get a
unfoldable pub get : Operand → Result Effect Fault
get a = do
  v ← any_value a
  Ok (Answers (VectorOf v))

-- d = mov_fov a
unfoldable pub mov : Operand → Result Effect Fault
mov a = do
  v ← any_value a
  Ok (Stores v)

-- fre_fov a
unfoldable pub free : Operand → Result Effect Fault
free a = do
  v ← any_value a
  Ok Frees

-- d = alo_foz n
unfoldable pub alo : ℕ → Operand → Result Effect Fault
alo limit n = do
  many ← count limit n
  Ok (Stores (Ints (replicate many (pos 0))))

-- len_fov a
unfoldable pub len : Operand → Result Effect Fault
len a = do
  v ← any_value a
  Ok (Answers (IntOf (pos (size_of v))))

-- d = mke_fov a
unfoldable pub make_segs : ℕ → Operand → Result Effect Fault
make_segs limit a = do
  xs ← ints a
  lengths ← check (not (has_negative xs)) BadSegments
  fits ← check (nat_le (sum (sizes xs)) limit) TooLong
  Ok (Stores (Segs (sizes xs)))

-- d = len_fos s
unfoldable pub len_segs : Operand → Result Effect Fault
len_segs s = do
  ls ← segs s
  Ok (Stores (Ints (map pos ls)))

-- d = OP_wuz a b, d = OP_wub a b: of the type `of` and into the type `to`, where the second operands may be `taken`
unfoldable pub map_two : {X Y : Type 0} → ItemType X → ItemType Y → (List X → Result (Unit {0}) Fault) → (X → X → Y) → Operand → Operand → Result Effect Fault
map_two of to taken op a b = do
  xs ← of.read a
  ys ← of.read b
  same ← same_length (length xs) (length ys)
  allowed ← taken ys
  Ok (Stores (to.vector (item_by_item op xs ys)))

-- d = not_wuz a, d = cpy_wuz a, d = not_wub a, d = cpy_wub a, d = boo_wuz a, d = int_wub a
unfoldable pub map_one : {X Y : Type 0} → ItemType X → ItemType Y → (X → Y) → Operand → Result Effect Fault
map_one of to op a = do
  xs ← of.read a
  Ok (Stores (to.vector (map op xs)))

-- d = sel_wuz f a b, d = sel_wub f a b
unfoldable pub select : {X : Type 0} → ItemType X → Operand → Operand → Operand → Result Effect Fault
select type f a b = do
  flags ← bools f
  xs ← type.read a
  ys ← type.read b
  first ← same_length (length flags) (length xs)
  second ← same_length (length flags) (length ys)
  Ok (Stores (type.vector (selected flags xs ys)))

-- d = OP_suz a, d = OP_sub a
unfoldable pub scan : {X : Type 0} → ItemType X → (X → X → X) → X → Operand → Result Effect Fault
scan type op unit a = do
  xs ← type.read a
  Ok (Stores (type.vector (scanned op unit xs)))

-- d = OP_sez a s, d = OP_seb a s
unfoldable pub scan_segments : {X : Type 0} → ItemType X → (X → X → X) → X → Operand → Operand → Result Effect Fault
scan_segments type op unit a s = do
  xs ← type.read a
  ls ← segs s
  all ← has_all ls (length xs)
  Ok (Stores (type.vector (segmented_scan op unit ls xs)))

-- OP_ruz a, OP_rub a
unfoldable pub reduce : {X : Type 0} → ItemType X → (X → X → X) → X → Operand → Result Effect Fault
reduce type op unit a = do
  xs ← type.read a
  Ok (Answers (type.answer (reduced op unit xs)))

-- d = OP_rez a s, d = OP_reb a s
unfoldable pub reduce_segments : {X : Type 0} → ItemType X → (X → X → X) → X → Operand → Operand → Result Effect Fault
reduce_segments type op unit a s = do
  xs ← type.read a
  ls ← segs s
  all ← has_all ls (length xs)
  Ok (Stores (type.vector (segmented_reduce op unit ls xs)))

-- d = dis_vuz x n, d = dis_vub x n
unfoldable pub repeat : {X : Type 0} → ℕ → ItemType X → Operand → Operand → Result Effect Fault
repeat limit type x n = do
  item ← type.one x
  many ← count limit n
  Ok (Stores (type.vector (replicate many item)))

-- d = dis_vez a s, d = dis_veb a s
unfoldable pub distribute : Kind → Operand → Operand → Result Effect Fault
distribute kind a s = do
  v ← items kind a
  ls ← segs s
  each ← has_each ls (size_of v)
  Ok (Stores (over_items (λ X xs. distributed ls xs) v))

-- d = ind_luz u v n
unfoldable pub index : ℕ → Operand → Operand → Operand → Result Effect Fault
index limit u v n = do
  start ← number u
  stride ← number v
  many ← count limit n
  Ok (Stores (Ints (indexed start stride many)))

-- d = ind_lez a b s
unfoldable pub index_segments : Operand → Operand → Operand → Result Effect Fault
index_segments a b s = do
  starts ← ints a
  strides ← ints b
  ls ← segs s
  same ← same_length (length starts) (length strides)
  each ← has_each ls (length starts)
  Ok (Stores (Ints (segmented_index ls starts strides)))

-- d = smp_puz a i, d = smp_pub a i
unfoldable pub permute : Kind → Operand → Operand → Result Effect Fault
permute kind a i = do
  v ← items kind a
  places ← ints i
  same ← same_length (size_of v) (length places)
  each ← check (holds_each_place places) BadIndex
  Ok (Stores (over_items (λ X xs. permuted places xs) v))

-- d = smp_pez a i s, d = smp_peb a i s
unfoldable pub permute_segments : Kind → Operand → Operand → Operand → Result Effect Fault
permute_segments kind a i s = do
  v ← items kind a
  places ← ints i
  ls ← segs s
  same ← same_length (size_of v) (length places)
  all ← has_all ls (size_of v)
  each ← check (permutes ls places) BadIndex
  Ok (Stores (over_items (λ X xs. segmented_permute ls places xs) v))

-- d = bck_puz a i, d = bck_pub a i
unfoldable pub gather : Kind → Operand → Operand → Result Effect Fault
gather kind a i = do
  v ← items kind a
  places ← ints i
  each ← check (list_all (is_place (size_of v)) places) BadIndex
  Ok (Stores (over_items (λ X xs. gathered places xs) v))

-- d = bck_pez a s i t, d = bck_peb a s i t
unfoldable pub gather_segments : Kind → Operand → Operand → Operand → Operand → Result Effect Fault
gather_segments kind a s i t = do
  v ← items kind a
  ss ← segs s
  places ← ints i
  ts ← segs t
  source ← has_all ss (size_of v)
  all ← has_all ts (length places)
  counts ← check (length ss == length ts) BadSegments
  each ← check (lies_within ss ts places) BadIndex
  Ok (Stores (over_items (λ X xs. segmented_gather ss xs ts places) v))

-- d = pck_puz a f, d = pck_pub a f
unfoldable pub pack : Kind → Operand → Operand → Result Effect Fault
pack kind a f = do
  v ← items kind a
  flags ← bools f
  same ← same_length (size_of v) (length flags)
  Ok (Stores (over_items (λ X xs. packed flags xs) v))

-- d = pck_pez a f s, d = pck_peb a f s
unfoldable pub pack_segments : Kind → Operand → Operand → Operand → Result Effect Fault
pack_segments kind a f s = do
  v ← items kind a
  flags ← bools f
  ls ← segs s
  same ← same_length (size_of v) (length flags)
  all ← has_all ls (size_of v)
  Ok (Stores (over_items (λ X xs. segmented_pack ls flags xs) v))

-- d = pkl_leb f s
unfoldable pub pack_lengths : Operand → Operand → Result Effect Fault
pack_lengths f s = do
  flags ← bools f
  ls ← segs s
  all ← has_all ls (length flags)
  Ok (Stores (Ints (numbers_set ls flags)))

-- ext_vuz a p
unfoldable pub extract : Operand → Operand → Result Effect Fault
extract a p = do
  xs ← ints a
  place ← number p
  x ← found (item_at xs place) BadIndex
  Ok (Answers (IntOf x))

-- d = rep_vuz a p x
unfoldable pub replace : Operand → Operand → Operand → Result Effect Fault
replace a p x = do
  xs ← ints a
  place ← number p
  item ← number x
  inside ← check (is_place (length xs) place) BadIndex
  Ok (Stores (Ints (slice_set xs (unsigned_abs place) item)))

-- the operand at a place
abbrev pub operand : List Operand → ℕ → Operand
operand operands i = unwrap_or (slice_get operands i) (Held None)

abbrev pub ask : AskWord → Operand → Result Effect Fault
ask asks.Get a = get a
ask asks.Free a = free a
ask asks.Len a = len a
ask (asks.RedZ op) a = reduce integers (combine_z op) (unit_z op) a
ask (asks.RedB op) a = reduce truths (combine_b op) (unit_b op) a

abbrev pub of_one : ℕ → OneWord → Operand → Result Effect Fault
of_one limit ones.Mov a = mov a
of_one limit ones.MakeSegs a = make_segs limit a
of_one limit ones.LenSegs s = len_segs s
of_one limit (ones.MapZ1 op) a = map_one integers integers (alter_z op) a
of_one limit (ones.MapB1 op) a = map_one truths truths (alter_b op) a
of_one limit ones.Boo a = map_one integers truths is_true a
of_one limit ones.IntOf a = map_one truths integers as_number a
of_one limit (ones.ScanZ op) a = scan integers (combine_z op) (unit_z op) a
of_one limit (ones.ScanB op) a = scan truths (combine_b op) (unit_b op) a

abbrev pub of_two : TwoWord → Operand → Operand → Result Effect Fault
of_two (twos.MapZ2 op) a b = map_two integers integers (seconds op) (apply_z op) a b
of_two (twos.CmpZ op) a b = map_two integers truths any_seconds (compares op) a b
of_two (twos.MapB2 op) a b = map_two truths truths any_seconds (apply_b op) a b
of_two (twos.ScanSegZ op) a s = scan_segments integers (combine_z op) (unit_z op) a s
of_two (twos.ScanSegB op) a s = scan_segments truths (combine_b op) (unit_b op) a s
of_two (twos.RedSegZ op) a s = reduce_segments integers (combine_z op) (unit_z op) a s
of_two (twos.RedSegB op) a s = reduce_segments truths (combine_b op) (unit_b op) a s
of_two (twos.DisSeg kind) a s = distribute kind a s
of_two (twos.Smp kind) a i = permute kind a i
of_two (twos.Bck kind) a i = gather kind a i
of_two (twos.Pck kind) a f = pack kind a f
of_two twos.Pkl f s = pack_lengths f s

abbrev pub of_three : ThreeWord → Operand → Operand → Operand → Result Effect Fault
of_three (threes.Sel kinds.Z) f a b = select integers f a b
of_three (threes.Sel kinds.B) f a b = select truths f a b
of_three threes.IndSeg a b s = index_segments a b s
of_three (threes.SmpSeg kind) a i s = permute_segments kind a i s
of_three (threes.PckSeg kind) a f s = pack_segments kind a f s

-- the result of a call, or its first fault
abbrev pub work : ℕ → Word → List Operand → Result Effect Fault
work limit words.SetInts os = set limit integers (operand os 0)
work limit words.SetBools os = set limit truths (operand os 0)
work limit (words.Ask word) os = ask word (operand os 0)
work limit (words.One word) os = of_one limit word (operand os 0)
work limit (words.Two word) os = of_two word (operand os 0) (operand os 1)
work limit (words.Three word) os = of_three word (operand os 0) (operand os 1) (operand os 2)
work limit (words.BckSeg kind) os = gather_segments kind (operand os 0) (operand os 1) (operand os 2) (operand os 3)
work limit words.Alo os = alo limit (operand os 0)
work limit words.DisZ os = repeat limit integers (operand os 0) (operand os 1)
work limit words.DisB os = repeat limit truths (operand os 0) (operand os 1)
work limit words.Ind os = index limit (operand os 0) (operand os 1) (operand os 2)
work limit words.Ext os = extract (operand os 0) (operand os 1)
work limit words.Rep os = replace (operand os 0) (operand os 1) (operand os 2)
