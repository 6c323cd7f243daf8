-- A line as words, and how each call word is written: what stands before the `_` is the operation, what stands after it the shape.
use Rattle.std.specs.Prelude.{ℕ, suc, Bool, true, false, ◌==◌, nat_eq, List, [], ◌∷◌, ◌++◌, map, filter, if◌then◌else◌, codes, Option, find}
use Rattle.std.specs.Map.{lookup}
use Rattle.std.specs.Cmp.Lexicographic.{pointwise}
use Rattle.item_operations.specs.declared.operation.Z2.{Z2}
use Rattle.item_operations.specs.declared.operation.Z2.TheVariants as z2
use Rattle.item_operations.specs.declared.operation.Z1.{Z1}
use Rattle.item_operations.specs.declared.operation.Z1.TheVariants as z1
use Rattle.item_operations.specs.declared.operation.Cmp.{Cmp}
use Rattle.item_operations.specs.declared.operation.Cmp.TheVariants as cmps
use Rattle.item_operations.specs.declared.operation.B2.{B2}
use Rattle.item_operations.specs.declared.operation.B2.TheVariants as b2
use Rattle.item_operations.specs.declared.operation.B1.{B1}
use Rattle.item_operations.specs.declared.operation.B1.TheVariants as b1
use Rattle.item_operations.specs.declared.combine.ScanZ.{ScanZ as Scans}
use Rattle.item_operations.specs.declared.combine.ScanZ.TheVariants as scans
use Rattle.item_operations.specs.declared.combine.ScanB.{ScanB as ScansB}
use Rattle.item_operations.specs.declared.combine.ScanB.TheVariants as scans_b
use Rattle.cvl_text.specs.declared.word.Kind.{Kind}
use Rattle.cvl_text.specs.declared.word.Kind.TheVariants as kinds
use Rattle.cvl_text.specs.declared.word.AskWord.{AskWord}
use Rattle.cvl_text.specs.declared.word.AskWord.TheVariants as asks
use Rattle.cvl_text.specs.declared.word.OneWord.{OneWord}
use Rattle.cvl_text.specs.declared.word.OneWord.TheVariants as ones
use Rattle.cvl_text.specs.declared.word.TwoWord.{TwoWord}
use Rattle.cvl_text.specs.declared.word.TwoWord.TheVariants as twos
use Rattle.cvl_text.specs.declared.word.ThreeWord.{ThreeWord}
use Rattle.cvl_text.specs.declared.word.ThreeWord.TheVariants as threes
use Rattle.cvl_text.specs.declared.word.Word.{Word}
use Rattle.cvl_text.specs.declared.word.Word.TheVariants as words

-- a byte in front of the first piece
abbrev pub onto_first : ℕ → List (List ℕ) → List (List ℕ)
onto_first b [] = (b ∷ []) ∷ []
onto_first b (w ∷ ws) = (b ∷ w) ∷ ws

-- what stands before, between and after the spaces
abbrev pub pieces : List ℕ → List (List ℕ)
pieces [] = [] ∷ []
pieces (b ∷ bs) = if b == 32 then [] ∷ pieces bs else onto_first b (pieces bs)

abbrev pub is_filled : List ℕ → Bool
is_filled [] = false
is_filled (b ∷ bs) = true

-- the words of a line, which runs of spaces part
abbrev pub words_of : List ℕ → List (List ℕ)
words_of line = filter is_filled (pieces line)

abbrev pub same_text : List ℕ → List ℕ → Bool
same_text a b = pointwise nat_eq a b

-- the operations as they are written
abbrev pub z2_text : Z2 → List ℕ
z2_text z2.Add = codes "add"
z2_text z2.Sub = codes "sub"
z2_text z2.Mul = codes "mul"
z2_text z2.Div = codes "div"
z2_text z2.Mod = codes "mod"
z2_text z2.Max = codes "max"
z2_text z2.Min = codes "min"
z2_text z2.And = codes "and"
z2_text z2.Ior = codes "ior"
z2_text z2.Xor = codes "xor"
z2_text z2.Lsh = codes "lsh"
z2_text z2.Rsh = codes "rsh"

abbrev pub z1_text : Z1 → List ℕ
z1_text z1.Not = codes "not"
z1_text z1.Cpy = codes "cpy"

abbrev pub cmp_text : Cmp → List ℕ
cmp_text cmps.Eql = codes "eql"
cmp_text cmps.Neq = codes "neq"
cmp_text cmps.Les = codes "les"
cmp_text cmps.Leq = codes "leq"
cmp_text cmps.Grt = codes "grt"
cmp_text cmps.Geq = codes "geq"

abbrev pub b2_text : B2 → List ℕ
b2_text b2.And = codes "and"
b2_text b2.Ior = codes "ior"
b2_text b2.Xor = codes "xor"

abbrev pub b1_text : B1 → List ℕ
b1_text b1.Not = codes "not"
b1_text b1.Cpy = codes "cpy"

abbrev pub scan_z_text : Scans → List ℕ
scan_z_text scans.Add = codes "add"
scan_z_text scans.Mul = codes "mul"
scan_z_text scans.Max = codes "max"
scan_z_text scans.Min = codes "min"
scan_z_text scans.And = codes "and"
scan_z_text scans.Ior = codes "ior"
scan_z_text scans.Xor = codes "xor"

abbrev pub scan_b_text : ScansB → List ℕ
scan_b_text scans_b.And = codes "and"
scan_b_text scans_b.Ior = codes "ior"
scan_b_text scans_b.Xor = codes "xor"

-- the letter of a type of items
abbrev pub kind_text : Kind → List ℕ
kind_text kinds.Z = codes "z"
kind_text kinds.B = codes "b"

abbrev pub ask_text : AskWord → List ℕ
ask_text asks.Get = codes "get"
ask_text asks.Free = codes "fre_fov"
ask_text asks.Len = codes "len_fov"
ask_text (asks.RedZ op) = scan_z_text op ++ codes "_ruz"
ask_text (asks.RedB op) = scan_b_text op ++ codes "_rub"

abbrev pub one_text : OneWord → List ℕ
one_text ones.Mov = codes "mov_fov"
one_text ones.MakeSegs = codes "mke_fov"
one_text ones.LenSegs = codes "len_fos"
one_text (ones.MapZ1 op) = z1_text op ++ codes "_wuz"
one_text (ones.MapB1 op) = b1_text op ++ codes "_wub"
one_text ones.Boo = codes "boo_wuz"
one_text ones.IntOf = codes "int_wub"
one_text (ones.ScanZ op) = scan_z_text op ++ codes "_suz"
one_text (ones.ScanB op) = scan_b_text op ++ codes "_sub"

abbrev pub two_text : TwoWord → List ℕ
two_text (twos.MapZ2 op) = z2_text op ++ codes "_wuz"
two_text (twos.CmpZ op) = cmp_text op ++ codes "_wuz"
two_text (twos.MapB2 op) = b2_text op ++ codes "_wub"
two_text (twos.ScanSegZ op) = scan_z_text op ++ codes "_sez"
two_text (twos.ScanSegB op) = scan_b_text op ++ codes "_seb"
two_text (twos.RedSegZ op) = scan_z_text op ++ codes "_rez"
two_text (twos.RedSegB op) = scan_b_text op ++ codes "_reb"
two_text (twos.DisSeg kind) = codes "dis_ve" ++ kind_text kind
two_text (twos.Smp kind) = codes "smp_pu" ++ kind_text kind
two_text (twos.Bck kind) = codes "bck_pu" ++ kind_text kind
two_text (twos.Pck kind) = codes "pck_pu" ++ kind_text kind
two_text twos.Pkl = codes "pkl_leb"

abbrev pub three_text : ThreeWord → List ℕ
three_text (threes.Sel kind) = codes "sel_wu" ++ kind_text kind
three_text threes.IndSeg = codes "ind_lez"
three_text (threes.SmpSeg kind) = codes "smp_pe" ++ kind_text kind
three_text (threes.PckSeg kind) = codes "pck_pe" ++ kind_text kind

-- how a word is written
abbrev pub word_text : Word → List ℕ
word_text words.SetInts = codes "z"
word_text words.SetBools = codes "b"
word_text (words.Ask word) = ask_text word
word_text (words.One word) = one_text word
word_text (words.Two word) = two_text word
word_text (words.Three word) = three_text word
word_text (words.BckSeg kind) = codes "bck_pe" ++ kind_text kind
word_text words.Alo = codes "alo_foz"
word_text words.DisZ = codes "dis_vuz"
word_text words.DisB = codes "dis_vub"
word_text words.Ind = codes "ind_luz"
word_text words.Ext = codes "ext_vuz"
word_text words.Rep = codes "rep_vuz"

-- every word
abbrev pub all_kinds : List Kind
all_kinds = kinds.Z ∷ kinds.B ∷ []

abbrev pub all_z2 : List Z2
all_z2 = z2.Add ∷ z2.Sub ∷ z2.Mul ∷ z2.Div ∷ z2.Mod ∷ z2.Max ∷ z2.Min ∷ z2.And ∷ z2.Ior ∷ z2.Xor ∷ z2.Lsh ∷ z2.Rsh ∷ []

abbrev pub all_cmps : List Cmp
all_cmps = cmps.Eql ∷ cmps.Neq ∷ cmps.Les ∷ cmps.Leq ∷ cmps.Grt ∷ cmps.Geq ∷ []

abbrev pub all_b2 : List B2
all_b2 = b2.And ∷ b2.Ior ∷ b2.Xor ∷ []

abbrev pub all_scans : List Scans
all_scans = scans.Add ∷ scans.Mul ∷ scans.Max ∷ scans.Min ∷ scans.And ∷ scans.Ior ∷ scans.Xor ∷ []

abbrev pub all_scans_b : List ScansB
all_scans_b = scans_b.And ∷ scans_b.Ior ∷ scans_b.Xor ∷ []

abbrev pub all_asks : List AskWord
all_asks = asks.Get ∷ asks.Free ∷ asks.Len ∷ map (λ op. asks.RedZ op) all_scans ++ map (λ op. asks.RedB op) all_scans_b

abbrev pub all_ones : List OneWord
all_ones =
    ones.Mov ∷ ones.MakeSegs ∷ ones.LenSegs ∷ ones.MapZ1 z1.Not ∷ ones.MapZ1 z1.Cpy ∷ ones.MapB1 b1.Not ∷ ones.MapB1 b1.Cpy ∷ ones.Boo ∷ ones.IntOf
    ∷ map (λ op. ones.ScanZ op) all_scans ++ map (λ op. ones.ScanB op) all_scans_b

abbrev pub all_twos : List TwoWord
all_twos =
    map (λ op. twos.MapZ2 op) all_z2 ++ map (λ op. twos.CmpZ op) all_cmps ++ map (λ op. twos.MapB2 op) all_b2
    ++ map (λ op. twos.ScanSegZ op) all_scans ++ map (λ op. twos.ScanSegB op) all_scans_b
    ++ map (λ op. twos.RedSegZ op) all_scans ++ map (λ op. twos.RedSegB op) all_scans_b
    ++ map (λ kind. twos.DisSeg kind) all_kinds ++ map (λ kind. twos.Smp kind) all_kinds
    ++ map (λ kind. twos.Bck kind) all_kinds ++ map (λ kind. twos.Pck kind) all_kinds ++ twos.Pkl ∷ []

abbrev pub all_threes : List ThreeWord
all_threes =
    threes.IndSeg ∷ map (λ kind. threes.Sel kind) all_kinds ++ map (λ kind. threes.SmpSeg kind) all_kinds ++ map (λ kind. threes.PckSeg kind) all_kinds

abbrev pub all_words : List Word
all_words =
    words.SetInts ∷ words.SetBools ∷ words.Alo ∷ words.DisZ ∷ words.DisB ∷ words.Ind ∷ words.Ext ∷ words.Rep
    ∷ map (λ word. words.Ask word) all_asks ++ map (λ word. words.One word) all_ones ++ map (λ word. words.Two word) all_twos
    ++ map (λ word. words.Three word) all_threes ++ map (λ kind. words.BckSeg kind) all_kinds

-- the word that a text writes
unfoldable pub word_of : List ℕ → Option Word
word_of text = find (λ w. same_text (word_text w) text) all_words

-- what stands beside a text in the first row that has it
unfoldable pub beside : {A : Type 0} → List (List ℕ × A) → List ℕ → Option A
beside rows text = lookup (λ t. same_text t text) rows

abbrev pub is_space : ℕ → Bool
is_space b = b == 32

abbrev pub skip_spaces : List ℕ → List ℕ
skip_spaces [] = []
skip_spaces (b ∷ bs) = if b == 32 then skip_spaces bs else b ∷ bs

-- how many bytes stand before the first space
abbrev pub word_len : List ℕ → ℕ
word_len [] = 0
word_len (b ∷ bs) = if b == 32 then 0 else suc (word_len bs)
