-- Call words and their texts: `word_text-read`, `word_of-word_text`, `each_word`, `IsWord-word`. A line for each word.
use Rattle.std.proofs.Common.{◌≡◌, ℕ, true, ◌&&◌, find, List, Some, map, refl, sym}
use Rattle.std.specs.Cmp.Lexicographic as texts
use Rattle.item_operations.specs.declared.operation.Z2.{Z2}
use Rattle.item_operations.specs.declared.operation.Z2.TheVariants as z2
use Rattle.item_operations.specs.declared.operation.Z1.{Z1}
use Rattle.item_operations.specs.declared.operation.Z1.TheVariants as z1
use Rattle.item_operations.specs.declared.operation.Cmp.{Cmp}
use Rattle.item_operations.specs.declared.operation.Cmp.TheVariants as cmps
use Rattle.item_operations.specs.declared.operation.B2.{B2}
use Rattle.item_operations.specs.declared.operation.B2.TheVariants as b2
use Rattle.item_operations.specs.declared.operation.B1.{B1}
use Rattle.item_operations.specs.declared.operation.B1.TheVariants as b1
use Rattle.item_operations.specs.declared.combine.ScanZ.{ScanZ as Scans}
use Rattle.item_operations.specs.declared.combine.ScanZ.TheVariants as scans
use Rattle.item_operations.specs.declared.combine.ScanB.{ScanB as ScansB}
use Rattle.item_operations.specs.declared.combine.ScanB.TheVariants as scans_b
use Rattle.cvl_text.specs.declared.word.Kind.{Kind}
use Rattle.cvl_text.specs.declared.word.Kind.TheVariants as kinds
use Rattle.cvl_text.specs.declared.word.AskWord.{AskWord}
use Rattle.cvl_text.specs.declared.word.AskWord.TheVariants as asks
use Rattle.cvl_text.specs.declared.word.OneWord.{OneWord}
use Rattle.cvl_text.specs.declared.word.OneWord.TheVariants as ones
use Rattle.cvl_text.specs.declared.word.TwoWord.{TwoWord}
use Rattle.cvl_text.specs.declared.word.TwoWord.TheVariants as twos
use Rattle.cvl_text.specs.declared.word.ThreeWord.{ThreeWord}
use Rattle.cvl_text.specs.declared.word.ThreeWord.TheVariants as threes
use Rattle.cvl_text.specs.declared.word.Word.{Word}
use Rattle.cvl_text.specs.declared.word.Word.TheVariants as words
use Rattle.cvl_text.specs.Words.{same_text, is_filled, word_text, all_words, word_of}
use Rattle.cvl_text.proofs.Spaced.{IsWord, is_solid}
use Rattle.cvl_text.proofs.Truths.{both, find_some, find_same}

-- the word that a text writes is written so
pub word_text-read : (text : List ℕ) (word : Word) → word_of text ≡ Some word → word_text word ≡ text
unfolding word_of
word_text-read text word e = texts.same_text (word_text word) text (sym (find_some (λ w. same_text (word_text w) text) all_words word e))

abbrev ReadsBack : Word → Type 0
ReadsBack word = find (λ w. same_text (word_text w) (word_text word)) all_words ≡ Some word

found-RedZ : (op : Scans) → ReadsBack (words.Ask (asks.RedZ op))
found-RedZ scans.Add = refl
found-RedZ scans.Mul = refl
found-RedZ scans.Max = refl
found-RedZ scans.Min = refl
found-RedZ scans.And = refl
found-RedZ scans.Ior = refl
found-RedZ scans.Xor = refl

found-RedB : (op : ScansB) → ReadsBack (words.Ask (asks.RedB op))
found-RedB scans_b.And = refl
found-RedB scans_b.Ior = refl
found-RedB scans_b.Xor = refl

found-AskWord : (word : AskWord) → ReadsBack (words.Ask word)
found-AskWord asks.Get = refl
found-AskWord asks.Free = refl
found-AskWord asks.Len = refl
found-AskWord (asks.RedZ op) = found-RedZ op
found-AskWord (asks.RedB op) = found-RedB op

found-MapZ1 : (op : Z1) → ReadsBack (words.One (ones.MapZ1 op))
found-MapZ1 z1.Not = refl
found-MapZ1 z1.Cpy = refl

found-MapB1 : (op : B1) → ReadsBack (words.One (ones.MapB1 op))
found-MapB1 b1.Not = refl
found-MapB1 b1.Cpy = refl

found-ScanZ : (op : Scans) → ReadsBack (words.One (ones.ScanZ op))
found-ScanZ scans.Add = refl
found-ScanZ scans.Mul = refl
found-ScanZ scans.Max = refl
found-ScanZ scans.Min = refl
found-ScanZ scans.And = refl
found-ScanZ scans.Ior = refl
found-ScanZ scans.Xor = refl

found-ScanB : (op : ScansB) → ReadsBack (words.One (ones.ScanB op))
found-ScanB scans_b.And = refl
found-ScanB scans_b.Ior = refl
found-ScanB scans_b.Xor = refl

found-OneWord : (word : OneWord) → ReadsBack (words.One word)
found-OneWord ones.Mov = refl
found-OneWord ones.MakeSegs = refl
found-OneWord ones.LenSegs = refl
found-OneWord ones.Boo = refl
found-OneWord ones.IntOf = refl
found-OneWord (ones.MapZ1 op) = found-MapZ1 op
found-OneWord (ones.MapB1 op) = found-MapB1 op
found-OneWord (ones.ScanZ op) = found-ScanZ op
found-OneWord (ones.ScanB op) = found-ScanB op

found-MapZ2 : (op : Z2) → ReadsBack (words.Two (twos.MapZ2 op))
found-MapZ2 z2.Add = refl
found-MapZ2 z2.Sub = refl
found-MapZ2 z2.Mul = refl
found-MapZ2 z2.Div = refl
found-MapZ2 z2.Mod = refl
found-MapZ2 z2.Max = refl
found-MapZ2 z2.Min = refl
found-MapZ2 z2.And = refl
found-MapZ2 z2.Ior = refl
found-MapZ2 z2.Xor = refl
found-MapZ2 z2.Lsh = refl
found-MapZ2 z2.Rsh = refl

found-CmpZ : (op : Cmp) → ReadsBack (words.Two (twos.CmpZ op))
found-CmpZ cmps.Eql = refl
found-CmpZ cmps.Neq = refl
found-CmpZ cmps.Les = refl
found-CmpZ cmps.Leq = refl
found-CmpZ cmps.Grt = refl
found-CmpZ cmps.Geq = refl

found-MapB2 : (op : B2) → ReadsBack (words.Two (twos.MapB2 op))
found-MapB2 b2.And = refl
found-MapB2 b2.Ior = refl
found-MapB2 b2.Xor = refl

found-ScanSegZ : (op : Scans) → ReadsBack (words.Two (twos.ScanSegZ op))
found-ScanSegZ scans.Add = refl
found-ScanSegZ scans.Mul = refl
found-ScanSegZ scans.Max = refl
found-ScanSegZ scans.Min = refl
found-ScanSegZ scans.And = refl
found-ScanSegZ scans.Ior = refl
found-ScanSegZ scans.Xor = refl

found-ScanSegB : (op : ScansB) → ReadsBack (words.Two (twos.ScanSegB op))
found-ScanSegB scans_b.And = refl
found-ScanSegB scans_b.Ior = refl
found-ScanSegB scans_b.Xor = refl

found-RedSegZ : (op : Scans) → ReadsBack (words.Two (twos.RedSegZ op))
found-RedSegZ scans.Add = refl
found-RedSegZ scans.Mul = refl
found-RedSegZ scans.Max = refl
found-RedSegZ scans.Min = refl
found-RedSegZ scans.And = refl
found-RedSegZ scans.Ior = refl
found-RedSegZ scans.Xor = refl

found-RedSegB : (op : ScansB) → ReadsBack (words.Two (twos.RedSegB op))
found-RedSegB scans_b.And = refl
found-RedSegB scans_b.Ior = refl
found-RedSegB scans_b.Xor = refl

found-DisSeg : (op : Kind) → ReadsBack (words.Two (twos.DisSeg op))
found-DisSeg kinds.Z = refl
found-DisSeg kinds.B = refl

found-Smp : (op : Kind) → ReadsBack (words.Two (twos.Smp op))
found-Smp kinds.Z = refl
found-Smp kinds.B = refl

found-Bck : (op : Kind) → ReadsBack (words.Two (twos.Bck op))
found-Bck kinds.Z = refl
found-Bck kinds.B = refl

found-Pck : (op : Kind) → ReadsBack (words.Two (twos.Pck op))
found-Pck kinds.Z = refl
found-Pck kinds.B = refl

found-TwoWord : (word : TwoWord) → ReadsBack (words.Two word)
found-TwoWord twos.Pkl = refl
found-TwoWord (twos.MapZ2 op) = found-MapZ2 op
found-TwoWord (twos.CmpZ op) = found-CmpZ op
found-TwoWord (twos.MapB2 op) = found-MapB2 op
found-TwoWord (twos.ScanSegZ op) = found-ScanSegZ op
found-TwoWord (twos.ScanSegB op) = found-ScanSegB op
found-TwoWord (twos.RedSegZ op) = found-RedSegZ op
found-TwoWord (twos.RedSegB op) = found-RedSegB op
found-TwoWord (twos.DisSeg op) = found-DisSeg op
found-TwoWord (twos.Smp op) = found-Smp op
found-TwoWord (twos.Bck op) = found-Bck op
found-TwoWord (twos.Pck op) = found-Pck op

found-Sel : (op : Kind) → ReadsBack (words.Three (threes.Sel op))
found-Sel kinds.Z = refl
found-Sel kinds.B = refl

found-SmpSeg : (op : Kind) → ReadsBack (words.Three (threes.SmpSeg op))
found-SmpSeg kinds.Z = refl
found-SmpSeg kinds.B = refl

found-PckSeg : (op : Kind) → ReadsBack (words.Three (threes.PckSeg op))
found-PckSeg kinds.Z = refl
found-PckSeg kinds.B = refl

found-ThreeWord : (word : ThreeWord) → ReadsBack (words.Three word)
found-ThreeWord threes.IndSeg = refl
found-ThreeWord (threes.Sel op) = found-Sel op
found-ThreeWord (threes.SmpSeg op) = found-SmpSeg op
found-ThreeWord (threes.PckSeg op) = found-PckSeg op

found-BckSeg : (op : Kind) → ReadsBack (words.BckSeg op)
found-BckSeg kinds.Z = refl
found-BckSeg kinds.B = refl

pub found-word : (word : Word) → ReadsBack word
found-word words.SetInts = refl
found-word words.SetBools = refl
found-word words.Alo = refl
found-word words.DisZ = refl
found-word words.DisB = refl
found-word words.Ind = refl
found-word words.Ext = refl
found-word words.Rep = refl
found-word (words.Ask word) = found-AskWord word
found-word (words.One word) = found-OneWord word
found-word (words.Two word) = found-TwoWord word
found-word (words.Three word) = found-ThreeWord word
found-word (words.BckSeg op) = found-BckSeg op

pub word_of-word_text : (word : Word) → word_of (word_text word) ≡ Some word
unfolding word_of
word_of-word_text word = found-word word

-- what two functions make alike of all words, they make alike of each
pub each_word : {B : Type 0} (f g : Word → B) → map f all_words ≡ map g all_words → (word : Word) → f word ≡ g word
each_word f g all word = find_same (λ w. same_text (word_text w) (word_text word)) f g all_words word (found-word word) all

all_words_are_words : map (λ word. is_filled (word_text word) && is_solid (word_text word)) all_words ≡ map (λ word. true) all_words
all_words_are_words = refl

pub IsWord-word : (word : Word) → IsWord (word_text word)
IsWord-word word =
    let parts = both (is_filled (word_text word)) (is_solid (word_text word)) (each_word (λ w. is_filled (word_text w) && is_solid (word_text w)) (λ w. true) all_words_are_words word) in
    record { filled = parts.0; solid = parts.1 }
