-- The same inner word makes the same word.
use Rattle.std.proofs.Common.{◌≡◌, ap}
use Rattle.cvl_text.specs.declared.word.Word.TheVariants.{One, Two, Three, BckSeg}
use Rattle.cvl_text.specs.declared.word.OneWord.{OneWord}
use Rattle.cvl_text.specs.declared.word.TwoWord.{TwoWord}
use Rattle.cvl_text.specs.declared.word.ThreeWord.{ThreeWord}
use Rattle.cvl_text.specs.declared.word.Kind.{Kind}

pub same_one : {w v : OneWord} → w ≡ v → One w ≡ One v
same_one is = ap (λ (w : OneWord). One w) is

pub same_two : {w v : TwoWord} → w ≡ v → Two w ≡ Two v
same_two is = ap (λ (w : TwoWord). Two w) is

pub same_three : {w v : ThreeWord} → w ≡ v → Three w ≡ Three v
same_three is = ap (λ (w : ThreeWord). Three w) is

pub same_four : {k l : Kind} → k ≡ l → BckSeg k ≡ BckSeg l
same_four is = ap (λ (k : Kind). BckSeg k) is
