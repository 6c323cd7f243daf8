-- Two words compare as equal where they are one word (`words_Decide`), for those who compare the words of calls.
use Rattle.std.proofs.Common.{rules, ◌≡◌}
use Rattle.std.specs.Bool.{Decides}
use Rattle.std.proofs.lemmas.Bool.Decides.{Decides-like}
use Rattle.cvl_text.specs.declared.word.AskWord.{AskWord}
use Rattle.cvl_text.specs.declared.word.OneWord.{OneWord}
use Rattle.cvl_text.specs.declared.word.TwoWord.{TwoWord}
use Rattle.cvl_text.specs.declared.word.ThreeWord.{ThreeWord}
use Rattle.cvl_text.specs.declared.word.Word.{Word}
use Rattle.cvl_text.specs.declared.word.Word.TheVariants as words
use Rattle.cvl_text.specs.contracts.word.AskWordPartialEq.TheImpl as ask
use Rattle.cvl_text.specs.contracts.word.OneWordPartialEq.TheImpl as one
use Rattle.cvl_text.specs.contracts.word.TwoWordPartialEq.TheImpl as two
use Rattle.cvl_text.specs.contracts.word.ThreeWordPartialEq.TheImpl as three
use Rattle.cvl_text.specs.contracts.word.WordPartialEq.TheImpl.{ghosts}

asks_Decide : (a b : AskWord) → Decides (ask.ghosts.eq a b) (a ≡ b)
asks_Decide a b = search rules

ones_Decide : (a b : OneWord) → Decides (one.ghosts.eq a b) (a ≡ b)
ones_Decide a b = search rules

twos_Decide : (a b : TwoWord) → Decides (two.ghosts.eq a b) (a ≡ b)
twos_Decide a b = search rules

threes_Decide : (a b : ThreeWord) → Decides (three.ghosts.eq a b) (a ≡ b)
threes_Decide a b = search rules

-- case by case of the first word, which the search takes apart no further than it has to
pub words_Decide : (a b : Word) → Decides (ghosts.eq a b) (a ≡ b)
words_Decide words.SetInts b = search rules
words_Decide words.SetBools b = search rules
words_Decide (words.Ask x) (words.Ask y) = Decides-like _ (search rules) (search rules) (asks_Decide x y)
words_Decide (words.Ask x) b = search rules
words_Decide (words.One x) (words.One y) = Decides-like _ (search rules) (search rules) (ones_Decide x y)
words_Decide (words.One x) b = search rules
words_Decide (words.Two x) (words.Two y) = Decides-like _ (search rules) (search rules) (twos_Decide x y)
words_Decide (words.Two x) b = search rules
words_Decide (words.Three x) (words.Three y) = Decides-like _ (search rules) (search rules) (threes_Decide x y)
words_Decide (words.Three x) b = search rules
words_Decide (words.BckSeg kind) b = search rules
words_Decide words.Alo b = search rules
words_Decide words.DisZ b = search rules
words_Decide words.DisB b = search rules
words_Decide words.Ind b = search rules
words_Decide words.Ext b = search rules
words_Decide words.Rep b = search rules
