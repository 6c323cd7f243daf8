use Rattle.std.proofs.Common.{◌≡◌, sym, ap, ◌∙◌, rules}
use Rattle.std.specs.Prelude.{codes}
use Rattle.std.proofs.lemmas.Bool.{ne_eqb}
use Rattle.cvl_text.specs.declared.word.AskWord.TheVariants.{Get}
use Rattle.cvl_text.specs.declared.word.Word.TheVariants.{SetInts, SetBools, Ask}
use Rattle.cvl_text.specs.Words.{word_of}
use Rattle.cvl_text.proofs.WordTexts.{word_of-word_text}
use Rattle.cvl_text.proofs.WordTable.{word_of-bare}
use Rattle.cvl_text.proofs.words.bare_word.Goals as goal

pub returns-then-eq : goal.returns-then-eq
returns-then-eq c =
    let is : c.args.text.now ≡ codes "z" = search rules in
    sym (ap word_of is ∙ word_of-word_text SetInts)

pub returns-then-eq-2 : goal.returns-then-eq-2
returns-then-eq-2 c =
    let is : c.args.text.now ≡ codes "b" = search rules in
    sym (ap word_of is ∙ word_of-word_text SetBools)

pub returns-then-eq-3 : goal.returns-then-eq-3
returns-then-eq-3 c =
    let is : c.args.text.now ≡ codes "get" = search rules in
    sym (ap word_of is ∙ word_of-word_text (Ask Get))

pub returns-else-eq-3 : goal.returns-else-eq-3
returns-else-eq-3 c =
    sym (word_of-bare c.args.text.now (ne_eqb _ 7 c.requires) (search rules) (search rules) (search rules))
