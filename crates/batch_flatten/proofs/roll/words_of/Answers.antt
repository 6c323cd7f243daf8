use Rattle.std.proofs.Common.{arith, ◌∙◌, ◌<◌, sym, ap, ◌∷◌, ◌++◌, length, map, take, []}
use Rattle.std.proofs.lemmas.List.{map_more, length-set, take_more_set}
use Rattle.cvl_text.specs.declared.word.Word.{Word}
use Rattle.batch_flatten.specs.Counts.{word_asked}
use Rattle.batch_flatten.proofs.roll.words_of.Goals as goal

pub loop-i-preserved : goal.loop-i-preserved
loop-i-preserved c =
    let i = c.loop-i.i in
    let rs = c.args.requests.now in
    let d = c.index-requests-i.result in
    let lt : i < length rs = omega arith in
    let long = c.loop-i.invariant.long in
    let word = c.job_word.result in
    record {
      noted = take_more_set c.loop-i.words i word (omega arith) ∙ ap (λ l. l ++ word ∷ []) c.loop-i.invariant.noted
          ∙ ap (λ (w : Word). map word_asked (take i rs) ++ w ∷ []) c.job_word.ensures ∙ sym (map_more word_asked rs i d lt);
      long = length-set c.loop-i.words i word ∙ long;
    }
