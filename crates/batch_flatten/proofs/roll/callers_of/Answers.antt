use Rattle.std.proofs.Common.{arith, ◌∙◌, ◌<◌, sym, ap, ◌∷◌, ◌++◌, length, [], refl, get_or}
use Rattle.std.proofs.lemmas.List.{map_more, length-set, take_more_set}
use Rattle.batch_flatten.specs.Serving.{caller_of}
use Rattle.batch_flatten.proofs.RollLemmas.{below-none, below-set, lawful-get}
use Rattle.batch_flatten.proofs.roll.callers_of.Goals as goal

pub loop-i-init : goal.loop-i-init
loop-i-init c = record { noted = refl; lawful = below-none; long = refl }

pub loop-i-preserved : goal.loop-i-preserved
loop-i-preserved c =
    let i = c.loop-i.i in
    let rs = c.args.requests.now in
    let d = c.index-requests-i.result in
    let lt : i < length rs = omega arith in
    let long = c.loop-i.invariant.long in
    let k = (get_or rs i d).caller in
    record {
      noted = take_more_set c.loop-i.callers i k (omega arith) ∙ ap (λ l. l ++ k ∷ []) c.loop-i.invariant.noted ∙ sym (map_more caller_of rs i d lt);
      lawful = below-set c.loop-i.callers i k (lawful-get rs i d c.requires.lawful lt) c.loop-i.invariant.lawful;
      long = length-set c.loop-i.callers i k ∙ long;
    }

pub overflow_cast-callers : goal.overflow_cast-callers
overflow_cast-callers c = let lt = lawful-get c.args.requests.now c.loop-i.i c.index-requests-i.result c.requires.lawful (omega arith) in omega arith
