use Rattle.std.proofs.Common.{arith, rules, ◌≡◌, ◌∙◌, ap, length, refl, sym, take}
use Rattle.std.specs.List.{range_with_len}
use Rattle.std.proofs.lemmas.List.{length-take-le}
use Rattle.cvl_text.specs.declared.word.Word.TheVariants.{SetInts}
use Rattle.batch_flatten.specs.Joining.{word_at}
use Rattle.batch_flatten.specs.Waves.{in_wave}
use Rattle.batch_flatten.proofs.PlaceLemmas.{all-places, length-range, range-at, wave-more, wave-pass}
use Rattle.batch_flatten.proofs.wave.find_wave.Goals as goal
use Rattle.batch_flatten.proofs.wave.find_wave.Goals.{then-waves-i, else-waves-i}

pub loop-i-preserved : goal.loop-i-preserved
loop-i-preserved c =
    let ws = c.args.waves.now in
    let all = range_with_len 0 c.args.count in
    let i = c.loop-i.i in
    let many = c.loop-i.many in
    let wave = c.args.wave in
    let inv = c.loop-i.invariant in
    let few = inv.few in
    let bound = c.requires in
    let full = length-range 0 c.args.count in
    let long : length ws ≡ 64 = search rules in
    let every : length c.args.words.now ≡ 64 = search rules in
    let room : length c.loop-i.found ≡ 64 = search rules in
    let space : length c.loop-i.found_words ≡ 64 = search rules in
    elim c.if-waves-i.branch [
      | then-waves-i w ↦
          let more = w.many-is in
          record {
            few = omega arith;
            places = (λ j. take (w.many-is j) (w.found-is j))
                ∙ wave-more ws all c.loop-i.found wave i many i 0 (omega arith) (omega arith) (omega arith) w.if-waves-i.true (sym (range-at c.args.count i 0 (omega arith))) inv.places;
            words = (λ j. take (w.many-is j) (w.found_words-is j))
                ∙ wave-more ws c.args.words.now c.loop-i.found_words wave i many (word_at c.args.words.now i) SetInts (omega arith) (omega arith) (omega arith) w.if-waves-i.true refl inv.words;
          }
      | else-waves-i w ↦
          let same = w.many-is in
          record {
            few = omega arith;
            places = (λ j. take (w.many-is j) (w.found-is j)) ∙ wave-pass ws all wave i (take many c.loop-i.found) (omega arith) (omega arith) w.if-waves-i.false inv.places;
            words = (λ j. take (w.many-is j) (w.found_words-is j)) ∙ wave-pass ws c.args.words.now wave i (take many c.loop-i.found_words) (omega arith) (omega arith) w.if-waves-i.false inv.words;
          }
    ]

pub returns-clause-places : goal.returns-clause-places
returns-clause-places c =
    let ws = c.args.waves.now in
    let i = c.loop-i.i in
    let bound = c.requires in
    let long : length ws ≡ 64 = search rules in
    let at_end : i ≡ c.args.count = omega arith in
    all-places (take c.args.count ws) c.args.wave c.args.count (take c.loop-i.many c.loop-i.found) (length-take-le c.args.count ws (omega arith))
    (c.loop-i.invariant.places ∙ ap (λ n. in_wave c.args.wave (take n ws) (take n (range_with_len 0 c.args.count))) at_end)
