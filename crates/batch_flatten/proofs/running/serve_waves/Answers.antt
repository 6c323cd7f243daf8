use Rattle.std.proofs.Common.{arith, rules, ◌≡◌, ◌∙◌, ◌+◌, ◌<◌, ◌++◌, All, ap, length, subst, sum, sym, take, vec_len}
use Rattle.std.proofs.lemmas.List.{length-append, length-map, length-take-le}
use Rattle.batch_flatten.specs.Waves.{in_wave}
use Rattle.batch_flatten.specs.Places.{IsOutside, at_places, places_of, places_of_first}
use Rattle.batch_flatten.specs.Counts.{different_kernels, kernels_below, size_back, sizes_back}
use Rattle.batch_flatten.specs.Serving.{AnswersSure}
use Rattle.batch_flatten.proofs.CountLemmas.{rises-both}
use Rattle.batch_flatten.proofs.DifferentLemmas.{kernels-next}
use Rattle.batch_flatten.proofs.PlaceLemmas.{places-next}
use Rattle.batch_flatten.proofs.ServingLemmas.{back-again, serving_wave}
use Rattle.batch_flatten.proofs.SizeLemmas.{sum-found}
use Rattle.batch_flatten.proofs.TurnLemmas.{apart-kept, lawful-kept, size-kept, words-kept}
use Rattle.batch_flatten.proofs.WavePlaces.{found-words, places-few, places-outside, places-within, rising-found, same-places, same-words, wave-apart}
use Rattle.batch_flatten.proofs.running.serve_waves.Goals as goal

pub serve_wave-singles-requires-clause-within : goal.serve_wave-singles-requires-clause-within
serve_wave-singles-requires-clause-within g c κs within =
    let n = vec_len c.args.outcomes.now in
    let waves = c.args.roll.now.waves in
    let ws = take n waves in
    let wave = c.loop-wave.wave in
    let inv = c.loop-wave.invariant in
    let found = take c.find_wave-many.result c.find_wave-many.new.found in
    let is : found ≡ places_of ws wave = same-places waves found wave c.len.result n c.find_wave-many.ensures.places (c.len.ensures ∙ inv.count) in
    let long : length waves ≡ 64 = search rules in
    let full : length ws ≡ n = length-take-le n waves (omega arith) in
    let same = inv.count in
    subst (All (λ p. p < vec_len c.loop-wave.outcomes)) (sym is) (places-within ws wave (vec_len c.loop-wave.outcomes) (omega arith))

pub serve_wave-singles-requires-clause-rising : goal.serve_wave-singles-requires-clause-rising
serve_wave-singles-requires-clause-rising g c κs within =
    rising-found (take c.len.result c.args.roll.now.waves) (take c.find_wave-many.result c.find_wave-many.new.found) c.loop-wave.wave c.find_wave-many.ensures.places

pub serve_wave-singles-requires-clause-lawful_jobs : goal.serve_wave-singles-requires-clause-lawful_jobs
serve_wave-singles-requires-clause-lawful_jobs g c κs within = lawful-kept c.args.outcomes.now.items c.loop-wave.outcomes.items c.loop-wave.invariant.back c.requires.lawful_jobs

pub serve_wave-singles-requires-clause-words : goal.serve_wave-singles-requires-clause-words
serve_wave-singles-requires-clause-words g c κs within =
    let n = vec_len c.args.outcomes.now in
    let waves = c.args.roll.now.waves in
    let ws = take n waves in
    let wave = c.loop-wave.wave in
    let inv = c.loop-wave.invariant in
    let found = take c.find_wave-many.result c.find_wave-many.new.found in
    let is : found ≡ places_of ws wave = same-places waves found wave c.len.result n c.find_wave-many.ensures.places (c.len.ensures ∙ inv.count) in
    let long : length waves ≡ 64 = search rules in
    let full : length ws ≡ n = length-take-le n waves (omega arith) in
    let found_words = take c.find_wave-many.result c.find_wave-many.new.found_words in
    let are : found_words ≡ in_wave wave ws (take n c.args.roll.now.words) = same-words waves c.args.roll.now.words found_words wave c.len.result n c.find_wave-many.ensures.words (c.len.ensures ∙ inv.count) in
    let every : length c.args.roll.now.words ≡ 64 = search rules in
    words-kept found_words c.args.outcomes.now.items c.loop-wave.outcomes.items found inv.back
    (found-words c.args.roll.now.words found_words c.args.outcomes.now.items ws found wave n c.requires.words full (omega arith) is are)

pub serve_wave-singles-requires-clause-apart : goal.serve_wave-singles-requires-clause-apart
serve_wave-singles-requires-clause-apart g c κs within =
    let n = vec_len c.args.outcomes.now in
    let waves = c.args.roll.now.waves in
    let ws = take n waves in
    let wave = c.loop-wave.wave in
    let inv = c.loop-wave.invariant in
    let found = take c.find_wave-many.result c.find_wave-many.new.found in
    let is : found ≡ places_of ws wave = same-places waves found wave c.len.result n c.find_wave-many.ensures.places (c.len.ensures ∙ inv.count) in
    let long : length waves ≡ 64 = search rules in
    let full : length ws ≡ n = length-take-le n waves (omega arith) in
    apart-kept c.args.outcomes.now.items c.loop-wave.outcomes.items found inv.back (wave-apart waves c.args.outcomes.now.items found wave n c.requires.apart (omega arith) is)

pub overflow_add-singles : goal.overflow_add-singles
overflow_add-singles g c =
    let n = vec_len c.args.outcomes.now in
    let waves = c.args.roll.now.waves in
    let ws = take n waves in
    let wave = c.loop-wave.wave in
    let inv = c.loop-wave.invariant in
    let found = take c.find_wave-many.result c.find_wave-many.new.found in
    let is : found ≡ places_of ws wave = same-places waves found wave c.len.result n c.find_wave-many.ensures.places (c.len.ensures ∙ inv.count) in
    let long : length waves ≡ 64 = search rules in
    let full : length ws ≡ n = length-take-le n waves (omega arith) in
    let all = ap length is in
    let few = places-few ws wave in
    let before = inv.few_singles in
    let one = c.serve_wave-singles.ensures.few_singles in
    omega arith

pub loop-wave-preserved : goal.loop-wave-preserved
loop-wave-preserved g c =
    let n = vec_len c.args.outcomes.now in
    let waves = c.args.roll.now.waves in
    let ws = take n waves in
    let wave = c.loop-wave.wave in
    let inv = c.loop-wave.invariant in
    let found = take c.find_wave-many.result c.find_wave-many.new.found in
    let is : found ≡ places_of ws wave = same-places waves found wave c.len.result n c.find_wave-many.ensures.places (c.len.ensures ∙ inv.count) in
    let found_words = take c.find_wave-many.result c.find_wave-many.new.found_words in
    let are : found_words ≡ in_wave wave ws (take n c.args.roll.now.words) = same-words waves c.args.roll.now.words found_words wave c.len.result n c.find_wave-many.ensures.words (c.len.ensures ∙ inv.count) in
    let done = places_of_first ws wave in
    let next : done ++ found ≡ places_of_first ws (wave + 1) = ap (λ l. done ++ l) is ∙ sym (places-next ws wave) in
    let more = ap length next in
    let both = length-append done found in
    let first = c.args.outcomes.now.items in
    let kernels = kernels-next ws (take n c.args.roll.now.words) (sizes_back first) wave in
    let long : length waves ≡ 64 = search rules in
    let count : n ≡ length first = search rules in
    let full : length ws ≡ length (sizes_back first) = length-take-le n waves (omega arith) ∙ count ∙ sym (length-map first size_back) in
    let sizes = sum-found (sizes_back c.loop-wave.outcomes.items) (sizes_back first) ws found wave full is (size-kept first c.loop-wave.outcomes.items inv.back) in
    let same = ap different_kernels are in
    let before = inv.few_singles in
    let one = c.serve_wave-singles.ensures.few_singles in
    record {
      serves = λ line rs by s.
          serving_wave c.args.book.now.bounds c.loop-wave.book.bounds line c.loop-wave.book.history rs done found (places_of_first ws (wave + 1)) c.loop-wave.outcomes.items
          c.serve_wave-singles.new.book.history c.serve_wave-singles.new.outcomes.items inv.bounds next (subst (All (IsOutside done)) (sym is) (places-outside ws wave)) (inv.serves line rs by s) (c.serve_wave-singles.ensures.serves line rs done by);
      sure = subst (AnswersSure c.serve_wave-singles.new.outcomes.items) next (c.serve_wave-singles.ensures.sure done inv.sure);
      counted = rises-both (kernels_below ws (take n c.args.roll.now.words) (sizes_back first) wave + c.loop-wave.singles)
          (different_kernels found_words + (sum (at_places (sizes_back c.loop-wave.outcomes.items) found) + c.serve_wave-singles.result))
          (kernels_below ws (take n c.args.roll.now.words) (sizes_back first) (wave + 1) + (c.loop-wave.singles + c.serve_wave-singles.result)) c.args.meter.now c.loop-wave.meter c.serve_wave-singles.new.meter
          (omega (arith, kernels, same, sizes)) inv.counted c.serve_wave-singles.ensures.counted;
      few_singles = omega arith;
      back = back-again c.args.outcomes.now.items c.loop-wave.outcomes.items c.serve_wave-singles.new.outcomes.items inv.back c.serve_wave-singles.ensures.back;
      bounds = c.serve_wave-singles.ensures.bounds ∙ inv.bounds;
      space = c.serve_wave-singles.ensures.space;
      count = c.serve_wave-singles.ensures.count ∙ inv.count;
      spaces = c.serve_wave-singles.ensures.spaces ∙ inv.spaces;
    }

pub returns-clause-few_singles : goal.returns-clause-few_singles
returns-clause-few_singles g c =
    let n = vec_len c.args.outcomes.now in
    let ws = take n c.args.roll.now.waves in
    let long : length c.args.roll.now.waves ≡ 64 = search rules in
    let full : length ws ≡ n = length-take-le n c.args.roll.now.waves (omega arith) in
    let few = places-few ws c.loop-wave.wave in
    let singles = c.loop-wave.invariant.few_singles in
    omega arith
