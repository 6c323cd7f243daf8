use Rattle.std.proofs.Common.{arith, ◌∙◌, ◌+◌, ◌<◌, ◌++◌, ℕ, List, append-nil, length, refl, slice_index, subst, sum, sym, take}
use Rattle.std.proofs.lemmas.List.{take_all}
use Rattle.call_history.specs.Books.{memory_of}
use Rattle.batch_flatten.specs.Serving.{AnswersSure, Serving}
use Rattle.batch_flatten.specs.Counts.{different_kernels, size_at, sizes_back}
use Rattle.batch_flatten.specs.Places.{at_places}
use Rattle.batch_flatten.proofs.CountLemmas.{rises-more, rises-same}
use Rattle.batch_flatten.proofs.ServingLemmas.{back-again, one-more, serving_more}
use Rattle.batch_flatten.proofs.TurnLemmas.{apart-kept, lawful-kept, prepared-none, size-kept, together-first, words-kept}
use Rattle.batch_flatten.proofs.SizeLemmas.{sum-next}
use Rattle.batch_flatten.proofs.wave.serve_wave.Goals as goal

pub serve_next-singles-requires-clause-words : goal.serve_next-singles-requires-clause-words
serve_next-singles-requires-clause-words g c κs within = words-kept c.args.words.now c.args.outcomes.now.items c.loop-position.outcomes.items c.args.places.now c.loop-position.invariant.back c.requires.words

pub serve_next-singles-requires-clause-apart : goal.serve_next-singles-requires-clause-apart
serve_next-singles-requires-clause-apart g c κs within = apart-kept c.args.outcomes.now.items c.loop-position.outcomes.items c.args.places.now c.loop-position.invariant.back c.requires.apart

pub serve_next-singles-requires-clause-lawful_jobs : goal.serve_next-singles-requires-clause-lawful_jobs
serve_next-singles-requires-clause-lawful_jobs g c κs within = lawful-kept c.args.outcomes.now.items c.loop-position.outcomes.items c.loop-position.invariant.back c.requires.lawful_jobs

pub loop-position-init : goal.loop-position-init
loop-position-init g c =
    let few = c.requires.few_places in
    let paired = c.requires.paired in
    record {
      serves = λ line rs done by outside s. subst (λ (l : List ℕ). Serving c.args.book.now.bounds line rs l c.args.book.now.history c.args.outcomes.now.items) (sym (append-nil done)) s;
      sure = λ done sure. subst (AnswersSure c.args.outcomes.now.items) (sym (append-nil done)) sure;
      prepared = prepared-none (memory_of c.args.book.now) c.args.outcomes.now.items c.args.places.now c.args.words.now c.new-works.result.items few;
      together = together-first c.args.words.now (length c.args.places.now) paired few;
      counted = rises-same (0 + (0 + 0)) c.args.meter.now c.args.meter.now refl;
      few_singles = omega arith;
      back = λ i o there lacks. there;
      bounds = refl;
      space = c.requires.space;
      count = refl;
      spaces = refl;
    }

pub loop-position-preserved : goal.loop-position-preserved
loop-position-preserved g c =
    let ps = c.args.places.now in
    let k = c.loop-position.position in
    let inv = c.loop-position.invariant in
    let next = c.serve_next-singles.ensures in
    let lt : k < length ps = omega arith in
    let os = c.args.outcomes.now.items in
    let all = sum (at_places (sizes_back os) (take k ps)) in
    let more = sum-next (sizes_back os) ps k lt in
    let size = size-kept os c.loop-position.outcomes.items inv.back (slice_index ps k) in
    let singles = c.loop-position.singles in
    let result = c.serve_next-singles.result in
    let kernels = different_kernels (take (k + 1) c.args.words.now) in
    let few = inv.few_singles in
    let one = next.one in
    record {
      serves = λ line rs done by outside s.
          serving_more c.args.book.now.bounds c.loop-position.book.bounds line c.loop-position.book.history rs done ps k (slice_index ps k) c.loop-position.outcomes.items inv.bounds refl lt outside c.requires.rising
          (inv.serves line rs done by outside s) c.serve_next-singles.new.book.history c.serve_next-singles.new.outcomes.items (next.serves line rs (done ++ take k ps) by);
      sure = λ done all. subst (AnswersSure c.serve_next-singles.new.outcomes.items) (one-more done ps k lt) (next.sure (done ++ take k ps) (inv.sure done all));
      prepared = next.prepared;
      together = next.together;
      counted = rises-more (kernels + (all + singles + size_at c.loop-position.outcomes.items (slice_index ps k) + result)) (kernels + (sum (at_places (sizes_back os) (take (k + 1) ps)) + (singles + result)))
          c.args.meter.now c.serve_next-singles.new.meter (omega (arith, more, size)) (next.counted c.args.meter.now (all + singles) inv.counted);
      few_singles = omega arith;
      back = back-again c.args.outcomes.now.items c.loop-position.outcomes.items c.serve_next-singles.new.outcomes.items inv.back next.back;
      bounds = next.bounds ∙ inv.bounds;
      space = next.space;
      count = next.count ∙ inv.count;
      spaces = next.spaces ∙ inv.spaces;
    }

pub returns-clause-serves : goal.returns-clause-serves
returns-clause-serves g c =
    let all = take_all c.loop-position.position c.args.places.now c.loop-position-test.false in
    λ line rs done by outside s.
    subst (λ (l : List ℕ). Serving c.args.book.now.bounds line rs (done ++ l) c.loop-position.book.history c.loop-position.outcomes.items) all (c.loop-position.invariant.serves line rs done by outside s)
