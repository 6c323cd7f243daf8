use Rattle.std.proofs.Common.{arith, ◌≡◌, ◌∙◌, ◌≤◌, ◌<◌, ◌^◌, ap, length, List, rules, subst, vec_len}
use Rattle.std.specs.List.{range_with_len}
use Rattle.vector_memory.specs.declared.bounds.Bounds.{Bounds}
use Rattle.call_history.specs.declared.entry.Entry.{Entry}
use Rattle.batch_flatten.specs.Alike.{AreOfWord}
use Rattle.batch_flatten.specs.Counts.{RisesBy, wave_count}
use Rattle.batch_flatten.specs.Serving.{Serving}
use Rattle.batch_flatten.proofs.AlikeLemmas.{alike-sure, calls-asked, as-risen, one-wave-count, some-bound, wave-apart-all}
use Rattle.batch_flatten.proofs.AlikeTurns.{one-wave-served}
use Rattle.batch_flatten.proofs.CountLemmas.{rises-one}
use Rattle.batch_flatten.proofs.alike.serve_alike.Goals as goal

pub serve_made-requires-clause-apart : goal.serve_made-requires-clause-apart
serve_made-requires-clause-apart g c =
    wave-apart-all c.args.requests.now.items (subst (λ rs. wave_count rs ≤ 1) c.deref-2.ensures.value (c.are_one_wave.ensures c.if-not-are_one_wave.false))

pub serve_singly-requires-clause-single : goal.serve_singly-requires-clause-single
serve_singly-requires-clause-single g c κs within =
    calls-asked c.args.requests.now.items c.in_ok-word.word (subst (AreOfWord c.in_ok-word.word) c.deref.ensures.value c.in_ok-word.ensures.alike) c.in_ok-word.ensures.kernel

pub returns-in-Ok-make_on-clause-served : goal.returns-in-Ok-make_on-clause-served
returns-in-Ok-make_on-clause-served g c =
    let rs = c.args.requests.now.items in
    let os = c.serve_made.new.outcomes.items in
    let word = c.in_ok-word.word in
    let few = subst (λ l. wave_count l ≤ 1) c.deref-2.ensures.value (c.are_one_wave.ensures c.if-not-are_one_wave.false) in
    let some = subst (λ l. 0 < length l) c.deref.ensures.value c.in_ok-word.ensures.some in
    let alike = subst (AreOfWord word) c.deref.ensures.value c.in_ok-word.ensures.alike in
    let kernel = c.in_ok-word.ensures.kernel in
    let rooms = ap (λ b. b.bounds) c.make_on.ensures.book ∙ c.in-Ok.ensures.bounds in
    let lines = ap (λ b. b.history) c.make_on.ensures.book ∙ c.in-Ok.ensures.history in
    let rose = rises-one c.args.meter.now c.make_on.new.meter c.in-Ok-make_on.ensures.counted in
    let up = rose.rises (subst (λ n. n < 2 ^ 64) c.runs-runs.ensures c.runs-runs.type_inv) in
    let within = rose.within in
    let least = some-bound rs word some few alike kernel in
    record {
      serves = one-wave-served c.args.book.now.bounds c.args.book.now.history c.serve_made.new.book.history rs os some few
          (subst (λ (z : Bounds × (List Entry)). Serving z.0 z.1 rs (range_with_len 0 (length rs)) c.serve_made.new.book.history os) (λ i. (rooms i, lines i)) c.serve_made.ensures.serves);
      bounds = c.serve_made.ensures.bounds ∙ rooms;
      one_wave = one-wave-count rs some few;
      sure = alike-sure rs os word alike kernel;
      rises = up.0;
      bound = omega arith;
      few_singles = omega arith;
      kernels = as-risen c.args.meter.now c.make_on.new.meter rose.chunk;
    }

pub returns-in-Err-OutOfMemory-clause-served : goal.returns-in-Err-OutOfMemory-clause-served
returns-in-Err-OutOfMemory-clause-served g c =
    let rs = c.args.requests.now.items in
    let os = c.serve_singly.new.outcomes.items in
    let word = c.in_ok-word.word in
    let few = subst (λ l. wave_count l ≤ 1) c.deref-2.ensures.value (c.are_one_wave.ensures c.if-not-are_one_wave.false) in
    let some = subst (λ l. 0 < length l) c.deref.ensures.value c.in_ok-word.ensures.some in
    let alike = subst (AreOfWord word) c.deref.ensures.value c.in_ok-word.ensures.alike in
    let kernel = c.in_ok-word.ensures.kernel in
    let rooms = ap (λ b. b.bounds) c.make_on.ensures.book ∙ c.in-Ok.ensures.bounds in
    let lines = ap (λ b. b.history) c.make_on.ensures.book ∙ c.in-Ok.ensures.history in
    let stays = c.in-Err-OutOfMemory.ensures.stays in
    let rose = subst (λ m. RisesBy (length rs) m c.serve_singly.new.meter) stays c.serve_singly.ensures.counted in
    let up = rose.rises (subst (λ n. n < 2 ^ 64) c.runs-runs.ensures c.runs-runs.type_inv) in
    let within = rose.within in
    let count : vec_len c.args.requests.now ≡ length rs = search rules in
    let counted = c.len-count.ensures in
    record {
      serves = one-wave-served c.args.book.now.bounds c.args.book.now.history c.serve_singly.new.book.history rs os some few
          (subst (λ (z : Bounds × (List Entry)). Serving z.0 z.1 rs (range_with_len 0 (length rs)) c.serve_singly.new.book.history os) (λ i. (rooms i, lines i)) c.serve_singly.ensures.serves);
      bounds = c.serve_singly.ensures.bounds ∙ rooms;
      one_wave = one-wave-count rs some few;
      sure = alike-sure rs os word alike kernel;
      rises = up.0;
      bound = omega arith;
      few_singles = omega arith;
      kernels = as-risen c.args.meter.now c.serve_singly.new.meter rose.chunk;
    }
