use Rattle.std.proofs.Common.{arith, rules, ◌≡◌, ◌∙◌, ◌+◌, ◌-◌, ◌≤◌, ◌<◌, ◌^◌, ◌++◌, ap, length, List, subst, sym, vec_len}
use Rattle.std.specs.List.{range_with_len}
use Rattle.vector_memory.specs.declared.bounds.Bounds.{Bounds}
use Rattle.call_history.specs.declared.entry.Entry.{Entry}
use Rattle.call_history.specs.declared.request.Outcome.{Outcome}
use Rattle.call_history.specs.declared.request.Request.{Request}
use Rattle.call_history.specs.Blocks.{Whole}
use Rattle.batch_flatten.specs.Alike.{AreOfWord, RunTogether, done_from}
use Rattle.batch_flatten.specs.Counts.{wave_count}
use Rattle.batch_flatten.specs.Serving.{Serving}
use Rattle.batch_flatten.proofs.AlikeLemmas.{alike-sure, as-risen, one-wave-count, some-bound}
use Rattle.batch_flatten.proofs.AlikeTurns.{one-wave-served}
use Rattle.batch_flatten.proofs.CountLemmas.{rises-one}
use Rattle.batch_flatten.proofs.OverTurns.{together-serves}
use Rattle.batch_flatten.proofs.over.serve_over.Goals as goal

pub returns-clause-served : goal.returns-clause-served
returns-clause-served g c is =
    let rs = c.args.requests.now.items in
    let os = c.answer_done.new.outcomes.items in
    let word = c.in-Some.word in
    let mid = c.reserve.new.self in
    let new = c.run_over.new.book in
    let few = subst (λ l. wave_count l ≤ 1) c.deref-2.ensures.value (c.are_one_wave.ensures c.if-not-are_one_wave.false) in
    let some = subst (λ l. 0 < length l) c.deref.ensures.value c.in-Some.ensures.some in
    let alike = subst (AreOfWord word) c.deref.ensures.value c.in-Some.ensures.alike in
    let kernel = c.in-Some.ensures.kernel in
    let rooms = c.in-Ok.ensures.bounds in
    let lines = c.in-Ok.ensures.history in
    let rose = rises-one c.args.meter.now c.run_over.new.meter (c.run_over.ensures.counted (search rules)) in
    let ran = subst (RunTogether mid new) c.deref-3.ensures.value (c.run_over.ensures.ran (search rules)) in
    let grown = subst (λ (l : List Request). length new.history ≡ length mid.history + length l) c.deref-3.ensures.value (c.run_over.ensures.grown (search rules)) in
    let counted : vec_len c.args.requests.now ≡ length rs = search rules in
    let many : c.len-count.result ≡ length rs = c.len-count.ensures ∙ counted in
    let here : c.len.result - c.len-count.result ≡ length mid.history = omega (arith, grown, many, c.len.ensures.len) in
    let whole = subst Whole (sym lines) c.len-entries.ensures.whole in
    let space : length rs ≤ mid.spaces = omega (arith, c.in-Ok.ensures.spaces, many) in
    let serving = together-serves mid new rs whole c.requires.distinct c.requires.lawful space ran in
    let outcomes : os ≡ done_from (length mid.history) (length rs) =
    c.answer_done.ensures.outcomes
    ∙ ap (λ (l : List Outcome). l ++ done_from (c.len.result - c.len-count.result) c.len-count.result) c.requires.empty
    ∙ ap (λ n. done_from n c.len-count.result) here ∙ ap (done_from (length mid.history)) many in
    let served = subst (λ (l : List Outcome). Serving mid.bounds mid.history rs (range_with_len 0 (length rs)) new.history l) (sym outcomes) serving in
    let up = rose.rises (subst (λ n. n < 2 ^ 64) c.runs-runs.ensures c.runs-runs.type_inv) in
    let within = rose.within in
    let least = some-bound rs word some few alike kernel in
    record {
      serves = one-wave-served c.args.book.now.bounds c.args.book.now.history new.history rs os some few
          (subst (λ (z : Bounds × (List Entry)). Serving z.0 z.1 rs (range_with_len 0 (length rs)) new.history os) (λ i. (rooms i, lines i)) served);
      bounds = c.run_over.ensures.bounds ∙ rooms;
      one_wave = one-wave-count rs some few;
      sure = alike-sure rs os word alike kernel;
      rises = up.0;
      bound = omega arith;
      few_singles = omega arith;
      kernels = as-risen c.args.meter.now c.run_over.new.meter rose.chunk;
    }
