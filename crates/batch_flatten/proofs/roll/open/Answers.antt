use Rattle.std.proofs.Common.{arith, rules, ◌≡◌, ◌∙◌, List, ap, length, map, subst, sum_by, sym, take, vec_len}
use Rattle.call_history.specs.Fits.{calls_of}
use Rattle.call_history.specs.declared.request.Request.{Request}
use Rattle.batch_flatten.specs.Counts.{word_asked}
use Rattle.batch_flatten.proofs.BatchLemmas.{batch_apart, batch_calls, batch_lawful, batch_noted, below-made, planned-made, waves-made}
use Rattle.batch_flatten.proofs.roll.open.Goals as goal

pub wave_count-count-requires-clause-below : goal.wave_count-count-requires-clause-below
wave_count-count-requires-clause-below c =
    let rs = c.args.requests.now.items in
    let ws = c.waves-planned.result in
    let long : vec_len c.args.requests.now ≡ length rs = search rules in
    let few = c.requires.few in
    below-made rs ws (omega arith) (planned-made rs c.deref-4.result.now ws c.waves-planned.ensures c.deref-4.ensures.value)

pub returns-clause-noted : goal.returns-clause-noted
returns-clause-noted c =
    let noted = subst (λ (l : List Request). take (length l) c.words_of-words.result ≡ map word_asked l) c.deref-2.ensures.value c.words_of-words.ensures in
    batch_noted c.args.requests.now.items c.words_of-words.result c.hand_back.new.outcomes.items c.hand_back.ensures.outcomes noted

pub returns-clause-apart : goal.returns-clause-apart
returns-clause-apart c =
    let rs = c.args.requests.now.items in
    let ws = c.waves-planned.result in
    batch_apart rs ws c.hand_back.new.outcomes.items c.hand_back.ensures.outcomes (waves-made rs ws (planned-made rs c.deref-4.result.now ws c.waves-planned.ensures c.deref-4.ensures.value))

pub returns-clause-calls : goal.returns-clause-calls
returns-clause-calls c =
    let rs = c.args.requests.now.items in
    let all = batch_calls rs c.hand_back.new.outcomes.items c.hand_back.ensures.outcomes in
    c.count_calls-calls.ensures ∙ ap (λ (l : List Request). sum_by (λ r. length (calls_of r.job)) l) c.deref-3.ensures.value ∙ sym all

pub returns-clause-lawful_jobs : goal.returns-clause-lawful_jobs
returns-clause-lawful_jobs c = batch_lawful c.args.requests.now.items c.hand_back.new.outcomes.items c.requires.jobs c.hand_back.ensures.outcomes
