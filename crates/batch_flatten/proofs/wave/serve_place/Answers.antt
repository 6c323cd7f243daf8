use Rattle.std.proofs.Common.{arith, rules, ◌≡◌, ◌∙◌, length, refl, subst, sym, vec_len}
use Rattle.call_history.specs.Books.{memory_of}
use Rattle.batch_flatten.specs.Serving.{RunsBack, TurnsMemory}
use Rattle.batch_flatten.proofs.ServingLemmas.{back-at, back-set, back-turn, serving_turn, stands-here, some_of, sure-turn, turn-memory}
use Rattle.batch_flatten.proofs.wave.serve_place.Goals as goal

pub returns-clause-serves : goal.returns-clause-serves
returns-clause-serves g c =
    let os = c.args.outcomes.now.items in
    let place = c.args.place in
    let was = c.index_mut-outcome.result.now in
    let o = c.run_back.new.outcome in
    let long : vec_len c.args.outcomes.now ≡ length os = search rules in
    let here = stands-here os place (vec_len c.args.outcomes.now) was c.requires.place long c.index_mut-outcome.ensures.value in
    let ran = subst (λ k. RunsBack c.args.book.now c.run_back.new.book k was o) c.from-caller.ensures c.run_back.ensures.ran in
    λ line rs done by out.
    serving_turn c.args.book.now.bounds line rs c.args.callers.now done place c.args.book.now c.run_back.new.book os was o refl (omega arith) by out here ran

pub returns-clause-sure : goal.returns-clause-sure
returns-clause-sure g c =
    let os = c.args.outcomes.now.items in
    let was = c.index_mut-outcome.result.now in
    let long : vec_len c.args.outcomes.now ≡ length os = search rules in
    let here = stands-here os c.args.place (vec_len c.args.outcomes.now) was c.requires.place long c.index_mut-outcome.ensures.value in
    λ done. sure-turn c.args.book.now c.run_back.new.book c.from-caller.result os done c.args.place was c.run_back.new.outcome here c.run_back.ensures.ran c.run_back.ensures.sure

pub returns-clause-back : goal.returns-clause-back
returns-clause-back g c =
    let os = c.args.outcomes.now.items in
    let was = c.index_mut-outcome.result.now in
    let long : vec_len c.args.outcomes.now ≡ length os = search rules in
    let here = stands-here os c.args.place (vec_len c.args.outcomes.now) was c.requires.place long c.index_mut-outcome.ensures.value in
    back-turn c.args.book.now c.run_back.new.book c.from-caller.result os c.args.place was c.run_back.new.outcome here c.run_back.ensures.ran

pub run_back-requires-clause-space : goal.run_back-requires-clause-space
run_back-requires-clause-space g c κs within =
    let os = c.args.outcomes.now.items in
    let was = c.index_mut-outcome.result.now in
    let long : vec_len c.args.outcomes.now ≡ length os = search rules in
    let here = stands-here os c.args.place (vec_len c.args.outcomes.now) was c.requires.place long c.index_mut-outcome.ensures.value in
    let some = back-at os c.args.place was here in
    let space = c.requires.space in
    omega arith

pub run_back-requires-clause-lawful : goal.run_back-requires-clause-lawful
run_back-requires-clause-lawful g c κs within =
    let os = c.args.outcomes.now.items in
    let was = c.index_mut-outcome.result.now in
    let long : vec_len c.args.outcomes.now ≡ length os = search rules in
    c.requires.lawful_jobs c.args.place was (stands-here os c.args.place (vec_len c.args.outcomes.now) was c.requires.place long c.index_mut-outcome.ensures.value)

pub returns-clause-memory : goal.returns-clause-memory
returns-clause-memory g c =
    let os = c.args.outcomes.now.items in
    let now = c.index_mut-outcome.result.now in
    let long : vec_len c.args.outcomes.now ≡ length os = search rules in
    let here = stands-here os c.args.place (vec_len c.args.outcomes.now) now c.requires.place long c.index_mut-outcome.ensures.value in
    λ was there.
    let same : was ≡ now = some_of was now (sym there ∙ here) in
    subst (TurnsMemory (memory_of c.args.book.now) (memory_of c.run_back.new.book)) (sym same)
    (turn-memory c.args.book.now c.run_back.new.book c.from-caller.result now c.run_back.new.outcome c.run_back.ensures.ran)

pub returns-clause-space : goal.returns-clause-space
returns-clause-space g c =
    let os = c.args.outcomes.now.items in
    let was = c.index_mut-outcome.result.now in
    let long : vec_len c.args.outcomes.now ≡ length os = search rules in
    let here = stands-here os c.args.place (vec_len c.args.outcomes.now) was c.requires.place long c.index_mut-outcome.ensures.value in
    let set_back = back-set os c.args.place was c.run_back.new.outcome here in
    let left = c.run_back.ensures.spaces in
    let space = c.requires.space in
    omega arith
