use Rattle.std.proofs.Common.{rules, ◌≡◌, ℕ, length, refl, ap, sym, subst, ◌∙◌}
use Rattle.vector_memory.specs.declared.bounds.Bounds.{Bounds}
use Rattle.call_history.specs.History.{Begins}
use Rattle.call_history.proofs.Beginnings.{begins_trans}
use Rattle.combiner.specs.Passes.{IsBatch, HasPassed}
use Rattle.combiner.specs.Serving.{ServesBatch}
use Rattle.combiner.proofs.Batches.{batch_pairs, few_waves, pass_batch}
use Rattle.combiner.proofs.PassSteps.{taking_batch, pass_serves}
use Rattle.combiner.proofs.pass.serve.Goals as goal

pub run_batch-ran-requires-clause-lawful : goal.run_batch-ran-requires-clause-lawful
run_batch-ran-requires-clause-lawful g c κs within =
    let same : c.deref_mut-open.result.now.requests.items ≡ c.args.desk.value.requests.items = search rules in
    (subst (IsBatch c.args.callers) (sym same) (taking_batch _ _ c.args.callers _ _ c.requires.callers.1 c.requires.ready.taken)).lawful

pub run_batch-ran-requires-clause-jobs : goal.run_batch-ran-requires-clause-jobs
run_batch-ran-requires-clause-jobs g c κs within =
    let same : c.deref_mut-open.result.now.requests.items ≡ c.args.desk.value.requests.items = search rules in
    (subst (IsBatch c.args.callers) (sym same) (taking_batch _ _ c.args.callers _ _ c.requires.callers.1 c.requires.ready.taken)).jobs

pub run_batch-ran-requires-clause-distinct : goal.run_batch-ran-requires-clause-distinct
run_batch-ran-requires-clause-distinct g c κs within =
    let same : c.deref_mut-open.result.now.requests.items ≡ c.args.desk.value.requests.items = search rules in
    batch_pairs _ (subst (IsBatch c.args.callers) (sym same) (taking_batch _ _ c.args.callers _ _ c.requires.callers.1 c.requires.ready.taken)).distinct

pub returns-clause-served : goal.returns-clause-served
returns-clause-served g c =
    let ready = c.requires.ready in
    let count : c.len-count.result ≡ length c.args.desk.value.requests.items = search rules in
    let line : c.deref_mut-open.result.now.book.history ≡ c.args.desk.value.book.history = search rules in
    let now : c.deref-2.result.now.book.history ≡ c.run_batch-ran.new.book.history = search rules in
    let grows : Begins c.args.desk.value.book.history c.deref-2.result.now.book.history =
    subst (λ l. Begins l c.deref-2.result.now.book.history) line (subst (Begins c.deref_mut-open.result.now.book.history) (sym now) c.run_batch-ran.ensures.serves.fits.grows) in
    subst (HasPassed c.args.seat.now c.step_unlock.new.seat) (sym count)
    (pass_serves c.args.callers c.args.seat.now c.step_commit.new.seat c.answer_all.new.seat c.step_unlock.new.seat
    c.deref-2.result.now.book.history c.deref-2.result.now.outcomes.items c.args.desk.value.requests.items c.args.numbers.now
    ready.taken ready.held (begins_trans c.args.seat.now.standing.seen c.args.desk.value.book.history c.deref-2.result.now.book.history ready.begins grows) c.step_commit.ensures.known c.answer_all.ensures.told c.step_unlock.ensures.known ready.inside)

pub returns-clause-batch : goal.returns-clause-batch
returns-clause-batch g c =
    let ran = c.run_batch-ran.ensures in
    let ready = c.requires.ready in
    let batch = taking_batch _ _ c.args.callers _ _ c.requires.callers.1 ready.taken in
    let same : c.deref_mut-open.result.now.requests.items ≡ c.args.desk.value.requests.items = search rules in
    let taken : IsBatch c.args.callers c.deref_mut-open.result.now.requests.items = subst (IsBatch c.args.callers) (sym same) batch in
    let count : c.len-count.result ≡ length c.args.desk.value.requests.items = search rules in
    let line : c.deref_mut-open.result.now.book.history ≡ c.args.desk.value.book.history = search rules in
    let opened : c.deref_mut-open.result.now.book.bounds ≡ c.args.desk.value.book.bounds = search rules in
    let bounds : c.deref_mut-open.result.now.book.bounds ≡ c.args.seat.now.standing.bounds = opened ∙ ready.bounds_is in
    let seen : c.step_unlock.new.seat.standing.seen ≡ c.run_batch-ran.new.book.history = search rules in
    subst (λ (z : Bounds). ServesBatch z c.args.callers c.args.seat.now.standing.seen c.step_unlock.new.seat.standing.seen c.len-count.result c.run_batch-ran.result.waves c.run_batch-ran.result.kernels) bounds
    (pass_batch c.deref_mut-open.result.now.book.bounds c.args.callers c.len-count.result c.args.seat.now.standing.seen c.deref_mut-open.result.now.book.history c.run_batch-ran.new.book.history
    c.step_unlock.new.seat.standing.seen c.deref_mut-open.result.now.requests.items c.run_batch-ran.new.outcomes.items c.run_batch-ran.result _ refl refl
    (subst (Begins c.args.seat.now.standing.seen) (sym line) ready.begins) seen (ap length same ∙ sym count) taken.distinct taken.inside ran.serves ran.waves ran.sure ran.bound ran.few_singles)

pub returns-clause-few_waves : goal.returns-clause-few_waves
returns-clause-few_waves g c = few_waves (returns-clause-batch g c)
