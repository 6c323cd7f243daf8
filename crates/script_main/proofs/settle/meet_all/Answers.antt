use Rattle.std.proofs.Common.{rules, arith, ◌≡◌, [], ◌∷◌, length, sym, ap, ◌∙◌}
use Rattle.std.specs.Vec.Iter.{into_iter_items, into_iter_len}
use Rattle.std.proofs.lemmas.List.{nil_from_length}
use Rattle.script_main.specs.declared.work.Worked.{Worked}
use Rattle.script_main.proofs.ThreadLemmas.{all_first, all_rest}
use Rattle.script_main.proofs.MeetLemmas.{met_first, met_more, met_all}
use Rattle.script_main.proofs.settle.meet_all.Goals as goal

pub loop-worker-init : goal.loop-worker-init
loop-worker-init c =
    let items : c.args.workers.items ≡ c.in-Some.field-0 ∷ into_iter_items c.into_iter-worker-iterator.result = search rules in
    let sizes = ap length items in
    let machine = λ (worked : Worked). worked.caller.machine ≡ c.args.machine.now in (
      search rules,
      all_rest machine _ _ c.in-Some.field-0 items c.requires.machine,
      all_first machine _ _ c.in-Some.field-0 items c.requires.machine,
      search (rules, met_first c.args.workers.items _ c.in-Some.field-0 items),
    )

pub meet-requires-clause-one : goal.meet-requires-clause-one
meet-requires-clause-one c =
    let next : into_iter_items c.loop-worker.worker-iterator ≡ c.in-Some-worker.worker ∷ into_iter_items c.next-in-loop-worker.new.self = search rules in
    all_first (λ (worked : Worked). worked.caller.machine ≡ c.args.machine.now) _ _ c.in-Some-worker.worker next c.loop-worker.invariant.1

pub loop-worker-preserved : goal.loop-worker-preserved
loop-worker-preserved c =
    let next : into_iter_items c.loop-worker.worker-iterator ≡ c.in-Some-worker.worker ∷ into_iter_items c.next-in-loop-worker.new.self = search rules in
    let sizes = ap length next in
    let spaces = c.loop-worker.invariant.0 in
    let pushed = c.push_reserved-in-loop-worker in
    let more = met_more c.args.workers.items _ _ c.in-Some-worker.worker c.loop-worker.closer c.meet.new.other c.loop-worker.all.items next c.loop-worker.invariant.3 c.meet.ensures.other c.meet.ensures.one_later c.meet.ensures.other_later in (
      omega (arith, sizes, spaces, pushed.ensures.len, pushed.ensures.capacity),
      all_rest (λ (worked : Worked). worked.caller.machine ≡ c.args.machine.now) _ _ c.in-Some-worker.worker next c.loop-worker.invariant.1,
      c.meet.ensures.other_machine,
      rw pushed.ensures.items more,
    )

pub returns : goal.returns
returns c =
    let none : into_iter_items c.loop-worker.worker-iterator ≡ [] =
    (let size : into_iter_len c.loop-worker.worker-iterator ≡ length (into_iter_items c.loop-worker.worker-iterator) = search rules in
    nil_from_length (into_iter_items c.loop-worker.worker-iterator) (sym size ∙ c.in-None.ensures.steps.0)) in
    met_all c.args.workers.items _ c.loop-worker.closer c.loop-worker.all.items none c.loop-worker.invariant.3
