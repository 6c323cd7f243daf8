use Rattle.std.proofs.Common.{rules, arith, ◌≡◌, length, sym, ap, ◌∙◌, subst}
use Rattle.std.specs.Prelude.{All, IfOk, vec_len}
use Rattle.std.proofs.lemmas.List.{length-map}
use Rattle.vector_memory.specs.declared.bounds.Bounds.{Bounds}
use Rattle.combiner.specs.Standing.{IsNewAt, callers_of}
use Rattle.script_lines.specs.Readings.{lists_of}
use Rattle.script_main.specs.Settles.{IsSettled}
use Rattle.script_main.proofs.JobLemmas.{callers_for, newcomers_length, workers_ready, ends_each, ends_size, settled_for}
use Rattle.script_main.proofs.GateLemmas.{faults, finishes}
use Rattle.script_main.proofs.threads.run_threads.Goals as goal

pub workers_of-requires : goal.workers_of-requires
workers_of-requires g c =
    let count : c.max.result ≡ vec_len c.args.script.workers = search rules in
    let size : length c.in-Ok.made.1.items ≡ vec_len c.in-Ok.made.1 = search rules in
    sym size ∙ (ap length c.in-Ok.ensures.callers ∙ (newcomers_length c.in-Ok.made.0 _ c.max.result ∙ count))

pub work_all-requires-after_bounds : goal.work_all-requires-after_bounds
work_all-requires-after_bounds g c κs within =
    let each : All (IsNewAt c.in-Ok.made.0 c.bounds-bounds.result) c.in-Ok.made.1.items = subst (λ (b : Bounds). All (IsNewAt c.in-Ok.made.0 b) c.in-Ok.made.1.items) (sym c.bounds-bounds.ensures) c.in-Ok.ensures.each in
    workers_ready c.in-Ok.made.0 c.bounds-bounds.result c.in-Ok-workers_of.workers.items c.in-Ok.made.1.items c.args.script.workers.items c.in-Ok-workers_of.ensures.callers c.in-Ok-workers_of.ensures.scripts each c.requires.lawful

pub settle-requires-clause-some : goal.settle-requires-clause-some
settle-requires-clause-some g c = λ none.
    let count : c.max.result ≡ vec_len c.args.script.workers = search rules in
    let size =
    ends_size (g.G.Gate.may_answer c.args.gate.now) c.in-Ok.made.0 c.bounds-bounds.result c.max.result c.in-Ok-workers_of.workers.items c.in-Ok.made.1.items c.in-Ok-work_all.ends.items (callers_for c.in-Ok.made.0 c.bounds-bounds.result _ c.max.result c.in-Ok.made.1.items c.bounds-bounds.ensures c.in-Ok.ensures.callers) c.in-Ok-workers_of.ensures.callers c.in-Ok-work_all.ensures in
    let empty = ap length none in
    absurd (c.if-count-eq0.false (omega (arith, size, empty, count, c.len-count.ensures)))

pub settle-requires-clause-ends : goal.settle-requires-clause-ends
settle-requires-clause-ends g c =
    let ends =
    ends_each (g.G.Gate.may_answer c.args.gate.now) c.in-Ok.made.0 c.bounds-bounds.result c.max.result c.in-Ok-workers_of.workers.items c.in-Ok.made.1.items c.args.script.workers.items c.in-Ok-work_all.ends.items (callers_for c.in-Ok.made.0 c.bounds-bounds.result _ c.max.result c.in-Ok.made.1.items c.bounds-bounds.ensures c.in-Ok.ensures.callers) c.in-Ok-workers_of.ensures.callers c.in-Ok-workers_of.ensures.scripts
    c.in-Ok-work_all.ensures in
    (lists_of c.args.script.workers, ends.0)

pub settle-requires-clause-each : goal.settle-requires-clause-each
settle-requires-clause-each g c =
    let long : length c.in-Ok-work_all.ends.items ≡ vec_len c.in-Ok-work_all.ends = search rules in
    sym long
    ∙ (ends_size (g.G.Gate.may_answer c.args.gate.now) c.in-Ok.made.0 c.bounds-bounds.result c.max.result c.in-Ok-workers_of.workers.items c.in-Ok.made.1.items c.in-Ok-work_all.ends.items (callers_for c.in-Ok.made.0 c.bounds-bounds.result _ c.max.result c.in-Ok.made.1.items c.bounds-bounds.ensures c.in-Ok.ensures.callers) c.in-Ok-workers_of.ensures.callers c.in-Ok-work_all.ensures
    ∙ sym c.in-Ok.ensures.size)

pub returns-clause-settled : goal.returns-clause-settled
returns-clause-settled g c =
    let ends =
    ends_each (g.G.Gate.may_answer c.args.gate.now) c.in-Ok.made.0 c.bounds-bounds.result c.max.result c.in-Ok-workers_of.workers.items c.in-Ok.made.1.items c.args.script.workers.items c.in-Ok-work_all.ends.items (callers_for c.in-Ok.made.0 c.bounds-bounds.result _ c.max.result c.in-Ok.made.1.items c.bounds-bounds.ensures c.in-Ok.ensures.callers) c.in-Ok-workers_of.ensures.callers c.in-Ok-workers_of.ensures.scripts
    c.in-Ok-work_all.ensures in
    subst (λ (b : Bounds). IfOk c.settle.result (λ run. IsSettled b (lists_of c.args.script.workers) run.replies run.book)) c.bounds-bounds.ensures
    (settled_for c.settle.result c.in-Ok.made.0 c.bounds-bounds.result (lists_of c.args.script.workers) c.in-Ok-work_all.ends.items ends.0 c.settle.ensures.settled)

pub returns-clause-passed : goal.returns-clause-passed
returns-clause-passed g c =
    let ends =
    ends_each (g.G.Gate.may_answer c.args.gate.now) c.in-Ok.made.0 c.bounds-bounds.result c.max.result c.in-Ok-workers_of.workers.items c.in-Ok.made.1.items c.args.script.workers.items c.in-Ok-work_all.ends.items (callers_for c.in-Ok.made.0 c.bounds-bounds.result _ c.max.result c.in-Ok.made.1.items c.bounds-bounds.ensures c.in-Ok.ensures.callers) c.in-Ok-workers_of.ensures.callers c.in-Ok-workers_of.ensures.scripts
    c.in-Ok-work_all.ensures in
    finishes (g.G.Gate.may_answer c.args.gate.now) (lists_of c.args.script.workers) c.in-Ok-work_all.ends.items c.settle.result ends.1 c.settle.ensures.worked

pub returns-clause-fault : goal.returns-clause-fault
returns-clause-fault g c =
    let count : c.max.result ≡ vec_len c.args.script.workers = search rules in
    let long : length c.args.script.workers.items ≡ vec_len c.args.script.workers = search rules in
    let lists : length (lists_of c.args.script.workers) ≡ vec_len c.args.script.workers = length-map c.args.script.workers.items (λ own. own.items) ∙ long in
    let ends =
    ends_each (g.G.Gate.may_answer c.args.gate.now) c.in-Ok.made.0 c.bounds-bounds.result c.max.result c.in-Ok-workers_of.workers.items c.in-Ok.made.1.items c.args.script.workers.items c.in-Ok-work_all.ends.items (callers_for c.in-Ok.made.0 c.bounds-bounds.result _ c.max.result c.in-Ok.made.1.items c.bounds-bounds.ensures c.in-Ok.ensures.callers) c.in-Ok-workers_of.ensures.callers c.in-Ok-workers_of.ensures.scripts
    c.in-Ok-work_all.ensures in
    faults (g.G.Gate.may_answer c.args.gate.now) (lists_of c.args.script.workers) c.in-Ok-work_all.ends.items (callers_of c.in-Ok.made.0) c.settle.result ends.1 (c.in-Ok.ensures.size ∙ (count ∙ sym lists)) c.settle.ensures.fault
