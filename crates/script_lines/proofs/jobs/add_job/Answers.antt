use Rattle.std.proofs.Common.{◌≡◌, ◌<◌, ◌++◌, ◌∷◌, [], List, length, set, get_or, sym, ap, ◌∙◌, arith}
use Rattle.std.proofs.lemmas.List.{get_or-map, length-map, length-set, map-set}
use Rattle.std.specs.Prelude.{Vec}
use Rattle.std.specs.Global.{Global}
use Rattle.std.specs.Vec.{with_item}
use Rattle.call_history.specs.declared.request.Job.{Job}
use Rattle.script_lines.specs.Readings.{lists_of, jobs_at, jobs_done}
use Rattle.script_lines.proofs.JobLemmas.{jobs_at-set}
use Rattle.script_lines.proofs.jobs.add_job.Goals as goal

pub returns : goal.returns
returns c =
    let mid = c.make_lists.new.jobs in
    let own = c.index_mut.result.now in
    let caller = c.args.caller in
    let job = c.args.job in
    let lists = lists_of mid in
    let said = c.in_ok-make_lists.ensures in
    let pushed : c.push.new.self.items ≡ own.items ++ job ∷ [] = c.in_ok-push.ensures.items in
    let within : caller < length mid.items = omega (arith, said.count, mid.ok.0) in
    let inside : caller < length lists = omega (arith, length-map mid.items (λ (v : Vec Job Global). v.items)) in
    let at : get_or mid.items caller own ≡ own = sym c.index_mut.ensures.value in
    let here : own.items ≡ get_or lists caller [] = sym (get_or-map (λ (v : Vec Job Global). v.items) mid.items caller own [] within ∙ ap (λ (v : Vec Job Global). v.items) at) in
    let put : lists_of (with_item mid caller c.push.new.self) ≡ set lists caller (get_or lists caller [] ++ job ∷ []) =
    map-set (λ (v : Vec Job Global). v.items) mid.items caller c.push.new.self ∙ ap (λ (t : List Job). set lists caller t) (pushed ∙ ap (λ (t : List Job). t ++ job ∷ []) here) in
    let long : length (lists_of (with_item mid caller c.push.new.self)) ≡ length mid.items = ap length put ∙ length-set lists caller (get_or lists caller [] ++ job ∷ []) ∙ length-map mid.items (λ (v : Vec Job Global). v.items) in
    let first : length (lists_of c.args.jobs.now) ≡ length c.args.jobs.now.items = length-map c.args.jobs.now.items (λ (v : Vec Job Global). v.items) in
    record {
      count = long ∙ omega (arith, said.count, mid.ok.0, c.args.jobs.now.ok.0);
      jobs = λ k. ap (jobs_at k) put ∙ jobs_at-set lists caller k job inside ∙ ap (λ (t : List Job). t ++ jobs_done k caller job) (said.lists k);
    }
