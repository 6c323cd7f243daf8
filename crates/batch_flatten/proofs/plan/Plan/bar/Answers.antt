use Rattle.std.proofs.Common.{rules, arith, ◌≡◌, ℕ, suc, ◌<◌, false, ◌||◌, None, length, get_or, set, sym, ap, ◌∙◌}
use Rattle.std.proofs.lemmas.List.{get_or-map}
use Rattle.vector_memory.specs.Names.{bucket_of}
use Rattle.call_history.specs.declared.request.Request.{Request}
use Rattle.batch_flatten.specs.Plans.{bars, single_target, single_targets}
use Rattle.batch_flatten.specs.Targets.{is_target, last_in, target_at}
use Rattle.batch_flatten.proofs.PlanLemmas.{bar-step, bars-last}
use Rattle.batch_flatten.proofs.TargetLemmas.{last_in-le, last_in-lies}
use Rattle.batch_flatten.proofs.plan.Plan.bar.Goals as goal

pub loop-next-init : goal.loop-next-init
loop-next-init c =
    let ts = single_targets c.args.requests.now in
    let ws = c.args.self.now.waves in
    let n = c.args.name.now in
    let b = bucket_of n in
    let there : c.from.result ≡ b = c.from.ensures ∙ c.bucket.ensures in
    let low : b < 256 = omega arith in
    let is : get_or c.args.self.now.last c.from.result 0 ≡ last_in (target_at ts) b c.args.count = ap (λ (k : ℕ). get_or c.args.self.now.last k 0) there ∙ c.requires.plan.last b low in
    record {
      within = let le = last_in-le (target_at ts) b c.args.count in omega arith;
      head = λ j e. last_in-lies (target_at ts) b c.args.count j (sym is ∙ e);
      left = λ w lt. ap (λ (k : ℕ). get_or c.args.barred.now w false || bars ts ws n w k) is
          ∙ ap (λ x. get_or c.args.barred.now w false || x) (sym (bars-last ts ws n w c.args.count));
    }

pub loop-next-smaller : goal.loop-next-smaller
loop-next-smaller c =
    let ts = single_targets c.args.requests.now in
    let b = bucket_of c.args.name.now in
    let j = c.from-place.result in
    let here : c.loop-next.next ≡ suc j = omega arith in
    let is = c.requires.plan.before j b (omega arith) (c.loop-next.invariant.head j here) in
    let le = last_in-le (target_at ts) b j in
    omega arith

pub loop-next-preserved : goal.loop-next-preserved
loop-next-preserved c =
    let rs = c.args.requests.now in
    let ts = single_targets rs in
    let ws = c.args.self.now.waves in
    let n = c.args.name.now in
    let b = bucket_of n in
    let j = c.from-place.result in
    let r = c.index-requests-place.result in
    let bs = c.loop-next.barred in
    let v = c.from-wave.result in
    let x = c.has_target.result in
    let here : c.loop-next.next ≡ suc j = omega arith in
    let is : get_or c.args.self.now.before j 0 ≡ last_in (target_at ts) b j = c.requires.plan.before j b (omega arith) (c.loop-next.invariant.head j here) in
    let le = last_in-le (target_at ts) b j in
    let full : length bs ≡ 64 = search rules in
    let few : get_or ws j 0 < 64 = c.requires.plan.few_waves j in
    let hit : x ≡ is_target n (target_at ts j) =
    c.has_target.ensures ∙ ap (is_target n) (sym (get_or-map (λ (q : Request). single_target q.job) rs j r None (omega arith))) in
    record {
      within = omega arith;
      head = λ k e. last_in-lies (target_at ts) b j k (sym is ∙ e);
      left = λ w lt. ap (λ (k : ℕ). get_or (set bs v (get_or bs v false || x)) w false || bars ts ws n w k) is
          ∙ ap (λ y. get_or (set bs v (get_or bs v false || x)) w false || y) (sym (bars-last ts ws n w j))
          ∙ bar-step bs ts ws n w j v x c.from-wave.ensures hit (omega arith)
          ∙ ap (λ (k : ℕ). get_or bs w false || bars ts ws n w k) (sym here)
          ∙ c.loop-next.invariant.left w lt;
    }
