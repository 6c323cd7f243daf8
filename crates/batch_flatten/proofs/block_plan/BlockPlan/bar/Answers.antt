use Rattle.std.proofs.Common.{rules, arith, ◌≡◌, ◌==◌, ℕ, ◌^◌, ◌<◌, false, ◌&&◌, ◌||◌, List, [], length, map, get_or, set, sym, ap, ◌∙◌}
use Rattle.std.specs.Int.{trailing_zeros, w64}
use Rattle.std.proofs.lemmas.List.{get_or-map}
use Rattle.cvl_text.specs.Tasks.{Task}
use Rattle.batch_flatten.specs.Waves.{asked, jobs_clash, tasks_of}
use Rattle.batch_flatten.specs.BlockPlans.{bars_among, job_at}
use Rattle.batch_flatten.proofs.BlockLemmas.{barred-kept, barred-more, barred-set, barred-suspects, bars-none, is_in-less, lowest-below, none-suspect, or_false, rest-bars, rest-less, rest_of}
use Rattle.batch_flatten.proofs.block_plan.BlockPlan.bar.Goals as goal

pub loop-left-init : goal.loop-left-init
loop-left-init c =
    let plan = c.args.self.now in
    let rs = c.args.requests.now in
    let count = c.args.count in
    let job = tasks_of c.args.job.now in
    let bs = c.args.barred.now in
    let full : length plan.waves ≡ 64 = search rules in
    let found = c.suspects-left.ensures in
    let few = c.requires.few in
    record {
      behind = λ i le. found i ∙ none-suspect plan.holders i job (λ b. c.requires.plan.none_behind b i le);
      left = λ w lt. ap (λ x. get_or bs w false || x) (barred-suspects plan rs count c.suspects-left.result job w c.requires.plan (omega arith) c.requires.within found);
    }

pub bounds-requests-place : goal.bounds-requests-place
bounds-requests-place c =
    let some : 0 < c.loop-left.left = omega arith in
    let fits : c.loop-left.left < 2 ^ 64 = search rules in
    let below = lowest-below c.loop-left.left c.args.count some fits c.loop-left.invariant.behind in
    let within = c.requires.within in
    omega arith

pub loop-left-smaller-then-not-barred-wave : goal.loop-left-smaller-then-not-barred-wave
loop-left-smaller-then-not-barred-wave c =
    let some : 0 < c.loop-left.left = omega arith in
    let fits : c.loop-left.left < 2 ^ 64 = search rules in
    rest-less c.loop-left.left some fits

pub loop-left-smaller : goal.loop-left-smaller
loop-left-smaller c =
    let some : 0 < c.loop-left.left = omega arith in
    let fits : c.loop-left.left < 2 ^ 64 = search rules in
    rest-less c.loop-left.left some fits

pub loop-left-preserved-then-not-barred-wave : goal.loop-left-preserved-then-not-barred-wave
loop-left-preserved-then-not-barred-wave c =
    let rs = c.args.requests.now in
    let ws = c.args.self.now.waves in
    let jobs = map asked rs in
    let job = tasks_of c.args.job.now in
    let count = c.args.count in
    let bs = c.loop-left.barred in
    let left = c.loop-left.left in
    let place = trailing_zeros w64 left in
    let d = c.index-requests-place.result in
    let v = c.from-wave.result in
    let x = c.clashes.result in
    let some : 0 < left = omega arith in
    let fits : left < 2 ^ 64 = search rules in
    let below = lowest-below left count some fits c.loop-left.invariant.behind in
    let within = c.requires.within in
    let few = c.requires.few in
    let full : length bs ≡ 64 = search rules in
    let low = c.requires.plan.few_waves place in
    let its : job_at jobs place ≡ asked (get_or rs place d) = get_or-map asked rs place d [] (omega arith) in
    let hit : x ≡ jobs_clash (job_at jobs place) job = c.clashes.ensures ∙ ap (λ (l : List Task). jobs_clash l job) (sym its) in
    let wave : v ≡ get_or ws place 0 = c.from-wave.ensures in
    record {
      behind = λ i le. is_in-less left _ i (c.loop-left.invariant.behind i le);
      left = λ w lt. barred-more (get_or (set bs v x) w false) (get_or bs w false) (get_or ws place 0 == w && jobs_clash (job_at jobs place) job)
          (bars_among (rest_of left) jobs ws job w count) (bars_among left jobs ws job w count) _
          (barred-set bs v w x (omega arith) c.if-not-barred-wave.true
          ∙ ap (λ (k : ℕ). get_or bs w false || (k == w && x)) wave ∙ ap (λ y. get_or bs w false || (get_or ws place 0 == w && y)) hit)
          (rest-bars left jobs ws job w count some fits few c.loop-left.invariant.behind) (c.loop-left.invariant.left w lt);
    }

pub loop-left-preserved : goal.loop-left-preserved
loop-left-preserved c =
    let rs = c.args.requests.now in
    let ws = c.args.self.now.waves in
    let jobs = map asked rs in
    let job = tasks_of c.args.job.now in
    let count = c.args.count in
    let bs = c.loop-left.barred in
    let left = c.loop-left.left in
    let place = trailing_zeros w64 left in
    let v = c.from-wave.result in
    let x = jobs_clash (job_at jobs place) job in
    let some : 0 < left = omega arith in
    let fits : left < 2 ^ 64 = search rules in
    let few = c.requires.few in
    let wave : v ≡ get_or ws place 0 = c.from-wave.ensures in
    record {
      behind = λ i le. is_in-less left _ i (c.loop-left.invariant.behind i le);
      left = λ w lt. barred-more (get_or bs w false) (get_or bs w false) (get_or ws place 0 == w && x)
          (bars_among (rest_of left) jobs ws job w count) (bars_among left jobs ws job w count) _
          (barred-kept bs v w x c.if-not-barred-wave.false ∙ ap (λ (k : ℕ). get_or bs w false || (k == w && x)) wave)
          (rest-bars left jobs ws job w count some fits few c.loop-left.invariant.behind) (c.loop-left.invariant.left w lt);
    }

pub returns : goal.returns
returns c w lt =
    let ws = c.args.self.now.waves in
    let jobs = map asked c.args.requests.now in
    let job = tasks_of c.args.job.now in
    let bs = c.loop-left.barred in
    let none : c.loop-left.left ≡ 0 = c.loop-left-test.false in
    sym (ap (λ (k : ℕ). get_or bs w false || bars_among k jobs ws job w c.args.count) none
    ∙ ap (λ x. get_or bs w false || x) (bars-none jobs ws job w c.args.count) ∙ or_false (get_or bs w false))
    ∙ c.loop-left.invariant.left w lt
