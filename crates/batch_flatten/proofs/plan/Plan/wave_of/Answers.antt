use Rattle.std.proofs.Common.{rules, arith, ◌≡◌, ℕ, ◌<◌, false, ◌||◌, [], ◌∷◌, length, sym, ap, ◌∙◌}
use Rattle.std.specs.List.{list_any}
use Rattle.cvl_text.specs.Tasks.{reads, task_of}
use Rattle.batch_flatten.specs.Plans.{bars, placed, single_targets}
use Rattle.batch_flatten.proofs.BlockLemmas.{get_or-filled}
use Rattle.batch_flatten.proofs.PlanLemmas.{barred-names}
use Rattle.batch_flatten.proofs.WaveLemmas.{free_from-least, length-placed}
use Rattle.batch_flatten.proofs.plan.Plan.wave_of.Goals as goal

pub returns : goal.returns
returns c =
    let rs = c.args.requests.now in
    let ws = c.args.self.now.waves in
    let count = c.args.count in
    let t = task_of c.args.call.now in
    let job = t ∷ [] in
    let before = placed count ws rs in
    let wave = c.first_free.result in
    let full : length ws ≡ 64 = search rules in
    let long : length before ≡ count = length-placed count ws rs (omega arith) c.requires.within in
    let barred = λ (v : ℕ) (lt : v < 64). c.bar_all.ensures v lt
    ∙ ap (λ x. x || list_any (λ n. bars (single_targets rs) ws n v count) (reads t)) (get_or-filled 64 v false)
    ∙ sym (barred-names count ws rs t v (omega arith) c.requires.within c.requires.single) in
    sym (free_from-least before job 0 (length before) wave (omega arith) (omega arith)
    (λ v le lt. sym (barred v (omega arith)) ∙ c.first_free.ensures.passed v lt)
    (λ lt. sym (barred wave (omega arith)) ∙ c.first_free.ensures.free (omega arith)))
