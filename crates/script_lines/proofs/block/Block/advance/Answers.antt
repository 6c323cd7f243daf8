use Rattle.std.proofs.Common.{List, ℕ, refl, sym, ap, ◌∙◌, subst, ◌+◌, ◌++◌, ◌∷◌, ◌≡◌, ◌≤◌, length}
use Rattle.std.specs.List.{slice_range}
use Rattle.script_lines.specs.Scripts.{IsOneLine}
use Rattle.script_lines.specs.Walks.{Cut}
use Rattle.script_lines.proofs.FeedLemmas.{no-feed, cut_range}
use Rattle.script_lines.proofs.block.Block.advance.Goals as goal

pub returns-in_default : goal.returns-in_default
returns-in_default c =
    let b = c.self.inside in
    let rest : slice_range c.deref.result.now b.rest b.rest_end ≡ c.args.self.now.rest =
    ap (λ (t : List ℕ). slice_range t b.rest b.rest_end) c.deref.ensures.value ∙ ap (λ (k : Cut). k.rest) c.self.view_is in
    (refl, subst (λ (t : List ℕ). IsOneLine t) rest (no-feed (slice_range c.deref.result.now b.rest b.rest_end) c.in_default.ensures))

pub returns : goal.returns
returns c =
    let b = c.self.inside in
    let n = c.in-Some.length in
    let xs = c.deref.result.now in
    let is = c.deref.ensures.value in
    let first = c.in-Some.ensures in
    let cut = cut_range xs b.rest b.rest_end n c.self.invariant.2 (subst (λ (t : List ℕ). b.rest_end ≤ length t) (sym is) c.self.invariant.3) first.0.high first.0.before first.1 in
    let cut' = subst (λ (t : List ℕ). (slice_range t b.rest b.rest_end ≡ slice_range t b.rest (b.rest + n) ++ 10 ∷ slice_range t (b.rest + n + 1) b.rest_end) × IsOneLine (slice_range t b.rest (b.rest + n))) is cut in
    (sym (ap (λ (k : Cut). k.rest) c.self.view_is) ∙ cut'.0, cut'.1)
