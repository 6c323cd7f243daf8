use Rattle.std.proofs.Common.{rules, subst}
use Rattle.combiner.specs.Standing.{standing, HasLeft}
use Rattle.combiner.proofs.Turns.{not_idle, has_left}
use Rattle.combiner.proofs.shared.Shared.post.Goals as goal

pub returns-then-not-is_idle-clause-occupied : goal.returns-then-not-is_idle-clause-occupied
returns-then-not-is_idle-clause-occupied c =
    subst HasLeft c.caller.view_is (has_left (standing c.caller.inside.seat) (not_idle _ c.is_idle.result c.is_idle.ensures.idle (search rules)))
