use Rattle.std.proofs.Common.{◌≡◌, ◌+◌, true}
use Rattle.batch_flatten.specs.Joining.{word_at}
use Rattle.batch_flatten.proofs.JoinLemmas.{closed-more}
use Rattle.batch_flatten.proofs.joining.is_leader.Goals as goal

pub loop-later-preserved : goal.loop-later-preserved
loop-later-preserved c =
    let ws = c.args.words.now in
    closed-more ws (word_at ws c.args.position) c.args.turns.now (c.args.position + 1) c.loop-later.later
    (λ alike. let yes : c.is_open_with.result ≡ true = c.is_open_with.ensures.1 alike in absurd (cc (yes, c.if-is_open_with.false))) c.loop-later.invariant
