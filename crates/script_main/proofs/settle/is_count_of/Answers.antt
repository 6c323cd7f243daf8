use Rattle.std.proofs.Common.{rules, arith, ◌≡◌, length, slice_index_or}
use Rattle.std.specs.Prelude.{vec_len}
use Rattle.script_main.proofs.SettleLemmas.{count_below}
use Rattle.script_main.proofs.settle.is_count_of.Goals as goal

pub returns-then-len-left-clause-exact : goal.returns-then-len-left-clause-exact
returns-then-len-left-clause-exact c = λ counts.
    let own = c.own-item.result in
    let size : vec_len own ≡ length own.items = search rules in
    let is : own ≡ slice_index_or c.args.replies.now c.loop-own.own-index own = search rules in
    let below = count_below c.args.replies.now c.loop-own.own-index own (search rules) is in
    absurd (omega (arith, counts, below, size, c.loop-own.invariant, c.len.ensures, c.if-len-left.true))
