use Rattle.std.proofs.Common.{arith, rules, ◌≡◌, ◌∙◌, ◌+◌, ◌<◌, ap, length, max, suc, slice_index, take}
use Rattle.std.proofs.lemmas.List.{take_more}
use Rattle.batch_flatten.specs.Waves.{count_of}
use Rattle.batch_flatten.proofs.WavePlaces.{count_of-push}
use Rattle.batch_flatten.proofs.roll.wave_count.Goals as goal

pub loop-i-preserved : goal.loop-i-preserved
loop-i-preserved c =
    let i = c.loop-i.i in
    let ws = c.args.waves.now in
    let long : length ws ≡ 64 = search rules in
    let lt : i < length ws = omega arith in
    let w = slice_index ws i in
    let more : count_of (take (i + 1) ws) ≡ max (count_of (take i ws)) (suc w) = ap count_of (take_more ws i 0 lt) ∙ count_of-push (take i ws) w in
    let inv : c.loop-i.most ≡ count_of (take i ws) = c.loop-i.invariant in
    let is = c.max-most.ensures in
    omega (arith, more, inv, is)
