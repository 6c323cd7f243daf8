use Rattle.std.proofs.Common.{◌≡◌, get_or, refl}
use Rattle.scan_kernels.proofs.Tested.{none_more, none_all, no_other_bit}
use Rattle.scan_kernels.proofs.singles.are_single.Goals as goal

pub loop-length-preserved : goal.loop-length-preserved
loop-length-preserved c =
    let ls = c.args.lengths.now in
    let i = c.loop-length.length-index in
    none_more (λ n. n ≡ 1) ls i c.loop-length.others _ (get_or ls i 0) 0 c.loop-length-test.true refl c.loop-length.invariant (no_other_bit (get_or ls i 0))

pub returns : goal.returns
returns c = none_all (λ n. n ≡ 1) c.args.lengths.now c.loop-length.length-index c.loop-length.others c.loop-length-test.false c.loop-length.invariant
