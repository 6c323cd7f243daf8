use Rattle.std.proofs.Common.{pos, get_or, SFits, w64, subst, arith, rules}
use Rattle.std.proofs.lemmas.List.{get_or_default}
use borrow.Author.Count.{below_more}
use Rattle.scan_kernels.proofs.scans_by_chunks.each_fits.Goals as goal

pub loop-item-preserved : goal.loop-item-preserved
loop-item-preserved c =
    let here : SFits w64 (get_or c.args.items.now c.loop-item._item-index (pos 0)) = search rules in
    below_more (λ k. SFits w64 (get_or c.args.items.now k (pos 0))) c.loop-item._item-index c.loop-item.invariant here

pub returns : goal.returns
returns c =
    λ k d below. subst (SFits w64) (get_or_default c.args.items.now k (pos 0) d below) (c.loop-item.invariant k (omega arith))
