use Rattle.std.proofs.Common.{length, sum, take, drop, ap, sym, ◌∙◌}
use Rattle.scan_kernels.specs.Segmented.{segmented_reduce}
use Rattle.scan_kernels.proofs.ReducedParts.{segmented_reduce-part}
use Rattle.scan_kernels.proofs.reductions.write_reduced.Goals as goal

pub returns : goal.returns
returns g c =
    let op = g.O.Combine.combined c.args.op in
    let u = g.O.Combine.unit_of c.args.op in
    let ls = c.args.lengths.now in
    let xs = c.args.items.now in
    let start = c.args.start in
    let many = length c.args.part.now in
    let before = c.total.ensures ∙ ap sum c.split_at.ensures.front in
    let own = c.split_at-3.ensures.front ∙ ap (take many) c.split_at.ensures.back in
    let rest = c.split_at-2.ensures.back ∙ ap (λ n. drop n xs) before in
    c.reduce_over.ensures
    ∙ ap (λ ks. segmented_reduce op u ks c.split_at-2.result.1.now) own
    ∙ ap (segmented_reduce op u (take many (drop start ls))) rest
    ∙ sym (segmented_reduce-part op u start many ls xs)
