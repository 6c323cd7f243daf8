use Rattle.std.proofs.Common.{◌∙◌, ap, take, length}
use Rattle.std.specs.List.{fold}
use Rattle.scan_kernels.specs.Segmented.{scanned}
use Rattle.scan_kernels.proofs.Carried.{scanned-part}
use Rattle.scan_kernels.proofs.prefixes.write_prefixes.Goals as goal

pub returns : goal.returns
returns g c =
    let op = g.O.Combine.combined c.args.op in
    let u = g.O.Combine.unit_of c.args.op in
    let xs = c.args.items.now in
    let start = c.args.start in
    let many = length c.args.part.now in
    let first = c.folded.ensures ∙ ap (λ a. fold op a c.split_at.result.0.now) c.unit.ensures ∙ ap (fold op u) c.split_at.ensures.front in
    c.write_scanned.ensures
    ∙ ap (λ a. scanned op a c.split_at-2.result.0.now) first
    ∙ ap (scanned op (fold op u (take start xs))) (c.split_at-2.ensures.front ∙ ap (take many) c.split_at.ensures.back)
    ∙ scanned-part op u start many xs c.requires
