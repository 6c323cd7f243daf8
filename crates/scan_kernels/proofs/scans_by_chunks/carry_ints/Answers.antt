use Rattle.std.proofs.Common.{arith, rules, ◌≡◌, ◌∙◌, ◌<◌, ap, length, get_or, FitsSigned, w64}
use Rattle.std.proofs.lemmas.List.{get_or-map, length-map}
use Rattle.item_operations.specs.IntegerScans.{combine_z, unit_z}
use Rattle.scan_kernels.specs.Edges.{carried_over}
use Rattle.scan_kernels.proofs.CarriedOn.{carries_are, first_stays, put_behind_first}
use Rattle.scan_kernels.proofs.IntegerLaws.{FitsSigned-combine_z, FitsSigned-unit_z, combine_z-assoc, combine_z-unit}
use Rattle.scan_kernels.proofs.scans_by_chunks.carry_ints.Goals as goal

pub returns : goal.returns
returns g c =
    let op = c.args.op in
    let xs = c.args.items.now in
    let es = c.find_edges.new.edges in
    let cs = c.args.carries.now in
    let new = c.carry_on.new.carries in
    let sums = c.write_ints.new.list in
    let over = carried_over (combine_z op) (unit_z op) xs in
    let many : length sums ≡ length es = ap length c.write_ints.ensures ∙ length-map es over in
    let kept : length es ≡ length c.args.edges.now = search rules in
    let some : 0 < length cs = omega arith in
    carries_are (combine_z op) (unit_z op) (FitsSigned w64) (FitsSigned-unit_z op) (FitsSigned-combine_z op) (combine_z-assoc op) (combine_z-unit op)
    c.args.lengths.now xs c.args.size c.each_fits.ensures c.requires.total es _ new c.find_edges.ensures (search rules)
    (c.carry_on.ensures.first ∙ first_stays cs sums _ some ∙ c.requires.first)
    (λ k e d h. put_behind_first cs sums _ k d some (omega arith) ∙ ap (λ l. get_or l k d) c.write_ints.ensures ∙ get_or-map over es k e d h)
    c.carry_on.ensures.next
    (λ k h. omega (arith, c.requires.all k h))
