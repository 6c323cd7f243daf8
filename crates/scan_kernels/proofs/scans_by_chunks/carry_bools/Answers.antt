use Rattle.std.proofs.Common.{arith, rules, ◌≡◌, ◌∙◌, ◌<◌, ap, length, get_or}
use Rattle.std.proofs.lemmas.List.{get_or-map, length-map}
use Rattle.item_operations.specs.BooleanScans.{combine_b, unit_b}
use Rattle.scan_kernels.specs.Edges.{carried_over}
use Rattle.scan_kernels.proofs.CarriedOn.{carries_are, first_stays, put_behind_first}
use Rattle.scan_kernels.proofs.BooleanLaws.{combine_b-assoc, combine_b-unit}
use Rattle.scan_kernels.proofs.scans_by_chunks.carry_bools.Goals as goal

pub returns : goal.returns
returns g c =
    let op = c.args.op in
    let xs = c.args.items.now in
    let es = c.find_edges.new.edges in
    let cs = c.args.carries.now in
    let new = c.carry_on.new.carries in
    let sums = c.write_bools.new.list in
    let over = carried_over (combine_b op) (unit_b op) xs in
    let many : length sums ≡ length es = ap length c.write_bools.ensures ∙ length-map es over in
    let kept : length es ≡ length c.args.edges.now = search rules in
    let some : 0 < length cs = omega arith in
    carries_are (combine_b op) (unit_b op) (λ x. Unit {0}) tt (λ x y h k. tt) (λ x y z h k m. combine_b-assoc op x y z) (λ x h. combine_b-unit op x)
    c.args.lengths.now xs c.args.size (λ i d h. tt) c.requires.total es _ new c.find_edges.ensures (search rules)
    (c.carry_on.ensures.first ∙ first_stays cs sums _ some ∙ c.requires.first)
    (λ k e d h. put_behind_first cs sums _ k d some (omega arith) ∙ ap (λ l. get_or l k d) c.write_bools.ensures ∙ get_or-map over es k e d h)
    c.carry_on.ensures.next
    (λ k h. omega (arith, c.requires.all k h))
