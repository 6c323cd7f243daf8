use Rattle.std.proofs.Common.{arith, ◌∙◌, ◌-◌, ◌*◌, ◌/◌, ap, sym, take, drop}
use Rattle.std.specs.List.{fold}
use Rattle.std.proofs.Math.Nat.{div-mul-le_self}
use Rattle.std.proofs.lemmas.Option.{get_or_from_slice_get}
use Rattle.scan_kernels.proofs.Carried.{fold-on}
use Rattle.scan_kernels.proofs.scans_in_parts.carry_at.Goals as goal

pub returns-then-begin-edge : goal.returns-then-begin-edge
returns-then-begin-edge g c =
    let op = g.O.Combine.combined c.args.op in
    let u = g.O.Combine.unit_of c.args.op in
    let xs = c.args.items.now in
    let b = c.args.begin in
    let place = c.args.place in
    let chunk = place / c.args.size in
    let edge = chunk * c.args.size in
    let x = c.index-carries-chunk.result in
    let known = get_or_from_slice_get c.args.carries.now chunk _ x (c.requires.carried c.if-begin-edge.true) in
    c.folded.ensures
    ∙ ap (λ a. fold op a (take (place - edge) (drop edge xs))) (c.index-carries-chunk.is ∙ known)
    ∙ sym (fold-on op u b edge place xs (omega arith) (div-mul-le_self place c.args.size))
