use Rattle.std.proofs.Common.{◌≡◌, ◌-◌, ◌<◌, Ok, Result, Some, ap, arith, get_or, length, refl, slice_get, ◌∙◌}
use Rattle.std.proofs.lemmas.Option.{slice_get_read}
use Rattle.cvl_text.specs.declared.fault.Fault.{Fault}
use Rattle.cvl_calls.specs.Outcomes.{Effect, Stores}
use Rattle.cvl_calls.proofs.Joined.{made-again}
use Rattle.cvl_calls.proofs.joining.parts.next_part.Goals as goal

pub returns-then-is_again-clause-makes : goal.returns-then-is_again-clause-makes
returns-then-is_again-clause-makes g c =
    let works = g.G.Group.works c.args.group.now in
    let f : g.row.P.Denot → Result Effect Fault = λ part. Ok (Stores (g.T.Stored.content (g.K.Kernel.makes c.args.kernel part))) in
    let again = c.is_again.ensures c.if-is_again.true in
    let last : c.args.place - 1 ≡ again.0 = omega (arith, again.1, c.requires.behind) in
    let lt : again.0 < length c.args.before.now = omega (arith, again.1, c.requires.behind) in
    let is : c.index-before-place.result ≡ get_or c.args.before.now again.0 c.index-before-place.result = c.index-before-place.is ∙ ap (λ i. get_or c.args.before.now i c.index-before-place.result) last in
    let at : slice_get c.args.before.now again.0 ≡ Some c.index-before-place.result = slice_get_read c.args.before.now (length c.args.before.now) again.0 c.index-before-place.result refl lt is in
    made-again f c.args.before.now c.index-before-place.result works c.args.place again.0 c.requires.made again.1 at again.2
