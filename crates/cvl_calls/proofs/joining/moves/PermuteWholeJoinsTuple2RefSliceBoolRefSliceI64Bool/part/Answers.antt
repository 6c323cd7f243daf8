use Rattle.std.proofs.Common.{rules, ◌≡◌, sym, subst}
use Rattle.cvl_calls.specs.declared.judged.Judged.TheVariants.{Permute}
use Rattle.cvl_calls.specs.declared.operands.Vector.TheVariants.{Bools}
use Rattle.cvl_calls.specs.Judging.{IsReady}
use Rattle.cvl_calls.proofs.joining.moves.PermuteWholeJoinsTuple2RefSliceBoolRefSliceI64Bool.part.Goals as goal

pub returns-clause-takes : goal.returns-clause-takes
returns-clause-takes c =
    let it = c.in-Permute-Bools-default in
    let is : c.args.judged.now ≡ Permute (Bools it.xs) it.places = search rules in
    let ready = subst IsReady is c.requires.ready in
    (sym ready.0, ready.1)
