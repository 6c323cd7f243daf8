use Rattle.std.proofs.Common.{arith, ◌∙◌, ◌++◌, ◌∷◌, [], ap, sym}
use Rattle.std.proofs.lemmas.List.{take_all}
use Rattle.scan_kernels.proofs.Written.{take_next}
use Rattle.scan_kernels.proofs.placewise.collected.Goals as goal

pub loop-place-preserved : goal.loop-place-preserved
loop-place-preserved g c =
    let items = g.L.Placewise.items c.args.list.now in
    record {
      made = c.push_reserved.ensures.items ∙ ap (λ l. l ++ c.at.result ∷ []) c.loop-place.invariant.made ∙ sym (take_next items c.loop-place.place c.at.result c.at.ensures);
      long = omega arith;
      room = omega arith;
    }

pub returns-clause-items : goal.returns-clause-items
returns-clause-items g c =
    c.loop-place.invariant.made ∙ take_all c.loop-place.place (g.L.Placewise.items c.args.list.now) (omega arith)
