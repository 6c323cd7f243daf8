use Rattle.std.proofs.Common.{arith, ◌∙◌, subst, sym, All}
use Rattle.std.proofs.lemmas.List.Elements.{All-push}
use Rattle.scan_kernels.specs.Lists.{FitBools, bools_of}
use Rattle.scan_kernels.proofs.RowLists.{rows_next}
use Rattle.scan_kernels.proofs.joined_rows.bool_rows.Goals as goal

pub loop-part-preserved : goal.loop-part-preserved
loop-part-preserved g c =
    let rows = c.loop-part.rows.items in
    let row = c.row.result in
    let added = c.push_reserved.ensures.items in
    record {
      items = rows_next bools_of (g.K.Kernel.makes c.args.kernel) rows c.push_reserved.new.self.items c.args.parts.now c.loop-part.part-index row c.part-item.result added c.loop-part-test.true c.part-item.is c.row.ensures.items c.loop-part.invariant.items;
      fits = subst (All FitBools) (sym added) (All-push FitBools rows row c.loop-part.invariant.fits c.row.ensures.fits);
      long = omega (arith, c.loop-part.invariant.long, c.push_reserved.ensures.len);
      room = c.push_reserved.ensures.capacity ∙ c.loop-part.invariant.room;
    }
