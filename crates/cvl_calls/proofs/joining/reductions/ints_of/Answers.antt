use Rattle.std.proofs.Common.{arith, ◌<◌, Bor, ℤ, List, Ok, Result, ap, length, map, ◌∙◌}
use Rattle.item_operations.specs.IntegerScans.{combine_z, unit_z}
use Rattle.scan_kernels.specs.Segmented.{reduced}
use Rattle.cvl_text.specs.declared.fault.Fault.{Fault}
use Rattle.cvl_text.specs.Answers.{IntOf}
use Rattle.cvl_calls.specs.Outcomes.{Answers, Effect}
use Rattle.cvl_calls.proofs.Joined.{made-more}
use Rattle.cvl_calls.proofs.joining.reductions.ints_of.Goals as goal

pub loop-place-preserved : goal.loop-place-preserved
loop-place-preserved g c =
    let works = g.G.Group.works c.args.group.now in
    let f : Bor (List ℤ) → Result Effect Fault = λ p. Ok (Answers (IntOf (reduced (combine_z c.args.op) (unit_z c.args.op) p.now))) in
    let inv = c.loop-place.invariant in
    let low = c.loop-place-test.true in
    let end = c.count-count.ensures in
    let items = c.push_reserved.ensures.items in
    let pushed = c.push_reserved.ensures.len in
    let long = inv.long in
    let lt : c.loop-place.place < length works = omega arith in
    record {
      makes = ap (map f) items ∙ made-more f c.loop-place.parts.items c.in_ok-ints_at.field-0 works c.loop-place.place inv.makes c.in_ok-ints_at.ensures.makes lt;
      long = omega arith;
      room = c.push_reserved.ensures.capacity ∙ inv.room;
    }
