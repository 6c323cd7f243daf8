use Rattle.std.proofs.Common.{◌≡◌, length, get_or, pos, sym, ◌∙◌, arith, rules, w64, to_z, of_z}
use Rattle.std.proofs.lemmas.Int.{ints}
use Rattle.segment_desc.proofs.Appending.{appends_more}
use Rattle.permute_kernels.proofs.Gathering.{gathered_more}
use Rattle.scan_kernels.proofs.Places.{place_below}
use Rattle.permute_kernels.proofs.gather.gather.Goals as goal

pub loop-held-preserved : goal.loop-held-preserved
loop-held-preserved g c =
    let index = c.args.index.now in
    let xs = c.args.items.now in
    let i = c.loop-held.held-index in
    let p = c.place_of.result in
    let item : to_z w64 (of_z w64 (get_or index i (pos 0))) ≡ get_or index i (pos 0) = search (rules, ints) in
    let here : get_or index i (pos 0) ≡ pos p = sym item ∙ sym c.place_of.ensures in
    let within = place_below (length xs) p (get_or index i (pos 0)) (c.requires.within i (pos 0) (omega arith)) here in
    record {
      made =
          appends_more c.loop-held.invariant.made (record { items = c.push_reserved.ensures.items; len = search rules; capacity = c.push_reserved.ensures.capacity })
          (sym (gathered_more index xs i p c.index-items-place_of.result (omega arith) here within c.index-items-place_of.is));
      long = omega arith;
    }
