use Rattle.std.proofs.Common.{arith, ◌≡◌, ◌∙◌, ◌-◌, ◌++◌, ap, sym, drop, length, take}
use Rattle.std.proofs.lemmas.List.{length-drop, length-take-le}
use Rattle.scan_kernels.specs.Packed.{packed}
use Rattle.scan_kernels.proofs.PackedChunks.{front_of_mid}
use Rattle.scan_kernels.proofs.Packing.{block_more, number_set_more}
use Rattle.scan_kernels.proofs.packs.pack_blocks.Goals as goal

pub loop-part-preserved : goal.loop-part-preserved
loop-part-preserved g c =
    let flags = c.args.flags.now in
    let items = c.args.items.now in
    let part = c.loop-part.part in
    let done = c.loop-part.done in
    let at = c.loop-part.at in
    let end = c.end_of-end.result in
    let r = c.compress-done.result in
    let buffer = c.compress-done.new.buffer in
    let block = packed (take (end - at) (drop at flags)) (take (end - at) (drop at items)) in
    let kept = c.compress-done.ensures.kept in
    let left = length-drop done part in
    let full : length block ≡ r = sym (ap length kept) ∙ length-take-le r buffer (omega arith) in
    let more = number_set_more flags items at end c.requires.same_length (omega arith) in
    let front = front_of_mid done r (length part - done) part buffer (omega arith) (omega arith) in
    let both = block_more flags items at end (take done part) c.requires.same_length (omega arith) c.end_of-end.ensures.within c.loop-part.invariant.made in
    record {
      made = front ∙ ap (λ l. take done part ++ l) kept ∙ both;
      within = omega arith;
      place = omega arith;
      number = omega arith;
    }
