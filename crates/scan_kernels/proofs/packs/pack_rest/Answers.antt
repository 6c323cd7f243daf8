use Rattle.std.proofs.Common.{arith, ◌≡◌, ◌∙◌, ◌+◌, ◌++◌, ◌∷◌, [], ap, sym, length, take}
use Rattle.std.proofs.lemmas.List.{length-take-le, take_all, take_more_set}
use Rattle.scan_kernels.specs.Packed.{packed}
use Rattle.scan_kernels.proofs.PackedChunks.{flags_left, number_no, number_yes, packed_first, packed_no, packed_yes}
use Rattle.scan_kernels.proofs.packs.pack_rest.Goals as goal
use Rattle.scan_kernels.proofs.packs.pack_rest.Goals.{then-flags-at, else-flags-at}

pub loop-done-preserved : goal.loop-done-preserved
loop-done-preserved g c =
    let flags = c.args.flags.now in
    let items = c.args.items.now in
    let at = c.loop-done.at in
    let done = c.loop-done.done in
    let part = c.loop-done.part in
    let inside = flags_left flags at done (length c.args.part.now) c.loop-done.invariant.number (omega arith) c.requires.within in
    elim c.if-flags-at.branch [
      | then-flags-at w ↦
          let x = w.index-items-at.result in
          let more = number_yes flags at inside w.if-flags-at.true in
          let write = take_more_set part done x (omega arith) in
          let counted : c.if-flags-at.done ≡ done + 1 = w.done-is in
          record {
            made =
                ap (λ n. take n c.if-flags-at.part) counted
                ∙ ap (take (done + 1)) w.part-is
                ∙ write
                ∙ ap (λ l. l ++ x ∷ []) c.loop-done.invariant.made
                ∙ sym (packed_yes flags items at x inside c.requires.same_length w.index-items-at.is w.if-flags-at.true);
            within = omega arith;
            place = omega arith;
            number = omega arith;
          }
      | else-flags-at w ↦
          let fewer = number_no flags at inside w.if-flags-at.false in
          let counted : c.if-flags-at.done ≡ done = w.done-is in
          record {
            made =
                ap (λ n. take n c.if-flags-at.part) counted
                ∙ ap (take done) w.part-is
                ∙ c.loop-done.invariant.made
                ∙ sym (packed_no flags items at inside c.requires.same_length w.if-flags-at.false);
            within = omega arith;
            place = omega arith;
            number = omega arith;
          }
    ]

pub returns : goal.returns
returns g c =
    let flags = c.args.flags.now in
    let items = c.args.items.now in
    let done = c.loop-done.done in
    let at = c.loop-done.at in
    let part = c.loop-done.part in
    let all : done ≡ length c.args.part.now = omega arith in
    let kept : length (packed (take at flags) (take at items)) ≡ done = sym (ap length c.loop-done.invariant.made) ∙ length-take-le done part (omega arith) in
    let first = packed_first at done flags items c.requires.same_length (omega arith) (omega arith) in
    sym (take_all done part (omega arith))
    ∙ c.loop-done.invariant.made
    ∙ sym (take_all done (packed (take at flags) (take at items)) (omega arith))
    ∙ sym first
    ∙ ap (λ n. take n (packed flags items)) all
