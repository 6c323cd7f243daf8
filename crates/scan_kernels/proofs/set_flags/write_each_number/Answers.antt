use Rattle.std.proofs.Common.{arith, ◌≡◌, ◌∙◌, ◌++◌, ◌∷◌, [], ◌<◌, ◌^◌, ap, sym, drop, get_or, length, pos, sum, take, to_z, w64}
use Rattle.std.proofs.lemmas.Int.{to_z_pos}
use Rattle.std.proofs.lemmas.List.{length-drop, take_more_set}
use Rattle.std.proofs.lemmas.List.Sums.{count_by-le-length}
use Rattle.scan_kernels.specs.Packed.{number_set, numbers_set}
use Rattle.scan_kernels.proofs.NextSegment.{drop-take_more}
use Rattle.scan_kernels.proofs.SetFlags.{numbers_set-take_more}
use Rattle.scan_kernels.proofs.set_flags.write_each_number.Goals as goal

pub loop-i-preserved : goal.loop-i-preserved
loop-i-preserved c =
    let ls = c.args.lengths.now in
    let flags = c.args.flags.now in
    let i = c.loop-i.i in
    let part = c.loop-i.part in
    let segment = c.split_at.result.0.now in
    let is : segment ≡ take (get_or ls i 0) (drop (sum (take i ls)) flags) = c.split_at.ensures.front ∙ ap (take (get_or ls i 0)) c.loop-i.invariant.rest in
    let few = count_by-le-length (λ b. b) segment in
    let left = ap length c.loop-i.invariant.rest ∙ length-drop (sum (take i ls)) flags in
    let small : c.number_set.result < 2 ^ 63 = omega arith in
    let cast : to_z w64 c.number_set.result ≡ pos (number_set (take (get_or ls i 0) (drop (sum (take i ls)) flags))) = to_z_pos w64 c.number_set.result small ∙ ap pos (c.number_set.ensures ∙ ap number_set is) in
    let more = numbers_set-take_more ls i flags (omega arith) in
    let write = take_more_set part i (to_z w64 c.number_set.result) (omega arith) in
    record {
      rest = c.split_at.ensures.back ∙ ap (drop (get_or ls i 0)) c.loop-i.invariant.rest ∙ drop-take_more ls i flags (omega arith);
      done = write ∙ ap (λ l. l ++ to_z w64 c.number_set.result ∷ []) c.loop-i.invariant.done ∙ ap (λ z. numbers_set (take i ls) flags ++ z ∷ []) cast ∙ sym more;
    }
