use Rattle.std.proofs.Common.{◌∙◌, ap, sym, drop, length, take}
use Rattle.scan_kernels.specs.Packed.{packed}
use Rattle.scan_kernels.proofs.PackedChunks.{packed_behind}
use Rattle.scan_kernels.proofs.packs.write_packed.Goals as goal

pub returns : goal.returns
returns g c =
    let flags = c.args.flags.now in
    let items = c.args.items.now in
    let at = c.place_behind-at.result in
    let many = length c.args.part.now in
    c.pack_over.ensures
    ∙ ap (λ fs. take many (packed fs c.split_at.result.1.now)) c.split_at-2.ensures.back
    ∙ ap (λ xs. take many (packed (drop at flags) xs)) c.split_at.ensures.back
    ∙ ap (take many) (sym (packed_behind at c.args.behind flags items c.requires.same_length c.place_behind-at.ensures.within c.place_behind-at.ensures.number))
