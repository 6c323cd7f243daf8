use Rattle.std.proofs.Common.{arith, ◌≡◌, ◌∙◌, ◌+◌, ◌-◌, ◌++◌, ap, sym, drop, length, take}
use Rattle.std.proofs.lemmas.List.{append-nil, drop_all, length-drop, length-take-le}
use Rattle.scan_kernels.specs.Packed.{number_set, packed}
use Rattle.scan_kernels.proofs.PackedChunks.{packed_on}
use Rattle.scan_kernels.proofs.SetFlags.{number_set-take}
use Rattle.scan_kernels.proofs.packs.pack_over.Goals as goal

pub pack_rest-requires-clause-within : goal.pack_rest-requires-clause-within
pack_rest-requires-clause-within g c =
    let part = c.pack_blocks-at.new.part in
    let done = c.pack_blocks-at.result.1 in
    let at = c.pack_blocks-at.result.0 in
    let left = length-drop done part in
    let long = length-take-le (length part - done) (drop done part) (omega arith) in
    let parts = number_set-take at c.args.flags.now in
    omega (arith, ap number_set c.split_at-2.ensures.back)

pub returns : goal.returns
returns g c =
    let flags = c.args.flags.now in
    let items = c.args.items.now in
    let part = c.pack_blocks-at.new.part in
    let done = c.pack_blocks-at.result.1 in
    let at = c.pack_blocks-at.result.0 in
    let m = length part - done in
    let left = length-drop done part in
    let long : length (take m (drop done part)) ≡ m = length-take-le m (drop done part) (omega arith) in
    let rest : c.pack_rest.new.part ≡ take m (packed (drop at flags) (drop at items)) =
    c.pack_rest.ensures
    ∙ ap (λ k. take k (packed c.split_at-2.result.1.now c.split_at.result.1.now)) long
    ∙ ap (λ fs. take m (packed fs c.split_at.result.1.now)) c.split_at-2.ensures.back
    ∙ ap (λ xs. take m (packed (drop at flags) xs)) c.split_at.ensures.back in
    let whole : done + m ≡ length c.args.part.now = omega arith in
    ap (λ l. take done part ++ (c.pack_rest.new.part ++ l)) (drop_all m (drop done part) (omega arith))
    ∙ ap (λ l. take done part ++ l) (append-nil c.pack_rest.new.part ∙ rest)
    ∙ ap (λ l. l ++ take m (packed (drop at flags) (drop at items))) c.pack_blocks-at.ensures.pack
    ∙ sym (packed_on at m done flags items c.requires.same_length (omega arith) c.pack_blocks-at.ensures.number)
    ∙ ap (λ n. take n (packed flags items)) whole
