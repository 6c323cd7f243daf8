use Rattle.std.proofs.Common.{arith, ◌++◌, ◌∷◌, [], ap, sym, ◌∙◌, rules, to_z, of_z, w64}
use Rattle.std.proofs.lemmas.Int.{to_z-of_z}
use Rattle.segment_desc.proofs.Appending.{appends_none, appends_more, appends_same}
use Rattle.scan_kernels.specs.Indexed.{indexed}
use Rattle.scan_kernels.proofs.ResultLengths.{length-indexed}
use Rattle.scan_kernels.proofs.Paired.{indexed_push, indexed_none}
use Rattle.scan_kernels.proofs.indices.index_segment.Goals as goal

pub loop-i-init : goal.loop-i-init
loop-i-init c =
    let start = to_z w64 (of_z w64 c.args.start) in
    let stride = to_z w64 (of_z w64 c.args.stride) in
    appends_same (appends_none c.args.made.now) (sym (indexed_none start stride))

pub push_reserved-requires : goal.push_reserved-requires
push_reserved-requires c =
    let many = length-indexed (to_z w64 (of_z w64 c.args.start)) (to_z w64 (of_z w64 c.args.stride)) c.loop-i.i in
    omega arith

pub loop-i-preserved : goal.loop-i-preserved
loop-i-preserved c =
    let start = to_z w64 (of_z w64 c.args.start) in
    let stride = to_z w64 (of_z w64 c.args.stride) in
    let i = c.loop-i.i in
    let item = to_z-of_z w64 c.index_at.result (search rules) ∙ c.index_at.ensures in
    appends_more c.loop-i.invariant (record { items = c.push_reserved.ensures.items; len = search rules; capacity = c.push_reserved.ensures.capacity })
    (ap (λ x. indexed start stride i ++ x ∷ []) item ∙ sym (indexed_push start stride i))
