use Rattle.std.proofs.Common.{arith, rules, get_or, pos, ℤ, SFits, w64}
use Rattle.std.proofs.lemmas.Int.{to_z-of_z}
use Rattle.segment_desc.proofs.Appending.{appends_more, appends_same}
use Rattle.scan_kernels.specs.Indexed.{index_at}
use Rattle.scan_kernels.proofs.Mapped.{map-take-zip_more, take-zip_all}
use Rattle.scan_kernels.proofs.indices.index_singles.Goals as goal

pub loop-j-preserved : goal.loop-j-preserved
loop-j-preserved c =
    let starts = c.args.starts.now in
    let strides = c.args.strides.now in
    let j = c.loop-j.j in
    let first = λ (p : ℤ × ℤ). index_at p.0 p.1 0 in
    let start_fits : SFits w64 (get_or starts j (pos 0)) = search rules in
    let stride_fits : SFits w64 (get_or strides j (pos 0)) = search rules in
    let start = to_z-of_z w64 (get_or starts j (pos 0)) start_fits in
    let stride = to_z-of_z w64 (get_or strides j (pos 0)) stride_fits in
    let value = to_z-of_z w64 c.index_at.result (search rules) in
    let ensured = c.index_at.ensures in
    let more = map-take-zip_more first starts strides j (pos 0) (pos 0) c.loop-j-test.true c.requires.same_length in
    record { made = appends_more c.loop-j.invariant.made (record { items = c.push_reserved.ensures.items; len = search rules; capacity = c.push_reserved.ensures.capacity }) cc; long = omega arith }

pub returns : goal.returns
returns c =
    let all = take-zip_all (λ (p : ℤ × ℤ). index_at p.0 p.1 0) c.args.starts.now c.args.strides.now c.loop-j.j c.loop-j-test.false in
    appends_same c.loop-j.invariant.made all
