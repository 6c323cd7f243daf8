use Rattle.std.proofs.Common.{◌≡◌, ◌+◌, ◌∙◌, cond, false, get_or, arith}
use Rattle.scan_kernels.proofs.Packing.{compressed_more, flag_number, packed_all}
use Rattle.scan_kernels.proofs.packs.compress.Goals as goal

pub loop-i-preserved : goal.loop-i-preserved
loop-i-preserved g c =
    let flags = c.args.flags.now in
    let i = c.loop-i.i in
    let flag = flag_number (get_or flags i false) in
    let next : c.from-many.result ≡ cond (get_or flags i false) 1 0 = c.from-many.ensures ∙ flag.0 in
    record {
      kept = compressed_more flags c.args.items.now i c.loop-i.many (c.loop-i.many + c.from-many.result) c.loop-i.buffer c.index-items-i.result (omega arith) c.requires.same_length c.index-items-i.is (omega arith) c.loop-i.invariant.kept (omega arith);
      few = omega arith;
    }

pub returns : goal.returns
returns g c = record { kept = c.loop-i.invariant.kept ∙ packed_all c.args.flags.now c.args.items.now c.loop-i.i (omega arith); few = omega arith }
