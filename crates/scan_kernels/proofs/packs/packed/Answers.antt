use Rattle.std.proofs.Common.{◌++◌, ◌∙◌, ap, length, arith}
use Rattle.std.proofs.lemmas.List.{take_all}
use Rattle.scan_kernels.specs.Packed.{number_set}
use Rattle.scan_kernels.proofs.Packing.{block_more, number_set_more, number_set_within, packed_taken}
use Rattle.scan_kernels.proofs.packs.packed.Goals as goal

pub append_reserved-requires : goal.append_reserved-requires
append_reserved-requires g c =
    let flags = c.args.flags.now in
    let at = c.loop-at.at in
    let end = c.end_of-end.result in
    let kept = ap length c.compress-many.ensures.kept in
    let more = number_set_more flags c.args.items.now at end c.requires.same_length (omega arith) in
    let within = number_set_within flags c.args.items.now at end in
    omega arith

pub loop-at-preserved : goal.loop-at-preserved
loop-at-preserved g c =
    let flags = c.args.flags.now in
    let items = c.args.items.now in
    let at = c.loop-at.at in
    let end = c.end_of-end.result in
    let more = block_more flags items at end c.loop-at.made.items c.requires.same_length (omega arith) c.end_of-end.ensures.within c.loop-at.invariant.made in
    let kept = ap length c.compress-many.ensures.kept in
    let number = number_set_more flags items at end c.requires.same_length (omega arith) in
    record {
      made = c.append_reserved.ensures.items ∙ ap (λ l. c.loop-at.made.items ++ l) c.compress-many.ensures.kept ∙ more;
      long = omega arith;
      full = c.append_reserved.ensures.capacity ∙ c.loop-at.invariant.full;
      within = c.end_of-end.ensures.within;
      room = omega arith;
    }

pub returns-clause-items : goal.returns-clause-items
returns-clause-items g c = c.loop-at.invariant.made ∙ packed_taken c.args.flags.now c.args.items.now c.loop-at.at c.loop-at.at c.requires.same_length (omega arith)

pub returns-clause-exact : goal.returns-clause-exact
returns-clause-exact g c =
    let all = ap number_set (take_all c.loop-at.at c.args.flags.now (omega arith)) in
    omega arith
