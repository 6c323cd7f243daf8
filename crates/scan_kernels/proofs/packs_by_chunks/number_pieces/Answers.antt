use Rattle.std.proofs.Common.{arith, rules, ◌∙◌, ◌<◌, ◌^◌, ap, length, map, sum, unsigned_abs}
use Rattle.std.proofs.lemmas.List.Sums.{count_by-le-length}
use Rattle.scan_kernels.proofs.SetFlags.{numbers_are, sum-each_number}
use Rattle.scan_kernels.proofs.packs_by_chunks.number_pieces.Goals as goal

pub total-requires : goal.total-requires
total-requires g c =
    let ls = c.args.lengths.now in
    let flags = c.args.flags.now in
    let is = c.take_sizes.ensures ∙ ap (map unsigned_abs) c.write_ints.ensures ∙ numbers_are ls flags in
    let all = ap sum is ∙ sum-each_number ls flags c.requires.total in
    let few = count_by-le-length (λ b. b) flags in
    let many : length flags < 2 ^ 64 = search rules in
    omega arith

pub returns-clause-numbers : goal.returns-clause-numbers
returns-clause-numbers g c = c.take_sizes.ensures ∙ ap (map unsigned_abs) c.write_ints.ensures ∙ numbers_are c.args.lengths.now c.args.flags.now

pub returns-clause-total : goal.returns-clause-total
returns-clause-total g c =
    let ls = c.args.lengths.now in
    let flags = c.args.flags.now in
    let is = c.take_sizes.ensures ∙ ap (map unsigned_abs) c.write_ints.ensures ∙ numbers_are ls flags in
    c.total.ensures ∙ ap sum is ∙ sum-each_number ls flags c.requires.total
