use Rattle.std.proofs.Common.{arith, length, sum, take, drop, ap, sym, ◌∙◌}
use Rattle.std.proofs.lemmas.List.{length-drop}
use Rattle.scan_kernels.specs.Packed.{numbers_set}
use Rattle.scan_kernels.proofs.ReducedParts.{part_within}
use Rattle.scan_kernels.proofs.SetFlags.{numbers_set-part}
use Rattle.scan_kernels.proofs.set_flags.write_set_numbers.Goals as goal

pub write_each_number-requires-clause-within : goal.write_each_number-requires-clause-within
write_each_number-requires-clause-within c =
    let ls = c.args.list.lengths.now in
    let flags = c.args.list.flags.now in
    let start = c.args.start in
    let many = length c.args.part.now in
    let before = c.total.ensures ∙ ap sum c.split_at.ensures.front in
    let own = ap sum (c.split_at-3.ensures.front ∙ ap (take many) c.split_at.ensures.back) in
    let rest = ap length c.split_at-2.ensures.back ∙ length-drop c.total.result flags in
    let room = part_within start many (length flags) ls (omega (arith, c.requires.total)) in
    omega arith

pub returns : goal.returns
returns c =
    let ls = c.args.list.lengths.now in
    let flags = c.args.list.flags.now in
    let start = c.args.start in
    let many = length c.args.part.now in
    let before = c.total.ensures ∙ ap sum c.split_at.ensures.front in
    let own = c.split_at-3.ensures.front ∙ ap (take many) c.split_at.ensures.back in
    let rest = c.split_at-2.ensures.back ∙ ap (λ n. drop n flags) before in
    c.write_each_number.ensures
    ∙ ap (λ ks. numbers_set ks c.split_at-2.result.1.now) own
    ∙ ap (numbers_set (take many (drop start ls))) rest
    ∙ sym (numbers_set-part start many ls flags)
