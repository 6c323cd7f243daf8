use Rattle.std.proofs.Common.{arith, rules, ◌≡◌, ◌∙◌, ◌+◌, ap, cond, count_by, get_or, pos, of_z, set, take, to_z, w64, length-set}
use Rattle.std.specs.Prelude.{nat_eq}
use Rattle.std.proofs.lemmas.Int.{ints}
use Rattle.std.proofs.lemmas.List.{take_all}
use Rattle.scan_kernels.specs.Indices.{times_held}
use Rattle.scan_kernels.proofs.MarkedPlaces.{sorted_more}
use Rattle.scan_kernels.proofs.marks.sort_out.Goals as goal

pub loop-held-preserved : goal.loop-held-preserved
loop-held-preserved c =
    let index = c.args.index.now in
    let i = c.loop-held.held-index in
    let fallen = c.loop-held.fallen in
    let falls = c.fall-behind.result.1 in
    let one : c.from-count.result ≡ cond falls 1 0 = search rules in
    let item : to_z w64 (of_z w64 (get_or index i (pos 0))) ≡ get_or index i (pos 0) = search (rules, ints) in
    let long = length-set fallen c.loop-held.count c.fall-behind.result.0 in
    record {
      few = search rules;
      long = long ∙ c.loop-held.invariant.long;
      fallen = λ j lt.
          ap (λ n. count_by (λ b. nat_eq b j) (take (c.loop-held.count + n) (set fallen c.loop-held.count c.fall-behind.result.0))) one
          ∙ sorted_more index c.args.start i c.loop-held.count c.fall-behind.result.0 j falls (to_z w64 (of_z w64 (get_or index i (pos 0)))) fallen (omega arith) (omega arith) item (c.fall-behind.ensures j lt) (c.loop-held.invariant.fallen j lt);
    }

pub returns-clause-fallen : goal.returns-clause-fallen
returns-clause-fallen c j lt =
    c.loop-held.invariant.fallen j lt ∙ ap (times_held (c.args.start + j)) (take_all c.loop-held.held-index c.args.index.now c.loop-held-test.false)
