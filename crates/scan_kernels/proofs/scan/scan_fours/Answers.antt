use Rattle.std.proofs.Common.{◌≡◌, ◌+◌, ◌-◌, ◌*◌, ◌++◌, take, drop, ap, sym, ◌∙◌, arith}
use Rattle.std.specs.List.{fold}
use Rattle.std.proofs.Math.Seq.{take-add}
use Rattle.std.proofs.lemmas.List.Sums.{fold-append}
use Rattle.segment_desc.proofs.Appending.{appends_more}
use Rattle.scan_kernels.specs.Segmented.{scanned}
use Rattle.scan_kernels.proofs.Scanned.{scanned-append, length-scanned}
use Rattle.scan_kernels.proofs.scan.scan_fours.Goals as goal

pub loop-four-preserved : goal.loop-four-preserved
loop-four-preserved g c =
    let op = g.O.Combine.combined c.args.op in
    let a = c.args.first in
    let xs = c.args.items.now in
    let at = 4 * c.loop-four.four in
    let before = take at xs in
    let next = take 4 (drop at xs) in
    let later : 4 * (c.loop-four.four + 1) ≡ at + 4 = omega arith in
    let size : at + 4 - at ≡ 4 = omega arith in
    let piece = ap (λ n. take n (drop at xs)) size in
    let more : take (4 * (c.loop-four.four + 1)) xs ≡ before ++ next = ap (λ n. take n xs) later ∙ take-add at 4 xs in
    let many = length-scanned op c.loop-four.so_far (take (at + 4 - at) (drop at xs)) in
    let value = c.loop-four.invariant.so_far in
    record {
      so_far =
          c.scan_four-so_far.ensures.last
          ∙ ap (fold op c.loop-four.so_far) piece
          ∙ ap (λ x. fold op x next) value
          ∙ sym (fold-append op a before next)
          ∙ ap (fold op a) (sym more);
      made =
          appends_more c.loop-four.invariant.made c.scan_four-so_far.ensures.scan (
          ap (λ ys. scanned op a before ++ scanned op c.loop-four.so_far ys) piece
          ∙ ap (λ x. scanned op a before ++ scanned op x next) value
          ∙ sym (scanned-append op a before next)
          ∙ ap (scanned op a) (sym more)
          );
      long = omega arith;
    }
