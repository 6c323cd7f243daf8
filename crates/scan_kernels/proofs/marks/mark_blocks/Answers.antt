use Rattle.std.proofs.Common.{rules, ◌≡◌, ◌∙◌, ◌+◌, ap, arith, false, get_or, length, take, drop}
use Rattle.std.specs.Prelude.{nat_lt, ◌||◌}
use Rattle.std.proofs.lemmas.List.{get_or-replicate}
use Rattle.scan_kernels.specs.Indices.{times_held}
use Rattle.scan_kernels.specs.Marked.{marks}
use Rattle.scan_kernels.proofs.MarkedPlaces.{part_marked}
use Rattle.scan_kernels.proofs.marks.mark_blocks.Goals as goal

pub loop-rest-init : goal.loop-rest-init
loop-rest-init c =
    let part = c.args.part.now in
    record {
      long = search rules;
      marked = λ j lt.
          ap (λ b. b || nat_lt 0 (times_held (c.args.start + j) c.args.index.now)) (ap (λ l. get_or l j false) c.requires.blank ∙ get_or-replicate (length part) j false false lt);
    }

pub returns : goal.returns
returns c =
    let index = c.args.index.now in
    let start = c.args.start in
    let part = c.mark_block-2.new.part in
    let same : length part ≡ length c.args.part.now = search rules in
    part_marked index start part (omega arith) (λ j lt.
    c.mark_block-2.ensures j (omega arith) ∙ c.loop-rest.invariant.marked j (omega arith))
    ∙ ap (λ n. take n (drop start (marks index))) same
