use Rattle.std.proofs.Common.{rules, ◌≡◌, ◌∙◌, ◌+◌, ap, arith, false, get_or, length, take, drop}
use Rattle.std.specs.Prelude.{nat_lt, ◌||◌}
use Rattle.std.proofs.lemmas.List.{get_or-replicate}
use Rattle.scan_kernels.specs.Indices.{times_held}
use Rattle.scan_kernels.specs.Marked.{marks}
use Rattle.scan_kernels.proofs.MarkedPlaces.{part_marked}
use Rattle.scan_kernels.proofs.marks.mark_blank.Goals as goal

pub returns-then-mark_places : goal.returns-then-mark_places
returns-then-mark_places c =
    let index = c.args.index.now in
    let start = c.args.start in
    let blank = c.args.part.now in
    let part = c.mark_places.new.part in
    let same : length part ≡ length blank = search rules in
    part_marked index start part (omega arith) (λ j lt.
    let place : j ≡ start + j = omega arith in
    c.mark_places.ensures c.if-mark_places.true j (omega arith)
    ∙ ap (λ b. b || nat_lt 0 (times_held j index)) (ap (λ l. get_or l j false) c.requires.blank ∙ get_or-replicate (length blank) j false false (omega arith))
    ∙ ap (λ p. nat_lt 0 (times_held p index)) place)
    ∙ ap (λ n. take n (drop start (marks index))) same
