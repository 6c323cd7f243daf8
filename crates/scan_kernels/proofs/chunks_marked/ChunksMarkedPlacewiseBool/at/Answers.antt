use Rattle.std.proofs.Common.{arith, rules, ◌≡◌, ◌∙◌, ◌*◌, ◌+◌, ◌-◌, Some, ap, min, sym, drop, length, take}
use Rattle.std.proofs.lemmas.List.{length-drop, take_min}
use Rattle.scan_kernels.specs.Marked.{all_set, segmented_marks}
use Rattle.scan_kernels.proofs.MarkedPlaces.{length-segmented_marks}
use Rattle.scan_kernels.proofs.PlaceTests.{chunk_at, length-chunks_set}
use Rattle.scan_kernels.proofs.chunks_marked.ChunksMarkedPlacewiseBool.at.Goals as goal

pub overflow_mul-start : goal.overflow_mul-start
overflow_mul-start c =
    let l = c.args.self.now in
    let many = length-chunks_set l.size (segmented_marks l.lengths.now l.index.now) l.count in
    let begun = c.requires.fits.2 c.args.place (omega arith) in
    search rules

pub overflow_sub-self : goal.overflow_sub-self
overflow_sub-self c =
    let l = c.args.self.now in
    let many = length-chunks_set l.size (segmented_marks l.lengths.now l.index.now) l.count in
    omega (arith, c.requires.fits.2 c.args.place (omega arith))

pub overflow_add-end : goal.overflow_add-end
overflow_add-end c =
    let l = c.args.self.now in
    let many = length-chunks_set l.size (segmented_marks l.lengths.now l.index.now) l.count in
    let begun = c.requires.fits.2 c.args.place (omega arith) in
    search rules

pub are_marked-requires-clause-within : goal.are_marked-requires-clause-within
are_marked-requires-clause-within c =
    let l = c.args.self.now in
    let many = length-chunks_set l.size (segmented_marks l.lengths.now l.index.now) l.count in
    omega (arith, c.requires.fits.2 c.args.place (omega arith))

pub returns : goal.returns
returns c =
    let l = c.args.self.now in
    let flags = segmented_marks l.lengths.now l.index.now in
    let start = c.args.place * l.size in
    let many = length-chunks_set l.size flags l.count in
    let begun = c.requires.fits.2 c.args.place (omega arith) in
    let long = length-segmented_marks l.lengths.now l.index.now c.requires.fits.0 in
    let rest = length-drop start flags in
    let size : start + c.min.result - start ≡ c.min.result = omega arith in
    let least : c.min.result ≡ min l.size (length (drop start flags)) = c.min.ensures ∙ ap (min l.size) (omega arith) in
    chunk_at l.size flags l.count c.args.place (omega arith)
    ∙ ap Some (sym (c.are_marked.ensures ∙ ap (λ n. all_set (take n (drop start flags))) (size ∙ least) ∙ ap all_set (take_min l.size (drop start flags))))
