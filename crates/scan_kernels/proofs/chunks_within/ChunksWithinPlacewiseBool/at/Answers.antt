use Rattle.std.proofs.Common.{arith, rules, ◌≡◌, ◌∙◌, ◌*◌, ◌+◌, ◌-◌, Some, ap, min, sym, drop, length, take}
use Rattle.std.proofs.lemmas.List.{length-drop, take_min}
use Rattle.scan_kernels.specs.Marked.{all_set, each_within}
use Rattle.scan_kernels.proofs.PlaceTests.{chunk_at, length-chunks_set, length-each_within}
use Rattle.scan_kernels.proofs.chunks_within.ChunksWithinPlacewiseBool.at.Goals as goal

pub overflow_mul-start : goal.overflow_mul-start
overflow_mul-start c =
    let l = c.args.self.now in
    let many = length-chunks_set l.size (each_within l.source.now l.by.now l.index.now) l.count in
    let begun = c.requires.fits.3 c.args.place (omega arith) in
    search rules

pub overflow_sub-self : goal.overflow_sub-self
overflow_sub-self c =
    let l = c.args.self.now in
    let many = length-chunks_set l.size (each_within l.source.now l.by.now l.index.now) l.count in
    omega (arith, c.requires.fits.3 c.args.place (omega arith))

pub overflow_add-end : goal.overflow_add-end
overflow_add-end c =
    let l = c.args.self.now in
    let many = length-chunks_set l.size (each_within l.source.now l.by.now l.index.now) l.count in
    let begun = c.requires.fits.3 c.args.place (omega arith) in
    search rules

pub part_within-requires-clause-some : goal.part_within-requires-clause-some
part_within-requires-clause-some c =
    let l = c.args.self.now in
    let many = length-chunks_set l.size (each_within l.source.now l.by.now l.index.now) l.count in
    omega (arith, c.requires.fits.3 c.args.place (omega arith), c.requires.fits.2)

pub part_within-requires-clause-within : goal.part_within-requires-clause-within
part_within-requires-clause-within c =
    let l = c.args.self.now in
    let many = length-chunks_set l.size (each_within l.source.now l.by.now l.index.now) l.count in
    omega (arith, c.requires.fits.3 c.args.place (omega arith))

pub returns : goal.returns
returns c =
    let l = c.args.self.now in
    let flags = each_within l.source.now l.by.now l.index.now in
    let start = c.args.place * l.size in
    let many = length-chunks_set l.size flags l.count in
    let begun = c.requires.fits.3 c.args.place (omega arith) in
    let long = length-each_within l.source.now l.by.now l.index.now c.requires.fits.0 c.requires.fits.1 in
    let rest = length-drop start flags in
    let size : start + c.min.result - start ≡ c.min.result = omega arith in
    let least : c.min.result ≡ min l.size (length (drop start flags)) = c.min.ensures ∙ ap (min l.size) (omega arith) in
    chunk_at l.size flags l.count c.args.place (omega arith)
    ∙ ap Some (sym (c.part_within.ensures ∙ ap (λ n. all_set (take n (drop start flags))) (size ∙ least) ∙ ap all_set (take_min l.size (drop start flags))))
