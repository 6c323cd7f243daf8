use Rattle.std.proofs.Common.{◌∙◌, ap, drop, take}
use Rattle.scan_kernels.specs.Marked.{all_set, segmented_marks}
use Rattle.scan_kernels.proofs.chunks_marked.is_block_marked.Goals as goal

pub returns : goal.returns
returns c =
    let flags = segmented_marks c.args.marked.lengths.now c.args.marked.index.now in
    c.all_set.ensures ∙ ap all_set c.mark_segments.ensures ∙ ap (λ n. all_set (take n (drop c.args.start flags))) c.fill.ensures.len
