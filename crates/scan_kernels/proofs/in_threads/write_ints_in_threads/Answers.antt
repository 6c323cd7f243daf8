use Rattle.std.proofs.Common.{arith, ◌≡◌, ◌∙◌, ◌*◌, ◌<◌, ℕ, length, subst, sym}
use Rattle.scan_kernels.specs.Lists.{ints_of}
use Rattle.scan_kernels.proofs.Written.{same_from_chunks, written_chunk}
use Rattle.scan_kernels.proofs.in_threads.write_ints_in_threads.Goals as goal

pub returns : goal.returns
returns g c =
    let made = c.par_chunks_mut_for_each.new.s in
    let row = ints_of c.args.row in
    let old = c.args.list.now in
    let size = c.args.size in
    let kept : length made ≡ length old = omega arith in
    same_from_chunks made row size c.requires.size (kept ∙ c.requires.long) (λ n h.
    let inside = subst (λ (m : ℕ). n * size < m) kept h in
    let chunk = c.par_chunks_mut_for_each.ensures.chunks n inside in
    sym chunk.left ∙ chunk.call ∙ written_chunk row old chunk.argument.now size n c.requires.long chunk.argument_is)
