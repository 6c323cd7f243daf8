use Rattle.std.proofs.Common.{rules}
use Rattle.vector_memory.specs.Contents.{content_of}
use Rattle.cvl_calls.specs.Work.{len}
use Rattle.cvl_calls.proofs.Fitting.{size_few}
use Rattle.cvl_calls.proofs.shapes.values.len.Goals as goal

pub overflow_cast-result : goal.overflow_cast-result
overflow_cast-result c =
    let few = size_few c.args.memory.now.limit (content_of c.in_ok-value.value.now) c.in_ok-value.ensures.fits in
    let small = c.memories_are_lawful.ensures.lawful_limit in
    search rules

pub returns : goal.returns
unfolding len
returns c =
    let few = size_few c.args.memory.now.limit (content_of c.in_ok-value.value.now) c.in_ok-value.ensures.fits in
    let small = c.memories_are_lawful.ensures.lawful_limit in
    search rules
