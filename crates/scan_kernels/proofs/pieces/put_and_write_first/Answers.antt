use Rattle.std.proofs.Common.{◌∙◌, ◌++◌, ap, drop, take}
use Rattle.std.proofs.lemmas.List.{length-take-le}
use Rattle.scan_kernels.specs.Lists.{ints_of}
use Rattle.scan_kernels.proofs.pieces.put_and_write_first.Goals as goal

pub returns-clause-list : goal.returns-clause-list
returns-clause-list g c =
    let few = length-take-le c.args.many c.args.list.now c.requires.many in
    ap (λ l. l ++ drop c.args.many c.args.list.now)
    (c.write_ints_beside.ensures.part ∙ ap (λ n. take n (drop c.args.start (ints_of c.args.row))) few)
