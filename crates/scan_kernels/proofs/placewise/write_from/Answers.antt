use Rattle.std.proofs.Common.{arith, ◌≡◌, ◌∙◌, ◌++◌, ap, take, drop, length}
use Rattle.std.proofs.lemmas.List.{append-nil, drop_all}
use Rattle.scan_kernels.proofs.Written.{written_more}
use Rattle.scan_kernels.proofs.placewise.write_from.Goals as goal

pub loop-i-preserved : goal.loop-i-preserved
loop-i-preserved g c =
    written_more (g.L.Placewise.items c.args.list.now) c.args.part.now c.loop-i.part c.args.start c.loop-i.i c.at.result c.at.ensures c.loop-i-test.true c.requires.within c.loop-i.invariant

pub returns : goal.returns
returns g c =
    let rest = drop c.args.start (g.L.Placewise.items c.args.list.now) in
    let i = c.loop-i.i in
    let all : i ≡ length c.args.part.now = omega arith in
    c.loop-i.invariant ∙ ap (λ l. take i rest ++ l) (drop_all i c.args.part.now c.loop-i-test.false) ∙ append-nil (take i rest) ∙ ap (λ n. take n rest) all
