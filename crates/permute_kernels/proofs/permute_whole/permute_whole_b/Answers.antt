use Rattle.std.proofs.Common.{rules, ◌≡◌, subst, sym}
use Rattle.scan_kernels.specs.Permuted.{IsPermuted, permuted}
use Rattle.scan_kernels.proofs.UndoneMoves.{IsPermuted-permuted}
use Rattle.permute_kernels.proofs.permute_whole.permute_whole_b.Goals as goal

pub returns-clause-places : goal.returns-clause-places
returns-clause-places g c =
    let index = c.args.index.now in
    let items = c.args.flags.now in
    let is : c.match-permute_size.made.items ≡ permuted index items = search rules in
    subst (IsPermuted index items) (sym is) (IsPermuted-permuted index items c.requires.each_once c.requires.same_length)
