use Rattle.std.proofs.Common.{rules, ℤ, List, Vec, Global, length, drop, subst}
use Rattle.scan_kernels.specs.Lists.{ints_of}
use Rattle.scan_kernels.specs.RowLists.{AreMade}
use Rattle.scan_kernels.proofs.RowLists.{exact_all, long_all, made_all}
use Rattle.scan_kernels.proofs.joined_over.write_over.Goals as goal

pub returns-clause-items : goal.returns-clause-items
returns-clause-items g c =
    let rows = c.args.rows.now in
    let old = c.args.lists.now.items in
    let new = c.write_each_ints.new.lists in
    let made = subst (λ (o : List (Vec ℤ Global)). AreMade ints_of rows 0 o new) c.deref_mut.ensures.value c.write_each_ints.ensures in
    made_all ints_of rows old new (drop (length new) old) c.args.lists.now.len (search rules) c.requires.count made

pub returns-clause-exact : goal.returns-clause-exact
returns-clause-exact g c exact =
    let rows = c.args.rows.now in
    let old = c.args.lists.now.items in
    let new = c.write_each_ints.new.lists in
    let made = subst (λ (o : List (Vec ℤ Global)). AreMade ints_of rows 0 o new) c.deref_mut.ensures.value c.write_each_ints.ensures in
    exact_all ints_of rows old new (drop (length new) old) c.args.lists.now.len (search rules) c.requires.long made exact

pub returns-clause-long : goal.returns-clause-long
returns-clause-long g c = long_all ints_of c.args.rows.now c.args.lists.now.items _ c.requires.count c.requires.long (returns-clause-items g c)
