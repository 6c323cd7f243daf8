use Rattle.std.proofs.Common.{rules, Bool, List, Vec, Global, length, drop, subst}
use Rattle.scan_kernels.specs.Lists.{bools_of}
use Rattle.scan_kernels.specs.RowLists.{AreMade}
use Rattle.scan_kernels.proofs.RowLists.{exact_all, made_all}
use Rattle.scan_kernels.proofs.joined_rows.bool_lists_by_chunks.Goals as goal

pub returns-clause-items : goal.returns-clause-items
returns-clause-items g c =
    let rows = c.args.rows.now in
    let old = c.in_ok-lists.lists.items in
    let new = c.write_each_bools.new.lists in
    let made = subst (λ (o : List (Vec Bool Global)). AreMade bools_of rows 0 o new) c.deref_mut.ensures.value c.write_each_bools.ensures in
    made_all bools_of rows old new (drop (length new) old) c.in_ok-lists.lists.len (search rules) c.in_ok-lists.ensures.count made

pub returns-clause-exact : goal.returns-clause-exact
returns-clause-exact g c =
    let rows = c.args.rows.now in
    let old = c.in_ok-lists.lists.items in
    let new = c.write_each_bools.new.lists in
    let made = subst (λ (o : List (Vec Bool Global)). AreMade bools_of rows 0 o new) c.deref_mut.ensures.value c.write_each_bools.ensures in
    exact_all bools_of rows old new (drop (length new) old) c.in_ok-lists.lists.len (search rules) c.in_ok-lists.ensures.long made c.in_ok-lists.ensures.exact
