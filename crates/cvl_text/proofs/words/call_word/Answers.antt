use Rattle.std.proofs.Common.{◌≡◌, length, length-append, ℕ, refl, ◌∙◌, arith, rules}
use Rattle.cvl_text.proofs.WordTable.{found_by_shape, the_table}
use Rattle.cvl_text.proofs.words.call_word.Goals as goal

pub returns : goal.returns
unfolding the_table
returns c =
    let three : length c.args.operation ≡ 3 = search rules in
    let four : length c.args.shape ≡ 4 = search rules in
    c.shaped_word.ensures ∙ found_by_shape _ c.args.operation c.args.shape refl three (omega (arith, length-append {A = ℕ}))
