use Rattle.std.proofs.Common.{◌≡◌, ◌<◌, ℕ, length, rules, slice_index_or}
use Rattle.cvl_text.proofs.ShapeNumbers.{same_number}
use Rattle.cvl_text.proofs.words.is_same_shape.Goals as goal

pub returns : goal.returns
returns c =
    let four_a : length c.args.a ≡ 4 = search rules in
    let four_b : length c.args.b ≡ 4 = search rules in
    let bytes_a : (i : ℕ) → slice_index_or c.args.a i 0 < 256 = search rules in
    let bytes_b : (i : ℕ) → slice_index_or c.args.b i 0 < 256 = search rules in
    same_number c.args.a c.args.b c.from_le_bytes.result c.from_le_bytes-2.result four_a four_b bytes_a bytes_b c.from_le_bytes.ensures c.from_le_bytes-2.ensures
