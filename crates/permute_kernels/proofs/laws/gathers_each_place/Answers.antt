use Rattle.scan_kernels.proofs.UndoneMoves.{length-gathered, slice_get-gathered}
use Rattle.permute_kernels.proofs.laws.gathers_each_place.Goals as goal

pub returns : goal.returns
returns g c = record { many = λ index xs. length-gathered xs index; items = λ index xs. slice_get-gathered xs index }
