use Rattle.scan_kernels.proofs.UndoneMoves.{gathered-permuted, permuted-gathered, permuted_alone}
use Rattle.permute_kernels.proofs.laws.permutes_and_back.Goals as goal

pub returns : goal.returns
returns g c = record {
  alone = λ index xs ys once same. permuted_alone index xs once same ys;
  back = gathered-permuted;
  forth = permuted-gathered;
}
