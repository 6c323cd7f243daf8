use Rattle.batch_flatten.proofs.WaveLemmas.{alone-waves}
use Rattle.batch_flatten.proofs.planning.waves.Goals as goal

pub returns-then-requests-lt2 : goal.returns-then-requests-lt2
returns-then-requests-lt2 c = alone-waves c.args.requests.now c.if-requests-lt2.true
