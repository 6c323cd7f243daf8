use Rattle.batch_flatten.proofs.AlikeLemmas.{apart-one-wave}
use Rattle.batch_flatten.proofs.BatchLemmas.{below-made}
use Rattle.batch_flatten.proofs.alike.are_one_wave.Goals as goal

pub wave_count-requires-clause-below : goal.wave_count-requires-clause-below
wave_count-requires-clause-below c = below-made c.args.requests.now c.waves.result c.requires c.waves.ensures

pub returns-then-requests-le-FEW : goal.returns-then-requests-le-FEW
returns-then-requests-le-FEW c = λ apart. apart-one-wave c.args.requests.now (c.are_apart.ensures apart)
