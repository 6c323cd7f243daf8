use Rattle.bench.proofs.chunks.permute.Goals as goal

pub permute_whole_z-requires-clause-each_once : goal.permute_whole_z-requires-clause-each_once
permute_whole_z-requires-clause-each_once g c κs within = c.in_ok-permutes.ensures.0 c.if-not-permutes.false
