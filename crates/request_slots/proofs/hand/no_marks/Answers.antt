use Rattle.std.proofs.Common.{false, refl}
use Rattle.std.proofs.lemmas.List.{get_or-replicate}
use Rattle.request_slots.proofs.hand.no_marks.Goals as goal

pub returns : goal.returns
returns c = record { long = refl; each = λ k lt. get_or-replicate 64 k false false lt }
