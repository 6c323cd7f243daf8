use Rattle.std.proofs.Common.{◌≡◌, All, take}
use Rattle.batch_flatten.specs.Counts.{word_asked}
use Rattle.batch_flatten.proofs.alike.have_word.Given as goal

abbrev pub invariant-loop-request : goal.invariant-loop-request
invariant-loop-request l = All (λ r. word_asked r ≡ l.word) (take l.request-index l.requests)
