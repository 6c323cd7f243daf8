use Rattle.call_history.proofs.InPlace.{fits_returned, fits_answered_at}
use Rattle.call_history.proofs.laws.batches_fill.Goals as goal

pub returns : goal.returns
returns c = record { returned = fits_returned; answered = fits_answered_at }
