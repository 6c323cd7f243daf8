use Rattle.call_history.proofs.Serving.{fits_nothing, fits_refused, fits_answered}
use Rattle.call_history.proofs.laws.batches_grow.Goals as goal

pub returns : goal.returns
returns c = record {
  nothing = fits_nothing;
  refused = fits_refused;
  answered = fits_answered;
}
