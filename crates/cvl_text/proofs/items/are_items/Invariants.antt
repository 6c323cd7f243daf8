use Rattle.std.proofs.Common.{◌≡◌, is_some, length}
use Rattle.cvl_text.specs.Words.{words_of}
use Rattle.cvl_text.specs.Lines.{all_of}
use Rattle.cvl_text.proofs.items.are_items.Given as goal

abbrev pub invariant-loop-word : goal.invariant-loop-word
invariant-loop-word g l = is_some (all_of g.I.ReadItem.item_of (words_of l.rest)) ≡ is_some (all_of g.I.ReadItem.item_of (words_of l.text))

abbrev pub decreases-loop-word : goal.decreases-loop-word
decreases-loop-word g l = length (words_of l.rest)
