use Rattle.std.proofs.Common.{◌≡◌, ◌+◌, length, vec_len, vec_capacity}
use Rattle.cvl_text.specs.Words.{words_of}
use Rattle.cvl_text.specs.Lines.{all_of}
use Rattle.cvl_text.proofs.AllOf.{with_front}
use Rattle.cvl_text.proofs.items.items.Given as goal

abbrev pub invariant-loop-word : goal.invariant-loop-word
invariant-loop-word g l = record {
  read : with_front l.items.items (all_of g.I.ReadItem.item_of (words_of l.rest)) ≡ all_of g.I.ReadItem.item_of (words_of l.text);
  room : vec_len l.items + length (words_of l.rest) ≡ vec_capacity l.items;
}

abbrev pub decreases-loop-word : goal.decreases-loop-word
decreases-loop-word g l = length (words_of l.rest)
