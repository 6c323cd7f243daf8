use Rattle.std.proofs.Common.{◌≡◌, ◌+◌, ◌≤◌, length, drop}
use Rattle.cvl_text.specs.Words.{words_of}
use Rattle.cvl_text.proofs.WordLemmas.{begun}
use Rattle.cvl_text.proofs.text.count_words.Given as goal

abbrev pub invariant-loop-byte : goal.invariant-loop-byte
invariant-loop-byte l = record {
  counted : l.count + begun l.in_word (drop l.byte-index l.text) ≡ length (words_of l.text);
  few : l.count ≤ l.byte-index;
}
