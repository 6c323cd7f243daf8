use Rattle.std.proofs.Common.{◌≡◌, ◌++◌, ◌+◌, ◌≤◌, length}
use Rattle.std.specs.Vec.Iter.{into_iter_items, into_iter_len}
use Rattle.call_history.specs.Blocks.{block_entries, block_limit}
use Rattle.call_history.specs.Callers.{AreTickets, HasLawfulCallers, IsTicketed}
use Rattle.call_history.proofs.block.enter_each.Given as goal

-- the calls that are left go behind the entries so far as all of them go behind the first
abbrev pub invariant-loop-call : goal.invariant-loop-call
invariant-loop-call l = record {
  leads : l.log.entries ++ block_entries l.log.entries l.caller (into_iter_items l.call-iterator) ≡ l.fn.log.entries ++ block_entries l.fn.log.entries l.caller l.fn.calls.items;
  rest : l.rest ≡ length (into_iter_items l.call-iterator);
  few : length (into_iter_items l.call-iterator) ≤ block_limit;
  sized : length (into_iter_items l.call-iterator) ≡ into_iter_len l.call-iterator;
  space : length (into_iter_items l.call-iterator) ≤ l.log.spaces;
  spaces : l.fn.log.spaces + length (into_iter_items l.call-iterator) ≤ l.log.spaces + length l.fn.calls.items;
  counted : AreTickets l.tickets.value l.log.entries;
  ticketed : IsTicketed l.log.entries;
  lawful_callers : HasLawfulCallers l.log.entries;
}
