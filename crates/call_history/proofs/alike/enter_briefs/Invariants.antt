use Rattle.std.proofs.Common.{◌≡◌, ◌+◌, ◌<◌, ◌≤◌, false, drop, length, map}
use Rattle.std.specs.List.{AllByRecursion}
use Rattle.std.specs.Vec.Iter.{into_iter_items, into_iter_len}
use Rattle.call_history.specs.Alike.{entered}
use Rattle.call_history.specs.Callers.{AreTickets, HasLawfulCallers, IsTicketed, caller_limit}
use Rattle.call_history.specs.Kept.{call_of, is_whole}
use Rattle.call_history.proofs.alike.enter_briefs.Given as goal

-- the calls that are left go behind the entries so far as all of them go behind the first
abbrev pub invariant-loop-one : goal.invariant-loop-one
invariant-loop-one l = record {
  leads : entered l.log.entries (drop l.place l.callers) (map call_of (into_iter_items l.one-iterator)) ≡ entered l.fn.log.entries l.callers (map call_of l.fn.kept.items);
  paired : length (drop l.place l.callers) ≡ length (into_iter_items l.one-iterator);
  sized : length (into_iter_items l.one-iterator) ≡ into_iter_len l.one-iterator;
  brief : AllByRecursion (λ k. is_whole k ≡ false) (into_iter_items l.one-iterator);
  callers : AllByRecursion (λ k. k < caller_limit) (drop l.place l.callers);
  space : length (into_iter_items l.one-iterator) ≤ l.log.spaces;
  spaces : l.fn.log.spaces + length (into_iter_items l.one-iterator) ≤ l.log.spaces + length l.fn.kept.items;
  counted : AreTickets l.tickets.value l.log.entries;
  ticketed : IsTicketed l.log.entries;
  lawful_callers : HasLawfulCallers l.log.entries;
}
