use Rattle.std.proofs.Common.{◌≡◌, ◌≤◌, [], length, ap, ◌∙◌, arith}
use Rattle.vector_memory.specs.Contents.{Ints}
use Rattle.vector_memory.specs.States.{value_at}
use Rattle.vector_memory.proofs.Putting.{fits_in_place}
use Rattle.cvl_calls.specs.Over.{made_by}
use Rattle.cvl_calls.proofs.Written.{same_ints, as_long_as_one, applied_over}
use Rattle.cvl_calls.proofs.over.one.change_over.Goals as goal

pub give-requires : goal.give-requires
give-requires c = record {
  before = c.args.memory.now;
  taken = c.take-xs.result.items;
  lawful = c.memories_are_lawful.ensures;
  outside = c.requires.outside;
  there = c.take-xs.ensures.items;
  left = c.take-xs.ensures.memory;
  enough = omega (arith, c.changed-made.ensures.long);
}

pub returns-clause-step : goal.returns-clause-step
returns-clause-step c = λ xs is.
    let m = c.args.memory.now in
    let taken = c.take-xs.result.items in
    let result = made_by c.args.change xs in
    let first = same_ints (value_at m c.args.to) taken xs c.take-xs.ensures.items is in
    let same : Ints c.changed-made.result.items ≡ Ints result = ap (λ l. Ints l) (c.changed-made.ensures.items ∙ ap (made_by c.args.change) first) in
    let long : length result ≡ length xs = as_long_as_one c.args.change xs in
    let few : length result ≤ length xs = omega arith in
    let accepted = fits_in_place m c.args.to (Ints xs) (Ints result) c.memories_are_lawful.ensures is few in
    applied_over m c.take-xs.new.memory c.give.new.memory c.args.to (Ints []) (Ints result) (Ints c.changed-made.result.items) c.requires.outside accepted c.take-xs.ensures.memory c.give.ensures same
