use Rattle.std.proofs.Common.{◌≡◌, [], Some, is_ok, length, sym, ap, ◌∙◌}
use Rattle.item_operations.specs.IntegerOps.{apply_z}
use Rattle.scan_kernels.specs.Elementwise.{item_by_item}
use Rattle.vector_memory.specs.Contents.{Ints}
use Rattle.vector_memory.specs.States.{value_at}
use Rattle.vector_memory.proofs.Putting.{fits_in_place}
use Rattle.cvl_calls.specs.Steps.{followed}
use Rattle.cvl_calls.proofs.Sizes.{length-item_by_item}
use Rattle.cvl_calls.proofs.Written.{same_ints, other_stays, applies, applied_over}
use Rattle.cvl_calls.proofs.over.two.apply_over_first.Goals as goal

pub unreachable-requires : goal.unreachable-requires
unreachable-requires c =
    let m = c.args.memory.now in
    let can = c.requires.can in
    c.lent.ensures.none can.right (other_stays m c.take-xs.new.memory c.args.to c.args.b.now (Ints []) (Some (Ints can.right)) c.requires.apart c.take-xs.ensures.memory can.right_is) c.in_default.is

pub over_first-made-requires-clause-same_length : goal.over_first-made-requires-clause-same_length
over_first-made-requires-clause-same_length c =
    let m = c.args.memory.now in
    let held = c.take-xs.new.memory in
    let can = c.requires.can in
    let first = same_ints (value_at m c.args.to) c.take-xs.result.items can.left c.take-xs.ensures.items can.left_is in
    let there = other_stays m held c.args.to c.args.b.now (Ints []) (Some (Ints can.right)) c.requires.apart c.take-xs.ensures.memory can.right_is in
    let second = same_ints (value_at held c.args.b.now) c.in-Some.ys.now can.right c.in-Some.ensures.items there in
    ap length first ∙ can.same ∙ sym (ap length second)

pub over_first-made-requires-clause-allowed : goal.over_first-made-requires-clause-allowed
over_first-made-requires-clause-allowed c =
    let m = c.args.memory.now in
    let held = c.take-xs.new.memory in
    let can = c.requires.can in
    let there = other_stays m held c.args.to c.args.b.now (Ints []) (Some (Ints can.right)) c.requires.apart c.take-xs.ensures.memory can.right_is in
    let second = same_ints (value_at held c.args.b.now) c.in-Some.ys.now can.right c.in-Some.ensures.items there in
    rw second can.allowed

pub give-requires : goal.give-requires
give-requires c = record {
  before = c.args.memory.now;
  taken = c.take-xs.result.items;
  lawful = c.memories_are_lawful.ensures;
  outside = c.requires.outside;
  there = c.take-xs.ensures.items;
  left = c.take-xs.ensures.memory;
  enough = rw c.over_first-made.ensures.items (length-item_by_item (apply_z c.args.op) c.take-xs.result.items c.in-Some.ys.now);
}

pub returns-clause-works : goal.returns-clause-works
returns-clause-works c = ap is_ok (applies c.args.memory.now c.args.op c.args.to c.args.b.now c.requires.can)

pub returns-clause-step : goal.returns-clause-step
returns-clause-step c =
    let m = c.args.memory.now in
    let held = c.take-xs.new.memory in
    let can = c.requires.can in
    let xs = c.take-xs.result.items in
    let ys = c.in-Some.ys.now in
    let op = apply_z c.args.op in
    let there = other_stays m held c.args.to c.args.b.now (Ints []) (Some (Ints can.right)) c.requires.apart c.take-xs.ensures.memory can.right_is in
    let first = same_ints (value_at m c.args.to) xs can.left c.take-xs.ensures.items can.left_is in
    let second = same_ints (value_at held c.args.b.now) ys can.right c.in-Some.ensures.items there in
    let result = item_by_item op can.left can.right in
    let same : Ints c.over_first-made.result.items ≡ Ints result =
    ap (λ l. Ints l) (c.over_first-made.ensures.items ∙ ap (λ l. item_by_item op l ys) first ∙ ap (λ l. item_by_item op can.left l) second) in
    let few = length-item_by_item op can.left can.right in
    let accepted = fits_in_place m c.args.to (Ints can.left) (Ints result) c.memories_are_lawful.ensures can.left_is few in
    ap (followed m (Some c.args.to)) (applies m c.args.op c.args.to c.args.b.now can)
    ∙ applied_over m held c.give.new.memory c.args.to (Ints []) (Ints result) (Ints c.over_first-made.result.items) c.requires.outside accepted c.take-xs.ensures.memory c.give.ensures same
