use Rattle.std.proofs.Common.{◌≡◌, ◌≤◌, [], Some, is_ok, length, sym, ap, ◌∙◌, arith}
use Rattle.item_operations.specs.IntegerOps.{apply_z}
use Rattle.scan_kernels.specs.Elementwise.{item_by_item}
use Rattle.vector_memory.specs.Contents.{Ints}
use Rattle.vector_memory.specs.States.{value_at}
use Rattle.vector_memory.proofs.Putting.{fits_in_place}
use Rattle.cvl_calls.specs.Steps.{followed}
use Rattle.cvl_calls.proofs.Sizes.{length-item_by_item}
use Rattle.cvl_calls.proofs.Written.{same_ints, other_stays, applies, applied_over}
use Rattle.cvl_calls.proofs.over.two.apply_over_second.Goals as goal

pub unreachable-requires : goal.unreachable-requires
unreachable-requires c =
    let m = c.args.memory.now in
    let can = c.requires.can in
    c.lent.ensures.none can.left (other_stays m c.take-ys.new.memory c.args.to c.args.a.now (Ints []) (Some (Ints can.left)) c.requires.apart c.take-ys.ensures.memory can.left_is) c.in_default.is

pub over_second-made-requires-clause-same_length : goal.over_second-made-requires-clause-same_length
over_second-made-requires-clause-same_length c =
    let m = c.args.memory.now in
    let held = c.take-ys.new.memory in
    let can = c.requires.can in
    let second = same_ints (value_at m c.args.to) c.take-ys.result.items can.right c.take-ys.ensures.items can.right_is in
    let there = other_stays m held c.args.to c.args.a.now (Ints []) (Some (Ints can.left)) c.requires.apart c.take-ys.ensures.memory can.left_is in
    let first = same_ints (value_at held c.args.a.now) c.in-Some.xs.now can.left c.in-Some.ensures.items there in
    ap length first ∙ can.same ∙ sym (ap length second)

pub over_second-made-requires-clause-allowed : goal.over_second-made-requires-clause-allowed
over_second-made-requires-clause-allowed c =
    let m = c.args.memory.now in
    let can = c.requires.can in
    let second = same_ints (value_at m c.args.to) c.take-ys.result.items can.right c.take-ys.ensures.items can.right_is in
    rw second can.allowed

pub give-requires : goal.give-requires
give-requires c = record {
  before = c.args.memory.now;
  taken = c.take-ys.result.items;
  lawful = c.memories_are_lawful.ensures;
  outside = c.requires.outside;
  there = c.take-ys.ensures.items;
  left = c.take-ys.ensures.memory;
  enough = omega (arith, c.over_second-made.ensures.long);
}

pub returns-clause-works : goal.returns-clause-works
returns-clause-works c = ap is_ok (applies c.args.memory.now c.args.op c.args.a.now c.args.to c.requires.can)

pub returns-clause-step : goal.returns-clause-step
returns-clause-step c =
    let m = c.args.memory.now in
    let held = c.take-ys.new.memory in
    let can = c.requires.can in
    let ys = c.take-ys.result.items in
    let xs = c.in-Some.xs.now in
    let op = apply_z c.args.op in
    let there = other_stays m held c.args.to c.args.a.now (Ints []) (Some (Ints can.left)) c.requires.apart c.take-ys.ensures.memory can.left_is in
    let second = same_ints (value_at m c.args.to) ys can.right c.take-ys.ensures.items can.right_is in
    let first = same_ints (value_at held c.args.a.now) xs can.left c.in-Some.ensures.items there in
    let result = item_by_item op can.left can.right in
    let same : Ints c.over_second-made.result.items ≡ Ints result =
    ap (λ l. Ints l) (c.over_second-made.ensures.items ∙ ap (λ l. item_by_item op l ys) first ∙ ap (λ l. item_by_item op can.left l) second) in
    let short = length-item_by_item op can.left can.right in
    let few : length result ≤ length can.right = omega (arith, can.same) in
    let accepted = fits_in_place m c.args.to (Ints can.right) (Ints result) c.memories_are_lawful.ensures can.right_is few in
    ap (followed m (Some c.args.to)) (applies m c.args.op c.args.a.now c.args.to can)
    ∙ applied_over m held c.give.new.memory c.args.to (Ints []) (Ints result) (Ints c.over_second-made.result.items) c.requires.outside accepted c.take-ys.ensures.memory c.give.ensures same
