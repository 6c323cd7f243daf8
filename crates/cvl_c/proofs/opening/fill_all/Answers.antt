use Rattle.std.proofs.Common.{rules, ◌≡◌, ◌∷◌, [], ◌++◌, ◌<◌, length, arith}
use Rattle.cvl_c.proofs.FillLemmas.{filled_next, shut_next}
use Rattle.cvl_c.proofs.opening.fill_all.Goals as goal

pub loop-port-preserved : goal.loop-port-preserved
loop-port-preserved c =
    let before = c.pop.new.self.items in
    let callers = c.loop-port.callers in
    let place = c.len-place.result in
    let last : c.loop-port.ports.items ≡ before ++ c.in-Some.port ∷ [] = search rules in
    let count : place ≡ length before = search rules in
    let shorter : length before < length c.loop-port.ports.items = grind (arith, last) in
    let inside : place < length callers = omega (arith, count, shorter, c.loop-port.invariant.few) in
    record {
      few = search rules;
      shut = λ k d lt. shut_next callers place (length c.loop-port.ports.items) c.replace_with.new.dest (λ j e at. c.loop-port.invariant.shut j e (omega (arith, at, shorter))) (omega (arith, count, shorter)) k d (omega (arith, lt, count));
      filled = filled_next before c.loop-port.ports.items c.in-Some.port callers place c.replace_with.new.dest _ last count inside c.replace_with.ensures c.loop-port.invariant.filled;
    }
