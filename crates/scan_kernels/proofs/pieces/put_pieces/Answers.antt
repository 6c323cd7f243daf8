use Rattle.std.proofs.Common.{arith, refl, ◌≡◌, ◌∙◌, ◌-◌, ◌≤◌, ◌++◌, ap, sym, length, take, drop}
use Rattle.std.proofs.lemmas.List.{length-append, length-drop, length-take, length-take-le, take_all}
use Rattle.scan_kernels.specs.Lists.{ints_of}
use Rattle.scan_kernels.proofs.PutPieces.{length-piece, piece_put}
use Rattle.scan_kernels.proofs.pieces.put_pieces.Goals as goal

pub loop-start-init : goal.loop-start-init
loop-start-init g c = record {
  items = ap (λ l. l ++ take 0 c.in_ok-last.last.items) c.in_ok-made.ensures.empty;
  capacity = c.in_ok-made.ensures.exact;
  len = omega (arith, c.in_ok-made.ensures.len);
  held = omega arith;
  last = c.in_ok-last.ensures.long;
  next = c.in_ok-next.ensures.long;
  within = omega arith;
}

pub slice_bounds-put_and_write-end : goal.slice_bounds-put_and_write-end
slice_bounds-put_and_write-end g c =
    let long = ap length c.deref.ensures.value in
    sym (length-take-le c.loop-start.held c.deref.result.now (omega (arith, c.loop-start.invariant.last, c.loop-start.invariant.held)))

pub put_and_write-requires-clause-room : goal.put_and_write-requires-clause-room
put_and_write-requires-clause-room g c =
    let few = length-take c.loop-start.held c.deref.result.now in
    omega (arith, c.loop-start.invariant.len, c.loop-start.invariant.capacity, c.loop-start.invariant.within)

pub loop-start-preserved : goal.loop-start-preserved
loop-start-preserved g c =
    let row = ints_of c.args.row in
    let start = c.loop-start.start in
    let end = c.end_of-end.result in
    let part = take (end - start) (drop start row) in
    let old = c.loop-start.next.items in
    let count : c.count_ints-count.result ≡ length row = c.count_ints-count.ensures in
    let next : length old ≡ c.args.piece = c.loop-start.invariant.next in
    let last : length c.deref.result.now ≡ c.args.piece = ap length c.deref.ensures.value ∙ c.loop-start.invariant.last in
    let held : length (take c.loop-start.held c.deref.result.now) ≡ c.loop-start.held = length-take-le c.loop-start.held c.deref.result.now (omega arith) in
    let put : c.put_and_write.new.made.items ≡ c.loop-start.made.items ++ take c.loop-start.held c.loop-start.last.items =
    c.put_and_write.ensures.made.items ∙ ap (λ l. c.loop-start.made.items ++ take c.loop-start.held l) c.deref.ensures.value in
    let long = length-piece row start end (omega arith) (omega arith) part (end - start) refl refl in
    let rest = length-drop (end - start) old in
    let whole : length (part ++ drop (end - start) old) ≡ c.args.piece = length-append part (drop (end - start) old) ∙ omega arith in
    let written : c.swap.new.x.items ≡ part ++ drop (end - start) old = ap (λ v. v.items) c.swap.ensures.x_after ∙ c.put_and_write.ensures.list in
    record {
      items = ap (λ l. c.put_and_write.new.made.items ++ take (end - start) l) written
          ∙ piece_put row start end (omega arith) (omega arith) c.loop-start.made.items c.put_and_write.new.made.items
          (take c.loop-start.held c.loop-start.last.items) part (drop (end - start) old) (end - start) c.loop-start.invariant.items put refl refl;
      capacity = c.put_and_write.ensures.made.capacity ∙ c.loop-start.invariant.capacity;
      len = omega (arith, c.put_and_write.ensures.made.len, c.loop-start.invariant.len);
      held = omega arith;
      last = ap length written ∙ whole;
      next = ap (λ v. length v.items) c.swap.ensures.y_after ∙ c.loop-start.invariant.last;
      within = omega arith;
    }

pub slice_bounds-append_reserved-end : goal.slice_bounds-append_reserved-end
slice_bounds-append_reserved-end g c =
    let long = ap length c.deref-2.ensures.value in
    sym (length-take-le c.loop-start.held c.deref-2.result.now (omega (arith, c.loop-start.invariant.last, c.loop-start.invariant.held)))

pub append_reserved-requires : goal.append_reserved-requires
append_reserved-requires g c =
    let few = length-take c.loop-start.held c.deref-2.result.now in
    omega (arith, c.loop-start.invariant.len, c.loop-start.invariant.capacity, c.loop-start.invariant.within)

pub returns-clause-items : goal.returns-clause-items
returns-clause-items g c =
    let row = ints_of c.args.row in
    let count : c.count_ints-count.result ≡ length row = c.count_ints-count.ensures in
    let past : c.count_ints-count.result ≤ c.loop-start.start = c.loop-start-test.false in
    c.append_reserved.ensures.items ∙ ap (λ l. c.loop-start.made.items ++ take c.loop-start.held l) c.deref-2.ensures.value ∙ c.loop-start.invariant.items
    ∙ take_all c.loop-start.start row (omega arith)

pub returns-clause-exact : goal.returns-clause-exact
returns-clause-exact g c =
    let last : length c.deref-2.result.now ≡ c.args.piece = ap length c.deref-2.ensures.value ∙ c.loop-start.invariant.last in
    let held : length (take c.loop-start.held c.deref-2.result.now) ≡ c.loop-start.held = length-take-le c.loop-start.held c.deref-2.result.now (omega arith) in
    omega (
      arith,
      c.append_reserved.ensures.len,
      c.append_reserved.ensures.capacity,
      c.loop-start.invariant.len,
      c.loop-start.invariant.capacity,
      c.loop-start.invariant.within,
      c.loop-start-test.false,
    )
