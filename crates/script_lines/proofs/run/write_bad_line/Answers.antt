use Rattle.std.proofs.Common.{◌≡◌, ◌++◌, ◌∷◌, [], List, ℕ, subst, ◌∙◌}
use Rattle.std.specs.Prelude.{codes}
use Rattle.std.specs.Fmt.{decimal}
use Rattle.std.proofs.lemmas.Result.{on_err_weaker}
use Rattle.script_lines.specs.Streams.{Awaits, HasBegun}
use Rattle.script_lines.proofs.StreamLemmas.{Awaits-then, HasBegun-more, HasBegun-then}
use Rattle.script_lines.proofs.FaultLemmas.{on-err}
use Rattle.script_lines.proofs.run.write_bad_line.Goals as goal

pub returns-in_err-write_all-clause-begun : goal.returns-in_err-write_all-clause-begun
returns-in_err-write_all-clause-begun g c =
    on-err c.from_residual.result
    (HasBegun-more (g.W.Sink.written c.args.writer.now) (g.W.Sink.written c.write_all.new.writer) (codes "bad line ") (decimal c.args.number ++ 10 ∷ []) c.in_err-write_all.ensures.begun)

pub returns-in_err-write_all-2-clause-begun : goal.returns-in_err-write_all-2-clause-begun
returns-in_err-write_all-2-clause-begun g c =
    let old = g.W.Sink.written c.args.writer.now in
    let mid = g.W.Sink.written c.write_all.new.writer in
    let new = g.W.Sink.written c.write_all-2.new.writer in
    let digits : c.as_bytes.result.now ≡ decimal c.args.number = c.as_bytes.ensures.value ∙ c.format.ensures.text in
    let begun = subst (λ (t : List ℕ). HasBegun mid new t) digits c.in_err-write_all-2.ensures.begun in
    on-err c.from_residual-in_err-write_all-2.result
    (HasBegun-more old new (codes "bad line " ++ decimal c.args.number) (10 ∷ []) (HasBegun-then old mid new [] (codes "bad line ") (decimal c.args.number) c.in_ok-write_all.ensures.bytes begun))

pub returns-clause-begun : goal.returns-clause-begun
returns-clause-begun g c =
    let old = g.W.Sink.written c.args.writer.now in
    let mid = g.W.Sink.written c.write_all.new.writer in
    let next = g.W.Sink.written c.write_all-2.new.writer in
    let new = g.W.Sink.written c.write_all-3.new.writer in
    let digits : c.as_bytes.result.now ≡ decimal c.args.number = c.as_bytes.ensures.value ∙ c.format.ensures.text in
    let number = subst (λ (t : List ℕ). Awaits mid next [] t) digits c.in_ok-write_all-2.ensures.bytes in
    let words = Awaits-then old mid next [] (codes "bad line ") (decimal c.args.number) [] c.in_ok-write_all.ensures.bytes number in
    on_err_weaker c.write_all-3.result (HasBegun-then old next new [] (codes "bad line " ++ decimal c.args.number) (10 ∷ []) words) c.write_all-3.ensures.begun
