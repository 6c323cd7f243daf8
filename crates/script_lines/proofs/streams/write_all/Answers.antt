use Rattle.std.proofs.Common.{refl, rules}
use Rattle.std.proofs.lemmas.List.{take_rest}
use Rattle.script_lines.proofs.StreamLemmas.{Awaits-start, Awaits-append, Awaits-kept}
use Rattle.script_lines.proofs.streams.write_all.Goals as goal

pub loop-rest-init : goal.loop-rest-init
loop-rest-init g c = record { ready = search rules; counted = refl; bytes = Awaits-start _ _ }

pub loop-rest-preserved : goal.loop-rest-preserved
loop-rest-preserved g c =
    let rest = c.loop-rest.rest.now in
    record {
      ready = c.in-Ok.ensures.ready;
      counted = search rules;
      bytes = rw (take_rest rest c.in-Ok.count) (Awaits-append (g.W.Sink.written c.args.writer.now) (g.W.Sink.written c.loop-rest.writer) (g.W.Sink.written c.write.new.self) c.in-Ok.count rest c.args.bytes.now c.loop-rest.invariant.bytes c.in-Ok.ensures.bytes);
    }

pub returns-in-Err-clause-begun : goal.returns-in-Err-clause-begun
returns-in-Err-clause-begun g c =
    (c.loop-rest.rest.now, Awaits-kept (g.W.Sink.written c.args.writer.now) (g.W.Sink.written c.loop-rest.writer) (g.W.Sink.written c.write.new.self) c.loop-rest.rest.now c.args.bytes.now c.loop-rest.invariant.bytes c.in-Err.ensures.bytes)
