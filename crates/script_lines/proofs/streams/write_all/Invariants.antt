use Rattle.std.proofs.Common.{◌≡◌, length}
use Rattle.script_lines.specs.Streams.{Awaits}
use Rattle.script_lines.proofs.streams.write_all.Given as goal

abbrev pub invariant-loop-rest : goal.invariant-loop-rest
invariant-loop-rest g l = record {
  ready : g.W.Sink.can_write l.writer;
  counted : g.W.Sink.failures l.writer ≡ g.W.Sink.failures l.fn.writer;
  bytes : Awaits (g.W.Sink.written l.fn.writer) (g.W.Sink.written l.writer) l.rest l.bytes;
}

abbrev pub decreases-loop-rest : goal.decreases-loop-rest
decreases-loop-rest g l = length l.rest
