use Rattle.script_lines.proofs.AgainLemmas.{keeps_self, keeps_write, write_kept}
use Rattle.script_lines.proofs.streams.write_again.Goals as goal

pub loop-init : goal.loop-init
loop-init g c = keeps_self (g.W.Write.contents c.args.writer.now)

pub returns-then-not-was_interrupted-clause-bytes :
    goal.returns-then-not-was_interrupted-clause-bytes
returns-then-not-was_interrupted-clause-bytes g c =
    write_kept (g.W.Write.contents c.args.writer.now) (g.W.Write.contents c.loop.writer) (g.W.Write.contents c.write-tried.new.self) c.write-tried.result c.args.bytes.now c.loop.invariant c.write-tried.ensures.bytes

pub loop-preserved : goal.loop-preserved
loop-preserved g c =
    keeps_write (g.W.Write.contents c.args.writer.now) (g.W.Write.contents c.loop.writer) (g.W.Write.contents c.write-tried.new.self) c.write-tried.result c.args.bytes.now c.loop.invariant c.write-tried.ensures.bytes (c.was_interrupted.ensures c.if-not-was_interrupted.false)

pub returns-clause-bytes : goal.returns-clause-bytes
returns-clause-bytes g c =
    write_kept (g.W.Write.contents c.args.writer.now) (g.W.Write.contents c.loop.writer) (g.W.Write.contents c.write.new.self) c.write.result c.args.bytes.now c.loop.invariant c.write.ensures.bytes
