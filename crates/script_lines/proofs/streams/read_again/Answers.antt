use Rattle.script_lines.proofs.AgainLemmas.{keeps_self, keeps_read, read_kept}
use Rattle.script_lines.proofs.streams.read_again.Goals as goal

pub loop-init : goal.loop-init
loop-init g c = keeps_self (g.R.Read.remaining c.args.reader.now)

pub returns-then-not-was_interrupted-clause-bytes :
    goal.returns-then-not-was_interrupted-clause-bytes
returns-then-not-was_interrupted-clause-bytes g c =
    read_kept (g.R.Read.remaining c.args.reader.now) (g.R.Read.remaining c.loop.reader) (g.R.Read.remaining c.read-tried.new.self) c.read-tried.result c.read-tried.new.buf c.loop.invariant c.read-tried.ensures.bytes

pub loop-preserved : goal.loop-preserved
loop-preserved g c =
    keeps_read (g.R.Read.remaining c.args.reader.now) (g.R.Read.remaining c.loop.reader) (g.R.Read.remaining c.read-tried.new.self) c.read-tried.result c.read-tried.new.buf c.loop.invariant c.read-tried.ensures.bytes (c.was_interrupted.ensures c.if-not-was_interrupted.false)

pub returns-clause-bytes : goal.returns-clause-bytes
returns-clause-bytes g c =
    read_kept (g.R.Read.remaining c.args.reader.now) (g.R.Read.remaining c.loop.reader) (g.R.Read.remaining c.read.new.self) c.read.result c.read.new.buf c.loop.invariant c.read.ensures.bytes
