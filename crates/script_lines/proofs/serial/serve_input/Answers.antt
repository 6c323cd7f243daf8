use Rattle.std.proofs.Common.{refl}
use Rattle.call_history.specs.Books.{memory_of}
use Rattle.script_lines.specs.Stages.{stage_of}
use Rattle.script_lines.proofs.WalkLemmas.{countable-start}
use Rattle.script_lines.proofs.ServeLemmas.{served-start}
use Rattle.script_lines.proofs.serial.serve_input.Goals as goal

pub loop-init : goal.loop-init
loop-init g c =
    let run = c.args.run.now in
    record {
      countable = countable-start c.args.lines.now.walk (g.R.Source.limit c.args.reader.now) c.requires.unwalked (g.met.R.Source.limited c.args.reader.now);
      readable = c.requires.readable;
      writable = c.requires.writable;
      reads = refl;
      writes = refl;
      serves = served-start (memory_of run.book) (stage_of run.progress) (g.R.Source.rest c.args.reader.now) (g.W.Sink.written c.args.writer.now) c.args.lines.now.walk run.waiting.items c.requires.unwalked c.requires.start c.requires.waiting;
    }
