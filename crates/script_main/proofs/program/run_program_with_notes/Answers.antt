use Rattle.std.proofs.Common.{ℕ, subst}
use Rattle.script_main.specs.declared.mode.Mode.{Mode}
use Rattle.script_main.specs.Programs.{HasRun}
use Rattle.script_main.proofs.WordLemmas.{AsksRun-same}
use Rattle.script_main.proofs.program.run_program_with_notes.Goals as goal

pub returns-clause-run : goal.returns-clause-run
returns-clause-run g c = λ mode room asks.
    let same = AsksRun-same _ c.in-Some.mode mode c.in-Some.room room c.in-Some.ensures asks in
    subst (λ (z : Mode × ℕ). HasRun z.0 c.status_of.result z.1 (g.R.Source.rest c.args.reader.now) (g.R.Source.rest c.run_noted-ran.new.reader) (g.W.Sink.written c.args.writer.now) (g.W.Sink.written c.run_noted-ran.new.writer)
    (g.R.Source.failures c.args.reader.now) (g.R.Source.failures c.run_noted-ran.new.reader) (g.W.Sink.failures c.args.writer.now) (g.W.Sink.failures c.run_noted-ran.new.writer)) (λ i. (same.0 i, same.1 i))
    (record {
      result = c.run_noted-ran.result;
      status_is = c.status_of.ensures;
      runs = c.run_noted-ran.ensures.runs;
      counted = c.run_noted-ran.ensures.counted;
    })
