use Rattle.std.proofs.Common.{length, map, refl, ap, arith}
use Rattle.std.specs.Prelude.{Vec}
use Rattle.std.specs.Global.{Global}
use Rattle.call_history.specs.declared.request.Job.{Job}
use Rattle.script_lines.specs.Stages.{stage_of}
use Rattle.script_lines.specs.Readings.{lists_of}
use Rattle.script_lines.proofs.JobLemmas.{AreLawful-none}
use Rattle.script_lines.proofs.ReadLemmas.{read-start}
use Rattle.script_lines.proofs.WalkLemmas.{countable-start}
use Rattle.script_lines.proofs.reading.read_input.Goals as goal

pub loop-init : goal.loop-init
loop-init g c =
    let jobs = c.args.jobs.now in
    let walk = c.args.lines.now.walk in
    let none = ap (map (λ (own : Vec Job Global). own.items)) c.requires.none in
    record {
      countable = countable-start walk (g.R.Source.limit c.args.reader.now) c.requires.unwalked (g.met.R.Source.limited c.args.reader.now);
      readable = c.requires.readable;
      reads = refl;
      lawful = AreLawful-none (lists_of jobs) none;
      few = let empty = ap length c.requires.none in omega (arith, empty, jobs.ok.0);
      read = read-start (g.R.Source.rest c.args.reader.now) walk (stage_of c.args.progress.now) (lists_of jobs) c.requires.unwalked c.requires.start none;
    }
