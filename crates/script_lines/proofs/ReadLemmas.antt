-- Reading the lines of an input into lists of jobs: `read-start` at first, `read-line` for a line, `read-bad` where it is not good, and `read-filled` for
-- what is read.
use Rattle.std.proofs.Common.{◌≡◌, ℕ, Bool, true, false, List, [], ◌∷◌, ◌++◌, refl, sym, ap, ◌∙◌, subst, Option, Some, None, Result, Ok, Err}
use Rattle.std.specs.Option.{IfSome}
use Rattle.call_history.specs.declared.request.Job.{Job}
use Rattle.script_lines.specs.declared.fault.InputFault.{InputFault}
use Rattle.script_lines.specs.declared.fault.InputFault.TheVariants as halts
use Rattle.script_lines.specs.declared.line.LineFault.{LineFault}
use Rattle.script_lines.specs.declared.line.LineFault.TheVariants as faults
use Rattle.script_lines.specs.Scripts.{Stage, AtStart, Bad, first_bad, line_of, is_good, stage_after_line, stage_after, edition_at, edition_of}
use Rattle.script_lines.specs.Walks.{Walk, unwalked, Place, IsNextLine, IsHalt, FillsOrEnds, halt_at}
use Rattle.script_lines.specs.Readings.{AreJobsOf, AddsLine, HasRead, EndsReading, ReadsOn}
use Rattle.script_lines.proofs.JobLemmas.{AreJobsOf-none, AreJobsOf-next}
use Rattle.script_lines.proofs.StageLemmas.{edition-all}
use Rattle.script_lines.proofs.WalkLemmas.{walked-start, walked-next, walked-bad}
use Rattle.script_lines.proofs.ServeLemmas.{good-next, good-all, bad-next, stage_after-append}

module _ (input : List ℕ) (left : Option (List ℕ)) (old : Walk) (stage : Stage) (lists : List (List Job)) (r : HasRead input left old stage lists) where
  -- one more line
  pub read-line : (new : Place) (read : List ℕ) (more : List (List Job)) (stage' : Stage) → IsNextLine old new.line new.walk → read ≡ new.line
      → is_good (line_of stage read) ≡ true → AddsLine lists more (line_of stage read) → stage' ≡ stage_after_line stage (line_of stage read)
      → HasRead input left new.walk stage' more
  read-line new read more stage' next is good adds goes =
      let line = new.line in
      let there = stage_after AtStart r.first in
      let same : line_of stage read ≡ line_of there line = ap (λ (l : List ℕ). line_of stage l) is ∙ ap (λ (s : Stage). line_of s line) r.stage_is in
      record {
        first = r.first ++ line ∷ [];
        walked = walked-next input left r.first old r.walked line new.walk next;
        good = good-next r.first line r.good (ap is_good (sym same) ∙ good);
        stage_is = goes ∙ ap (λ (s : Stage). stage_after_line s (line_of stage read)) r.stage_is ∙ ap (stage_after_line there) same ∙ sym (stage_after-append AtStart r.first (line ∷ []));
        jobs = AreJobsOf-next lists more r.first line r.jobs (subst (AddsLine lists more) same adds);
      }

  read-halted : (halt : InputFault) (left' : Option (List ℕ)) (stage' : Stage) (more : List (List Job)) → IsHalt halt input r.first left' → EndsReading (Err halt) stage' more input left'
  read-halted (halts.BadLine number) left' stage' more h = bad-next input r.first number r.good h
  read-halted halts.OutOfMemory left' stage' more h = tt
  read-halted halts.Read left' stage' more h =
      record { read = h.read; rest = h.rest; input_is = h.input_is; left_is = h.left_is; good = ap (first_bad AtStart 0) h.lines ∙ r.good }

  -- the line is not read
  pub read-bad : (fault : LineFault) (new : Place) (left' : Option (List ℕ)) (stage' : Stage) (more : List (List Job)) → IsNextLine old new.line new.walk
      → (fault ≡ faults.Bad → line_of stage new.line ≡ Bad) → EndsReading (Err (halt_at new.walk.number fault)) stage' more input left'
  read-bad fault new left' stage' more next bad =
      let walked = walked-next input left r.first old r.walked new.line new.walk next in
      read-halted (halt_at new.walk.number fault) left' stage' more
      (walked-bad input left r.first new walked fault left' (λ e. subst (λ (s : Stage). line_of s new.line ≡ Bad) r.stage_is (bad e)))

  -- more was read, or all is read, or not
  pub read-filled : (result : Result Bool InputFault) (left' : Option (List ℕ)) (new : Walk) → FillsOrEnds result input r.first left' new → ReadsOn result stage lists input left' new
  read-filled (Ok true) left' new w = record { first = r.first; walked = w; good = r.good; stage_is = r.stage_is; jobs = r.jobs }
  read-filled (Ok false) left' new all = (
    ap edition_at r.stage_is ∙ edition-all r.first ∙ ap edition_of (sym all.0),
    (good-all input r.first r.good all.0 all.1, subst (λ (ls : List (List ℕ)). AreJobsOf lists ls) (sym all.0) r.jobs),
  )
  read-filled (Err halt) left' new h = read-halted halt left' stage lists h

-- nothing is read yet
pub read-start : (input : Option (List ℕ)) (walk : Walk) (stage : Stage) (lists : List (List Job)) → walk ≡ unwalked → stage ≡ AtStart → lists ≡ []
    → IfSome input (λ script. HasRead script input walk stage lists)
read-start None walk stage lists is start none = tt
read-start (Some script) walk stage lists is start none = record {
  first = [];
  walked = walked-start script walk is;
  good = refl;
  stage_is = start;
  jobs = subst (λ (ls : List (List Job)). AreJobsOf ls []) (sym none) AreJobsOf-none;
}
