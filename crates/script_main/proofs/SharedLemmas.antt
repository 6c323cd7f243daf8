-- The end of a run whose callers have threads of their own. `reports`: a report that is written is that of the script;
-- `counts` and `unread_counts`: a read or a write that failed
-- was counted, and no worker was stopped.
use Rattle.std.proofs.Common.{inr, ◌≡◌, ◌<◌, ℕ, List, [], Vec, Option, Some, None, Result, Ok, Err, refl, subst, arith}
use Rattle.std.specs.Prelude.{IfSome, OnOk, OnErr, IfErr}
use Rattle.std.specs.Global.{Global}
use Rattle.vector_memory.specs.declared.edition.Edition.{Edition}
use Rattle.vector_memory.specs.States.{bounds_in}
use Rattle.cvl_text.specs.declared.reply.Reply.{Reply}
use Rattle.call_history.specs.Books.{BookState}
use Rattle.script_lines.specs.declared.fault.RunFault.{RunFault}
use Rattle.script_lines.specs.declared.fault.RunFault.TheVariants as stops
use Rattle.script_lines.specs.Scripts.{edition_of, lines_of}
use Rattle.script_lines.specs.declared.script.Script.{Script}
use Rattle.script_lines.specs.Streams.{Awaits, HasBegun}
use Rattle.script_lines.specs.Runs.{IsCounted}
use Rattle.script_lines.specs.Readings.{lists_of, AreJobsOf}
use Rattle.script_main.specs.Reports.{IsReportFault, answers_of, report_text}
use Rattle.script_main.specs.Settles.{IsSettled}
use Rattle.script_main.specs.SharedRuns.{IsReportOf, IsReadWhole, RunsShared}

module _ (room : ℕ) (script : Script) (replies : Vec (Vec Reply Global) Global) (book : BookState) (settled : IsSettled (bounds_in script.edition room) (lists_of script.workers) replies book) where
  abbrev text : List ℕ
  text = report_text (answers_of replies) book

  report-of : (input : List ℕ) → script.edition ≡ edition_of (lines_of input) → AreJobsOf (lists_of script.workers) (lines_of input) → IsReportOf room (lines_of input) text
  report-of input edition jobs = record {
    scripts = lists_of script.workers;
    replies = replies;
    book = book;
    jobs = jobs;
    settled = subst (λ (e : Edition). IsSettled (bounds_in e room) (lists_of script.workers) replies book) edition settled;
    text_is = refl;
  }

  reports-of : (result : Result (Unit {0}) RunFault) (input : List ℕ) (left old mid new : Option (List ℕ)) (writes writes' : ℕ) → IsReadWhole (Ok script) input left old mid
      → OnOk result (Awaits mid new [] text) → OnErr result (HasBegun mid new text) → IfErr result (λ fault. IsReportFault fault writes writes') → RunsShared result room input left old new
  reports-of (Ok done) input left old mid new writes writes' read all begun fault =
      (read.1, text, report-of input read.0 read.2, subst (λ (o : Option (List ℕ)). Awaits o new [] text) read.3 all)
  reports-of (Err stops.OutOfMemory) input left old mid new writes writes' read all begun fault =
      inr (read.1, text, report-of input read.0 read.2, subst (λ (o : Option (List ℕ)). HasBegun o new text) read.3 begun)
  reports-of (Err stops.Write) input left old mid new writes writes' read all begun fault =
      inr (read.1, text, report-of input read.0 read.2, subst (λ (o : Option (List ℕ)). HasBegun o new text) read.3 begun)
  reports-of (Err (stops.BadLine number)) input left old mid new writes writes' read all begun fault = absurd fault
  reports-of (Err stops.Read) input left old mid new writes writes' read all begun fault = absurd fault
  reports-of (Err (stops.Stopped worker)) input left old mid new writes writes' read all begun fault = absurd fault
  reports-of (Err stops.Unfinished) input left old mid new writes writes' read all begun fault = absurd fault

  pub reports : (result : Result (Unit {0}) RunFault) (input left old mid new : Option (List ℕ)) (writes writes' : ℕ) → IfSome input (λ text. IsReadWhole (Ok script) text left old mid)
      → OnOk result (Awaits mid new [] text) → OnErr result (HasBegun mid new text) → IfErr result (λ fault. IsReportFault fault writes writes')
      → IfSome input (λ script. RunsShared result room script left old new)
  reports result None left old mid new writes writes' read all begun fault = tt
  reports result (Some input) left old mid new writes writes' read all begun fault = reports-of result input left old mid new writes writes' read all begun fault

pub counts : (result : Result (Unit {0}) RunFault) (reads reads' writes mid writes' : ℕ) → mid ≡ writes → IfErr result (λ fault. IsReportFault fault mid writes') → IsCounted result reads reads' writes writes'
counts (Ok done) reads reads' writes mid writes' same fault = tt
counts (Err stops.OutOfMemory) reads reads' writes mid writes' same fault = tt
counts (Err stops.Write) reads reads' writes mid writes' same fault = omega (arith, same, fault)
counts (Err (stops.BadLine number)) reads reads' writes mid writes' same fault = tt
counts (Err stops.Read) reads reads' writes mid writes' same fault = absurd fault
counts (Err (stops.Stopped worker)) reads reads' writes mid writes' same fault = absurd fault
counts (Err stops.Unfinished) reads reads' writes mid writes' same fault = tt

-- the counts where a script was not read
pub unread_counts : (fault : RunFault) (reads reads' writes writes' : ℕ) → (fault ≡ stops.Read → reads < reads') → (fault ≡ stops.Write → writes < writes') → ((worker : ℕ) → fault ≡ stops.Stopped worker → ⊥)
    → IsCounted (Err fault) reads reads' writes writes'
unread_counts stops.Read reads reads' writes writes' cut failed never = cut refl
unread_counts stops.Write reads reads' writes writes' cut failed never = failed refl
unread_counts (stops.Stopped worker) reads reads' writes writes' cut failed never = never worker refl
unread_counts (stops.BadLine number) reads reads' writes writes' cut failed never = tt
unread_counts stops.OutOfMemory reads reads' writes writes' cut failed never = tt
unread_counts stops.Unfinished reads reads' writes writes' cut failed never = tt
