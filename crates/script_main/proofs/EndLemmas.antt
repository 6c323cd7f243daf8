-- How workers end, and what that makes of the run. `worked_machines`, `met_closer` and
-- `met_alone`: what their callers are when they meet; `closes` and `closes_nothing`: a closed book is that of a settled run.
use Rattle.std.proofs.Common.{◌≡◌, ℕ, zero, suc, ◌+◌, List, [], ◌∷◌, map, length, slice_index_or, Vec, Result, Ok, Err, refl, sym, ap, ◌∙◌, subst, arith}
use Rattle.std.specs.Prelude.{All, IfOk}
use Rattle.std.specs.Global.{Global}
use Rattle.std.specs.List.{AllZip}
use Rattle.std.proofs.lemmas.List.{length-map, nil_from_length}
use Rattle.vector_memory.specs.declared.bounds.Bounds.{Bounds}
use Rattle.vector_memory.specs.States.{empty}
use Rattle.call_history.specs.declared.request.Job.{Job}
use Rattle.cvl_text.specs.declared.reply.Reply.{Reply}
use Rattle.cvl_text.specs.Answers.{answer_of}
use Rattle.call_history.specs.declared.entry.Entry.{Entry}
use Rattle.call_history.specs.History.{Begins}
use Rattle.call_history.specs.Callers.{calls_by}
use Rattle.call_history.specs.Books.{BookState}
use Rattle.call_history.proofs.Beginnings.{begins_trans}
use Rattle.combiner.specs.Standing.{Machine, Standing, IsIdle, callers_of}
use Rattle.script_lines.specs.declared.fault.RunFault.{RunFault}
use Rattle.script_main.specs.declared.settled.Settled.{Settled}
use Rattle.script_main.specs.declared.work.Worked.{Worked}
use Rattle.script_main.specs.Settles.{IsSettled}
use Rattle.script_main.specs.Workers.{reply_count, HasDone, IsEnd, EachAt, AreEnds, HasMet, HaveMet, ClosesWith}
use Rattle.script_main.proofs.WorkLemmas.{length-replies_by}
use Rattle.script_main.proofs.SettleLemmas.{IsTold, count_first, each_length, settles}

-- worker k has done its script
abbrev HasWorked : Machine → Bounds → ℕ → List Job → Worked → Type 0
HasWorked m bounds k script worked = HasDone m bounds k script worked.caller (map answer_of worked.replies.items)

worked_each : (m : Machine) (bounds : Bounds) (k : ℕ) (scripts : List (List Job)) (workers : List Worked) → EachAt (IsEnd m bounds) k scripts (map Ok workers) → EachAt (HasWorked m bounds) k scripts workers
worked_each m bounds k [] [] ends = tt
worked_each m bounds k [] (w ∷ ws) ends = absurd ends
worked_each m bounds k (s ∷ ss) [] ends = absurd ends
worked_each m bounds k (s ∷ ss) (w ∷ ws) ends = (ends.0, worked_each m bounds (k + 1) ss ws ends.1)

all_worked : (m : Machine) (bounds : Bounds) (scripts : List (List Job)) (ends : List (Result Worked RunFault)) (workers : List Worked) → ends ≡ map Ok workers → AreEnds m bounds scripts ends
    → EachAt (HasWorked m bounds) 0 scripts workers
all_worked m bounds scripts ends workers is each = worked_each m bounds 0 scripts workers (subst (EachAt (IsEnd m bounds) 0 scripts) is each)

machines : (m : Machine) (bounds : Bounds) (k : ℕ) (scripts : List (List Job)) (workers : List Worked) → EachAt (HasWorked m bounds) k scripts workers → All (λ (worked : Worked). worked.caller.machine ≡ m) workers
machines m bounds k [] [] each = λ i d lt. absurd (omega arith)
machines m bounds k [] (w ∷ ws) each = absurd each
machines m bounds k (s ∷ ss) [] each = absurd each
machines m bounds k (s ∷ ss) (w ∷ ws) each = go (machines m bounds (k + 1) ss ws each.1)
  where
    go : All (λ (worked : Worked). worked.caller.machine ≡ m) ws → All (λ (worked : Worked). worked.caller.machine ≡ m) (w ∷ ws)
    go others zero d lt = each.0.machine_is
    go others (suc i) d lt = others i d (omega arith)

pub worked_machines : (m : Machine) (bounds : Bounds) (scripts : List (List Job)) (ends : List (Result Worked RunFault)) (workers : List Worked) → ends ≡ map Ok workers → AreEnds m bounds scripts ends
    → All (λ (worked : Worked). worked.caller.machine ≡ m) workers
worked_machines m bounds scripts ends workers is each = machines m bounds 0 scripts workers (all_worked m bounds scripts ends workers is each)

-- the caller that closes
pub record IsCloser (m : Machine) (bounds : Bounds) (closer : Standing) : Type 0 where
  pub machine_is : closer.machine ≡ m
  pub bounds_is : closer.bounds ≡ bounds
  pub first : closer.number ≡ 0
  pub idle : IsIdle closer

first_closer : (m : Machine) (bounds : Bounds) (scripts : List (List Job)) (first : Worked) (others : List Worked) (closer : Standing) → EachAt (HasWorked m bounds) 0 scripts (first ∷ others)
    → closer ≡ record first.caller { seen = closer.seen } → IsCloser m bounds closer
first_closer m bounds [] first others closer each is = absurd each
first_closer m bounds (s ∷ ss) first others closer each is = record {
  machine_is = ap (λ (z : Standing). z.machine) is ∙ each.0.machine_is;
  bounds_is = ap (λ (z : Standing). z.bounds) is ∙ each.0.bounds_is;
  first = ap (λ (z : Standing). z.number) is ∙ each.0.number_is;
  idle = ap (λ (z : Standing). z.phase) is ∙ each.0.idle;
}

pub met_closer : (m : Machine) (bounds : Bounds) (scripts : List (List Job)) (ends : List (Result Worked RunFault)) (workers : List Worked) (closer : Standing) (replies : List (Vec Reply Global))
    → ends ≡ map Ok workers → AreEnds m bounds scripts ends → HaveMet workers closer replies → IsCloser m bounds closer
met_closer m bounds scripts ends workers closer replies is each met =
    first_closer m bounds scripts met.first met.others closer
    (subst (EachAt (HasWorked m bounds) 0 scripts) met.workers_are (all_worked m bounds scripts ends workers is each)) met.closer_is

-- a worker alone has as many answered calls as replies
alone_first : (m : Machine) (bounds : Bounds) (scripts : List (List Job)) (first : Worked) (others : List Worked) (line : List Entry) (replies : List (Vec Reply Global))
    → EachAt (HasWorked m bounds) 0 scripts (first ∷ others) → AllZip (HasMet line) (first ∷ others) replies → length (first ∷ others) ≡ 1 → reply_count replies ≡ length first.caller.own
alone_first m bounds [] first others line replies each met one = absurd each
alone_first m bounds (s ∷ ss) first (o ∷ os) line replies each met one = absurd (omega arith)
alone_first m bounds (s ∷ ss) first [] line [] each met one = absurd met
alone_first m bounds (s ∷ ss) first [] line (r ∷ q ∷ rs) each met one = absurd met.1
alone_first m bounds (s ∷ ss) first [] line (r ∷ []) each met one =
    let all : reply_count (r ∷ []) ≡ length r.items + reply_count [] = count_first r [] in
    let none : reply_count [] ≡ 0 = refl in
    let same : length r.items ≡ length first.replies.items = ap (λ (v : Vec Reply Global). length v.items) met.0.0 in
    let told : length first.replies.items ≡ length first.caller.own =
    sym (length-map first.replies.items answer_of) ∙ (ap length each.0.replies_are ∙ (length-replies_by 0 (empty bounds) first.caller.seen ∙ (ap length each.0.calls_are ∙ sym (ap length each.0.record_is)))) in
    omega (arith, all, none, same, told)

pub met_alone : (m : Machine) (bounds : Bounds) (scripts : List (List Job)) (ends : List (Result Worked RunFault)) (workers : List Worked) (closer : Standing) (replies : List (Vec Reply Global))
    → ends ≡ map Ok workers → AreEnds m bounds scripts ends → HaveMet workers closer replies → length ends ≡ 1 → reply_count replies ≡ length closer.own
met_alone m bounds scripts ends workers closer replies is each met one =
    let size : length (met.first ∷ met.others) ≡ 1 = sym (ap length met.workers_are) ∙ (sym (length-map workers Ok) ∙ (sym (ap length is) ∙ one)) in
    alone_first m bounds scripts met.first met.others closer.seen replies (subst (EachAt (HasWorked m bounds) 0 scripts) met.workers_are (all_worked m bounds scripts ends workers is each))
    (subst (λ l. AllZip (HasMet closer.seen) l replies) met.workers_are met.each) size
    ∙ sym (ap (λ (z : Standing). length z.own) met.closer_is)

told_each : (m : Machine) (bounds : Bounds) (k : ℕ) (scripts : List (List Job)) (workers : List Worked) (replies : List (Vec Reply Global)) (seen line : List Entry) → EachAt (HasWorked m bounds) k scripts workers
    → AllZip (HasMet seen) workers replies → Begins seen line → EachAt (IsTold bounds line) k scripts replies
told_each m bounds k [] [] [] seen line each met later = tt
told_each m bounds k [] [] (r ∷ rs) seen line each met later = absurd met
told_each m bounds k [] (w ∷ ws) replies seen line each met later = absurd each
told_each m bounds k (s ∷ ss) [] replies seen line each met later = absurd each
told_each m bounds k (s ∷ ss) (w ∷ ws) [] seen line each met later = absurd met
told_each m bounds k (s ∷ ss) (w ∷ ws) (r ∷ rs) seen line each met later = (
  record {
    seen = w.caller.seen;
    begins = begins_trans w.caller.seen seen line met.0.1 later;
    calls_are = each.0.calls_are;
    rests_are = each.0.rests_are;
    replies_are = ap (λ (v : Vec Reply Global). map answer_of v.items) met.0.0 ∙ each.0.replies_are;
  },
  told_each m bounds (k + 1) ss ws rs seen line each.1 met.1 later,
)

closed_settles : (m : Machine) (bounds : Bounds) (scripts : List (List Job)) (ends : List (Result Worked RunFault)) (workers : List Worked) (closer : Standing) (replies : Vec (Vec Reply Global) Global)
    (book : BookState) → ends ≡ map Ok workers → AreEnds m bounds scripts ends → length ends ≡ callers_of m → HaveMet workers closer replies.items → ClosesWith m closer replies.items book
    → IsSettled bounds scripts replies book
closed_settles m bounds scripts ends workers closer replies book is each size met closed =
    let closers = met_closer m bounds scripts ends workers closer replies.items is each met in
    let told = told_each m bounds 0 scripts workers replies.items closer.seen book.history (all_worked m bounds scripts ends workers is each) met.each closed.begins in
    let long : length ends ≡ length scripts = each_length (IsEnd m bounds) 0 scripts ends each in
    let whole = settles bounds book.history scripts replies.items told (λ k far. closed.no_strangers k (omega (arith, far, long, size))) closed.counted in
    record {
      bounds_is = closed.bounds_is ∙ closers.bounds_is;
      calls = λ k. (whole k).0;
      blocks = λ k. (whole k).2;
      workers = length-map replies.items (λ own. map answer_of own.items) ∙ each_length (IsTold bounds book.history) 0 scripts replies.items told;
      replies_are = λ k. (whole k).1;
    }

pub closes : (result : Result Settled RunFault) (m : Machine) (bounds : Bounds) (ends : List (Result Worked RunFault)) (workers : List Worked) (closer : Standing) (replies : Vec (Vec Reply Global) Global)
    → ends ≡ map Ok workers → length ends ≡ callers_of m → HaveMet workers closer replies.items → IfOk result (λ run. run.replies ≡ replies) → IfOk result (λ run. ClosesWith m closer replies.items run.book)
    → IfOk result (λ run. (scripts : List (List Job)) → AreEnds m bounds scripts ends → IsSettled bounds scripts run.replies run.book)
closes (Ok run) m bounds ends workers closer replies is size met same closed = λ scripts each.
    subst (λ (v : Vec (Vec Reply Global) Global). IsSettled bounds scripts v run.book) (sym same) (closed_settles m bounds scripts ends workers closer replies run.book is each size met closed)
closes (Err fault) m bounds ends workers closer replies is size met same closed = tt

-- a machine whose one caller has done nothing
pub closes_nothing : (result : Result Settled RunFault) (m : Machine) (bounds : Bounds) (closer : Standing) (replies : Vec (Vec Reply Global) Global) → closer.bounds ≡ bounds → replies.items ≡ []
    → IfOk result (λ run. run.replies ≡ replies) → IfOk result (λ run. ClosesWith m closer replies.items run.book) → IfOk result (λ run. IsSettled bounds [] run.replies run.book)
closes_nothing (Err fault) m bounds closer replies at empty same closed = tt
closes_nothing (Ok run) m bounds closer replies at empty same closed =
    let none : reply_count replies.items ≡ 0 = ap reply_count empty in
    let line : run.book.history ≡ [] = nil_from_length run.book.history (sym closed.counted ∙ none) in
    let told : run.replies.items ≡ [] = ap (λ (v : Vec (Vec Reply Global) Global). v.items) same ∙ empty in
    let whole = settles bounds run.book.history [] [] tt (λ k far. ap (calls_by k) line) (sym (ap length line)) in
    record {
      bounds_is = closed.bounds_is ∙ at;
      calls = λ k. (whole k).0;
      blocks = λ k. (whole k).2;
      workers = ap (λ l. length (map (λ (own : Vec Reply Global). map answer_of own.items) l)) told;
      replies_are = λ k. ap (λ l. slice_index_or (map (λ (own : Vec Reply Global). map answer_of own.items) l) k []) told ∙ (whole k).1;
    }
