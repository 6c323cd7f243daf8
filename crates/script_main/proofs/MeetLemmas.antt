-- Workers that meet, one after the other: `met_first` is the first alone, `met_more` one more, and `met_all` all of them.
use Rattle.std.proofs.Common.{◌≡◌, List, [], ◌∷◌, ◌++◌, Vec, refl, sym, ap, ◌∙◌, subst, append_assoc, append-nil}
use Rattle.std.specs.Global.{Global}
use Rattle.std.specs.List.{AllZip}
use Rattle.std.proofs.lemmas.Slice.Zip.{all_zipped_more}
use Rattle.cvl_text.specs.declared.reply.Reply.{Reply}
use Rattle.call_history.specs.declared.entry.Entry.{Entry}
use Rattle.call_history.specs.History.{Begins}
use Rattle.call_history.proofs.Beginnings.{begins_self, begins_trans}
use Rattle.combiner.specs.Standing.{Standing}
use Rattle.combiner.specs.Says.{seeing, longer_seen}
use Rattle.script_main.specs.declared.work.Worked.{Worked}
use Rattle.script_main.specs.Workers.{HasMet, HaveMet}

-- some workers have met, and these are left
pub record MetSoFar (workers rest : List Worked) (closer : Standing) (replies : List (Vec Reply Global)) : Type 0 where
  pub first : Worked
  pub others : List Worked
  pub workers_are : workers ≡ first ∷ others ++ rest
  pub closer_is : closer ≡ seeing first.caller closer.seen
  pub each : AllZip (HasMet closer.seen) (first ∷ others) replies

pub met_first : (workers rest : List Worked) (first : Worked) → workers ≡ first ∷ rest → MetSoFar workers rest first.caller (first.replies ∷ [])
met_first workers rest first is = record { first = first; others = []; workers_are = is; closer_is = refl; each = ((refl, begins_self first.caller.seen), tt) }

met_later : (line longer : List Entry) (workers : List Worked) (replies : List (Vec Reply Global)) → Begins line longer → AllZip (HasMet line) workers replies → AllZip (HasMet longer) workers replies
met_later line longer [] [] later each = tt
met_later line longer [] (r ∷ rs) later each = absurd each
met_later line longer (w ∷ ws) [] later each = absurd each
met_later line longer (w ∷ ws) (r ∷ rs) later each = ((each.0.0, begins_trans w.caller.seen line longer each.0.1 later), met_later line longer ws rs later each.1)

pub met_more : (workers rest left : List Worked) (worker : Worked) (c d : Standing) (replies : List (Vec Reply Global)) → rest ≡ worker ∷ left → MetSoFar workers rest c replies
    → d ≡ seeing c (longer_seen worker.caller c) → Begins worker.caller.seen (longer_seen worker.caller c) → Begins c.seen (longer_seen worker.caller c)
    → MetSoFar workers left d (replies ++ worker.replies ∷ [])
met_more workers rest left worker c d replies next met is mine others =
    let longer = longer_seen worker.caller c in
    let seen : d.seen ≡ longer = ap (λ (z : Standing). z.seen) is in
    let each = all_zipped_more (HasMet longer) (met.first ∷ met.others) replies worker worker.replies (met_later c.seen longer (met.first ∷ met.others) replies others met.each) (refl, mine) in
    record {
      first = met.first;
      others = met.others ++ worker ∷ [];
      workers_are = met.workers_are ∙ ap (λ l. met.first ∷ l) (ap (λ l. met.others ++ l) next ∙ sym (append_assoc met.others (worker ∷ []) left));
      closer_is = is ∙ (ap (λ (z : Standing). seeing z longer) met.closer_is ∙ ap (seeing met.first.caller) (sym seen));
      each = subst (λ line. AllZip (HasMet line) (met.first ∷ met.others ++ worker ∷ []) (replies ++ worker.replies ∷ [])) (sym seen) each;
    }

pub met_all : (workers rest : List Worked) (closer : Standing) (replies : List (Vec Reply Global)) → rest ≡ [] → MetSoFar workers rest closer replies → HaveMet workers closer replies
met_all workers rest closer replies none met =
    let all : workers ≡ met.first ∷ met.others = met.workers_are ∙ ap (λ l. met.first ∷ l) (ap (λ l. met.others ++ l) none ∙ append-nil met.others) in
    record {
      first = met.first;
      others = met.others;
      workers_are = all;
      closer_is = met.closer_is;
      each = subst (λ l. AllZip (HasMet closer.seen) l replies) (sym all) met.each;
    }
