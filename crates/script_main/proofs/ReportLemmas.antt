-- The report, part by part: `report-stop_replies`, `report-stop_memory` and `report-stop_audit` where it stops in a part, and
-- `report-end` for the last write.
use Rattle.std.proofs.Common.{◌≡◌, ℕ, true, List, [], ◌++◌, length, Option, Result, Ok, Err, OnOk, OnErr, sym, ◌∙◌, subst, append_assoc}
use Rattle.cvl_text.specs.Answers.{Answer}
use Rattle.call_history.specs.Books.{BookState, memory_of}
use Rattle.script_lines.specs.declared.fault.RunFault.{RunFault}
use Rattle.script_lines.specs.declared.fault.RunFault.TheVariants as stops
use Rattle.script_lines.specs.Streams.{Awaits, HasBegun}
use Rattle.script_main.specs.Reports.{Puts, replies_text, memory_text, history_text, audit_text, report_text}
use Rattle.script_main.proofs.PutLemmas.{Puts-nothing, Puts-then, Puts-more, Puts-behind}

-- what a text that is put says, where nothing waited and nothing waits
Puts-written : (result : Result (Unit {0}) RunFault) (text : List ℕ) (old new : Option (List ℕ)) (writes writes' : ℕ) → Puts result text [] [] old new writes writes' → OnOk result (Awaits old new [] text)
Puts-written (Ok done) text old new writes writes' p = p.0
Puts-written (Err fault) text old new writes writes' p = tt

Puts-begun : (result : Result (Unit {0}) RunFault) (text : List ℕ) (old new : Option (List ℕ)) (writes writes' : ℕ) → Puts result text [] [] old new writes writes' → OnErr result (HasBegun old new text)
Puts-begun (Ok done) text old new writes writes' p = tt
Puts-begun (Err fault) text old new writes writes' p = p.0

module _ (answers : List (List Answer)) (book : BookState) where
  whole : (replies_text 0 answers ++ memory_text (memory_of book).entries) ++ (history_text (length book.history) ++ audit_text true) ≡ report_text answers book
  unfolding report_text
  whole = sym (append_assoc (replies_text 0 answers ++ memory_text (memory_of book).entries) (history_text (length book.history)) (audit_text true))

  module _ (waiting waits : List ℕ) (none : waiting ≡ []) (old mid : Option (List ℕ)) (before between : ℕ) where
    pub report-stop_replies : (fault : RunFault) (left : List ℕ) → Puts (Err fault) (replies_text 0 answers) waiting left old mid before between → HasBegun old mid (report_text answers book)
    report-stop_replies fault left p =
        let memory = memory_text (memory_of book).entries in
        let last = history_text (length book.history) ++ audit_text true in
        let all = Puts-more fault (replies_text 0 answers ++ memory) last waiting left old mid before between (Puts-more fault (replies_text 0 answers) memory waiting left old mid before between p) in
        subst (λ (t : List ℕ). HasBegun old mid t) whole (subst (λ (w : List ℕ). HasBegun old mid (w ++ ((replies_text 0 answers ++ memory) ++ last))) none all.0)

    module _ (put : Puts (Ok tt) (replies_text 0 answers) waiting waits old mid before between) where
      pub report-stop_memory : (fault : RunFault) (left : List ℕ) (new : Option (List ℕ)) (after : ℕ) → Puts (Err fault) (memory_text (memory_of book).entries) waits left mid new between after
          → HasBegun old new (report_text answers book)
      report-stop_memory fault left new after p =
          let memory = memory_text (memory_of book).entries in
          let last = history_text (length book.history) ++ audit_text true in
          let both = Puts-then (replies_text 0 answers) memory waiting waits left old mid new before between after (Err fault) put p in
          let all = Puts-more fault (replies_text 0 answers ++ memory) last waiting left old new before after both in
          subst (λ (t : List ℕ). HasBegun old new t) whole (subst (λ (w : List ℕ). HasBegun old new (w ++ ((replies_text 0 answers ++ memory) ++ last))) none all.0)

      module _ (left : List ℕ) (late : Option (List ℕ)) (after : ℕ) (memory-put : Puts (Ok tt) (memory_text (memory_of book).entries) waits left mid late between after) where
        all-but-last : (result : Result (Unit {0}) RunFault) (end : List ℕ) (new : Option (List ℕ)) (last : ℕ)
            → Puts result (history_text (length book.history) ++ audit_text true) left end late new after last → Puts result (report_text answers book) [] end old new before last
        all-but-last result end new last p =
            let memory = memory_text (memory_of book).entries in
            let behind = history_text (length book.history) ++ audit_text true in
            let both = Puts-then (replies_text 0 answers) memory waiting waits left old mid late before between after (Ok tt) put memory-put in
            let all = Puts-then (replies_text 0 answers ++ memory) behind waiting left end old late new before after last result both p in
            subst (λ (t : List ℕ). Puts result t [] end old new before last) whole (subst (λ (w : List ℕ). Puts result ((replies_text 0 answers ++ memory) ++ behind) w end old new before last) none all)

        pub report-stop_audit : HasBegun old late (report_text answers book)
        report-stop_audit = (all-but-last (Err stops.OutOfMemory) [] late after (Puts-nothing (history_text (length book.history) ++ audit_text true) left [] late after)).0

        -- the last write
        module _ (result : Result (Unit {0}) RunFault) (ready : List ℕ) (new : Option (List ℕ)) (last : ℕ)
            (is : ready ≡ (left ++ history_text (length book.history)) ++ audit_text true) (p : Puts result [] ready [] late new after last) where
          report-whole : Puts result (report_text answers book) [] [] old new before last
          report-whole = all-but-last result [] new last
              (Puts-behind result (history_text (length book.history) ++ audit_text true) left ready [] late new after last (is ∙ append_assoc left (history_text (length book.history)) (audit_text true)) p)

          pub report-written : OnOk result (Awaits old new [] (report_text answers book))
          report-written = Puts-written result (report_text answers book) old new before last report-whole

          pub report-begun : OnErr result (HasBegun old new (report_text answers book))
          report-begun = Puts-begun result (report_text answers book) old new before last report-whole
