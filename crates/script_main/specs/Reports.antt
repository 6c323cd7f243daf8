-- What is reported of a settled run: the replies to each caller, the memory by the order of its names, the length of the
-- history, and what the audit says.
use Rattle.std.specs.Prelude.{◌≡◌, ℕ, ◌+◌, ◌<◌, Bool, true, false, List, [], ◌∷◌, ◌++◌, length, map, Option, Result, Ok, Err, Vec, if◌then◌else◌, codes}
use Rattle.std.specs.Global.{Global}
use Rattle.std.specs.List.{flat_map}
use Rattle.std.specs.Fmt.{decimal}
use Rattle.std.specs.Ordering.{is_lt, nat_cmp}
use Rattle.std.specs.Cmp.Lexicographic.{slice_cmp}
use Rattle.vector_memory.specs.declared.name.Name.{Name}
use Rattle.vector_memory.specs.Contents.{Content}
use Rattle.cvl_text.specs.declared.reply.Reply.{Reply}
use Rattle.cvl_text.specs.Answers.{Answer, answer_of}
use Rattle.cvl_text.specs.Texts.{value_text}
use Rattle.call_history.specs.Books.{BookState, memory_of}
use Rattle.script_lines.specs.declared.fault.RunFault.{RunFault}
use Rattle.script_lines.specs.declared.fault.RunFault.TheVariants as stops
use Rattle.script_lines.specs.Scripts.{reply_line}
use Rattle.script_lines.specs.Streams.{Awaits, HasBegun}

-- the first name stands before the second: by the first byte that differs, and the shorter where one begins the other
abbrev pub is_before : Name × Content → Name × Content → Bool
is_before d e = is_lt (slice_cmp nat_cmp d.0 e.0)

-- an entry among others that stand in order
abbrev pub placed : Name × Content → List (Name × Content) → List (Name × Content)
placed e [] = e ∷ []
placed e (f ∷ fs) = if is_before f e then f ∷ placed e fs else e ∷ f ∷ fs

-- the entries in the order of their names
abbrev pub in_order : List (Name × Content) → List (Name × Content)
in_order [] = []
in_order (e ∷ es) = placed e (in_order es)

-- the replies to each caller
abbrev pub answers_of : Vec (Vec Reply Global) Global → List (List Answer)
answers_of replies = map (λ own. map answer_of own.items) replies.items

-- a line for each reply to callers from k on
abbrev pub replies_text : ℕ → List (List Answer) → List ℕ
replies_text k [] = []
replies_text k (own ∷ others) = flat_map (reply_line k) own ++ replies_text (k + 1) others

-- a name and its value as a line
abbrev pub entry_line : Name × Content → List ℕ
entry_line e = (e.0 ++ 32 ∷ value_text e.1) ++ 10 ∷ []

abbrev pub memory_text : List (Name × Content) → List ℕ
memory_text entries = flat_map entry_line (in_order entries)

abbrev pub history_text : ℕ → List ℕ
history_text n = (codes "history " ++ decimal n) ++ 10 ∷ []

abbrev pub audit_text : Bool → List ℕ
audit_text true = codes "audit ok" ++ 10 ∷ []
audit_text false = codes "audit bad" ++ 10 ∷ []

-- The report. The audit of each book is true.
unfoldable pub report_text : List (List Answer) → BookState → List ℕ
report_text answers book =
    ((replies_text 0 answers ++ memory_text (memory_of book).entries) ++ history_text (length book.history)) ++ audit_text true

-- what may stop a report: want of memory, or a write that failed
abbrev pub IsReportFault : RunFault → ℕ → ℕ → Type 0
IsReportFault (stops.BadLine number) writes writes' = ⊥
IsReportFault stops.OutOfMemory writes writes' = Unit {0}
IsReportFault stops.Read writes writes' = ⊥
IsReportFault stops.Write writes writes' = writes < writes'
IsReportFault (stops.Stopped worker) writes writes' = ⊥
IsReportFault stops.Unfinished writes writes' = ⊥

-- A text was put behind what waits to be written: then some of both is written, and the rest waits. Where that stopped, a
-- beginning of both is written.
abbrev pub Puts : Result (Unit {0}) RunFault → List ℕ → List ℕ → List ℕ → Option (List ℕ) → Option (List ℕ) → ℕ → ℕ → Type 0
Puts (Ok done) text waiting left old new writes writes' = Awaits old new left (waiting ++ text) × (writes' ≡ writes)
Puts (Err fault) text waiting left old new writes writes' = HasBegun old new (waiting ++ text) × IsReportFault fault writes writes'
