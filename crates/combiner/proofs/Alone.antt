-- A machine with one caller: all calls of its history are that caller's.
-- `alone_counts` says that the history is then as long as the record of the caller.
use Rattle.std.proofs.Common.{◌≡◌, ℕ, ◌<◌, List, [], ◌∷◌, ◌++◌, length, map, cond, append-nil, refl, sym, ap, ◌∙◌, subst, inl, inr, arith, eq-eqb, ne_eqb}
use mathlib.Core.Logic.{dite}
use native.Mathlib.Decide.{ℕ_discrete}
use Rattle.cvl_text.specs.declared.call.Call.{Call}
use Rattle.call_history.specs.declared.entry.Entry.{Entry}
use Rattle.call_history.specs.History.{call_of}
use Rattle.call_history.specs.Callers.{entries_by, calls_by}
use Rattle.combiner.specs.Standing.{Machine, Standing, IsIdle, IsOfCallers, callers_of, left_calls}
use Rattle.combiner.specs.Says.{HasOwnCalls}

-- all entries are of caller 0
alone_length : (line : List Entry) → IsOfCallers 1 line → length line ≡ length (calls_by 0 line)
alone_length [] all = refl
alone_length (e ∷ es) all =
    let here : calls_by e.caller (e ∷ es) ≡ e.call ∷ calls_by e.caller es = ap (λ b. map call_of (cond b (e ∷ entries_by e.caller es) (entries_by e.caller es))) (eq-eqb e.caller e.caller refl) in
    let first : e.caller ≡ 0 = dite (ℕ_discrete e.caller 0) (λ is. is) (λ other. let nothing = all e.caller (omega arith) in absurd (cc (here, nothing))) in
    let rest : IsOfCallers 1 es = λ k far. sym (ap (λ b. map call_of (cond b (e ∷ entries_by k es) (entries_by k es))) (ne_eqb e.caller k (λ same. omega arith))) ∙ all k far in
    let size : length (calls_by 0 (e ∷ es)) ≡ length (e.call ∷ calls_by 0 es) = ap (λ b. length (map call_of (cond b (e ∷ entries_by 0 es) (entries_by 0 es)))) (eq-eqb e.caller 0 first) in
    omega (arith, size, alone_length es rest)

pub alone_counts : (m : Machine) (c : Standing) (line : List Entry) → callers_of m ≡ 1 → c.number < callers_of m → IsIdle c → HasOwnCalls c line → IsOfCallers (callers_of m) line → length line ≡ length c.own
alone_counts m c line alone inside idle own all =
    let first : c.number ≡ 0 = omega arith in
    let left : left_calls c.phase ≡ [] = ap left_calls idle in
    let mine : calls_by c.number line ≡ c.own = elim own [ inl is ↦ is | inr more ↦ more ∙ (ap (λ (l : List Call). c.own ++ l) left ∙ append-nil c.own) ] in
    alone_length line (subst (λ (n : ℕ). IsOfCallers n line) alone all) ∙ ap length (ap (λ (n : ℕ). calls_by n line) (sym first) ∙ mine)
