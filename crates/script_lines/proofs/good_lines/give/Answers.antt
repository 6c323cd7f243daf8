use Rattle.std.proofs.Common.{◌≡◌, ◌≤◌, ◌+◌, ◌-◌, ℕ, List, [], ◌∷◌, ◌++◌, length, take, drop, sym, ap, ◌∙◌, append_assoc, take-append-drop, arith}
use Rattle.std.proofs.lemmas.List.{take-append-le, take_all, drop-drop, length-take-le, take_rest}
use Rattle.script_lines.specs.Handed.{to_give}
use Rattle.script_lines.proofs.good_lines.give.Goals as goal

-- the front of a line was copied to the front of a buffer
copied : (line front rest : List ℕ) (start n : ℕ) → front ≡ take n (drop start line) → n ≤ length (drop start line)
    → drop start line ++ 10 ∷ [] ≡ take n (front ++ rest) ++ (drop (start + n) line ++ 10 ∷ [])
copied line front rest start n is few =
    let long : length front ≡ n = ap length is ∙ length-take-le n (drop start line) few in
    let whole : n ≤ length front = omega arith in
    let all : take n front ≡ front = take_all n front (omega arith) in
    ap (λ (t : List ℕ). t ++ 10 ∷ []) (sym (take-append-drop n (drop start line)))
    ∙ append_assoc (take n (drop start line)) (drop n (drop start line)) (10 ∷ [])
    ∙ ap (λ (t : List ℕ). take n (drop start line) ++ (t ++ 10 ∷ [])) (drop-drop n start line)
    ∙ ap (λ (t : List ℕ). t ++ (drop (start + n) line ++ 10 ∷ [])) (sym is ∙ sym all ∙ sym (take-append-le n front rest whole))

pub returns-then-count-buffer-clause-gives : goal.returns-then-count-buffer-clause-gives
returns-then-count-buffer-clause-gives c =
    let line = c.args.line.now in
    let start = c.in-Some.start in
    let count = c.min-count.result in
    let least = c.min-count.ensures in
    let rest : length (take (length line - start) (drop start line)) ≡ length (drop start line) = ap length (take_rest line start) in
    let front = c.copy_from_slice.ensures.after ∙ ap (take count) (take_rest line start) in
    ap (λ g. to_give g line) c.in-Some.is ∙ copied line c.copy_from_slice.new.self (drop count c.args.buffer.now) start count front (omega (arith, least, rest))
