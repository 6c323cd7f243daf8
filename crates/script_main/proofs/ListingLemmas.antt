-- A text for each item of a list, put one behind another: `Puts-item` for one more, `Puts-item_stop` where it stops there.
-- `Puts-caller` and `Puts-caller_stop` say the same of the replies to a caller.
use Rattle.std.proofs.Common.{◌≡◌, ℕ, ◌+◌, ◌<◌, List, [], ◌∷◌, ◌++◌, length, take, drop, get_or, map, Option, Ok, Err, sym, ap, ◌∙◌, subst, arith, append_assoc, take-append-drop}
use Rattle.std.specs.List.{flat_map}
use Rattle.std.proofs.lemmas.Grind.{flat_map-append}
use Rattle.std.proofs.lemmas.List.{append-nil, take_more, map-append, length-take}
use Rattle.cvl_text.specs.Answers.{Answer}
use Rattle.script_lines.specs.declared.fault.RunFault.{RunFault}
use Rattle.script_lines.specs.Scripts.{reply_line}
use Rattle.script_main.specs.Reports.{Puts, replies_text}
use Rattle.script_main.proofs.PutLemmas.{Puts-then, Puts-more}

module _ {X Y : Type 0} (f : Y → List ℕ) (v : X → Y) (xs : List X) (i : ℕ) (x : X) (within : i < length xs) (is : x ≡ get_or xs i x) where
  one-more : flat_map f (map v (take (i + 1) xs)) ≡ flat_map f (map v (take i xs)) ++ f (v x)
  one-more =
      let cut : take (i + 1) xs ≡ take i xs ++ x ∷ [] = take_more xs i x within ∙ ap (λ (y : X). take i xs ++ y ∷ []) (sym is) in
      ap (λ (l : List X). flat_map f (map v l)) cut ∙ ap (flat_map f) (map-append v (take i xs) (x ∷ [])) ∙ flat_map-append f (map v (take i xs)) (v x ∷ [])
      ∙ ap (λ (t : List ℕ). flat_map f (map v (take i xs)) ++ t) (append-nil (f (v x)))

  and-others : flat_map f (map v xs) ≡ flat_map f (map v (take (i + 1) xs)) ++ flat_map f (map v (drop (i + 1) xs))
  and-others =
      ap (λ (l : List X). flat_map f (map v l)) (sym (take-append-drop (i + 1) xs)) ∙ ap (flat_map f) (map-append v (take (i + 1) xs) (drop (i + 1) xs))
      ∙ flat_map-append f (map v (take (i + 1) xs)) (map v (drop (i + 1) xs))

  module _ (waiting waits left : List ℕ) (old mid new : Option (List ℕ)) (before between after : ℕ) where
    pub Puts-item : Puts (Ok tt) (flat_map f (map v (take i xs))) waiting waits old mid before between → Puts (Ok tt) (f (v x)) waits left mid new between after
        → Puts (Ok tt) (flat_map f (map v (take (i + 1) xs))) waiting left old new before after
    Puts-item a b = subst (λ (t : List ℕ). Puts (Ok tt) t waiting left old new before after) (sym one-more)
        (Puts-then (flat_map f (map v (take i xs))) (f (v x)) waiting waits left old mid new before between after (Ok tt) a b)

    pub Puts-item_stop : (fault : RunFault) → Puts (Ok tt) (flat_map f (map v (take i xs))) waiting waits old mid before between → Puts (Err fault) (f (v x)) waits left mid new between after
        → Puts (Err fault) (flat_map f (map v xs)) waiting left old new before after
    Puts-item_stop fault a b = subst (λ (t : List ℕ). Puts (Err fault) t waiting left old new before after) (ap (λ (t : List ℕ). t ++ flat_map f (map v (drop (i + 1) xs))) (sym one-more) ∙ sym and-others)
        (Puts-more fault (flat_map f (map v (take i xs)) ++ f (v x)) (flat_map f (map v (drop (i + 1) xs))) waiting left old new before after
        (Puts-then (flat_map f (map v (take i xs))) (f (v x)) waiting waits left old mid new before between after (Err fault) a b))

replies_text-append : (k : ℕ) (xs ys : List (List Answer)) → replies_text k (xs ++ ys) ≡ replies_text k xs ++ replies_text (k + length xs) ys
replies_text-append k [] ys = ap (λ (n : ℕ). replies_text n ys) (omega arith)
replies_text-append k (x ∷ xs) ys =
    ap (λ (t : List ℕ). flat_map (reply_line k) x ++ t) (replies_text-append (k + 1) xs ys ∙ ap (λ (n : ℕ). replies_text (k + 1) xs ++ replies_text n ys) (omega arith))
    ∙ sym (append_assoc (flat_map (reply_line k) x) (replies_text (k + 1) xs) (replies_text (k + length (x ∷ xs)) ys))

module _ (answers : List (List Answer)) (i : ℕ) (own : List Answer) (within : i < length answers) (is : own ≡ get_or answers i []) where
  caller-more : replies_text 0 (take (i + 1) answers) ≡ replies_text 0 (take i answers) ++ flat_map (reply_line i) own
  caller-more =
      let cut : take (i + 1) answers ≡ take i answers ++ own ∷ [] = take_more answers i [] within ∙ ap (λ (y : List Answer). take i answers ++ y ∷ []) (sym is) in
      let place : 0 + length (take i answers) ≡ i = omega (arith, length-take i answers) in
      ap (replies_text 0) cut ∙ replies_text-append 0 (take i answers) (own ∷ []) ∙ ap (λ (n : ℕ). replies_text 0 (take i answers) ++ replies_text n (own ∷ [])) place
      ∙ ap (λ (t : List ℕ). replies_text 0 (take i answers) ++ t) (append-nil (flat_map (reply_line i) own))

  callers-behind : replies_text 0 answers ≡ replies_text 0 (take (i + 1) answers) ++ replies_text (0 + length (take (i + 1) answers)) (drop (i + 1) answers)
  callers-behind = ap (replies_text 0) (sym (take-append-drop (i + 1) answers)) ∙ replies_text-append 0 (take (i + 1) answers) (drop (i + 1) answers)

  module _ (waiting waits left : List ℕ) (old mid new : Option (List ℕ)) (before between after : ℕ) where
    pub Puts-caller : Puts (Ok tt) (replies_text 0 (take i answers)) waiting waits old mid before between → Puts (Ok tt) (flat_map (reply_line i) own) waits left mid new between after
        → Puts (Ok tt) (replies_text 0 (take (i + 1) answers)) waiting left old new before after
    Puts-caller a b = subst (λ (t : List ℕ). Puts (Ok tt) t waiting left old new before after) (sym caller-more)
        (Puts-then (replies_text 0 (take i answers)) (flat_map (reply_line i) own) waiting waits left old mid new before between after (Ok tt) a b)

    pub Puts-caller_stop : (fault : RunFault) → Puts (Ok tt) (replies_text 0 (take i answers)) waiting waits old mid before between → Puts (Err fault) (flat_map (reply_line i) own) waits left mid new between after
        → Puts (Err fault) (replies_text 0 answers) waiting left old new before after
    Puts-caller_stop fault a b =
        let others = replies_text (0 + length (take (i + 1) answers)) (drop (i + 1) answers) in
        subst (λ (t : List ℕ). Puts (Err fault) t waiting left old new before after) (ap (λ (t : List ℕ). t ++ others) (sym caller-more) ∙ sym callers-behind)
        (Puts-more fault (replies_text 0 (take i answers) ++ flat_map (reply_line i) own) others waiting left old new before after
        (Puts-then (replies_text 0 (take i answers)) (flat_map (reply_line i) own) waiting waits left old mid new before between after (Err fault) a b))
