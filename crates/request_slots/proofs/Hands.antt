-- The slots in the hand of a seat, as steps take, turn and give them.
-- `hand_opens` brings the slot of a caller to the front, `hand_closes` and `hand_takes` bring the hand into order again, without that
-- slot or with it; `hand_own` and `hand_collects` are the hand of a caller that asks.
use Rattle.std.proofs.Common.{◌≡◌, ℕ, zero, suc, length, take, drop, set, get_or, append-nil, append_assoc, add-zero, add-one, ◌+◌, ◌<◌, Bool, true, false, List, [], ◌∷◌, ◌++◌, cond, Option, None, refl, sym, ap, ◌∙◌, subst, arith, length-append, length-take}
use Rattle.std.specs.Prelude.{is_some}
use Rattle.std.specs.List.{count_by}
use Rattle.std.proofs.lemmas.List.{set_split, set-get_or}
use Rattle.std.proofs.lemmas.List.Sums.{sum_by-cons}
use Rattle.atomic_table.specs.Table.{rest, turned}
use Rattle.call_history.specs.Fits.{request_by}
use Rattle.request_slots.specs.declared.desk.Slot.{Slot}
use Rattle.request_slots.specs.declared.desk.Slot.TheVariants.{Nothing}
use Rattle.request_slots.specs.declared.known.Pass.{Pass}
use Rattle.request_slots.specs.declared.known.Known.{Known}
use Rattle.request_slots.specs.declared.known.Phase.{Phase}
use Rattle.request_slots.specs.declared.known.Phase.TheVariants.{Idle}
use Rattle.request_slots.specs.Standing.{Standing, IsLeft}
use Rattle.request_slots.specs.Views.{with_standing, pass_or, pass_in, passing, HasDesk}
use Rattle.request_slots.specs.Seating.{turned_times, Hand, own_hand, marked_slots, desk_hand, hand_of, IsMarked}

-- a hand with this slot in front
pub front_is : (hand more : Hand) (x : ℕ × Slot) → hand ≡ x ∷ more → hand ≡ x ∷ rest hand
front_is hand more x e = subst (λ (h : Hand). h ≡ x ∷ rest h) (sym e) refl

abbrev pub front_slot : Hand → Slot
front_slot [] = Nothing
front_slot (x ∷ hand) = x.1

-- the slots of more callers come behind those of fewer
marked-append : (k : ℕ) (xs ys : List Bool) → marked_slots k (xs ++ ys) ≡ marked_slots k xs ++ marked_slots (k + length xs) ys
marked-append k [] ys = ap (λ (n : ℕ). marked_slots n ys) (sym (add-zero k))
marked-append k (true ∷ xs) ys = ap (λ (h : Hand). let t : Hand = (k + 1, Nothing) ∷ h in t) (marked-append (k + 1) xs ys ∙ ap (λ (n : ℕ). marked_slots (k + 1) xs ++ marked_slots n ys) (omega arith))
marked-append k (false ∷ xs) ys = marked-append (k + 1) xs ys ∙ ap (λ (n : ℕ). marked_slots (k + 1) xs ++ marked_slots n ys) (omega arith)

length-marked : (k : ℕ) (marks : List Bool) → length (marked_slots k marks) ≡ count_by (λ mark. mark) marks
length-marked k [] = refl
length-marked k (true ∷ marks) =
    let one : count_by (λ mark. mark) (true ∷ marks) ≡ 1 + count_by (λ mark. mark) marks = sum_by-cons (λ (mark : Bool). cond mark 1 0) true marks in
    omega (arith, length-marked (k + 1) marks)
length-marked k (false ∷ marks) =
    let none : count_by (λ mark. mark) (false ∷ marks) ≡ 0 + count_by (λ mark. mark) marks = sum_by-cons (λ (mark : Bool). cond mark 1 0) false marks in
    omega (arith, length-marked (k + 1) marks)

-- where nobody is marked there are no slots
none-marked : (k : ℕ) (marks : List Bool) → ((i : ℕ) → i < length marks → get_or marks i false ≡ false) → marked_slots k marks ≡ []
none-marked k [] none = refl
none-marked k (true ∷ marks) none = absurd (cc (none 0 (omega arith)))
none-marked k (false ∷ marks) none = none-marked (k + 1) marks (λ i lt. none (suc i) (omega arith))

-- a caller without the desk has its own slot alone
pub hand_own : (marks : List Bool) (c : Known) → c.pass ≡ None → IsMarked marks (pass_in c).taken → hand_of marks c ≡ own_hand c.standing.number c.standing.phase
hand_own marks c no_pass marked =
    let long = marked.long in
    let none : marked_slots 0 marks ≡ [] =
    none-marked 0 marks (λ i lt. marked.each i (omega arith) ∙ ap (λ (o : Option Pass). is_some (request_by i (pass_or o).taken)) no_pass) in
    (λ j. desk_hand (no_pass j) ++ (none j ++ own_hand c.standing.number c.standing.phase))

-- the hand stays while a pass goes on
pub hand_stays : (marks : List Bool) (c : Known) (p : Pass) → HasDesk c → hand_of marks c ≡ hand_of marks (passing c p)
hand_stays marks c p has = ap (λ (o : Option Pass). desk_hand o ++ (marked_slots 0 marks ++ own_hand c.standing.number c.standing.phase)) has

-- the slots of the hand that lie before that of caller i, and those behind it
abbrev pub front_hand : List Bool → ℕ → Hand
front_hand marks i = (0, Nothing) ∷ marked_slots 0 (take i marks)

abbrev pub back_hand : List Bool → ℕ → Known → Hand
back_hand marks i c = marked_slots (i + 1) (drop (i + 1) marks) ++ own_hand c.standing.number c.standing.phase

-- the slot of caller i, if it is marked
abbrev pub slot_if : Bool → ℕ → Hand
slot_if true i = (i + 1, Nothing) ∷ []
slot_if false i = []

marked-cons : (b : Bool) (i : ℕ) (marks : List Bool) → marked_slots i (b ∷ marks) ≡ slot_if b i ++ marked_slots (i + 1) marks
marked-cons true i marks = refl
marked-cons false i marks = refl

-- the hand, where caller i is marked so
hand-set : (marks : List Bool) (i : ℕ) (b : Bool) (c : Known) → HasDesk c → i < length marks → hand_of (set marks i b) c ≡ front_hand marks i ++ (slot_if b i ++ back_hand marks i c)
hand-set marks i b c has inside =
    let own : Hand = own_hand c.standing.number c.standing.phase in
    let lower : Hand = marked_slots 0 (take i marks) in
    let upper : Hand = marked_slots (i + 1) (drop (i + 1) marks) in
    let after : List Bool = drop (suc i) marks in
    let at : 0 + length (take i marks) ≡ i = omega (arith, length-take i marks) in
    let split : marked_slots 0 (set marks i b) ≡ lower ++ (slot_if b i ++ upper) =
    ap (marked_slots 0) (set_split marks i b inside) ∙ (marked-append 0 (take i marks) (b ∷ after) ∙ (ap (λ (n : ℕ). lower ++ marked_slots n (b ∷ after)) at
    ∙ (ap (λ h. lower ++ h) (marked-cons b i after) ∙ ap (λ (n : ℕ). lower ++ (slot_if b i ++ marked_slots (i + 1) (drop n marks))) (sym (add-one i))))) in
    (λ j. desk_hand (has j) ++ (split j ++ own))
    ∙ ap (λ (h : Hand). let t : Hand = (0, Nothing) ∷ h in t) (append_assoc lower (slot_if b i ++ upper) own ∙ ap (λ h. lower ++ h) (append_assoc (slot_if b i) upper own))

turned-inside : (n : ℕ) (hand : Hand) → turned_times n (turned hand) ≡ turned (turned_times n hand)
turned-inside zero hand = refl
turned-inside (suc n) hand = ap turned (turned-inside n hand)

-- the front of the hand goes behind the rest
turned-front : (n : ℕ) (front back : Hand) → length front ≡ n → turned_times n (front ++ back) ≡ back ++ front
turned-front zero [] back e = sym (append-nil back)
turned-front zero (x ∷ front) back e = absurd (omega arith)
turned-front (suc n) [] back e = absurd (omega arith)
turned-front (suc n) (x ∷ front) back e = sym (turned-inside n (x ∷ front ++ back)) ∙ (ap (turned_times n) (append_assoc front back (x ∷ []))
    ∙ (turned-front n front (back ++ x ∷ []) (omega arith) ∙ append_assoc back (x ∷ []) front))

-- what lies before the slot of caller i goes behind the others
pub hand_opens : (marks : List Bool) (i n : ℕ) (b : Bool) (c : Known) → HasDesk c → i < length marks → get_or marks i false ≡ b → n ≡ 1 + count_by (λ mark. mark) (take i marks)
    → turned_times n (hand_of marks c) ≡ slot_if b i ++ (back_hand marks i c ++ front_hand marks i)
hand_opens marks i n b c has inside is size =
    let here : hand_of marks c ≡ front_hand marks i ++ (slot_if b i ++ back_hand marks i c) =
    ap (λ (l : List Bool). hand_of l c) (sym (set-get_or marks i false)) ∙ (ap (λ (m : Bool). hand_of (set marks i m) c) is ∙ hand-set marks i b c has inside) in
    let long = length-marked 0 (take i marks) in
    ap (turned_times n) here ∙ (turned-front n (front_hand marks i) (slot_if b i ++ back_hand marks i c) (omega arith) ∙ append_assoc (slot_if b i) (back_hand marks i c) (front_hand marks i))

-- and comes to the front again
hand-closes : (marks : List Bool) (i n : ℕ) (b : Bool) (c : Known) → HasDesk c → i < length marks → n ≡ length (slot_if b i) + (count_by (λ mark. mark) (drop (i + 1) marks) + length (own_hand c.standing.number c.standing.phase))
    → turned_times n (slot_if b i ++ (back_hand marks i c ++ front_hand marks i)) ≡ hand_of (set marks i b) c
hand-closes marks i n b c has inside size =
    let upper : Hand = marked_slots (i + 1) (drop (i + 1) marks) in
    let own : Hand = own_hand c.standing.number c.standing.phase in
    let long = length-marked (i + 1) (drop (i + 1) marks) in
    let sized : length (slot_if b i ++ back_hand marks i c) ≡ n = length-append (slot_if b i) (upper ++ own) ∙ (ap (λ (m : ℕ). length (slot_if b i) + m) (length-append upper own) ∙ omega arith) in
    ap (turned_times n) (sym (append_assoc (slot_if b i) (back_hand marks i c) (front_hand marks i)))
    ∙ (turned-front n (slot_if b i ++ back_hand marks i c) (front_hand marks i) sized ∙ sym (hand-set marks i b c has inside))

-- the hand without the slot of caller i
pub hand_closes : (marks : List Bool) (i n : ℕ) (c : Known) → HasDesk c → i < length marks → n ≡ count_by (λ mark. mark) (drop (i + 1) marks) + length (own_hand c.standing.number c.standing.phase)
    → turned_times n (back_hand marks i c ++ front_hand marks i) ≡ hand_of (set marks i false) c
hand_closes marks i n c has inside size = hand-closes marks i n false c has inside (omega arith)

-- the same, where there is none
pub hand_closes_again : (marks : List Bool) (i n : ℕ) (c : Known) → HasDesk c → i < length marks → get_or marks i false ≡ false → n ≡ count_by (λ mark. mark) (drop (i + 1) marks) + length (own_hand c.standing.number c.standing.phase)
    → turned_times n (back_hand marks i c ++ front_hand marks i) ≡ hand_of marks c
hand_closes_again marks i n c has inside is size =
    hand_closes marks i n c has inside size ∙ (ap (λ (b : Bool). hand_of (set marks i b) c) (sym is) ∙ ap (λ (l : List Bool). hand_of l c) (set-get_or marks i false))

-- and with it
pub hand_takes : (marks : List Bool) (i n : ℕ) (c : Known) → HasDesk c → i < length marks → n ≡ count_by (λ mark. mark) (drop (i + 1) marks) + length (own_hand c.standing.number c.standing.phase)
    → turned_times (1 + n) ((i + 1, Nothing) ∷ (back_hand marks i c ++ front_hand marks i)) ≡ hand_of (set marks i true) c
hand_takes marks i n c has inside size = hand-closes marks i (1 + n) true c has inside (omega arith)

-- a caller that takes its outcome has its own slot again
pub hand_collects : (marks : List Bool) (c : Known) (d : Standing) (number : ℕ) → c.standing.number ≡ number → IsLeft c.standing → d.phase ≡ Idle → d.number ≡ c.standing.number
    → hand_of marks c ++ (number + 1, Nothing) ∷ [] ≡ hand_of marks (with_standing c d)
hand_collects marks c d number same left idle kept =
    let mine : Hand = (number + 1, Nothing) ∷ [] in
    let lower : Hand = marked_slots 0 marks in
    ap (λ (p : Phase). (desk_hand c.pass ++ (lower ++ own_hand c.standing.number p)) ++ mine) left
    ∙ (append_assoc (desk_hand c.pass) (lower ++ []) mine ∙ (ap (λ h. desk_hand c.pass ++ h) (append_assoc lower [] mine)
    ∙ (λ j. desk_hand c.pass ++ (lower ++ own_hand ((sym same ∙ sym kept) j) (sym idle j)))))
