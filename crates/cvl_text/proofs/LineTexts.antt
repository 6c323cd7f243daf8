-- A line reads as a task exactly where the task can be written and the line has its words: `task_in-sound` and `task_in-complete`.
-- The words of a task that can be written are words: `AreWords-task`.
use Rattle.std.proofs.Common.{◌≡◌, ℕ, ℤ, Bool, true, false, cond, List, [], ◌∷◌, ◌++◌, map, Option, Some, None, refl, sym, ap, ◌∙◌, subst}
use Rattle.std.specs.Prelude.{IsTrue, codes}
use Rattle.std.specs.List.{AllByRecursion, flat_map}
use Rattle.std.specs.Fmt.{signed_decimal}
use Rattle.std.specs.Cmp.Lexicographic as texts
use Rattle.std.proofs.lemmas.List.{append-nil}
use Rattle.vector_memory.specs.declared.edition.Edition.{Edition}
use Rattle.vector_memory.specs.declared.name.Name.{Name}
use Rattle.vector_memory.specs.Names.{name_of}
use Rattle.cvl_text.specs.declared.word.Word.{Word}
use Rattle.cvl_text.specs.Lines.{ArgumentKind, NameKind, NumberKind, TruthKind, NumbersKind, TruthsKind, kinds_of, is_targeted, ◌>>=◌, all_of, arguments_in, targeted, untargeted, behind_target, without_target, task_in}
use Rattle.cvl_text.specs.Numbers.{is_in_range, number_of}
use Rattle.cvl_text.specs.Tasks.{Argument, Vector, Number, Truth, Numbers, Truths, Task}
use Rattle.cvl_text.specs.TaskTexts.{argument_words, target_words, task_words, AreWritable, IsWritableTarget, CanBeWritten}
use Rattle.cvl_text.specs.TruthValues.{truth_text, truth_of}
use Rattle.cvl_text.specs.Words.{same_text, word_text, word_of}
use Rattle.cvl_text.proofs.NameTexts.{name_of-read, IsWord-name}
use Rattle.cvl_text.proofs.NumberTexts.{signed_decimal-read, number_of-signed_decimal, number_of-equals, IsWord-number}
use Rattle.cvl_text.proofs.Spaced.{IsWord}
use Rattle.cvl_text.proofs.Truths.{bind_some}
use Rattle.cvl_text.proofs.TruthTexts.{truth_text-read, truth_of-truth_text, IsWord-truth}
use Rattle.cvl_text.proofs.WordTexts.{word_text-read, word_of-word_text, IsWord-word}

abbrev AreInRange : List ℤ → Type 0
AreInRange xs = AllByRecursion (λ x. IsTrue (is_in_range x)) xs

-- items that are read one from each word, and written as these words
module _ {A : Type 0} (read : List ℕ → Option A) (text : A → List ℕ) (CanBe : A → Type 0) where
  all_of-sound : ((w : List ℕ) (x : A) → read w ≡ Some x → CanBe x × (text x ≡ w)) → (ws : List (List ℕ)) (xs : List A) → all_of read ws ≡ Some xs
      → AllByRecursion CanBe xs × (map text xs ≡ ws)
  all_of-sound one [] xs e =
      let same : [] ≡ xs = cc in
      subst (λ (ys : List A). AllByRecursion CanBe ys × (map text ys ≡ [])) same (tt, refl)
  all_of-sound one (w ∷ ws) xs e =
      let first = bind_some (read w) _ xs e in
      let later = bind_some (all_of read ws) _ xs first.2 in
      let same : first.0 ∷ later.0 ≡ xs = cc (later.2) in
      let item = one w first.0 first.1 in
      let rest = all_of-sound one ws later.0 later.1 in
      subst (λ (ys : List A). AllByRecursion CanBe ys × (map text ys ≡ w ∷ ws)) same ((item.0, rest.0), rw (item.1, rest.1) refl)

  all_of-complete : ((x : A) → CanBe x → read (text x) ≡ Some x) → (xs : List A) → AllByRecursion CanBe xs → all_of read (map text xs) ≡ Some xs
  all_of-complete one [] h = refl
  all_of-complete one (x ∷ xs) h = rw (one x h.0, all_of-complete one xs h.1) refl

numbers-sound : (ws : List (List ℕ)) (xs : List ℤ) → all_of number_of ws ≡ Some xs → AreInRange xs × (map signed_decimal xs ≡ ws)
numbers-sound = all_of-sound number_of signed_decimal (λ x. IsTrue (is_in_range x)) signed_decimal-read

numbers-complete : (xs : List ℤ) → AreInRange xs → all_of number_of (map signed_decimal xs) ≡ Some xs
numbers-complete = all_of-complete number_of signed_decimal (λ x. IsTrue (is_in_range x)) number_of-signed_decimal

AreAny : (bs : List Bool) → AllByRecursion (λ b. Unit {0}) bs
AreAny [] = tt
AreAny (b ∷ bs) = (tt, AreAny bs)

truths-sound : (ws : List (List ℕ)) (bs : List Bool) → all_of truth_of ws ≡ Some bs → map truth_text bs ≡ ws
truths-sound ws bs e = (all_of-sound truth_of truth_text (λ b. Unit {0}) (λ w b e. (tt, truth_text-read w b e)) ws bs e).1

truths-complete : (bs : List Bool) → all_of truth_of (map truth_text bs) ≡ Some bs
truths-complete bs = all_of-complete truth_of truth_text (λ b. Unit {0}) (λ b _. truth_of-truth_text b) bs (AreAny bs)

module _ (edition : Edition) where
  -- the lawful arguments that words spell, and that spell these words
  abbrev Spells : List ArgumentKind → List (List ℕ) → List Argument → Type 0
  Spells kinds ws arguments = AreWritable edition kinds arguments × (flat_map argument_words arguments ≡ ws)

  arguments_in-sound : (kinds : List ArgumentKind) (ws : List (List ℕ)) (arguments : List Argument) → arguments_in edition kinds ws ≡ Some arguments → Spells kinds ws arguments
  arguments_in-sound [] [] arguments e = let same : [] ≡ arguments = cc in subst (Spells [] []) same (tt, refl)
  arguments_in-sound [] (w ∷ ws) arguments e = absurd cc
  arguments_in-sound (NameKind ∷ kinds) [] arguments e = absurd cc
  arguments_in-sound (NameKind ∷ kinds) (w ∷ ws) arguments e =
      let name = bind_some (name_of edition w) _ arguments e in
      let others = bind_some (arguments_in edition kinds ws) _ arguments name.2 in
      let same : Vector name.0 ∷ others.0 ≡ arguments = cc (others.2) in
      let text = name_of-read edition w name.0 name.1 in
      let rest = arguments_in-sound kinds ws others.0 others.1 in
      subst (Spells (NameKind ∷ kinds) (w ∷ ws)) same ((ap (name_of edition) text ∙ name.1, rest.0), ap (λ (t : List ℕ). t ∷ flat_map argument_words others.0) text ∙ ap (λ (ts : List (List ℕ)). w ∷ ts) rest.1)
  arguments_in-sound (NumberKind ∷ kinds) [] arguments e = absurd cc
  arguments_in-sound (NumberKind ∷ kinds) (w ∷ ws) arguments e =
      let number = bind_some (number_of w) _ arguments e in
      let others = bind_some (arguments_in edition kinds ws) _ arguments number.2 in
      let same : Number number.0 ∷ others.0 ≡ arguments = cc (others.2) in
      let read = signed_decimal-read w number.0 number.1 in
      let rest = arguments_in-sound kinds ws others.0 others.1 in
      subst (Spells (NumberKind ∷ kinds) (w ∷ ws)) same ((read.0, rest.0), ap (λ (t : List ℕ). t ∷ flat_map argument_words others.0) read.1 ∙ ap (λ (ts : List (List ℕ)). w ∷ ts) rest.1)
  arguments_in-sound (TruthKind ∷ kinds) [] arguments e = absurd cc
  arguments_in-sound (TruthKind ∷ kinds) (w ∷ ws) arguments e =
      let truth = bind_some (truth_of w) _ arguments e in
      let others = bind_some (arguments_in edition kinds ws) _ arguments truth.2 in
      let same : Truth truth.0 ∷ others.0 ≡ arguments = cc (others.2) in
      let text = truth_text-read w truth.0 truth.1 in
      let rest = arguments_in-sound kinds ws others.0 others.1 in
      subst (Spells (TruthKind ∷ kinds) (w ∷ ws)) same (rest.0, ap (λ (t : List ℕ). t ∷ flat_map argument_words others.0) text ∙ ap (λ (ts : List (List ℕ)). w ∷ ts) rest.1)
  arguments_in-sound (NumbersKind ∷ kinds) ws arguments e =
      let numbers = bind_some (all_of number_of ws) _ arguments e in
      let same : Numbers numbers.0 ∷ [] ≡ arguments = cc (numbers.2) in
      let read = numbers-sound ws numbers.0 numbers.1 in
      subst (Spells (NumbersKind ∷ kinds) ws) same (read.0, append-nil (map signed_decimal numbers.0) ∙ read.1)
  arguments_in-sound (TruthsKind ∷ kinds) ws arguments e =
      let truths = bind_some (all_of truth_of ws) _ arguments e in
      let same : Truths truths.0 ∷ [] ≡ arguments = cc (truths.2) in
      subst (Spells (TruthsKind ∷ kinds) ws) same (tt, append-nil (map truth_text truths.0) ∙ truths-sound ws truths.0 truths.1)

  arguments_in-complete : (kinds : List ArgumentKind) (arguments : List Argument) → AreWritable edition kinds arguments → arguments_in edition kinds (flat_map argument_words arguments) ≡ Some arguments
  arguments_in-complete [] [] h = refl
  arguments_in-complete (NameKind ∷ kinds) (Vector n ∷ others) h = rw (h.0, arguments_in-complete kinds others h.1) refl
  arguments_in-complete (NumberKind ∷ kinds) (Number x ∷ others) h = rw (number_of-signed_decimal x h.0, arguments_in-complete kinds others h.1) refl
  arguments_in-complete (TruthKind ∷ kinds) (Truth b ∷ others) h = rw (truth_of-truth_text b, arguments_in-complete kinds others h) refl
  arguments_in-complete (NumbersKind ∷ kinds) (Numbers xs ∷ []) h = rw (append-nil (map signed_decimal xs), numbers-complete xs h) refl
  arguments_in-complete (TruthsKind ∷ kinds) (Truths bs ∷ []) h = rw (append-nil (map truth_text bs), truths-complete bs) refl
  arguments_in-complete kinds arguments h = absurd h

  -- `=` is no name, no number and no truth value
  not_equals : {A : Type 0} (read : List ℕ → Option A) (v : List ℕ) (x : A) → (read (codes "=") ≡ Some x → ⊥) → read v ≡ Some x → same_text v (codes "=") ≡ false
  not_equals {A} read v x never e = by (same_text v (codes "=")) refl
    where
      by : (t : Bool) → same_text v (codes "=") ≡ t → same_text v (codes "=") ≡ false
      by true was = absurd (never (subst (λ (w : List ℕ). read w ≡ Some x) (texts.same_text v (codes "=") (sym was)) e))
      by false was = was

  first_not_equals : (kinds : List ArgumentKind) (v : List ℕ) (vs : List (List ℕ)) (arguments : List Argument) → arguments_in edition kinds (v ∷ vs) ≡ Some arguments → same_text v (codes "=") ≡ false
  first_not_equals [] v vs arguments e = absurd cc
  first_not_equals (NameKind ∷ kinds) v vs arguments e =
      let name = bind_some (name_of edition v) _ arguments e in
      not_equals (name_of edition) v name.0 (λ e. cc) name.1
  first_not_equals (NumberKind ∷ kinds) v vs arguments e =
      let number = bind_some (number_of v) _ arguments e in
      not_equals number_of v number.0 (number_of-equals number.0) number.1
  first_not_equals (TruthKind ∷ kinds) v vs arguments e =
      let truth = bind_some (truth_of v) _ arguments e in
      not_equals truth_of v truth.0 (λ e. cc) truth.1
  first_not_equals (TruthsKind ∷ kinds) v vs arguments e =
      let truths = bind_some (all_of truth_of (v ∷ vs)) _ arguments e in
      let first = bind_some (truth_of v) _ truths.0 truths.1 in
      not_equals truth_of v first.0 (λ e. cc) first.1
  first_not_equals (NumbersKind ∷ kinds) v vs arguments e =
      let numbers = bind_some (all_of number_of (v ∷ vs)) _ arguments e in
      let first = bind_some (number_of v) _ numbers.0 numbers.1 in
      not_equals number_of v first.0 (number_of-equals first.0) first.1

  -- a task that can be written, and its words
  abbrev Writes : List (List ℕ) → Task → Type 0
  Writes ws t = CanBeWritten edition t × (ws ≡ task_words t)

  untargeted-by : (word : Word) (ws : List (List ℕ)) (t : Task) (b : Bool) → is_targeted word ≡ b
      → cond b None (arguments_in edition (kinds_of word) ws >>= λ arguments. Some (record { word = word; to = None; arguments = arguments })) ≡ Some t
      → Writes (word_text word ∷ ws) t
  untargeted-by word ws t true was e = absurd cc
  untargeted-by word ws t false was e =
      let read = bind_some (arguments_in edition (kinds_of word) ws) _ t e in
      let same : record { word = word; to = None; arguments = read.0 } ≡ t = cc (read.2) in
      let spelled = arguments_in-sound (kinds_of word) ws read.0 read.1 in
      subst (Writes (word_text word ∷ ws)) same (record { target = rw was tt; arguments = spelled.0 }, ap (λ (vs : List (List ℕ)). word_text word ∷ vs) (sym spelled.1))

  targeted-by : (to : Name) (text : List ℕ) (word : Word) (ws : List (List ℕ)) (t : Task) (b : Bool) → name_of edition text ≡ Some to → is_targeted word ≡ b
      → cond b (arguments_in edition (kinds_of word) ws >>= λ arguments. Some (record { word = word; to = Some to; arguments = arguments })) None ≡ Some t
      → Writes (text ∷ codes "=" ∷ word_text word ∷ ws) t
  targeted-by to text word ws t true name was e =
      let read = bind_some (arguments_in edition (kinds_of word) ws) _ t e in
      let same : record { word = word; to = Some to; arguments = read.0 } ≡ t = cc (read.2) in
      let spelled = arguments_in-sound (kinds_of word) ws read.0 read.1 in
      let is_text = name_of-read edition text to name in
      subst (Writes (text ∷ codes "=" ∷ word_text word ∷ ws)) same
      (record { target = rw was (ap (name_of edition) is_text ∙ name); arguments = spelled.0 }, ap (λ (v : List ℕ). v ∷ codes "=" ∷ word_text word ∷ ws) (sym is_text) ∙ ap (λ (ts : List (List ℕ)). to ∷ codes "=" ∷ word_text word ∷ ts) (sym spelled.1))
  targeted-by to text word ws t false name was e = absurd cc

  without_target-sound : (w : List ℕ) (ws : List (List ℕ)) (t : Task) → without_target edition w ws ≡ Some t → Writes (w ∷ ws) t
  unfolding without_target untargeted
  without_target-sound w ws t e =
      let read = bind_some (word_of w) _ t e in
      let written = untargeted-by read.0 ws t (is_targeted read.0) refl read.2 in
      subst (λ (v : List ℕ). Writes (v ∷ ws) t) (word_text-read w read.0 read.1) written

  behind_target-sound : (to : List ℕ) (ws : List (List ℕ)) (t : Task) → behind_target edition to ws ≡ Some t → Writes (to ∷ codes "=" ∷ ws) t
  unfolding behind_target targeted
  behind_target-sound to [] t e = absurd cc
  behind_target-sound to (w ∷ ws) t e =
      let name = bind_some (name_of edition to) _ t e in
      let read = bind_some (word_of w) _ t name.2 in
      let written = targeted-by name.0 to read.0 ws t (is_targeted read.0) name.1 refl read.2 in
      subst (λ (v : List ℕ). Writes (to ∷ codes "=" ∷ v ∷ ws) t) (word_text-read w read.0 read.1) written

  pub task_in-sound : (ws : List (List ℕ)) (t : Task) → task_in edition ws ≡ Some t → Writes ws t
  unfolding task_in
  task_in-sound [] t e = absurd cc
  task_in-sound (w ∷ []) t e = without_target-sound w [] t e
  task_in-sound (w ∷ v ∷ ws) t e = by (same_text v (codes "=")) refl e
    where
      by : (b : Bool) → same_text v (codes "=") ≡ b → cond b (behind_target edition w ws) (without_target edition w (v ∷ ws)) ≡ Some t → Writes (w ∷ v ∷ ws) t
      by true was f = let same = texts.same_text v (codes "=") (sym was) in subst (λ (x : List ℕ). Writes (w ∷ x ∷ ws) t) (sym same) (behind_target-sound w ws t f)
      by false was f = without_target-sound w (v ∷ ws) t f

  untargeted-complete : (word : Word) (arguments : List Argument) (b : Bool) → is_targeted word ≡ b → IsWritableTarget edition b None → AreWritable edition (kinds_of word) arguments
      → without_target edition (word_text word) (flat_map argument_words arguments) ≡ Some (record { word = word; to = None; arguments = arguments })
  unfolding without_target untargeted
  untargeted-complete word arguments true was h g = absurd h
  untargeted-complete word arguments false was h g = rw (word_of-word_text word, was, arguments_in-complete (kinds_of word) arguments g) refl

  targeted-complete : (word : Word) (n : Name) (arguments : List Argument) (b : Bool) → is_targeted word ≡ b → IsWritableTarget edition b (Some n) → AreWritable edition (kinds_of word) arguments
      → behind_target edition n (word_text word ∷ flat_map argument_words arguments) ≡ Some (record { word = word; to = Some n; arguments = arguments })
  unfolding behind_target targeted
  targeted-complete word n arguments true was h g = rw (h, word_of-word_text word, was, arguments_in-complete (kinds_of word) arguments g) refl
  targeted-complete word n arguments false was h g = absurd h

  -- a line without `=` in the second place has no target
  task_in-untargeted : (kinds : List ArgumentKind) (w : List ℕ) (ws : List (List ℕ)) (arguments : List Argument) → arguments_in edition kinds ws ≡ Some arguments → task_in edition (w ∷ ws) ≡ without_target edition w ws
  unfolding task_in
  task_in-untargeted kinds w [] arguments e = refl
  task_in-untargeted kinds w (v ∷ vs) arguments e = rw (first_not_equals kinds v vs arguments e) refl

  task_in-parts : (word : Word) (to : Option Name) (arguments : List Argument) → IsWritableTarget edition (is_targeted word) to → AreWritable edition (kinds_of word) arguments
      → task_in edition (target_words to ++ word_text word ∷ flat_map argument_words arguments) ≡ Some (record { word = word; to = to; arguments = arguments })
  unfolding task_in
  task_in-parts word None arguments h g =
      task_in-untargeted (kinds_of word) (word_text word) (flat_map argument_words arguments) arguments (arguments_in-complete (kinds_of word) arguments g)
      ∙ untargeted-complete word arguments (is_targeted word) refl h g
  task_in-parts word (Some n) arguments h g = targeted-complete word n arguments (is_targeted word) refl h g

  pub task_in-complete : (t : Task) → CanBeWritten edition t → task_in edition (task_words t) ≡ Some t
  task_in-complete t h = task_in-parts t.word t.to t.arguments h.target h.arguments

  AreWords-append : (vs ws : List (List ℕ)) → AllByRecursion IsWord vs → AllByRecursion IsWord ws → AllByRecursion IsWord (vs ++ ws)
  AreWords-append [] ws h g = g
  AreWords-append (v ∷ vs) ws h g = (h.0, AreWords-append vs ws h.1 g)

  AreWords-numbers : (xs : List ℤ) → AreInRange xs → AllByRecursion IsWord (map signed_decimal xs)
  AreWords-numbers [] h = tt
  AreWords-numbers (x ∷ xs) h = (IsWord-number x h.0, AreWords-numbers xs h.1)

  AreWords-truths : (bs : List Bool) → AllByRecursion IsWord (map truth_text bs)
  AreWords-truths [] = tt
  AreWords-truths (b ∷ bs) = (IsWord-truth b, AreWords-truths bs)

  AreWords-arguments : (kinds : List ArgumentKind) (arguments : List Argument) → AreWritable edition kinds arguments → AllByRecursion IsWord (flat_map argument_words arguments)
  AreWords-arguments [] [] h = tt
  AreWords-arguments (NameKind ∷ kinds) (Vector n ∷ others) h = (IsWord-name edition n n h.0, AreWords-arguments kinds others h.1)
  AreWords-arguments (NumberKind ∷ kinds) (Number x ∷ others) h = (IsWord-number x h.0, AreWords-arguments kinds others h.1)
  AreWords-arguments (TruthKind ∷ kinds) (Truth b ∷ others) h = (IsWord-truth b, AreWords-arguments kinds others h)
  AreWords-arguments (NumbersKind ∷ kinds) (Numbers xs ∷ []) h = AreWords-append (map signed_decimal xs) [] (AreWords-numbers xs h) tt
  AreWords-arguments (TruthsKind ∷ kinds) (Truths bs ∷ []) h = AreWords-append (map truth_text bs) [] (AreWords-truths bs) tt
  AreWords-arguments kinds arguments h = absurd h

  AreWords-target : (b : Bool) (to : Option Name) → IsWritableTarget edition b to → AllByRecursion IsWord (target_words to)
  AreWords-target b None h = tt
  AreWords-target true (Some n) h = (IsWord-name edition n n h, (record { filled = refl; solid = refl }, tt))
  AreWords-target false (Some n) h = absurd h

  pub AreWords-task : (t : Task) → CanBeWritten edition t → AllByRecursion IsWord (task_words t)
  AreWords-task t h =
      AreWords-append (target_words t.to) (word_text t.word ∷ flat_map argument_words t.arguments) (AreWords-target (is_targeted t.word) t.to h.target)
      (IsWord-word t.word, AreWords-arguments (kinds_of t.word) t.arguments h.arguments)
