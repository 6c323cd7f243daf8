-- No call makes a value beyond the limit, `work-fits`, and one that takes no memory stores nothing, `takes_none`.
use Rattle.std.proofs.Common.{◌≡◌, ℕ, zero, suc, Bool, List, [], ◌∷◌, Option, None, Some, Result, Ok, Err, pos, subst}
use Rattle.std.specs.Prelude.{IfOk}
use Rattle.std.specs.List.{AllByRecursion}
use Rattle.item_operations.specs.IntegerOps.{apply_z, alter_z, compares}
use Rattle.item_operations.specs.BooleanOps.{apply_b, alter_b}
use Rattle.item_operations.specs.IntegerScans.{combine_z, unit_z}
use Rattle.item_operations.specs.BooleanScans.{combine_b, unit_b}
use Rattle.scan_kernels.specs.Elementwise.{is_true, as_number}
use Rattle.scan_kernels.specs.Gathered.{item_at}
use Rattle.vector_memory.specs.declared.name.Name.{Name}
use Rattle.vector_memory.specs.Contents.{size_of}
use Rattle.vector_memory.specs.States.{State}
use Rattle.cvl_text.specs.declared.fault.Fault.TheVariants.{BadIndex}
use Rattle.cvl_text.specs.declared.word.Word.{Word}
use Rattle.cvl_text.specs.declared.word.Word.TheVariants as words
use Rattle.cvl_text.specs.declared.word.AskWord.{AskWord}
use Rattle.cvl_text.specs.declared.word.AskWord.TheVariants as asks
use Rattle.cvl_text.specs.declared.word.OneWord.{OneWord}
use Rattle.cvl_text.specs.declared.word.OneWord.TheVariants as ones
use Rattle.cvl_text.specs.declared.word.TwoWord.{TwoWord}
use Rattle.cvl_text.specs.declared.word.TwoWord.TheVariants as twos
use Rattle.cvl_text.specs.declared.word.ThreeWord.{ThreeWord}
use Rattle.cvl_text.specs.declared.word.ThreeWord.TheVariants as threes
use Rattle.cvl_text.specs.declared.word.Kind.TheVariants as kinds
use Rattle.cvl_text.specs.Answers.{IntOf}
use Rattle.cvl_calls.specs.Conditions.{any_seconds, found, seconds}
use Rattle.cvl_calls.specs.Operands.{any_value, ints, integers, number, truths}
use Rattle.cvl_calls.specs.Outcomes.{Operand, Effect, Stores, Frees, Answers, GivesBy, IsFittingEffect}
use Rattle.cvl_text.specs.declared.fault.Fault.{Fault}
use Rattle.cvl_calls.specs.declared.stop.Stop.{Stop}
use Rattle.cvl_calls.specs.declared.judged.Judged.{Judged}
use Rattle.cvl_calls.specs.Judging.{IsReady, JudgesBy, made, word_of}
use Rattle.cvl_calls.specs.Runs.{TakesNoMemory}
use Rattle.cvl_calls.specs.Steps.{Grows}
use Rattle.cvl_calls.specs.Work.{operand, free, len, extract, ask, of_one, of_two, of_three, work}
use Rattle.cvl_calls.proofs.Fitting.{IsFit, MakesFitting, bind_ok, integers-fit, truths-fit}
use Rattle.cvl_calls.proofs.FittingElementwise.{map_one-fits, map_two-fits, select-fits}
use Rattle.cvl_calls.proofs.FittingMoves.{permute-fits, permute_segments-fits, gather-fits, gather_segments-fits}
use Rattle.cvl_calls.proofs.FittingPacks.{pack-fits, pack_segments-fits, pack_lengths-fits}
use Rattle.cvl_calls.proofs.FittingScans.{scan-fits, scan_segments-fits, reduce-fits, reduce_segments-fits}
use Rattle.cvl_calls.proofs.FittingSpreads.{repeat-fits, distribute-fits, index-fits, index_segments-fits}
use Rattle.cvl_calls.proofs.FittingValues.{set-fits, get-fits, mov-fits, free-fits, alo-fits, len-fits, make_segs-fits, len_segs-fits, extract-fits, replace-fits}

module _ (limit : ℕ) where
  ask-fits : (w : AskWord) (a : Operand) → MakesFitting limit (ask w a)
  ask-fits asks.Get a = get-fits limit a
  ask-fits asks.Free a = free-fits limit a
  ask-fits asks.Len a = len-fits limit a
  ask-fits (asks.RedZ op) a = reduce-fits limit integers (combine_z op) (unit_z op) (integers-fit limit) a
  ask-fits (asks.RedB op) a = reduce-fits limit truths (combine_b op) (unit_b op) (truths-fit limit) a

  of_one-fits : (w : OneWord) (a : Operand) → IsFit limit a → MakesFitting limit (of_one limit w a)
  of_one-fits ones.Mov a fit = mov-fits limit a fit
  of_one-fits ones.MakeSegs a fit = make_segs-fits limit a fit
  of_one-fits ones.LenSegs a fit = len_segs-fits limit a fit
  of_one-fits (ones.MapZ1 op) a fit = map_one-fits limit integers integers (integers-fit limit) (integers-fit limit) (alter_z op) a fit
  of_one-fits (ones.MapB1 op) a fit = map_one-fits limit truths truths (truths-fit limit) (truths-fit limit) (alter_b op) a fit
  of_one-fits ones.Boo a fit = map_one-fits limit integers truths (integers-fit limit) (truths-fit limit) is_true a fit
  of_one-fits ones.IntOf a fit = map_one-fits limit truths integers (truths-fit limit) (integers-fit limit) as_number a fit
  of_one-fits (ones.ScanZ op) a fit = scan-fits limit integers (combine_z op) (unit_z op) (integers-fit limit) a fit
  of_one-fits (ones.ScanB op) a fit = scan-fits limit truths (combine_b op) (unit_b op) (truths-fit limit) a fit

  of_two-fits : (w : TwoWord) (a b : Operand) → IsFit limit a → IsFit limit b → MakesFitting limit (of_two w a b)
  of_two-fits (twos.MapZ2 op) a b fit _ = map_two-fits limit integers integers (integers-fit limit) (integers-fit limit) (seconds op) (apply_z op) a b fit
  of_two-fits (twos.CmpZ op) a b fit _ = map_two-fits limit integers truths (integers-fit limit) (truths-fit limit) any_seconds (compares op) a b fit
  of_two-fits (twos.MapB2 op) a b fit _ = map_two-fits limit truths truths (truths-fit limit) (truths-fit limit) any_seconds (apply_b op) a b fit
  of_two-fits (twos.ScanSegZ op) a s fit _ = scan_segments-fits limit integers (combine_z op) (unit_z op) (integers-fit limit) a s fit
  of_two-fits (twos.ScanSegB op) a s fit _ = scan_segments-fits limit truths (combine_b op) (unit_b op) (truths-fit limit) a s fit
  of_two-fits (twos.RedSegZ op) a s _ fit = reduce_segments-fits limit integers (combine_z op) (unit_z op) (integers-fit limit) a s fit
  of_two-fits (twos.RedSegB op) a s _ fit = reduce_segments-fits limit truths (combine_b op) (unit_b op) (truths-fit limit) a s fit
  of_two-fits (twos.DisSeg kind) a s fit fit_s = distribute-fits limit kind a s fit fit_s
  of_two-fits (twos.Smp kind) a i fit _ = permute-fits limit kind a i fit
  of_two-fits (twos.Bck kind) a i fit fit_i = gather-fits limit kind a i fit fit_i
  of_two-fits (twos.Pck kind) a f fit _ = pack-fits limit kind a f fit
  of_two-fits twos.Pkl f s _ fit = pack_lengths-fits limit f s fit

  of_three-fits : (w : ThreeWord) (a b c : Operand) → IsFit limit a → IsFit limit b → IsFit limit c → MakesFitting limit (of_three w a b c)
  of_three-fits (threes.Sel kinds.Z) f a b _ fit _ = select-fits limit integers f a b (integers-fit limit) fit
  of_three-fits (threes.Sel kinds.B) f a b _ fit _ = select-fits limit truths f a b (truths-fit limit) fit
  of_three-fits threes.IndSeg a b s _ _ fit = index_segments-fits limit a b s fit
  of_three-fits (threes.SmpSeg kind) a i s fit _ _ = permute_segments-fits limit kind a i s fit
  of_three-fits (threes.PckSeg kind) a f s fit _ _ = pack_segments-fits limit kind a f s fit

  operand-fits : (os : List Operand) (i : ℕ) → AllByRecursion (IsFit limit) os → IsFit limit (operand os i)
  operand-fits [] i h = tt
  operand-fits (o ∷ os) zero h = h.0
  operand-fits (o ∷ os) (suc i) h = operand-fits os i h.1

  pub work-fits : (w : Word) (os : List Operand) → AllByRecursion (IsFit limit) os → MakesFitting limit (work limit w os)
  work-fits words.SetInts os h = set-fits limit integers (operand os 0) (integers-fit limit)
  work-fits words.SetBools os h = set-fits limit truths (operand os 0) (truths-fit limit)
  work-fits (words.Ask w) os h = ask-fits w (operand os 0)
  work-fits (words.One w) os h = of_one-fits w (operand os 0) (operand-fits os 0 h)
  work-fits (words.Two w) os h = of_two-fits w (operand os 0) (operand os 1) (operand-fits os 0 h) (operand-fits os 1 h)
  work-fits (words.Three w) os h = of_three-fits w (operand os 0) (operand os 1) (operand os 2) (operand-fits os 0 h) (operand-fits os 1 h) (operand-fits os 2 h)
  work-fits (words.BckSeg kind) os h = gather_segments-fits limit kind (operand os 0) (operand os 1) (operand os 2) (operand os 3) (operand-fits os 0 h) (operand-fits os 2 h)
  work-fits words.Alo os h = alo-fits limit (operand os 0)
  work-fits words.DisZ os h = repeat-fits limit integers (operand os 0) (operand os 1) (integers-fit limit)
  work-fits words.DisB os h = repeat-fits limit truths (operand os 0) (operand os 1) (truths-fit limit)
  work-fits words.Ind os h = index-fits limit (operand os 0) (operand os 1) (operand os 2)
  work-fits words.Ext os h = extract-fits limit (operand os 0) (operand os 1)
  work-fits words.Rep os h = replace-fits limit (operand os 0) (operand os 1) (operand os 2) (operand-fits os 0 h)

-- what the checks returned: seen as what is to be made, with the word of the call, ready, and no value beyond the limit
module _ (tested : Bool) (word : Word) (said : Result Effect Fault) where
  pub judged-gives : (r : Result Judged Stop) → JudgesBy tested word said r → GivesBy tested made r said
  judged-gives (Ok judged) h = h.0
  judged-gives (Err stop) h = h

  pub judged-word : (r : Result Judged Stop) → JudgesBy tested word said r → IfOk r (λ judged. word_of judged ≡ word)
  judged-word (Ok judged) h = h.1
  judged-word (Err stop) h = tt

  pub judged-ready : (r : Result Judged Stop) → JudgesBy tested word said r → IfOk r IsReady
  judged-ready (Ok judged) h = h.2
  judged-ready (Err stop) h = tt

  pub judged-fits : (limit : ℕ) (r : Result Judged Stop) → JudgesBy tested word said r → MakesFitting limit said → IfOk r (λ judged. IsFittingEffect limit (made judged))
  judged-fits limit (Ok judged) h fits = (subst (MakesFitting limit) h.0 fits).fits
  judged-fits limit (Err stop) h fits = tt

-- an effect that stores nothing asks for no memory
abbrev StoresNothing : Effect → Type 0
StoresNothing (Stores v) = ⊥
StoresNothing Frees = Unit {0}
StoresNothing (Answers a) = Unit {0}

stores_nothing : (m : State) (to : Option Name) (effect : Effect) → StoresNothing effect → Grows m to effect → ⊥
stores_nothing m to (Stores v) h g = h
stores_nothing m None Frees h g = g
stores_nothing m (Some n) Frees h g = g
stores_nothing m None (Answers a) h g = g
stores_nothing m (Some n) (Answers a) h g = g

free-stores : (a : Operand) (effect : Effect) → free a ≡ Ok effect → StoresNothing effect
unfolding free
free-stores a effect e =
    let v = bind_ok (any_value a) _ effect e in
    let same : Frees ≡ effect = cc (v.2) in
    subst StoresNothing same tt

len-stores : (a : Operand) (effect : Effect) → len a ≡ Ok effect → StoresNothing effect
unfolding len
len-stores a effect e =
    let v = bind_ok (any_value a) _ effect e in
    let same : Answers (IntOf (pos (size_of v.0))) ≡ effect = cc (v.2) in
    subst StoresNothing same tt

extract-stores : (a p : Operand) (effect : Effect) → extract a p ≡ Ok effect → StoresNothing effect
unfolding extract
extract-stores a p effect e =
    let xs = bind_ok (ints a) _ effect e in
    let place = bind_ok (number p) _ effect xs.2 in
    let x = bind_ok (found (item_at xs.0 place.0) BadIndex) _ effect place.2 in
    let same : Answers (IntOf x.0) ≡ effect = cc (x.2) in
    subst StoresNothing same tt

ask-stores : (w : AskWord) (a : Operand) (effect : Effect) → TakesNoMemory (words.Ask w) → ask w a ≡ Ok effect → StoresNothing effect
ask-stores asks.Free a effect h e = free-stores a effect e
ask-stores asks.Len a effect h e = len-stores a effect e
ask-stores asks.Get a effect h e = absurd h
ask-stores (asks.RedZ op) a effect h e = absurd h
ask-stores (asks.RedB op) a effect h e = absurd h

work-stores : (limit : ℕ) (w : Word) (os : List Operand) (effect : Effect) → TakesNoMemory w → work limit w os ≡ Ok effect → StoresNothing effect
work-stores limit (words.Ask w) os effect h e = ask-stores w (operand os 0) effect h e
work-stores limit words.Ext os effect h e = extract-stores (operand os 0) (operand os 1) effect e
work-stores limit words.SetInts os effect h e = absurd h
work-stores limit words.SetBools os effect h e = absurd h
work-stores limit (words.One w) os effect h e = absurd h
work-stores limit (words.Two w) os effect h e = absurd h
work-stores limit (words.Three w) os effect h e = absurd h
work-stores limit (words.BckSeg kind) os effect h e = absurd h
work-stores limit words.Alo os effect h e = absurd h
work-stores limit words.DisZ os effect h e = absurd h
work-stores limit words.DisB os effect h e = absurd h
work-stores limit words.Ind os effect h e = absurd h
work-stores limit words.Rep os effect h e = absurd h

pub takes_none : (limit : ℕ) (w : Word) (os : List Operand) (effect : Effect) (m : State) (to : Option Name) → TakesNoMemory w → work limit w os ≡ Ok effect → Grows m to effect → ⊥
takes_none limit w os effect m to h e = stores_nothing m to effect (work-stores limit w os effect h e)
