-- Whole values keep the limit, and so do the forms of set and a vector with one item replaced.
use Rattle.std.proofs.Common.{ℕ, ◌≤◌, leb, length, map, replicate, sum, pos}
use Rattle.std.specs.Prelude.{not, unsigned_abs, slice_set}
use Rattle.std.proofs.lemmas.Bool.{leb-true}
use Rattle.std.proofs.lemmas.List.{length-map, length-replicate, length-set}
use Rattle.segment_desc.specs.Lengths.{has_negative, sizes}
use Rattle.scan_kernels.specs.Gathered.{item_at}
use Rattle.cvl_text.specs.declared.fault.Fault.TheVariants.{BadSegments, BadIndex, TooLong}
use Rattle.cvl_calls.specs.Conditions.{is_place, found}
use Rattle.cvl_calls.specs.Operands.{any_value, ints, segs, number, count, ItemType}
use Rattle.cvl_calls.specs.Outcomes.{Operand}
use Rattle.cvl_calls.specs.Work.{set, get, mov, free, alo, len, make_segs, len_segs, extract, replace}
use Rattle.cvl_calls.proofs.Fitting.{IsFit, ItemsFit, MakesFitting, MakesFitting-bind, MakesFitting-check, any_value-fits, count-few, ints-short, same-few, segs-within}

pub set-fits : {X : Type 0} (limit : ℕ) (type : ItemType X) (a : Operand) → ItemsFit limit type → MakesFitting limit (set limit type a)
unfolding set
set-fits limit type a fit =
    MakesFitting-bind limit (type.listed a) _ (λ xs _.
    MakesFitting-check limit (leb (length xs) limit) TooLong _ (λ was. record { fits = fit.fit xs (leb-true _ _ was) }))

pub get-fits : (limit : ℕ) (a : Operand) → MakesFitting limit (get a)
unfolding get
get-fits limit a = MakesFitting-bind limit (any_value a) _ (λ v was. record { fits = tt })

pub mov-fits : (limit : ℕ) (a : Operand) → IsFit limit a → MakesFitting limit (mov a)
unfolding mov
mov-fits limit a fit = MakesFitting-bind limit (any_value a) _ (λ v was. record { fits = any_value-fits limit a v fit was })

pub free-fits : (limit : ℕ) (a : Operand) → MakesFitting limit (free a)
unfolding free
free-fits limit a = MakesFitting-bind limit (any_value a) _ (λ v was. record { fits = tt })

pub len-fits : (limit : ℕ) (a : Operand) → MakesFitting limit (len a)
unfolding len
len-fits limit a = MakesFitting-bind limit (any_value a) _ (λ v was. record { fits = tt })

pub alo-fits : (limit : ℕ) (n : Operand) → MakesFitting limit (alo limit n)
unfolding alo
alo-fits limit n =
    MakesFitting-bind limit (count limit n) _ (λ many was.
    let few : length (replicate many (pos 0)) ≤ limit = same-few (length-replicate many (pos 0)) (count-few limit n many was) in
    record { fits = few })

pub make_segs-fits : (limit : ℕ) (a : Operand) → IsFit limit a → MakesFitting limit (make_segs limit a)
unfolding make_segs
make_segs-fits limit a fit =
    MakesFitting-bind limit (ints a) _ (λ xs was.
    MakesFitting-check limit (not (has_negative xs)) BadSegments _ (λ _.
    MakesFitting-check limit (leb (sum (sizes xs)) limit) TooLong _ (λ small.
    let few : length (sizes xs) ≤ limit = same-few (length-map xs unsigned_abs) (ints-short limit a fit xs was) in
    record { fits = (few, leb-true _ _ small) })))

pub len_segs-fits : (limit : ℕ) (s : Operand) → IsFit limit s → MakesFitting limit (len_segs s)
unfolding len_segs
len_segs-fits limit s fit =
    MakesFitting-bind limit (segs s) _ (λ ls was.
    let few : length (map pos ls) ≤ limit = same-few (length-map ls pos) (segs-within limit s fit ls was).0 in
    record { fits = few })

pub extract-fits : (limit : ℕ) (a p : Operand) → MakesFitting limit (extract a p)
unfolding extract
extract-fits limit a p =
    MakesFitting-bind limit (ints a) _ (λ xs _.
    MakesFitting-bind limit (number p) _ (λ place _.
    MakesFitting-bind limit (found (item_at xs place) BadIndex) _ (λ x _. record { fits = tt })))

pub replace-fits : (limit : ℕ) (a p x : Operand) → IsFit limit a → MakesFitting limit (replace a p x)
unfolding replace
replace-fits limit a p x fit =
    MakesFitting-bind limit (ints a) _ (λ xs was.
    MakesFitting-bind limit (number p) _ (λ place _.
    MakesFitting-bind limit (number x) _ (λ item _.
    MakesFitting-check limit (is_place (length xs) place) BadIndex _ (λ _.
    let few : length (slice_set xs (unsigned_abs place) item) ≤ limit = same-few (length-set xs (unsigned_abs place) item) (ints-short limit a fit xs was) in
    record { fits = few }))))
