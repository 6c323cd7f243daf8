-- What is made item by item keeps the limit.
use Rattle.std.proofs.Common.{ℕ, ◌≤◌, List, length, map, Result}
use Rattle.std.specs.Prelude.{◌==◌}
use Rattle.std.proofs.Math.Nat.{le_trans}
use Rattle.std.proofs.lemmas.List.{length-map}
use Rattle.scan_kernels.specs.Elementwise.{item_by_item, selected}
use Rattle.cvl_text.specs.declared.fault.Fault.{Fault}
use Rattle.cvl_text.specs.declared.fault.Fault.TheVariants.{WrongLength}
use Rattle.cvl_calls.specs.Operands.{bools, ItemType}
use Rattle.cvl_calls.specs.Outcomes.{Operand}
use Rattle.cvl_calls.specs.Work.{map_one, map_two, select}
use Rattle.cvl_calls.proofs.Fitting.{IsFit, ItemsFit, MakesFitting, MakesFitting-bind, MakesFitting-check, same-few}
use Rattle.cvl_calls.proofs.Sizes.{length-item_by_item, length-selected}

module _ {X Y : Type 0} (limit : ℕ) (of : ItemType X) (to : ItemType Y) (fit_of : ItemsFit limit of) (fit_to : ItemsFit limit to) where
  pub map_two-fits : (taken : List X → Result (Unit {0}) Fault) (op : X → X → Y) (a b : Operand) → IsFit limit a → MakesFitting limit (map_two of to taken op a b)
  unfolding map_two
  map_two-fits taken op a b fit =
      MakesFitting-bind limit (of.read a) _ (λ xs was.
      MakesFitting-bind limit (of.read b) _ (λ ys _.
      MakesFitting-check limit (length xs == length ys) WrongLength _ (λ _.
      MakesFitting-bind limit (taken ys) _ (λ _ _.
      let few : length (item_by_item op xs ys) ≤ limit = le_trans (length-item_by_item op xs ys) (fit_of.short a xs fit was) in
      record { fits = fit_to.fit (item_by_item op xs ys) few }))))

  pub map_one-fits : (op : X → Y) (a : Operand) → IsFit limit a → MakesFitting limit (map_one of to op a)
  unfolding map_one
  map_one-fits op a fit =
      MakesFitting-bind limit (of.read a) _ (λ xs was.
      let few : length (map op xs) ≤ limit = same-few (length-map xs op) (fit_of.short a xs fit was) in
      record { fits = fit_to.fit (map op xs) few })

pub select-fits : {X : Type 0} (limit : ℕ) (type : ItemType X) (f a b : Operand) → ItemsFit limit type → IsFit limit a → MakesFitting limit (select type f a b)
unfolding select
select-fits limit type f a b fit_type fit =
    MakesFitting-bind limit (bools f) _ (λ flags _.
    MakesFitting-bind limit (type.read a) _ (λ xs was.
    MakesFitting-bind limit (type.read b) _ (λ ys _.
    MakesFitting-check limit (length flags == length xs) WrongLength _ (λ _.
    MakesFitting-check limit (length flags == length ys) WrongLength _ (λ _.
    let few : length (selected flags xs ys) ≤ limit = le_trans (length-selected flags xs ys) (fit_type.short a xs fit was) in
    record { fits = fit_type.fit (selected flags xs ys) few })))))
