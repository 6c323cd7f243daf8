-- The item at a place of lists that are made of two or three lists item by item: `paired_long`, `paired_get`, `paired_first` and
-- `paired_second` where one of the items is known, `chosen_long`, `chosen_at`.
use Rattle.std.proofs.Common.{◌≡◌, ℕ, ◌<◌, List, length, map, Some, Bool, false, ap, ◌∙◌, get_or, arith, sym, slice_get}
use Rattle.std.specs.Prelude.{if◌then◌else◌}
use Rattle.std.specs.List.{zip}
use Rattle.std.specs.Option.{option_map}
use Rattle.std.proofs.lemmas.List.{length-map}
use Rattle.std.proofs.lemmas.Option.{get_or_from_slice_get, slice_get-get_or, slice_get-map, slice_get_within}
use Rattle.std.proofs.lemmas.Slice.Zip.{length-zip, get_or-zip}
use Rattle.scan_kernels.specs.Elementwise.{selected}

module _ {X Y Z : Type 0} (f : X × Y → Z) (xs : List X) (ys : List Y) where
  pub paired_long : length xs ≡ length ys → length (map f (zip xs ys)) ≡ length xs
  paired_long same = omega (arith, length-map (zip xs ys) f, length-zip xs ys)

  pub paired_get : (i : ℕ) (d : X) (e : Y) → length xs ≡ length ys → i < length xs → slice_get (map f (zip xs ys)) i ≡ Some (f (get_or xs i d, get_or ys i e))
  paired_get i d e same h =
      let long = length-zip xs ys in
      slice_get-map f (zip xs ys) i ∙ ap (λ o. option_map f o) (slice_get-get_or (zip xs ys) i (d, e) (omega arith) ∙ ap Some (get_or-zip xs ys i (d, e) h (omega arith)))

  pub paired_first : (i : ℕ) (x : X) (e : Y) → length xs ≡ length ys → slice_get xs i ≡ Some x → slice_get (map f (zip xs ys)) i ≡ Some (f (x, get_or ys i e))
  paired_first i x e same there =
      paired_get i x e same (slice_get_within xs i x there) ∙ ap (λ (u : X). Some (f (u, get_or ys i e))) (get_or_from_slice_get xs i x x there)

  pub paired_second : (i : ℕ) (d : X) (y : Y) → length xs ≡ length ys → slice_get ys i ≡ Some y → slice_get (map f (zip xs ys)) i ≡ Some (f (get_or xs i d, y))
  paired_second i d y same there =
      let within = slice_get_within ys i y there in
      paired_get i d y same (omega arith) ∙ ap (λ (u : Y). Some (f (get_or xs i d, u))) (get_or_from_slice_get ys i y y there)

module _ {X : Type 0} (flags : List Bool) (xs ys : List X) where
  pub chosen_long : length flags ≡ length xs → length flags ≡ length ys → length (selected flags xs ys) ≡ length flags
  chosen_long first second =
      let inner = length-zip xs ys in
      paired_long (λ (p : Bool × (X × X)). if p.0 then p.1.0 else p.1.1) flags (zip xs ys) (omega arith)

  pub chosen_at : (i : ℕ) (x y : X) → length flags ≡ length xs → length flags ≡ length ys → i < length flags
      → x ≡ get_or xs i x → y ≡ get_or ys i y → slice_get (selected flags xs ys) i ≡ Some (if get_or flags i false then x else y)
  chosen_at i x y first second h left right =
      let choose = λ (p : Bool × (X × X)). if p.0 then p.1.0 else p.1.1 in
      let inner = length-zip xs ys in
      let pair : get_or (zip xs ys) i (x, y) ≡ (x, y) = get_or-zip xs ys i (x, y) (omega arith) (omega arith) ∙ ap (λ (u : X). (u, get_or ys i y)) (sym left) ∙ ap (λ (v : X). (x, v)) (sym right) in
      paired_get choose flags (zip xs ys) i false (x, y) (omega arith) h ∙ ap (λ p. Some (choose (get_or flags i false, p))) pair
