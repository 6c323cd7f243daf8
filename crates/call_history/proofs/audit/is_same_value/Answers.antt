use Rattle.std.proofs.Common.{◌≡◌, refl, ap}
use Rattle.std.specs.Bool.{Decides}
use Rattle.std.proofs.lemmas.Bool.Decides.{Decides-like, Decides-int_eq, Decides-eqb, Decides-at}
use Rattle.std.proofs.lemmas.Slice.Eq.{slice_eq-Decides}
use Rattle.std.specs.Cmp.{booleans_Decides}
use Rattle.vector_memory.specs.declared.value.Value.{Value}
use Rattle.vector_memory.specs.declared.value.Value.TheVariants as values
use Rattle.vector_memory.specs.contracts.value.ValuePartialEq.TheImpl.{ghosts}
use Rattle.vector_memory.specs.Contents.{Ints, Bools, Segs, content_of}
use Rattle.call_history.proofs.audit.is_same_value.Goals as goal

-- two values are equal where they are the same items
same_values : (a b : Value) → Decides (ghosts.eq a b) (content_of a ≡ content_of b)
same_values (values.Ints xs) (values.Ints ys) = Decides-like _ (ap Ints) (λ e. cc e) (slice_eq-Decides Decides-int_eq xs.items ys.items _ refl)
same_values (values.Bools xs) (values.Bools ys) = Decides-like _ (ap Bools) (λ e. cc e) (slice_eq-Decides booleans_Decides xs.items ys.items _ refl)
same_values (values.Segs xs) (values.Segs ys) = Decides-like _ (ap Segs) (λ e. cc e) (slice_eq-Decides Decides-eqb xs ys _ refl)
same_values (values.Ints xs) (values.Bools ys) = ((λ e. absurd (cc e)), (λ e. absurd (cc e)))
same_values (values.Ints xs) (values.Segs ys) = ((λ e. absurd (cc e)), (λ e. absurd (cc e)))
same_values (values.Bools xs) (values.Ints ys) = ((λ e. absurd (cc e)), (λ e. absurd (cc e)))
same_values (values.Bools xs) (values.Segs ys) = ((λ e. absurd (cc e)), (λ e. absurd (cc e)))
same_values (values.Segs xs) (values.Ints ys) = ((λ e. absurd (cc e)), (λ e. absurd (cc e)))
same_values (values.Segs xs) (values.Bools ys) = ((λ e. absurd (cc e)), (λ e. absurd (cc e)))

pub returns : goal.returns
returns c = Decides-at c.eq.result (ghosts.eq c.args.one.now c.args.other.now) c.eq.ensures (same_values c.args.one.now c.args.other.now)
