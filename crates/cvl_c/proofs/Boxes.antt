-- A handle and an open box own what a box at the same types owns. What their walks share.
use mathlib.Core.Path.{◌≡◌, refl, sym, subst, ap}
use mathlib.Core.List.{List, [], ◌++◌}
use seplogic.Ra.Ura.{Ura}
use mir.Syntax.{Fn, impl, tnil, dnil}
use mir.Val.{Val}
use base.Logic.{SProp, ent}
use prog.Wp.{WpFn, Tables}
use types.Logic.{Logic}
use types.Kit.{Item}
use denote.RattleType.{RattleType}
use denote.Signature.{Slot, plain}
use Rattle.std.specs.Prelude.{Option, Some, None, IsSome}
use Rattle.std_alloc.proofs.BoxSteps.Form.{Bx, R, P}
use Rattle.std_heap.specs.contracts.Global as Heap
use Rattle.std_heap.specs.contracts.GlobalAllocator.TheImpl.{ghosts, dict}
use Rattle.std_heap.proofs.Global.TheLaws as heap
use Rattle.cvl_port.specs.contracts.port.Port as Port
use Rattle.cvl_port.proofs.port.Port.TheLaws as port
use Rattle.cvl_c.specs.contracts.open_box.OpenBox as OpenBox
use Rattle.cvl_c.specs.contracts.handle.Handle as Handle

-- a box of a port
abbrev pub OfPort : Bx
OfPort = record { row = Port.the_row; laws = port.the_row_laws; al = record { row = Heap.the_row; laws = heap.the_row_laws; g = ghosts; d = dict; drops = impl [] tnil dnil } }

-- an open box at any types
abbrev pub Opened : Bx → RattleType
Opened E = OpenBox.the_row (R E) (P E) E.al.g

abbrev pub OpenedPort : Slot 0
OpenedPort = plain (λ _. OpenBox.the_row Port.the_row Heap.the_row ghosts)

abbrev pub HeldPort : Slot 0
HeldPort = plain (λ _. Handle.the_row)

-- what lies in an option that is not empty
pub found : {X : Type 0} (o : Option X) → IsSome o → (x : X) × (o ≡ Some x)
found None is = let no : ⊥ = cc in absurd no
found (Some x) is = (x, refl)

-- a function whose arguments are known to be these machine values
pub at_words : {M : Type 1} {𝓤 : Ura M} (𝓛 : Logic 𝓤) (𝓣 : Tables 𝓤 𝓛.H) (f : Fn) (Γ : List (Item 𝓤)) (Post : Val → SProp 𝓤) (us ws : List Val)
    → us ≡ ws → ent 𝓤 (types.Kit.⋆ 𝓛 Γ) (WpFn 𝓤 𝓛.H 𝓣.C 𝓣.Λ f ws Post) → ent 𝓤 (types.Kit.⋆ 𝓛 Γ) (WpFn 𝓤 𝓛.H 𝓣.C 𝓣.Λ f us Post)
at_words {𝓤 = 𝓤} 𝓛 𝓣 f Γ Post us ws e p = let Goal : List Val → Type 1 = λ vs. ent 𝓤 (types.Kit.⋆ 𝓛 Γ) (WpFn 𝓤 𝓛.H 𝓣.C 𝓣.Λ f vs Post) in subst Goal (sym e) p

-- one argument alone
abbrev pub alone_is : {us ws : List Val} → us ≡ ws → us ++ [] ≡ ws ++ []
alone_is e = ap (λ (vs : List Val). vs ++ []) e
