-- The fields of a handle that leads to a port become those of an open box, and what they own goes along.
use mathlib.Core.Path.{◌≡◌, refl}
use mathlib.Core.List.{[], ◌∷◌, ◌++◌}
use seplogic.Ra.Ura.{Ura}
use base.Logic.{SProp, ent, id⊢}
use base.Fml.{ftrue, fsep}
use prog.Memory.{Memory}
use prog.Routine.{Routine}
use prog.Wp.{WpFn, Tables}
use types.Logic.{Logic}
use contract.Monad.{Fun, fact}
use contract.Running.{tables, tables_of}
use sound.WpLaws.{WpFn-mono}
use types.Kit.{Item, ‵, raw, ◌⊛◌, ◌$◌, ◌∵◌, !, qed, by, keep, move, drop, use1, join, split, fsplit, fjoin, rewrite, suffices, done}
use types.Part.{whole, sub, agg}
use types.Run.{stop, fld, no_more, and_then, of_opd, returns, enter}
use types.ByLocal.{alloc_all, pass_all, free_all, look_at, get, get_in, sets}
use denote.Exit.{yes}
use denote.Signature.{type_at}
use denote.Steps.{heard, nothing}
use denote.Triple.Spec.{triple_of}
use denote.Triple.Table.{entered}
use denote.Triple.Walked.{says, Stays, stay_dropped, walk_of, ends_at, Goes-dropped, walk_Meets}
use Rattle.std.specs.Prelude.{Option, Some, IsSome}
use Rattle.std_alloc.proofs.BoxSteps.Form.{D, word, box_typed}
use Rattle.std_alloc.proofs.BoxSteps.Steps.{box_out, box_in}
use Rattle.cvl_port.specs.contracts.port.Port as Port
use Rattle.cvl_c.specs.contracts.handle.Handle as Handle
use Rattle.cvl_c.proofs.Boxes.{OfPort, HeldPort, alone_is, at_words, found}
use Rattle.cvl_c.specs.contracts.handle.Handle.into_open as F
use Rattle.cvl_c.specs.contracts.handle.Handle.into_open.Key.{name as #self}
use Rattle.cvl_c.proofs.handle.Handle.into_open.Statement as stated
use Rattle.cvl_c.proofs.handle.Handle.into_open.Code as code

abbrev kept : Stays (F.ended).signature.params (F.ended).kept
kept = (stay_dropped HeldPort yes, tt)

module _ {M : Type 1} {𝓤 : Ura M} (𝓛 : Logic 𝓤) (at_mem : Memory → SProp 𝓤) (run : Routine → Fun 𝓤) (𝓣 : Tables 𝓤 𝓛.H) where
  open 𝓛 use {H}

  walk : (z : (walk_of 𝓛 F.ended kept (F.clauses 𝓛 at_mem run)).Ghost)
      → ent 𝓤 ((walk_of 𝓛 F.ended kept (F.clauses 𝓛 at_mem run)).pre z) (WpFn 𝓤 H 𝓣.C 𝓣.Λ code.function (z.0.4.0 ++ []) ((walk_of 𝓛 F.ended kept (F.clauses 𝓛 at_mem run)).post z))
  walk z =
      let contract = walk_of 𝓛 F.ended kept (F.clauses 𝓛 at_mem run) in
      let handle = z.0.3.0 in
      let Made = type_at (F.signature).result tt in
      let with_port : Option Port.the_row.Denot → Item 𝓤 = λ o. ‵ (fsep (Handle.the_row.own_val (record handle { port = o }) z.0.4.0) ftrue) in
      qed 𝓛 ((‵ ftrue ⊛ with_port handle.port) ∷ raw (fact 𝓤 (IsSome handle.port)) ∷ []) ∵
      move ! (1 ∷ []) $ heard ! (IsSome handle.port) (λ is_open.
      let port = (found handle.port is_open).0 in
      let is_port : handle.port ≡ Some port = (found handle.port is_open).1 in
      let boxed : D OfPort = record { ptr = handle.ptr; alloc = handle.alloc; value = port } in
      let open_box : Made.Denot = record { ptr = handle.ptr; alloc = handle.alloc; value = port } in
      split ! $ drop ! $ rewrite ! 0 with_port is_port refl $ fsplit ! $ box_out OfPort ! boxed z.0.4.0 (λ block offset allocator at_block words fits.
      let whole_word = word OfPort allocator block offset in
      let typed = box_typed OfPort allocator block offset fits in
      let owned : Item 𝓤 = ‵ (Made.own_val open_box (whole_word ∷ [])) in
      box_in OfPort ! boxed block offset port at_block refl $ use1 𝓛 owned (id⊢ 𝓤 _) $ keep ! (0 ∷ []) $
      by ! (at_words 𝓛 𝓣 code.function (owned ∷ []) (contract.post z) (z.0.4.0 ++ []) (whole_word ∷ []) (alone_is words)
      (qed 𝓛 (owned ∷ []) ∵ enter ! 𝓣.C 𝓣.Λ code.function (whole_word ∷ []) _ $ alloc_all ! (λ locals. pass_all ! refl (typed, tt) $
      -- the two fields, the cast, and the open box
      sets ! (of_opd ! (get_in ! (fld ! refl (stop !)) (sub ! 0 refl (whole !)))) refl (tt, tt) $
      sets ! (of_opd ! (get_in ! (fld ! refl (stop !)) (sub ! 1 refl (whole !)))) refl fits $
      sets ! (of_opd ! (get ! refl)) refl (tt, tt) $
      sets ! (agg ! (and_then ! (get ! refl) (and_then ! (get ! refl) (no_more !)))) refl typed $
      returns ! (look_at ! 0 refl) $ free_all ! refl $
      suffices ! _ (ends_at 𝓛 F.ended kept (F.clauses 𝓛 at_mem run) z whole_word open_box (tt, tt) (tt, tt)) $ says ! is_port $
      nothing ! $ nothing ! $ fjoin ! $ join ! $ nothing ! $ join ! $ done !)))))

pub into_open_spec : {M : Type 1} → stated.statement M
unfolding tables_of
into_open_spec 𝓤 𝓛 𝓜 𝓡 wired =
    let 𝓣 : Tables 𝓤 𝓛.H = tables_of 𝓤 𝓛.H 𝓜 (tables 𝓤 𝓛.H 𝓜 𝓡 𝓡.env) in
    entered 𝓤 𝓛.H (triple_of 𝓛 F.signature (F.spec 𝓛 𝓜.mem 𝓡.returns)) 𝓣.C 𝓣.Λ #self code.function (code.unfolded 𝓤 𝓛.H 𝓜 𝓡 wired)
    (walk_Meets 𝓛 F.ended kept (Goes-dropped 𝓛 0 HeldPort yes (λ κs x f. refl), tt) (F.clauses 𝓛 𝓜.mem 𝓡.returns) (WpFn 𝓤 𝓛.H 𝓣.C 𝓣.Λ code.function) (WpFn-mono 𝓤 𝓛.H 𝓛.laws 𝓣 code.function)
    (walk 𝓛 𝓜.mem 𝓡.returns 𝓣))
