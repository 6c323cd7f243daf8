-- A handle made of a pointer that owns nothing and of an allocator.
use mathlib.Core.Path.{◌≡◌, refl, ap, ◌∙◌}
use mathlib.Core.List.{List, [], ◌∷◌, ◌++◌}
use seplogic.Ra.Ura.{Ura}
use mir.Val.{Val, vstruct, of_list}
use base.Logic.{SProp, ent, emp, id⊢}
use base.Fml.{ftrue, fsep}
use prog.Memory.{Memory}
use prog.Routine.{Routine}
use prog.Wp.{WpFn, Tables}
use types.Logic.{Logic}
use contract.Monad.{Fun}
use contract.Running.{tables, tables_of}
use sound.WpLaws.{WpFn-mono}
use types.Kit.{Item, ‵, raw, ◌⊛◌, ◌$◌, ◌∵◌, !, qed, by, keep, move, drop, use1, join, split, fsplit, fjoin, feq_l, feq_i, fpack, suffices, done}
use types.Part.{agg}
use types.Run.{no_more, and_then, returns, enter}
use types.ByLocal.{alloc_all, pass_all, free_all, look_at, get, sets}
use denote.Exit.{yes}
use denote.Laws.{Is, shows}
use denote.RattleType.{Valss}
use denote.RawPtr.{RawPtr, ptr_val, rawptr_Lawful}
use denote.Struct.Struct.{within}
use denote.Struct.Owning.{shape, to}
use denote.Signature.{plain, type_at}
use denote.Steps.{nothing, peeks}
use denote.Triple.Spec.{triple_of}
use denote.Triple.Table.{entered}
use denote.Triple.Walked.{says, Stays, stay_dropped, walk_of, ends_at, Goes-dropped, walk_Meets}
use Rattle.std.specs.Prelude.{None}
use Rattle.core.proofs.alloc.Calls.{handle_tells}
use Rattle.std_heap.specs.contracts.Global as Heap
use Rattle.cvl_c.proofs.Boxes.{OfPort, at_words}
use Rattle.cvl_c.specs.contracts.handle.Handle as Handle
use Rattle.cvl_c.proofs.handle.Handle.TheLaws as laws
use Rattle.cvl_c.specs.contracts.handle.Handle.nowhere as F
use Rattle.cvl_c.specs.contracts.handle.Handle.nowhere.Key.{name as #self}
use Rattle.cvl_c.proofs.handle.Handle.nowhere.Statement as stated
use Rattle.cvl_c.proofs.handle.Handle.nowhere.Code as code

abbrev kept : Stays (F.ended).signature.params (F.ended).kept
kept = (stay_dropped (plain (λ _. RawPtr)) yes, (stay_dropped (plain (λ _. Heap.the_row)) yes, tt))

module _ {M : Type 1} {𝓤 : Ura M} (𝓛 : Logic 𝓤) (at_mem : Memory → SProp 𝓤) (run : Routine → Fun 𝓤) (𝓣 : Tables 𝓤 𝓛.H) where
  open 𝓛 use {H}

  walk : (z : (walk_of 𝓛 F.ended kept (F.clauses 𝓛 at_mem run)).Ghost)
      → ent 𝓤 ((walk_of 𝓛 F.ended kept (F.clauses 𝓛 at_mem run)).pre z) (WpFn 𝓤 H 𝓣.C 𝓣.Λ code.function (z.0.4.0 ++ (z.0.4.1.0 ++ [])) ((walk_of 𝓛 F.ended kept (F.clauses 𝓛 at_mem run)).post z))
  walk z =
      let contract = walk_of 𝓛 F.ended kept (F.clauses 𝓛 at_mem run) in
      let pointer = z.0.3.0 in let heap = z.0.3.1.0 in
      let Made = type_at (F.signature).result tt in
      let handle : Made.Denot = record { ptr = pointer; alloc = heap; port = None } in
      qed 𝓛 ((‵ ftrue ⊛ ‵ (fsep (RawPtr.own_val pointer z.0.4.0) (fsep (Heap.the_row.own_val heap z.0.4.1.0) ftrue))) ∷ raw (emp 𝓤) ∷ []) ∵
      split ! $ drop ! $ fsplit ! $ feq_l ! (λ is_pointer. fsplit ! $ handle_tells OfPort.al ! heap z.0.4.1.0 (λ allocator is_heap fits.
      let whole_word = vstruct (of_list (ptr_val pointer ∷ allocator ∷ [])) in
      let owned : Item 𝓤 = ‵ (Made.own_val handle (whole_word ∷ [])) in
      -- what the fields own, put together: the pointer owns nothing, and there is no port
      keep ! (0 ∷ []) $ nothing ! $ move ! (1 ∷ 0 ∷ []) $ fjoin ! $ feq_i ! (List Val) (ptr_val pointer ∷ []) (ptr_val pointer ∷ []) refl $ fjoin ! $
      feq_i ! (List Val) (whole_word ∷ []) (whole_word ∷ []) refl $ fjoin ! $
      fpack ! (Valss (RawPtr ∷ Heap.the_row ∷ [])) (within (shape Handle.the_type) (to Handle.the_type handle) (whole_word ∷ [])) (ptr_val pointer ∷ [], (allocator ∷ [], tt)) $
      nothing ! $ move ! (1 ∷ 0 ∷ []) $ fjoin ! $ use1 𝓛 owned (id⊢ 𝓤 _) $
      peeks ! Handle.the_row (Is Handle.the_row) (shows 𝓛 Handle.the_row) handle (whole_word ∷ []) (λ is.
      let typed = ((laws.the_row_laws.lawful 𝓛).typed handle (whole_word ∷ []) is).0 in
      let both : z.0.4.0 ++ (z.0.4.1.0 ++ []) ≡ ptr_val pointer ∷ allocator ∷ [] = ap (λ (vs : List Val). vs ++ (z.0.4.1.0 ++ [])) is_pointer ∙ ap (λ (vs : List Val). ptr_val pointer ∷ (vs ++ [])) is_heap in
      by ! (at_words 𝓛 𝓣 code.function (owned ∷ []) (contract.post z) (z.0.4.0 ++ (z.0.4.1.0 ++ [])) (ptr_val pointer ∷ allocator ∷ []) both
      (qed 𝓛 (owned ∷ []) ∵ enter ! 𝓣.C 𝓣.Λ code.function (ptr_val pointer ∷ allocator ∷ []) _ $ alloc_all ! (λ locals.
      pass_all ! refl (((rawptr_Lawful 𝓛).typed pointer (ptr_val pointer ∷ []) refl).0, (fits, tt)) $
      sets ! (agg ! (and_then ! (get ! refl) (and_then ! (get ! refl) (no_more !)))) refl typed $
      returns ! (look_at ! 0 refl) $ free_all ! refl $
      suffices ! _ (ends_at 𝓛 F.ended kept (F.clauses 𝓛 at_mem run) z whole_word handle (tt, (tt, tt)) (tt, (tt, tt))) $ says ! refl $
      nothing ! $ nothing ! $ fjoin ! $ nothing ! $ move ! (0 ∷ []) $ fjoin ! $ join ! $ nothing ! $ join ! $ done !))))))

pub nowhere_spec : {M : Type 1} → stated.statement M
unfolding tables_of
nowhere_spec 𝓤 𝓛 𝓜 𝓡 wired =
    let 𝓣 : Tables 𝓤 𝓛.H = tables_of 𝓤 𝓛.H 𝓜 (tables 𝓤 𝓛.H 𝓜 𝓡 𝓡.env) in
    entered 𝓤 𝓛.H (triple_of 𝓛 F.signature (F.spec 𝓛 𝓜.mem 𝓡.returns)) 𝓣.C 𝓣.Λ #self code.function (code.unfolded 𝓤 𝓛.H 𝓜 𝓡 wired)
    (walk_Meets 𝓛 F.ended kept (Goes-dropped 𝓛 0 (plain (λ _. RawPtr)) yes (λ κs x f. refl), (Goes-dropped 𝓛 0 (plain (λ _. Heap.the_row)) yes (λ κs x f. refl), tt)) (F.clauses 𝓛 𝓜.mem 𝓡.returns) (WpFn 𝓤 𝓛.H 𝓣.C 𝓣.Λ code.function) (WpFn-mono 𝓤 𝓛.H 𝓛.laws 𝓣 code.function)
    (walk 𝓛 𝓜.mem 𝓡.returns 𝓣))
