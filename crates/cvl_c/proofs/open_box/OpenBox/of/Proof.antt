-- What `into_raw_with_allocator` gives for a box is what an open box owns.
use mathlib.Core.Path.{◌≡◌, refl, ap, ◌∙◌}
use mathlib.Core.List.{List, [], ◌∷◌, ◌++◌}
use seplogic.Ra.Ura.{Ura}
use mir.Syntax.{Fn, Args, Dict, a_type, dcons, dnil}
use mir.MapTy.{inst_fn}
use mir.Raw.{raw as bare}
use mir.Val.{vstruct, of_list}
use base.Logic.{SProp, ent, id⊢, never, fst∗}
use base.Fml.{ftrue, fsep, flft}
use contract.BorrowLft.{◌⊑◌}
use prog.Memory.{Memory}
use prog.Routine.{Routine}
use prog.Wp.{WpFn, Tables}
use types.Logic.{Logic, sem}
use contract.Monad.{Fun, fact}
use contract.Running.{tables, tables_of}
use sound.WpLaws.{fm_of, WpFn-mono}
use types.Kit.{Item, ‵, raw, ◌⊛◌, some, later, ◌$◌, ◌∵◌, !, qed, by, move, drop, use1, join, split, split3, pick, rewrite, fsplit, fjoin, fpick, feq_l, suffices, await, done}
use types.Part.{whole, sub, agg}
use types.Run.{stop, fld, no_more, and_then, of_opd, returns, enter}
use types.ByLocal.{alloc_all, pass_all, free_all, look_at, get, get_in, sets, lands_as}
use denote.Exit.{no}
use denote.Param.{bounded}
use denote.RawPtr.{Ptr, RawPtr, block_ptr, null_ptr, ptr_val, in_a_block}
use denote.RattleType.{RattleType}
use denote.Signature.{plain}
use denote.Steps.{heard, nothing, only}
use denote.Struct.Tuple.{Tuple}
use denote.Triple.Call.{calls_at}
use denote.Triple.Clauses.{Ended, Clauses}
use denote.Triple.Spec.{triple_of}
use denote.Triple.Statement.{Triple, Contract}
use denote.Triple.Table.{entered}
use denote.Triple.Walked.{says, Stays, stay_dropped, walk_of, ends_at, walk_Meets}
use Rattle.core.proofs.alloc.Calls.{token, handle_tells, Goes-blank}
use Rattle.std_alloc.specs.Box.Ownership.{box_owns}
use Rattle.std_alloc.proofs.BoxSteps.Form.{Bx, D, τ, R, P, B, word, box_typed}
use Rattle.std_alloc.proofs.BoxSteps.Steps.{box_out, box_in}
use Rattle.std_alloc.specs.contracts.boxed.Box.into_raw_with_allocator as IntoRaw
use Rattle.std_alloc.proofs.boxed.Box.into_raw_with_allocator.Symbol as into_raw
use Rattle.std_alloc.proofs.boxed.Box.into_raw_with_allocator.Met as into_raw_met
use Rattle.cvl_c.proofs.Boxes.{Opened, at_words, alone_is}
use Rattle.cvl_c.specs.contracts.open_box.OpenBox.of as F
use Rattle.cvl_c.specs.contracts.open_box.OpenBox.of.Key.{name as #self}
use Rattle.cvl_c.proofs.open_box.OpenBox.of.Statement as stated
use Rattle.cvl_c.proofs.open_box.OpenBox.of.Code as code

module _ (E : Bx) (destruct : Dict) where
  abbrev args : Args
  args = bounded (a_type ∷ a_type ∷ []) (E.row, (E.al.row, tt)) (dcons E.al.d (dcons E.al.drops (dcons destruct dnil)))

  abbrev function : Fn
  function = inst_fn args code.function

  abbrev ended : Ended
  ended = F.ended E.row E.al.row E.al.g E.al.d E.al.drops destruct

  abbrev kept : Stays ended.signature.params ended.kept
  kept = (stay_dropped (plain (λ _. B E)) no, tt)

  -- what `into_raw_with_allocator` returns
  abbrev Pair : RattleType
  Pair = Tuple (RawPtr ∷ P E ∷ [])

  module _ {M : Type 1} {𝓤 : Ura M} (𝓛 : Logic 𝓤) (at_mem : Memory → SProp 𝓤) (run : Routine → Fun 𝓤) (𝓣 : Tables 𝓤 𝓛.H) where
    open 𝓛 use {H}

    abbrev clauses : Clauses 𝓤 ended
    clauses = F.clauses E.row E.al.row E.al.g E.al.d E.al.drops destruct 𝓛 at_mem run

    -- its contract
    abbrev Opening : Contract 𝓤
    Opening = triple_of 𝓛 (IntoRaw.signature E.row E.al.row E.al.g E.al.d E.al.drops destruct) (IntoRaw.spec E.row E.al.row E.al.g E.al.d E.al.drops destruct 𝓛 at_mem run)

    walk : Triple 𝓤 (𝓣.C (into_raw.name args)) Opening
        → (z : (walk_of 𝓛 ended kept clauses).Ghost) → ent 𝓤 ((walk_of 𝓛 ended kept clauses).pre z) (WpFn 𝓤 H 𝓣.C 𝓣.Λ function (z.0.4.0 ++ []) ((walk_of 𝓛 ended kept clauses).post z))
    walk meets z =
        let contract = walk_of 𝓛 ended kept clauses in
        let κs = z.0.0 in let qs = z.0.1 in let boxed = z.0.3.0 in let heap = boxed.alloc in
        let tokens : Item 𝓤 = ‵ (flft κs.0 qs.0) ⊛ ‵ (flft κs.1.0 qs.1.0) ⊛ ‵ ftrue in
        let lives : Item 𝓤 = raw (fact 𝓤 (κs.0 ⊑ E.row.lives)) ⊛ raw (fact 𝓤 (κs.1.0 ⊑ E.al.row.lives)) ⊛ ‵ ftrue in
        let memory : Ptr → SProp 𝓤 = λ p. sem 𝓛 (box_owns (token E.al heap) (R E) p boxed.value) in
        qed 𝓛 ((tokens ⊛ ‵ (fsep ((B E).own_val boxed z.0.4.0) ftrue)) ∷ lives ∷ []) ∵
        split ! $ move ! (1 ∷ []) $ fsplit ! $ box_out E ! boxed z.0.4.0 (λ block offset allocator at_block words fits. box_in E ! boxed block offset boxed.value at_block refl $
        let whole_word = word E allocator block offset in
        let typed = box_typed E allocator block offset fits in
        let y : Opening.Ghost = ((κs, qs, tt, (boxed, tt), (whole_word ∷ [], tt)), tt) in
        let Γ : List (Item 𝓤) = ‵ ((B E).own_val boxed (whole_word ∷ [])) ∷ ‵ ftrue ∷ tokens ∷ lives ∷ [] in
        by ! (at_words 𝓛 𝓣 function Γ (contract.post z) (z.0.4.0 ++ []) (whole_word ∷ []) (alone_is words)
        (qed 𝓛 Γ ∵ enter ! 𝓣.C 𝓣.Λ function (whole_word ∷ []) _ $ alloc_all ! (λ locals. pass_all ! refl (typed, tt) $
        sets ! (of_opd ! (get ! refl)) refl typed $
        fjoin ! $ move ! (1 ∷ 0 ∷ []) $ join ! $ join ! $ use1 𝓛 (raw (Opening.pre y)) (id⊢ 𝓤 _) $
        calls_at ! (fm_of 𝓤 H 𝓛.laws 𝓣) Opening meets y (and_then ! (get ! refl) (no_more !)) (λ answer.
        use1 𝓛 (later (some (λ (pair : Ptr × E.al.row.Denot). (tokens ⊛ ‵ (Pair.own_val pair (answer ∷ []))) ⊛ some (λ (_ : (Unit {0} × (Unit {0} × Unit {0})) × Unit {0}).
        ‵ (fsep (fsep ftrue (fsep ftrue ftrue)) ftrue) ⊛ (raw (fact 𝓤 (pair.1 ≡ heap)) ⊛ raw (memory pair.0)))))) (id⊢ 𝓤 _) $
        await ! tt $ pick ! (λ pair. split ! $ move ! (1 ∷ []) $ pick ! (λ _. split3 ! $ drop ! $ heard ! (pair.1 ≡ heap) (λ same_heap.
        use1 𝓛 (‵ (box_owns (token E.al heap) (R E) pair.0 boxed.value)) (id⊢ 𝓤 _) $
        in_a_block ! pair.0 (λ p. box_owns (token E.al heap) (R E) p boxed.value) (fst∗ 𝓤 (never 𝓤) (sem 𝓛 (token E.al heap (bare (τ E)) null_ptr))) (λ block' offset' at_block'.
        -- the pair, in its two words
        move ! (1 ∷ []) $ split ! $ move ! (1 ∷ []) $ fpick ! (λ parts. fsplit ! $ feq_l ! (λ is_pair. fsplit ! $ feq_l ! (λ is_pointer. fsplit ! $
        rewrite ! 0 (λ (a : E.al.row.Denot). ‵ (E.al.row.own_val a parts.1.0)) same_heap refl $ handle_tells E.al ! heap parts.1.0 (λ allocator' is_allocator fits'.
        let to_box : D E = record { ptr = block_ptr block' offset'; alloc = heap; value = boxed.value } in
        let made : (Opened E).Denot = record { ptr = block_ptr block' offset'; alloc = heap; value = boxed.value } in
        let made_word = word E allocator' block' offset' in
        let made_typed = box_typed E allocator' block' offset' fits' in
        lands_as ! (ap only (is_pair ∙ (λ j. vstruct (of_list ((is_pointer ∙ ap (λ (p : Ptr). ptr_val p ∷ []) at_block') j ++ (is_allocator j ++ []))) ∷ []))) refl made_typed $
        sets ! (of_opd ! (get_in ! (fld ! refl (stop !)) (sub ! 0 refl (whole !)))) refl (tt, tt) $
        sets ! (of_opd ! (get_in ! (fld ! refl (stop !)) (sub ! 1 refl (whole !)))) refl fits' $
        sets ! (of_opd ! (get ! refl)) refl fits' $
        sets ! (agg ! (and_then ! (get ! refl) (and_then ! (get ! refl) (no_more !)))) refl made_typed $
        returns ! (look_at ! 0 refl) $ free_all ! refl $
        -- [the allocator; true; the tokens; the memory]
        move ! (3 ∷ []) $ fsplit ! $ box_in E ! to_box block' offset' boxed.value refl refl $ use1 𝓛 (‵ ((Opened E).own_val made (made_word ∷ []))) (id⊢ 𝓤 _) $ move ! (1 ∷ []) $ drop ! $
        suffices ! _ (ends_at 𝓛 ended kept clauses z made_word made ((tt, (tt, tt)), tt) (tt, tt)) $ says ! refl $
        nothing ! $ nothing ! $ fjoin ! $ join ! $ move ! (1 ∷ 0 ∷ []) $ join ! $ done !)))))))))))))

pub of_spec : {M : Type 1} → stated.statement M
unfolding tables_of
of_spec 𝓤 𝓛 𝓜 𝓡 wired Row Heap RowLaws HeapLaws ghosts dict drops destruct allocator drops_met destructs =
    let E : Bx = record { row = Row; laws = RowLaws; al = record { row = Heap; laws = HeapLaws; g = ghosts; d = dict; drops = drops } } in
    let 𝓣 : Tables 𝓤 𝓛.H = tables_of 𝓤 𝓛.H 𝓜 (tables 𝓤 𝓛.H 𝓜 𝓡 𝓡.env) in
    entered 𝓤 𝓛.H (triple_of 𝓛 (ended E destruct).signature (F.spec Row Heap ghosts dict drops destruct 𝓛 𝓜.mem 𝓡.returns)) 𝓣.C 𝓣.Λ (#self (args E destruct)) (function E destruct)
    (code.unfolded 𝓤 𝓛.H 𝓜 𝓡 wired (Row, (Heap, tt)) dict drops destruct)
    (walk_Meets 𝓛 (ended E destruct) (kept E destruct) (Goes-blank 𝓛 2 (plain (λ _. B E)) no (λ κs x f. tt), tt) (clauses E destruct 𝓛 𝓜.mem 𝓡.returns 𝓣)
    (WpFn 𝓤 𝓛.H 𝓣.C 𝓣.Λ (function E destruct)) (WpFn-mono 𝓤 𝓛.H 𝓛.laws 𝓣 (function E destruct))
    (walk E destruct 𝓛 𝓜.mem 𝓡.returns 𝓣 (into_raw_met.met 𝓤 𝓛 𝓜 𝓡 (code.calls-std_alloc::boxed::Box::into_raw_with_allocator 𝓡.env wired) Row Heap RowLaws HeapLaws ghosts dict drops destruct allocator drops_met destructs)))
