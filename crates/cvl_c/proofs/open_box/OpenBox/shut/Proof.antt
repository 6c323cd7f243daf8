-- What an open box owns goes into `from_raw`, which gives a box of it.
use mathlib.Core.Path.{◌≡◌, refl, sym, subst, ap}
use mathlib.Core.List.{List, [], ◌∷◌, ◌++◌}
use lib.Dec.{T}
use seplogic.Ra.Ura.{Ura}
use mir.Syntax.{Fn, Body, place, copy, assign, rv_opd, seq, return}
use mir.MapTy.{inst_fn}
use mir.Val.{Val, vptr, has_ty, WT}
use base.Logic.{SProp, ent, id⊢}
use base.Fml.{ftrue, fsep, flft}
use contract.BorrowLft.{◌⊑◌}
use prog.Memory.{Memory}
use prog.Routine.{Routine}
use prog.Wp.{WpFn, Tables}
use types.Logic.{Logic}
use contract.Monad.{Fun, fact}
use contract.Running.{tables, tables_of}
use sound.WpLaws.{fm_of, WpFn-mono}
use types.Kit.{Item, at_ret, ‵, raw, ◌⊛◌, some, later, ◌$◌, ◌∵◌, !, qed, by, move, drop, use1, join, split, split3, pick, rewrite, fsplit, fjoin, feq_i, suffices, await, done}
use types.Part.{whole, sub}
use types.Run.{stop, fld, no_more, and_then, of_opd, returns, enter, first, blocks, exec}
use types.ByLocal.{alloc_all, pass_all, free_all, look_at, get, get_in, sets, lands_last, env}
use denote.Exit.{no}
use denote.RawPtr.{block_ptr}
use denote.Signature.{plain}
use denote.Steps.{heard, nothing, only}
use denote.Triple.Call.{calls_at_last}
use denote.Triple.Clauses.{Ended, Clauses}
use denote.Triple.Spec.{triple_of}
use denote.Triple.Statement.{Triple, Contract}
use denote.Triple.Table.{entered}
use denote.Triple.Walked.{says, Stays, stay_dropped, walk_of, ends_at, walk_Meets}
use Rattle.core.proofs.alloc.Calls.{token, Goes-blank}
use Rattle.std_alloc.specs.Box.Ownership.{box_owns}
use Rattle.std_alloc.proofs.BoxSteps.Form.{Bx, D, R, P, B, args, box_ty, word, box_typed}
use Rattle.std_alloc.proofs.BoxSteps.Steps.{box_out, box_in}
use Rattle.std_alloc.specs.contracts.boxed.Box.from_raw as FromRaw
use Rattle.std_alloc.proofs.boxed.Box.from_raw.Symbol as from_raw
use Rattle.std_alloc.proofs.boxed.Box.from_raw.Met as from_raw_met
use Rattle.cvl_c.proofs.Boxes.{Opened, at_words, alone_is}
use Rattle.cvl_c.specs.contracts.open_box.OpenBox.shut as F
use Rattle.cvl_c.specs.contracts.open_box.OpenBox.shut.Key.{name as #self}
use Rattle.cvl_c.proofs.open_box.OpenBox.shut.Statement as stated
use Rattle.cvl_c.proofs.open_box.OpenBox.shut.Code as code

-- what is left to run behind the unsafe block
abbrev behind : Body
behind = seq (assign (place 0 []) (rv_opd (copy (place 4 [])))) return

module _ (E : Bx) where
  abbrev function : Fn
  function = inst_fn (args E) code.function

  abbrev ended : Ended
  ended = F.ended E.row E.al.row E.al.g E.al.d E.al.drops

  abbrev kept : Stays ended.signature.params ended.kept
  kept = (stay_dropped (plain (λ _. Opened E)) no, tt)

  module _ {M : Type 1} {𝓤 : Ura M} (𝓛 : Logic 𝓤) (at_mem : Memory → SProp 𝓤) (run : Routine → Fun 𝓤) (𝓣 : Tables 𝓤 𝓛.H) where
    open 𝓛 use {H}

    abbrev clauses : Clauses 𝓤 ended
    clauses = F.clauses E.row E.al.row E.al.g E.al.d E.al.drops 𝓛 at_mem run

    -- the contract of `from_raw`
    abbrev Shutting : Contract 𝓤
    Shutting = triple_of 𝓛 (FromRaw.signature E.row E.al.row E.al.g E.al.d E.al.drops) (FromRaw.spec E.row E.al.row E.al.g E.al.d E.al.drops 𝓛 at_mem run)

    walk : Triple 𝓤 (𝓣.C (from_raw.name (args E))) Shutting
        → (z : (walk_of 𝓛 ended kept clauses).Ghost) → ent 𝓤 ((walk_of 𝓛 ended kept clauses).pre z) (WpFn 𝓤 H 𝓣.C 𝓣.Λ function (z.0.4.0 ++ []) ((walk_of 𝓛 ended kept clauses).post z))
    walk meets z =
        let contract = walk_of 𝓛 ended kept clauses in
        let κs = z.0.0 in let qs = z.0.1 in let open_box = z.0.3.0 in
        let boxed : D E = record { ptr = open_box.ptr; alloc = open_box.alloc; value = open_box.value } in
        let tokens : Item 𝓤 = ‵ (flft κs.0 qs.0) ⊛ ‵ (flft κs.1.0 qs.1.0) ⊛ ‵ ftrue in
        let value_lives : Item 𝓤 = raw (fact 𝓤 (κs.0 ⊑ E.row.lives)) in
        let allocator_lives : Item 𝓤 = raw (fact 𝓤 (κs.1.0 ⊑ E.al.row.lives)) in
        qed 𝓛 ((tokens ⊛ ‵ (fsep ((B E).own_val boxed z.0.4.0) ftrue)) ∷ (value_lives ⊛ allocator_lives ⊛ ‵ ftrue) ∷ []) ∵
        split ! $ move ! (1 ∷ []) $ fsplit ! $ box_out E ! boxed z.0.4.0 (λ block offset allocator at_block words fits.
        let whole_word = word E allocator block offset in
        let typed = box_typed E allocator block offset fits in
        let y : Shutting.Ghost = ((κs, qs, tt, (boxed.alloc, (block_ptr block offset, tt)), (allocator ∷ [], (vptr block offset ∷ [], tt))), boxed.value) in
        let Γ : List (Item 𝓤) = ‵ (box_owns (token E.al boxed.alloc) (R E) (block_ptr block offset) boxed.value) ∷ ‵ ((P E).own_val boxed.alloc (allocator ∷ [])) ∷ ‵ ftrue ∷ tokens ∷ (value_lives ⊛ allocator_lives ⊛ ‵ ftrue) ∷ [] in
        fjoin ! $ by ! (at_words 𝓛 𝓣 function Γ (contract.post z) (z.0.4.0 ++ []) (whole_word ∷ []) (alone_is words)
        (qed 𝓛 Γ ∵ enter ! 𝓣.C 𝓣.Λ function (whole_word ∷ []) _ $ alloc_all ! (λ locals. pass_all ! refl (typed, tt) $
        sets ! (of_opd ! (get_in ! (fld ! refl (stop !)) (sub ! 0 refl (whole !)))) refl (tt, tt) $
        sets ! (of_opd ! (get_in ! (fld ! refl (stop !)) (sub ! 1 refl (whole !)))) refl fits $
        first ! $ blocks ! $ sets ! (of_opd ! (get ! refl)) refl fits $
        -- what `from_raw` asks for: the tokens with the arguments, the lives, and the memory of the box
        move ! (4 ∷ []) $ split3 ! $ move ! (2 ∷ []) $ drop ! $ move ! (1 ∷ 2 ∷ []) $ join ! $ move ! (1 ∷ 0 ∷ []) $ join ! $
        move ! (2 ∷ []) $ feq_i ! (List Val) (vptr block offset ∷ []) (vptr block offset ∷ []) refl $ fjoin ! $ move ! (2 ∷ 0 ∷ []) $ fjoin ! $
        move ! (2 ∷ 0 ∷ []) $ join ! $ join ! $ use1 𝓛 (raw (Shutting.pre y)) (id⊢ 𝓤 _) $
        calls_at_last ! (fm_of 𝓤 H 𝓛.laws 𝓣) Shutting meets y (and_then ! (get ! refl) (and_then ! (get ! refl) (no_more !))) (λ answer.
        use1 𝓛 (later (some (λ (made : D E). (tokens ⊛ ‵ ((B E).own_val made (answer ∷ []))) ⊛ some (λ (_ : Unit {0} × (Unit {0} × Unit {0})).
        ‵ (fsep ftrue (fsep ftrue ftrue)) ⊛ (raw (fact 𝓤 (made.value ≡ boxed.value)) ⊛ raw (fact 𝓤 (made.alloc ≡ boxed.alloc))))))) (id⊢ 𝓤 _) $
        await ! tt $ pick ! (λ made. split ! $ move ! (1 ∷ []) $ pick ! (λ _. split3 ! $ drop ! $ heard ! (made.value ≡ boxed.value) (λ same_value. drop ! $ split ! $ move ! (1 ∷ []) $
        box_out E ! made (answer ∷ []) (λ block' offset' allocator' at_block' words' fits'.
        box_in E ! made block' offset' made.value at_block' refl $ rewrite ! 0 (λ (us : List Val). ‵ ((B E).own_val made us)) (sym words') refl $
        let answer_typed : T (has_ty (box_ty E) answer) × WT answer = subst (λ (v : Val). T (has_ty (box_ty E) v) × WT v) (sym (ap only words')) (box_typed E allocator' block' offset' fits') in
        lands_last ! refl answer_typed $ exec ! 𝓣.C 𝓣.Λ (env function.locals locals) behind (at_ret (env function.locals locals) (contract.post z)) $
        sets ! (of_opd ! (get ! refl)) refl answer_typed $ returns ! (look_at ! 0 refl) $ free_all ! refl $
        suffices ! _ (ends_at 𝓛 ended kept clauses z answer made ((tt, (tt, tt)), tt) (tt, tt)) $ says ! same_value $
        nothing ! $ nothing ! $ fjoin ! $ join ! $ move ! (1 ∷ 0 ∷ []) $ join ! $ done !)))))))))

pub shut_spec : {M : Type 1} → stated.statement M
unfolding tables_of
shut_spec 𝓤 𝓛 𝓜 𝓡 wired Row Heap RowLaws HeapLaws ghosts dict drops allocator drops_met =
    let E : Bx = record { row = Row; laws = RowLaws; al = record { row = Heap; laws = HeapLaws; g = ghosts; d = dict; drops = drops } } in
    let 𝓣 : Tables 𝓤 𝓛.H = tables_of 𝓤 𝓛.H 𝓜 (tables 𝓤 𝓛.H 𝓜 𝓡 𝓡.env) in
    entered 𝓤 𝓛.H (triple_of 𝓛 (ended E).signature (F.spec Row Heap ghosts dict drops 𝓛 𝓜.mem 𝓡.returns)) 𝓣.C 𝓣.Λ (#self (args E)) (function E) (code.unfolded 𝓤 𝓛.H 𝓜 𝓡 wired (Row, (Heap, tt)) dict drops)
    (walk_Meets 𝓛 (ended E) (kept E) (Goes-blank 𝓛 2 (plain (λ _. Opened E)) no (λ κs x f. tt), tt) (clauses E 𝓛 𝓜.mem 𝓡.returns 𝓣) (WpFn 𝓤 𝓛.H 𝓣.C 𝓣.Λ (function E)) (WpFn-mono 𝓤 𝓛.H 𝓛.laws 𝓣 (function E))
    (walk E 𝓛 𝓜.mem 𝓡.returns 𝓣 (from_raw_met.met 𝓤 𝓛 𝓜 𝓡 (code.calls-std_alloc::boxed::Box::from_raw 𝓡.env wired) Row Heap RowLaws HeapLaws ghosts dict drops allocator drops_met)))
