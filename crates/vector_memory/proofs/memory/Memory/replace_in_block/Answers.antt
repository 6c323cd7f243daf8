use Rattle.std.proofs.Common.{◌≡◌, ℕ, ◌+◌, ◌≤◌, ◌-◌, Bool, true, false, cond, not, ◌&&◌, ltb, leb, length, List, Option, Some, None, refl, sym, ap, subst, ◌∙◌}
use Rattle.std.specs.Prelude.{unwrap_or, is_some, Err}
use Rattle.std.specs.Map.{lookup}
use Rattle.std.specs.Option.{option_map}
use Rattle.indexmap.specs.IndexMap.{insert_entry, spare}
use Rattle.vector_memory.specs.declared.name.Name.{Name}
use Rattle.vector_memory.specs.declared.memory.Memory.TheInside.{Inside}
use Rattle.vector_memory.specs.declared.value.Value.{Value}
use Rattle.vector_memory.specs.declared.memory.StoreFault.{StoreFault}
use Rattle.vector_memory.specs.declared.memory.StoreFault.TheVariants.{NoRoom, OutOfMemory, TooManyNames}
use Rattle.vector_memory.specs.Contents.{Content, content_of, size_of}
use Rattle.vector_memory.specs.Names.{same_name}
use Rattle.vector_memory.specs.States.{State, IsLawful, cells_of, IsJudged, cells_after, contents, name_limit, old_size, put, refusal, value_at}
use Rattle.vector_memory.specs.Blocks.{shown}
use Rattle.vector_memory.specs.Insides.{refusal_by, state_of}
use Rattle.vector_memory.proofs.BlockViews.{change-begun, under_way, value_at-shown}
use Rattle.vector_memory.proofs.BlockChanges.{counted-put, distinct-insert, kept-changed, refusal-sizes, view-put}
use Rattle.vector_memory.proofs.StateLemmas.{IsLawful-put, cells-put, contents-insert_entry, length-contents, old_size_le_cells}
use Rattle.vector_memory.proofs.memory.Memory.replace_in_block.Goals as goal

-- the size that was found is the size of what stands there
module _ (i : Inside) (m : State) (n : Name) (size : Option ℕ) (found : size ≡ option_map size_of (option_map content_of (lookup (same_name n) (shown i.values.entries i.block)))) (seen : state_of i ≡ m) where
  is_size : size ≡ option_map size_of (value_at m n)
  is_size = found ∙ ap (option_map size_of) (value_at-shown i m n seen)

-- a size is no reason for a want of memory
never : (a b : Bool) → cond a (Some NoRoom) (cond b (Some TooManyNames) None) ≡ Some OutOfMemory → ⊥
never true b e = cc
never false true e = cc
never false false e = cc

judged : (m : State) (old : Option ℕ) (size : ℕ) (why : Option StoreFault) (fault : StoreFault) → refusal_by m old size ≡ Some fault → why ≡ Some fault → IsJudged {A = Option Value} (Err fault) why
judged m old size why NoRoom is e = e
judged m old size why TooManyNames is e = e
judged m old size why OutOfMemory is e = absurd (never (ltb m.room ((cells_of m.entries - unwrap_or old 0) + size)) (not (is_some old) && leb name_limit (length m.entries)) is)

pub returns-in-Err-clause-judged : goal.returns-in-Err-clause-judged
returns-in-Err-clause-judged c =
    let now = c.args.self.now in
    let name = c.args.name in
    let old = is_size c.self.inside now name c.seek-spot.result.size c.seek-spot.ensures.size c.self.view_is in
    judged now c.seek-spot.result.size c.size.result (refusal now name (content_of c.args.value)) c.in-Err.refusal c.in-Err.ensures.refused
    (refusal-sizes now name (content_of c.args.value) c.seek-spot.result.size c.size.result old c.size.ensures ∙ c.in-Err.ensures.refused)

pub returns-clause-judged : goal.returns-clause-judged
returns-clause-judged c =
    let now = c.args.self.now in
    let name = c.args.name in
    let old = is_size c.self.inside now name c.seek-spot.result.size c.seek-spot.ensures.size c.self.view_is in
    refusal-sizes now name (content_of c.args.value) c.seek-spot.result.size c.size.result old c.size.ensures ∙ c.in-Ok.ensures.accepted

pub count-requires-clause-old : goal.count-requires-clause-old
count-requires-clause-old c =
    let old = is_size c.self.inside c.args.self.now c.args.name c.seek-spot.result.size c.seek-spot.ensures.size c.self.view_is in
    subst (λ (o : Option ℕ). unwrap_or o 0 ≤ cells_of c.args.self.now.entries) (sym old) (old_size_le_cells c.args.self.now c.args.name)

pub invariant_of-self : goal.invariant_of-self
invariant_of-self c =
    let i = c.self.inside in
    let now = c.args.self.now in
    let name = c.args.name in
    let content = content_of c.args.value in
    let begun = change-begun i now c.self.view_is c.requires.change_left in
    let old_is = is_size i now name c.seek-spot.result.size c.seek-spot.ensures.size c.self.view_is in
    let kept = under_way i.block.begun i.values.entries (spare i.values) i.block i.room i.limit begun c.self.invariant.block in
    let is_begun = c.put-before.ensures.begun ∙ begun in
    let b = c.put-before.new.self in
    let j : Inside = record { values = c.put-before.new.held; cells = c.in-Ok.cells; room = i.room; limit = i.limit; block = record { begun = b.begun; left = b.left; names = b.names + c.one_if.result; cells = b.cells; replaced = b.replaced; freed = b.freed; late = b.late } } in
    let old = shown i.values.entries i.block in
    let all = insert_entry same_name old name c.args.value in
    let seen = view-put i j now name c.self.view_is begun is_begun c.put-before.ensures.before c.put-before.ensures.left refl refl c.args.value c.put-before.ensures.shown in
    let entries : contents all ≡ (put now name content).entries = contents-insert_entry old name c.args.value ∙ ap (λ (m : State). (put m name content).entries) c.self.view_is in
    let accepted = refusal-sizes now name content c.seek-spot.result.size c.size.result old_is c.size.ensures ∙ c.in-Ok.ensures.accepted in
    let before : IsLawful now = subst IsLawful c.self.view_is c.self.invariant.lawful in
    let lawful = IsLawful-put now name content before accepted c.requires.fits (distinct-insert now.entries name content before.distinct) in
    let cells : c.in-Ok.cells ≡ cells_after now name content = c.in-Ok.ensures.cells
    ∙ ap (λ (o : Option ℕ). (cells_of now.entries - unwrap_or o 0) + c.size.result) old_is ∙ ap (λ (n : ℕ). (cells_of now.entries - old_size now name) + n) c.size.ensures in
    let names = counted-put b.names c.one_if.result c.is_none.result c.seek-spot.result.size now.entries name content
    (c.put-before.ensures.names ∙ kept.names ∙ sym (length-contents old) ∙ ap (λ (m : State). length m.entries) c.self.view_is) c.one_if.ensures c.is_none.ensures old_is in
    let room = c.put-before.ensures.room in
    kept-changed i j all (put now name content) kept is_begun c.put-before.ensures.shown c.put-before.ensures.before refl refl seen lawful
    (cells ∙ sym (cells-put now name content) ∙ ap cells_of (sym entries))
    (names ∙ ap (λ (es : List (Name × Content)). length es) (sym entries))
    c.put-before.ensures.cells (record { replaced = room.replaced; freed = room.freed; late = room.late; held = room.held })

pub returns-clause-ok : goal.returns-clause-ok
returns-clause-ok c =
    let i = c.self.inside in
    let begun = change-begun i c.args.self.now c.self.view_is c.requires.change_left in
    let b = c.put-before.new.self in
    let j : Inside = record { values = c.put-before.new.held; cells = c.in-Ok.cells; room = i.room; limit = i.limit; block = record { begun = b.begun; left = b.left; names = b.names + c.one_if.result; cells = b.cells; replaced = b.replaced; freed = b.freed; late = b.late } } in
    view-put i j c.args.self.now c.args.name c.self.view_is begun (c.put-before.ensures.begun ∙ begun) c.put-before.ensures.before c.put-before.ensures.left refl refl c.args.value c.put-before.ensures.shown
