use Rattle.std.proofs.Common.{◌≡◌, ℕ, ◌-◌, length, List, Option, None, Some, true, refl, sym, ap, subst, ◌∙◌, arith}
use Rattle.std.specs.Prelude.{is_some, unwrap_or}
use Rattle.std.specs.Map.{lookup, remove_entry}
use Rattle.std.specs.Option.{option_map}
use Rattle.indexmap.specs.IndexMap.{spare}
use Rattle.vector_memory.specs.declared.name.Name.{Name}
use Rattle.vector_memory.specs.declared.memory.Memory.TheInside.{Inside}
use Rattle.vector_memory.specs.Contents.{Content, content_of, size_of}
use Rattle.vector_memory.specs.Names.{same_name}
use Rattle.vector_memory.specs.States.{State, IsLawful, cells_of, contents, without, value_at}
use Rattle.vector_memory.specs.Blocks.{shown}
use Rattle.vector_memory.specs.Insides.{state_of}
use Rattle.vector_memory.proofs.BlockViews.{change-begun, under_way, value_at-shown}
use Rattle.vector_memory.proofs.BlockChanges.{distinct-held, distinct-remove, kept-changed, length-removed, view-freed}
use Rattle.vector_memory.proofs.StateLemmas.{IsLawful-without, cells-remove_entry, contents-remove_entry, length-contents, old_size_le_cells, without-absent}
use Rattle.vector_memory.proofs.memory.Memory.free_in_block.Goals as goal

-- a size tells that there is a value
there : (o : Option Content) (n : ℕ) → option_map size_of o ≡ Some n → is_some o ≡ true
there None n e = absurd cc
there (Some x) n e = refl

absent : (o : Option Content) → option_map size_of o ≡ None → o ≡ None
absent None e = refl
absent (Some x) e = absurd cc

sized : (o : Option Content) (n : ℕ) → option_map size_of o ≡ Some n → unwrap_or (option_map size_of o) 0 ≡ n
sized o n e = ap (λ (p : Option ℕ). unwrap_or p 0) e

-- the size that was found is the size of what stands there
module _ (i : Inside) (m : State) (n : Name) (size : Option ℕ) (found : size ≡ option_map size_of (option_map content_of (lookup (same_name n) (shown i.values.entries i.block)))) (seen : state_of i ≡ m) where
  is_size : size ≡ option_map size_of (value_at m n)
  is_size = found ∙ ap (option_map size_of) (value_at-shown i m n seen)

pub returns-in_default-clause-was : goal.returns-in_default-clause-was
returns-in_default-clause-was c =
    sym (ap is_some (absent (value_at c.args.self.now c.args.name.now) (sym (is_size c.self.inside c.args.self.now c.args.name.now c.seek-spot.result.size c.seek-spot.ensures.size c.self.view_is) ∙ c.in_default.is)))

pub returns-in_default-clause-taken : goal.returns-in_default-clause-taken
returns-in_default-clause-taken c =
    sym (without-absent c.args.self.now c.args.name.now (absent (value_at c.args.self.now c.args.name.now) (sym (is_size c.self.inside c.args.self.now c.args.name.now c.seek-spot.result.size c.seek-spot.ensures.size c.self.view_is) ∙ c.in_default.is)))

pub take-requires-clause-unique : goal.take-requires-clause-unique
take-requires-clause-unique c =
    let i = c.self.inside in
    let begun = change-begun i c.args.self.now c.self.view_is c.requires in
    distinct-held i.values.entries i.block i.room i.limit (under_way i.block.begun i.values.entries (spare i.values) i.block i.room i.limit begun c.self.invariant.block).lawful

pub overflow_sub-self-2 : goal.overflow_sub-self-2
overflow_sub-self-2 c =
    let now = c.args.self.now in
    let name = c.args.name.now in
    let had = sized (value_at now name) c.in-Some.size (sym (is_size c.self.inside c.args.self.now c.args.name.now c.seek-spot.result.size c.seek-spot.ensures.size c.self.view_is) ∙ c.in-Some.is) in
    let counted : c.self.inside.cells ≡ cells_of now.entries = c.self.invariant.counted ∙ ap (λ (m : State). cells_of m.entries) c.self.view_is in
    omega (arith, old_size_le_cells now name)

pub returns-clause-was : goal.returns-clause-was
returns-clause-was c = sym (there (value_at c.args.self.now c.args.name.now) c.in-Some.size (sym (is_size c.self.inside c.args.self.now c.args.name.now c.seek-spot.result.size c.seek-spot.ensures.size c.self.view_is) ∙ c.in-Some.is))

pub invariant_of-self : goal.invariant_of-self
invariant_of-self c =
    let i = c.self.inside in
    let now = c.args.self.now in
    let name = c.args.name.now in
    let begun = change-begun i now c.self.view_is c.requires in
    let kept = under_way i.block.begun i.values.entries (spare i.values) i.block i.room i.limit begun c.self.invariant.block in
    let is_begun = c.take.ensures.begun ∙ begun in
    let b = c.take.new.self in
    let j : Inside = record { values = i.values; cells = i.cells - c.in-Some.size; room = i.room; limit = i.limit; block = record { begun = b.begun; left = b.left; names = b.names - 1; cells = b.cells; replaced = b.replaced; freed = b.freed; late = b.late } } in
    let old = shown i.values.entries i.block in
    let all = remove_entry (same_name name) old in
    let found = there (value_at now name) c.in-Some.size (sym (is_size c.self.inside c.args.self.now c.args.name.now c.seek-spot.result.size c.seek-spot.ensures.size c.self.view_is) ∙ c.in-Some.is) in
    let entries : contents all ≡ (without now name).entries = contents-remove_entry old name ∙ ap (λ (m : State). (without m name).entries) c.self.view_is in
    let before : IsLawful now = subst IsLawful c.self.view_is c.self.invariant.lawful in
    let lawful = IsLawful-without now name before (distinct-remove now.entries name before.distinct) in
    let seen = view-freed i j now name c.self.view_is begun is_begun c.take.ensures.before c.take.ensures.left refl refl found c.take.ensures.shown in
    let cells = cells-remove_entry now.entries name in
    let had = sized (value_at now name) c.in-Some.size (sym (is_size c.self.inside c.args.self.now c.args.name.now c.seek-spot.result.size c.seek-spot.ensures.size c.self.view_is) ∙ c.in-Some.is) in
    let counted : i.cells ≡ cells_of now.entries = c.self.invariant.counted ∙ ap (λ (m : State). cells_of m.entries) c.self.view_is in
    let names : b.names ≡ length now.entries = c.take.ensures.names ∙ kept.names ∙ sym (length-contents old) ∙ ap (λ (m : State). length m.entries) c.self.view_is in
    let less = length-removed now.entries name found in
    let room = c.take.ensures.room in
    kept-changed i j all (without now name) kept is_begun c.take.ensures.shown c.take.ensures.before refl refl seen lawful
    (let n : i.cells - c.in-Some.size ≡ cells_of (without now name).entries = omega arith in n ∙ ap cells_of (sym entries))
    (let n : b.names - 1 ≡ length (without now name).entries = omega arith in n ∙ ap (λ (es : List (Name × Content)). length es) (sym entries))
    c.take.ensures.cells (record { replaced = room.replaced; freed = room.freed; late = room.late; held = room.held })

pub returns-clause-taken : goal.returns-clause-taken
returns-clause-taken c =
    let i = c.self.inside in
    let begun = change-begun i c.args.self.now c.self.view_is c.requires in
    let b = c.take.new.self in
    let j : Inside = record { values = i.values; cells = i.cells - c.in-Some.size; room = i.room; limit = i.limit; block = record { begun = b.begun; left = b.left; names = b.names - 1; cells = b.cells; replaced = b.replaced; freed = b.freed; late = b.late } } in
    let found = there (value_at c.args.self.now c.args.name.now) c.in-Some.size (sym (is_size c.self.inside c.args.self.now c.args.name.now c.seek-spot.result.size c.seek-spot.ensures.size c.self.view_is) ∙ c.in-Some.is) in
    view-freed i j c.args.self.now c.args.name.now c.self.view_is begun (c.take.ensures.begun ∙ begun) c.take.ensures.before c.take.ensures.left refl refl found c.take.ensures.shown
