use Rattle.std.proofs.Common.{◌≡◌, ◌-◌, sym, ap, ◌∙◌, Option, arith}
use Rattle.std.specs.List.{IsDistinct}
use Rattle.std.specs.Map.{keys_of, remove_entry}
use Rattle.std.specs.Option.{option_map, unwrap_or}
use Rattle.indexmap.specs.IndexMap.{spare}
use Rattle.vector_memory.specs.Contents.{Content, size_of}
use Rattle.vector_memory.specs.Names.{same_name}
use Rattle.vector_memory.specs.States.{State, contents, old_size, without}
use Rattle.vector_memory.proofs.StateLemmas.{size_at-le-cells, cells-remove_entry, contents-remove, keys_of-contents, IsLawful-without, without-absent}
use Rattle.vector_memory.proofs.BlockViews.{blank_outside, counted-plain, kept-outside, lawful-plain, none_seen, outside, plain, view-outside}
use Rattle.vector_memory.proofs.memory.Memory.free.Goals as goal

pub find-requires : goal.find-requires
find-requires c = none_seen c.self.inside c.args.self.now c.self.view_is c.if-self.false

pub returns-in_default-clause-taken : goal.returns-in_default-clause-taken
returns-in_default-clause-taken c = sym (without-absent c.args.self.now c.args.name.now (sym c.in_default.ensures.value))

pub invariant_of-self : goal.invariant_of-self
invariant_of-self c =
    let i = c.self.inside in
    let name = c.args.name.now in
    let seen = outside i c.args.self.now c.if-self.false c.self.invariant c.self.view_is in
    let old = plain i.values.entries i.room i.limit in
    let left : contents c.shift_remove_index.new.self.entries ≡ remove_entry (same_name name) (contents i.values.entries) = ap contents c.shift_remove_index.ensures.entries ∙ contents-remove c.args.self.now i.values.entries i.room i.limit name c.in-Some.index seen c.in-Some.ensures.index in
    let distinct : IsDistinct same_name (keys_of (contents c.shift_remove_index.new.self.entries)) = rw keys_of-contents c.shift_remove_index.ensures.unique in
    let lawful = IsLawful-without old name (lawful-plain i c.if-self.false c.self.invariant) (rw (← left) distinct) in
    let cells = cells-remove_entry (contents i.values.entries) name in
    let le = size_at-le-cells (contents i.values.entries) name in
    let found = ap (λ (o : Option Content). unwrap_or (option_map size_of o) 0) c.in-Some.ensures.value in
    let had : c.size.result ≡ old_size old name = c.size.ensures ∙ found ∙ ap (λ (m : State). old_size m name) (sym seen) in
    let counted = counted-plain i c.if-self.false c.self.invariant in
    kept-outside (record { values = c.shift_remove_index.new.self; cells = i.cells - c.size.result; room = i.room; limit = i.limit; block = i.block }) c.if-self.false
    (blank_outside i.block.begun i.values.entries (spare i.values) i.block i.room i.limit c.if-self.false c.self.invariant.block)
    (rw left (omega (arith, counted)))
    (rw left lawful)

pub returns-clause-taken : goal.returns-clause-taken
returns-clause-taken c =
    let i = c.self.inside in
    let name = c.args.name.now in
    let seen = outside i c.args.self.now c.if-self.false c.self.invariant c.self.view_is in
    let left = ap contents c.shift_remove_index.ensures.entries ∙ contents-remove c.args.self.now i.values.entries i.room i.limit name c.in-Some.index seen c.in-Some.ensures.index in
    view-outside (record { values = c.shift_remove_index.new.self; cells = i.cells - c.size.result; room = i.room; limit = i.limit; block = i.block }) c.if-self.false
    (blank_outside i.block.begun i.values.entries (spare i.values) i.block i.room i.limit c.if-self.false c.self.invariant.block)
    ∙ rw left (ap (λ (m : State). without m name) seen)
