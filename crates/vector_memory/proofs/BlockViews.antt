-- A memory outside a block and in one, as it is kept and as contracts see it.
use Rattle.std.proofs.Common.{◌≡◌, ℕ, Bool, true, false, List, ◌++◌, Option, None, Some, refl, sym, ap, subst, ◌∙◌, arith}
use Rattle.std.specs.Prelude.{is_some, length, ◌<◌, ◌≤◌}
use Rattle.std.proofs.lemmas.List.{append-nil}
use Rattle.indexmap.specs.IndexMap.{spare}
use Rattle.vector_memory.specs.declared.name.Name.{Name}
use Rattle.vector_memory.specs.declared.block.Block.{Block}
use Rattle.vector_memory.specs.declared.memory.Memory.TheInside.{Inside}
use Rattle.vector_memory.specs.Blocks.{HasRoom, IsBlank, began_of, live, restored, shown}
use Rattle.vector_memory.specs.Insides.{IsKept, IsUnderWay, KeepsBlock, state_of}
use Rattle.std.specs.Map.{lookup, keys_of}
use Rattle.std.specs.Option.{option_map}
use Rattle.std.specs.List.{AllByRecursion, IsDistinct}
use Rattle.vector_memory.specs.Contents.{Content, content_of}
use Rattle.vector_memory.specs.Names.{same_name}
use Rattle.vector_memory.specs.States.{Began, NamedValues, State, FitsLimits, IsLawful, begun, cells_of, changes_left, contents, name_limit, undone, value_at}
use Rattle.vector_memory.proofs.StateLemmas.{lookup-contents}
use Rattle.vector_memory.proofs.BlockLemmas.{live-none}

-- with nothing noted a memory shows what it holds
pub shown-blank : (held : NamedValues) (b : Block) → IsBlank b → shown held b ≡ held
shown-blank held b blank =
    ap (λ (late : NamedValues). live b.freed.keys held ++ late) blank.late ∙ append-nil (live b.freed.keys held)
    ∙ ap (λ (freed : List Name). live freed held) blank.freed ∙ live-none held

pub restored-blank : (held : NamedValues) (b : Block) → IsBlank b → restored held b.replaced.entries ≡ held
restored-blank held b blank = ap (restored held) blank.replaced

-- outside a block, as contracts see it
abbrev pub plain : NamedValues → ℕ → ℕ → State
plain held room limit = record { entries = contents held; room = room; limit = limit; block = None }

pub blank_outside : (begun : Bool) (held : NamedValues) (spaces : ℕ) (b : Block) (room limit : ℕ) → begun ≡ false → KeepsBlock begun held spaces b room limit → IsBlank b
blank_outside true held spaces b room limit e kept = absurd cc
blank_outside false held spaces b room limit e kept = kept

pub under_way : (begun : Bool) (held : NamedValues) (spaces : ℕ) (b : Block) (room limit : ℕ) → begun ≡ true → KeepsBlock begun held spaces b room limit → IsUnderWay held spaces b room limit
under_way true held spaces b room limit e kept = kept
under_way false held spaces b room limit e kept = absurd cc

pub is_under_way : (begun : Bool) (held : NamedValues) (spaces : ℕ) (b : Block) (room limit : ℕ) → begun ≡ true → IsUnderWay held spaces b room limit → KeepsBlock begun held spaces b room limit
is_under_way true held spaces b room limit e kept = kept
is_under_way false held spaces b room limit e kept = absurd cc

is_blank : (begun : Bool) (held : NamedValues) (spaces : ℕ) (b : Block) (room limit : ℕ) → begun ≡ false → IsBlank b → KeepsBlock begun held spaces b room limit
is_blank true held spaces b room limit e kept = absurd cc
is_blank false held spaces b room limit e kept = kept

-- what is true of a memory hangs on no block
pub lawful-same : (m : State) (es : List (Name × Content)) (o : Option Began) → m.entries ≡ es → IsLawful m → IsLawful (record { entries = es; room = m.room; limit = m.limit; block = o })
lawful-same m es o same lawful = record {
  distinct = subst (λ (xs : List (Name × Content)). IsDistinct same_name (keys_of xs)) same lawful.distinct;
  few = subst (λ (xs : List (Name × Content)). length xs ≤ name_limit) same lawful.few;
  fit = subst (AllByRecursion (λ e. FitsLimits m.limit e.1)) same lawful.fit;
  within = subst (λ (xs : List (Name × Content)). cells_of xs ≤ m.room) same lawful.within;
  lawful_room = lawful.lawful_room;
  lawful_limit = lawful.lawful_limit;
}

module _ (i : Inside) where
  pub view-outside : i.block.begun ≡ false → IsBlank i.block → state_of i ≡ plain i.values.entries i.room i.limit
  view-outside e blank =
      ap (λ (es : NamedValues). record { entries = contents es; room = i.room; limit = i.limit; block = began_of i.block.begun i.values.entries i.block }) (shown-blank i.values.entries i.block blank)
      ∙ ap (λ (b : Bool). record { entries = contents i.values.entries; room = i.room; limit = i.limit; block = began_of b i.values.entries i.block }) e

  -- what contracts see of a memory in which no block has begun
  pub outside : (m : State) → i.block.begun ≡ false → IsKept i → state_of i ≡ m → plain i.values.entries i.room i.limit ≡ m
  outside m e kept seen = sym (view-outside e (blank_outside i.block.begun i.values.entries (spare i.values) i.block i.room i.limit e kept.block)) ∙ seen

  -- what a name stands for in what is shown
  pub value_at-shown : (m : State) (n : Name) → state_of i ≡ m → option_map content_of (lookup (same_name n) (shown i.values.entries i.block)) ≡ value_at m n
  value_at-shown m n seen = sym (lookup-contents (same_name n) (shown i.values.entries i.block)) ∙ ap (λ (s : State). value_at s n) seen

  pub not_begun : (m : State) → state_of i ≡ m → m.block ≡ None → i.block.begun ≡ false
  not_begun m seen none = by i.block.begun (ap (λ (s : State). s.block) seen ∙ none)
    where
      by : (b : Bool) → began_of b i.values.entries i.block ≡ None → b ≡ false
      by true e = absurd cc
      by false e = refl

  pub none_seen : (m : State) → state_of i ≡ m → i.block.begun ≡ false → m.block ≡ None
  none_seen m seen e = sym (ap (λ (s : State). s.block) seen) ∙ ap (λ (b : Bool). began_of b i.values.entries i.block) e

  -- what a memory outside a block is, without the notes
  pub lawful-plain : i.block.begun ≡ false → IsKept i → IsLawful (plain i.values.entries i.room i.limit)
  lawful-plain e kept = subst IsLawful (view-outside e (blank_outside i.block.begun i.values.entries (spare i.values) i.block i.room i.limit e kept.block)) kept.lawful

  pub counted-plain : i.block.begun ≡ false → IsKept i → i.cells ≡ cells_of (contents i.values.entries)
  counted-plain e kept =
      kept.counted ∙ ap (λ (es : NamedValues). cells_of (contents es)) (shown-blank i.values.entries i.block (blank_outside i.block.begun i.values.entries (spare i.values) i.block i.room i.limit e kept.block))

  pub has_begun : (m : State) → state_of i ≡ m → is_some m.block ≡ true → i.block.begun ≡ true
  has_begun m seen some = by i.block.begun (ap (λ (s : State). is_some s.block) seen ∙ some)
    where
      by : (b : Bool) → is_some (began_of b i.values.entries i.block) ≡ true → b ≡ true
      by true e = refl
      by false e = absurd (let no : false ≡ true = e in cc)

  pub change-begun : (m : State) → state_of i ≡ m → 0 < changes_left m → i.block.begun ≡ true
  change-begun m seen left = by i.block.begun (subst (λ (s : State). 0 < changes_left s) (sym seen) left)
    where
      by : (b : Bool) → 0 < changes_left (record { entries = contents (shown i.values.entries i.block); room = i.room; limit = i.limit; block = began_of b i.values.entries i.block }) → b ≡ true
      by true lt = refl
      by false lt = absurd (omega (arith, lt))

  pub kept-outside : i.block.begun ≡ false → IsBlank i.block → i.cells ≡ cells_of (contents i.values.entries) → IsLawful (plain i.values.entries i.room i.limit) → IsKept i
  kept-outside e blank counted lawful = record {
    counted = counted ∙ sym (ap (λ (es : NamedValues). cells_of (contents es)) (shown-blank i.values.entries i.block blank));
    lawful = subst IsLawful (sym (view-outside e blank)) lawful;
    block = is_blank i.block.begun i.values.entries (spare i.values) i.block i.room i.limit e blank;
  }

  -- where contracts see no block
  pub seen_outside : (m : State) → m.block ≡ None → IsKept i → state_of i ≡ m → plain i.values.entries i.room i.limit ≡ m
  seen_outside m none kept seen = outside m (not_begun m seen none) kept seen

  -- a block that has just begun
  pub view-begun : (old : NamedValues) (changes : ℕ) → i.block.begun ≡ true → IsBlank i.block → i.values.entries ≡ old → i.block.left ≡ changes → state_of i ≡ begun (plain old i.room i.limit) changes
  view-begun old changes e blank same left =
      ap (λ (es : NamedValues). record { entries = contents es; room = i.room; limit = i.limit; block = began_of i.block.begun i.values.entries i.block }) (shown-blank i.values.entries i.block blank ∙ same)
      ∙ ap (λ (b : Bool). record { entries = contents old; room = i.room; limit = i.limit; block = began_of b i.values.entries i.block }) e
      ∙ ap (λ (es : NamedValues). record { entries = contents old; room = i.room; limit = i.limit; block = Some (record { entries = contents es; left = i.block.left }) }) (restored-blank i.values.entries i.block blank ∙ same)
      ∙ ap (λ (n : ℕ). begun (plain old i.room i.limit) n) left

  pub kept-begun : i.block.begun ≡ true → IsBlank i.block → i.cells ≡ cells_of (contents i.values.entries) → IsLawful (plain i.values.entries i.room i.limit) → i.block.names ≡ length i.values.entries
      → i.block.cells ≡ i.cells → HasRoom (spare i.values) i.block → IsKept i
  kept-begun e blank counted lawful names cells room =
      let held = i.values.entries in
      let all = sym (shown-blank held i.block blank) in
      let before = sym (restored-blank held i.block blank) in
      record {
        counted = counted ∙ ap (λ (es : NamedValues). cells_of (contents es)) all;
        lawful = lawful-same (plain held i.room i.limit) (contents (shown held i.block)) (began_of i.block.begun held i.block) (ap contents all) lawful;
        block = is_under_way i.block.begun held (spare i.values) i.block i.room i.limit e (record {
          names = names ∙ ap (λ (es : NamedValues). length es) all;
          cells = cells ∙ counted ∙ ap (λ (es : NamedValues). cells_of (contents es)) before;
          lawful = lawful-same (plain held i.room i.limit) (contents (restored held i.block.replaced.entries)) None (ap contents before) lawful;
          has_room = room;
        });
      }

  pub view-undone : i.block.begun ≡ true → plain (restored i.values.entries i.block.replaced.entries) i.room i.limit ≡ undone (state_of i)
  view-undone e = by i.block.begun e
    where
      by : (b : Bool) → b ≡ true → plain (restored i.values.entries i.block.replaced.entries) i.room i.limit
          ≡ undone (record { entries = contents (shown i.values.entries i.block); room = i.room; limit = i.limit; block = began_of b i.values.entries i.block })
      by true e = refl
      by false e = absurd cc
