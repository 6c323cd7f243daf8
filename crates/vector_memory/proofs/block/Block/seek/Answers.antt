use Rattle.std.proofs.Common.{◌≡◌, ℕ, true, cond, Option, None, Some, refl, sym, ap, ◌∙◌}
use Rattle.std.specs.Prelude.{is_some}
use Rattle.std.specs.Map.{lookup}
use Rattle.std.specs.Option.{option_map}
use Rattle.vector_memory.specs.declared.value.Value.{Value}
use Rattle.vector_memory.specs.Contents.{content_of, size_of}
use Rattle.vector_memory.specs.Names.{same_name}
use Rattle.vector_memory.specs.Blocks.{is_freed}
use Rattle.vector_memory.proofs.BlockLemmas.{shown-found, shown-missing}
use Rattle.vector_memory.proofs.block.Block.seek.Goals as goal

-- a size tells whether there is a value
there : (o : Option Value) (n : ℕ) → Some n ≡ option_map size_of (option_map content_of o) → is_some o ≡ true
there None n e = absurd cc
there (Some v) n e = refl

missing : (o : Option Value) → None ≡ option_map size_of (option_map content_of o) → o ≡ None
missing None e = refl
missing (Some v) e = absurd cc

pub returns-in-Some-clause-size : goal.returns-in-Some-clause-size
returns-in-Some-clause-size c =
    let freed = c.args.self.now.freed.keys in
    let held = c.args.held.now.entries in
    let late = c.args.self.now.late.entries in
    let name = c.args.name.now in
    let found : Option Value = cond (is_freed freed name) None (lookup (same_name name) held) in
    let size : Some c.in-Some.size ≡ option_map size_of (option_map content_of found) = c.in-Some.ensures.size in
    size ∙ ap (λ (o : Option Value). option_map size_of (option_map content_of o)) (sym (shown-found freed name held late (there found c.in-Some.size size)))

pub returns-in-None-clause-size : goal.returns-in-None-clause-size
returns-in-None-clause-size c =
    let freed = c.args.self.now.freed.keys in
    let held = c.args.held.now.entries in
    let late = c.args.self.now.late.entries in
    let name = c.args.name.now in
    let found : Option Value = cond (is_freed freed name) None (lookup (same_name name) held) in
    c.late_size.ensures
    ∙ ap (λ (o : Option Value). option_map size_of (option_map content_of o)) (sym (shown-missing freed name held late (missing found c.in-None.ensures.size)))
