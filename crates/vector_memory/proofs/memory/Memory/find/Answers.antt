use Rattle.std.proofs.Common.{ap, ◌∙◌}
use Rattle.std.specs.Option.{option_map}
use Rattle.vector_memory.specs.Contents.{content_of}
use Rattle.vector_memory.proofs.StateLemmas.{value_at-contents, position-contents}
use Rattle.vector_memory.proofs.BlockViews.{seen_outside as seen}
use Rattle.vector_memory.proofs.memory.Memory.find.Goals as goal

pub returns-in_err-index-clause-index : goal.returns-in_err-index-clause-index
returns-in_err-index-clause-index c =
    rw c.from_residual.ensures (c.in_err-index.ensures.index ∙ position-contents c.args.self.now c.self.inside.values.entries c.self.inside.room c.self.inside.limit c.args.name.now (seen c.self.inside c.args.self.now c.requires c.self.invariant c.self.view_is))

pub returns-in_err-index-clause-value : goal.returns-in_err-index-clause-value
returns-in_err-index-clause-value c =
    rw c.from_residual.ensures (ap (option_map content_of) c.in_err-index.ensures.value ∙ value_at-contents c.args.self.now c.self.inside.values.entries c.self.inside.room c.self.inside.limit c.args.name.now (seen c.self.inside c.args.self.now c.requires c.self.invariant c.self.view_is))

pub returns-clause-index : goal.returns-clause-index
returns-clause-index c =
    c.in_ok-index.ensures.index ∙ position-contents c.args.self.now c.self.inside.values.entries c.self.inside.room c.self.inside.limit c.args.name.now (seen c.self.inside c.args.self.now c.requires c.self.invariant c.self.view_is)

pub returns-clause-value : goal.returns-clause-value
returns-clause-value c =
    ap (option_map content_of) c.in_ok-index.ensures.value ∙ value_at-contents c.args.self.now c.self.inside.values.entries c.self.inside.room c.self.inside.limit c.args.name.now (seen c.self.inside c.args.self.now c.requires c.self.invariant c.self.view_is)
