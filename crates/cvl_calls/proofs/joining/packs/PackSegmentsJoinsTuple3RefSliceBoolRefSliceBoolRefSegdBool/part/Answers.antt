use Rattle.std.proofs.Common.{rules, ◌≡◌, sym, subst, ap, ◌∙◌}
use Rattle.vector_memory.specs.Contents.{Content}
use Rattle.vector_memory.specs.Contents as contents
use Rattle.cvl_calls.specs.declared.judged.Judged.TheVariants.{PackSegments}
use Rattle.cvl_calls.specs.declared.operands.Vector.TheVariants.{Bools}
use Rattle.cvl_calls.specs.Judging.{IsReady, made}
use Rattle.cvl_calls.specs.Outcomes.{Stores}
use Rattle.cvl_calls.proofs.Whole.{over_items-packed}
use Rattle.cvl_calls.proofs.joining.packs.PackSegmentsJoinsTuple3RefSliceBoolRefSliceBoolRefSegdBool.part.Goals as goal

pub returns-clause-makes : goal.returns-clause-makes
returns-clause-makes c =
    let it = c.in-PackSegments-Bools-default-default in
    let is : c.args.judged.now ≡ PackSegments (Bools it.xs) it.flags it.segments = search rules in
    let ready = subst IsReady is c.requires.ready in
    ap made is ∙ ap (λ (v : Content). Stores v) (sym (over_items-packed it.segments.now it.flags.now (contents.Bools it.xs.now) ready.0 ready.1))
