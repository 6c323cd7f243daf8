use Rattle.std.proofs.Common.{arith, rules, ◌∙◌, ap, sym, to_z, of_z, SFits, w64, Some}
use Rattle.std.proofs.lemmas.Int.{to_z-of_z}
use Rattle.scan_kernels.specs.Indexed.{index_at}
use Rattle.scan_kernels.proofs.Paired.{indexed_at}
use Rattle.scan_kernels.proofs.ResultLengths.{length-indexed}
use Rattle.scan_kernels.proofs.fills.RisingPlacewiseI64.at.Goals as goal

pub index_at-requires : goal.index_at-requires
index_at-requires c =
    let long = length-indexed c.args.self.now.start c.args.self.now.stride c.args.self.now.count in
    omega arith

pub returns : goal.returns
returns c =
    let start = c.args.self.now.start in
    let stride = c.args.self.now.stride in
    let long = length-indexed start stride c.args.self.now.count in
    let start_fits : SFits w64 start = search rules in
    let stride_fits : SFits w64 stride = search rules in
    let first = to_z-of_z w64 start start_fits in
    let step = to_z-of_z w64 stride stride_fits in
    let value = to_z-of_z w64 c.index_at.result (search rules) in
    indexed_at start stride c.args.self.now.count c.args.place (omega arith)
    ∙ ap Some (sym (value ∙ c.index_at.ensures ∙ ap (λ s. index_at s (to_z w64 (of_z w64 stride)) c.args.place) first ∙ ap (λ d. index_at start d c.args.place) step))
