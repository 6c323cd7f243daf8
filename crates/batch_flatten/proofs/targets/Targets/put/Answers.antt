use Rattle.std.proofs.Common.{rules, arith, ◌≡◌, ℕ, ◌+◌, ◌<◌, true, false, length, get_or, set, sym, ap, ◌∙◌, add-one}
use Rattle.vector_memory.specs.Names.{bucket_of}
use Rattle.batch_flatten.specs.Targets.{is_target, target_at, targets_of}
use Rattle.batch_flatten.proofs.TargetLemmas.{found-same, table-passed, table-put, target-is}
use Rattle.batch_flatten.proofs.targets.Targets.put.Goals as goal

pub returns-in_default : goal.returns-in_default
returns-in_default c =
    let calls = c.args.calls.now in
    let place = c.args.place in
    let its = target-is calls place c.index-calls-place.result c.requires.within c.index-calls-place.is ∙ sym c.target.ensures ∙ c.in_default.is in
    table-passed c.args.self.now (target_at (targets_of calls)) place c.requires.table
    (λ n hit. let no : false ≡ true = sym (ap (is_target n) its) ∙ hit in absurd cc)

pub returns-then-has : goal.returns-then-has
returns-then-has c =
    let calls = c.args.calls.now in
    let place = c.args.place in
    let to = c.in-Some.to in
    let its = target-is calls place c.index-calls-place.result c.requires.within c.index-calls-place.is ∙ sym c.target.ensures ∙ c.in-Some.is in
    table-passed c.args.self.now (target_at (targets_of calls)) place c.requires.table
    (λ n hit. found-same (target_at (targets_of calls)) to n place (sym c.has.ensures ∙ c.if-has.true) (sym (ap (is_target n) its) ∙ hit))

pub returns : goal.returns
returns c =
    let calls = c.args.calls.now in
    let place = c.args.place in
    let table = c.args.self.now in
    let to = c.in-Some.to in
    let its = target-is calls place c.index-calls-place.result c.requires.within c.index-calls-place.is ∙ sym c.target.ensures ∙ c.in-Some.is in
    let there : c.from-bucket.result ≡ bucket_of to = c.from-bucket.ensures ∙ c.bucket.ensures in
    let rows : length table.last ≡ 256 = search rules in
    let places : length table.before ≡ 1024 = search rules in
    let small : bucket_of to < 256 = omega arith in
    table-put table _ (target_at (targets_of calls)) place to its (omega arith) (omega arith)
    (ap (λ (k : ℕ). set table.last k (place + 1)) there ∙ ap (λ (k : ℕ). set table.last (bucket_of to) k) (add-one place))
    (ap (λ (k : ℕ). set table.before place (get_or table.last k 0)) there)
    c.requires.table small
