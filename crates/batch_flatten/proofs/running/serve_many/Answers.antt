use Rattle.std.proofs.Common.{arith, rules, ◌≡◌, ◌∙◌, ap, length, vec_len}
use Rattle.std.proofs.lemmas.List.{length-map}
use Rattle.call_history.specs.Fits.{returned}
use Rattle.batch_flatten.proofs.BatchLemmas.{batch_back, batch_bound, batch_done, batch_sure}
use Rattle.batch_flatten.proofs.running.serve_many.Goals as goal

pub returns-in_default-clause-serves : goal.returns-in_default-clause-serves
returns-in_default-clause-serves g c =
    batch_back c.args.book.now.bounds c.args.book.now.history c.reserve.new.self.history c.args.requests.now.items c.open-roll.new.outcomes.items c.len-entries.ensures.whole c.in_default.ensures.history c.open-roll.ensures.outcomes

pub returns-clause-serves : goal.returns-clause-serves
returns-clause-serves g c =
    let rs = c.args.requests.now.items in
    let roll = c.open-roll.result in
    let n = vec_len c.open-roll.new.outcomes in
    let count : n ≡ length c.open-roll.new.outcomes.items = search rules in
    let many : n ≡ length rs = count ∙ ap length c.open-roll.ensures.outcomes ∙ length-map rs returned in
    batch_done c.args.book.now.bounds c.reserve.new.self.bounds c.args.book.now.history c.reserve.new.self.history c.serve_waves-singles.new.book.history rs roll.callers roll.waves n roll.count
    c.open-roll.new.outcomes.items c.serve_waves-singles.new.outcomes.items c.len-entries.ensures.whole c.in-Ok.ensures.bounds c.in-Ok.ensures.history c.open-roll.ensures.outcomes many c.requires.distinct c.open-roll.ensures.callers c.open-roll.ensures.waves c.open-roll.ensures.count
    (c.serve_waves-singles.ensures.serves c.args.book.now.history rs)

pub returns-clause-sure : goal.returns-clause-sure
returns-clause-sure g c some =
    let rs = c.args.requests.now.items in
    let roll = c.open-roll.result in
    let n = vec_len c.open-roll.new.outcomes in
    let count : n ≡ length c.open-roll.new.outcomes.items = search rules in
    let many : n ≡ length rs = count ∙ ap length c.open-roll.ensures.outcomes ∙ length-map rs returned in
    batch_sure rs roll.waves n roll.count c.open-roll.new.outcomes.items c.serve_waves-singles.new.outcomes.items c.open-roll.ensures.outcomes many c.open-roll.ensures.waves c.open-roll.ensures.count
    c.serve_waves-singles.ensures.back c.serve_waves-singles.ensures.sure

pub returns-clause-bound : goal.returns-clause-bound
returns-clause-bound g c =
    let rs = c.args.requests.now.items in
    let roll = c.open-roll.result in
    let n = vec_len c.open-roll.new.outcomes in
    let count : n ≡ length c.open-roll.new.outcomes.items = search rules in
    let many : n ≡ length rs = count ∙ ap length c.open-roll.ensures.outcomes ∙ length-map rs returned in
    let bound = batch_bound rs roll.waves roll.words c.open-roll.new.outcomes.items n roll.count c.open-roll.ensures.outcomes many c.open-roll.ensures.waves c.open-roll.ensures.words c.open-roll.ensures.count in
    let most = c.serve_waves-singles.ensures.counted.within in
    let first = c.runs-before.ensures in
    let last = c.runs.ensures in
    omega arith
