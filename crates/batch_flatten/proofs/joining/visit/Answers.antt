use Rattle.std.proofs.Common.{Some}
use Rattle.batch_flatten.specs.Joining.{work_back}
use Rattle.batch_flatten.proofs.JoinLemmas.{noted-closed, noted-closes, noted-keeps, of-word}
use Rattle.batch_flatten.proofs.ServingLemmas.{stands-at}
use Rattle.batch_flatten.proofs.joining.visit.Goals as goal

pub returns-clause-group : goal.returns-clause-group
returns-clause-group g c =
    let os = c.args.outcomes.now in
    let ps = c.args.places.now in
    let o = c.index-outcomes-from.result in
    let was = c.is_open_with.ensures.0 c.if-not-is_open_with.false in
    let there = stands-at os ps c.args.position c.from.result o c.requires.within c.requires.position c.from.ensures c.index-outcomes-from.is in
    c.add.ensures.group os ps c.args.words.now c.args.word there (of-word c.args.words.now os ps c.args.position c.args.word o c.requires.words c.requires.position there was.1) was.1 c.requires.group

pub returns-clause-closes : goal.returns-clause-closes
returns-clause-closes g c =
    noted-closes c.args.words.now c.args.word c.args.turns.now c.add.new.turns c.args.position c.add.ensures.turns.0 c.add.ensures.turns.1 (c.is_open_with.ensures.0 c.if-not-is_open_with.false)

pub returns-clause-closed : goal.returns-clause-closed
returns-clause-closed g c =
    let was = c.is_open_with.ensures.0 c.if-not-is_open_with.false in
    noted-closed (work_back c.args.memory.now (Some c.index-outcomes-from.result)) c.args.words.now c.args.word c.args.turns.now c.add.new.turns c.args.position c.add.ensures.turns.0 c.add.ensures.turns.1 was.0 c.add.ensures.turns.2

pub returns-clause-prepared : goal.returns-clause-prepared
returns-clause-prepared g c =
    let os = c.args.outcomes.now in
    let ps = c.args.places.now in
    let o = c.index-outcomes-from.result in
    let was = c.is_open_with.ensures.0 c.if-not-is_open_with.false in
    let there = stands-at os ps c.args.position c.from.result o c.requires.within c.requires.position c.from.ensures c.index-outcomes-from.is in
    noted-keeps c.args.memory.now os ps c.args.words.now c.args.word c.args.turns.now c.add.new.turns c.args.position c.add.ensures.turns.0 o c.add.ensures.turns.1 was there c.requires.kernel c.add.ensures.turns.2
