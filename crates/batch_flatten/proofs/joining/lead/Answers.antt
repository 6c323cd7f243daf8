use Rattle.std.proofs.Common.{length}
use Rattle.batch_flatten.specs.Joining.{word_at}
use Rattle.batch_flatten.proofs.JoinLemmas.{closed-kept, closes-both, group-made, grown-keeps}
use Rattle.batch_flatten.proofs.joining.lead.Goals as goal

pub returns-then-group-clause-prepared : goal.returns-then-group-clause-prepared
returns-then-group-clause-prepared g c = c.gather-group.ensures.prepared c.args.works.now.items c.requires.prepared

pub returns-in_default-clause-prepared : goal.returns-in_default-clause-prepared
returns-in_default-clause-prepared g c =
    grown-keeps c.args.memory.now c.args.outcomes.now c.args.places.now c.args.words.now c.gather-group.new.turns c.args.works.now.items c.make_space.new.works.items c.args.first c.make_space.ensures
    (c.gather-group.ensures.prepared c.args.works.now.items c.requires.prepared)

pub returns-in_default-run_joined_with-clause-prepared : goal.returns-in_default-run_joined_with-clause-prepared
returns-in_default-run_joined_with-clause-prepared g c =
    grown-keeps c.args.memory.now c.args.outcomes.now c.args.places.now c.args.words.now c.gather-group.new.turns c.args.works.now.items c.make_space.new.works.items c.args.first c.make_space.ensures
    (c.gather-group.ensures.prepared c.args.works.now.items c.requires.prepared)

pub returns-clause-prepared : goal.returns-clause-prepared
returns-clause-prepared g c =
    let m = c.args.memory.now in
    let os = c.args.outcomes.now in
    let ps = c.args.places.now in
    let ws = c.args.words.now in
    let word = word_at ws c.args.first in
    let group = c.gather-group.result in
    let made = group-made m os ps ws word group.positions group.judged.items c.deref.result.now c.in-Ok-run_joined_with.products.items c.deref.ensures.value c.in-Ok-run_joined_with.ensures.makes c.gather-group.ensures.group in
    c.put_all.ensures.prepared m os ps ws word c.args.first made.1 c.requires.kernel made.2
    (grown-keeps m os ps ws c.gather-group.new.turns c.args.works.now.items c.make_space.new.works.items c.args.first c.make_space.ensures (c.gather-group.ensures.prepared c.args.works.now.items c.requires.prepared))

pub returns-clause-closes : goal.returns-clause-closes
returns-clause-closes g c =
    let ws = c.args.words.now in
    let word = word_at ws c.args.first in
    let group = c.gather-group.result in
    let made = group-made c.args.memory.now c.args.outcomes.now c.args.places.now ws word group.positions group.judged.items c.deref.result.now c.in-Ok-run_joined_with.products.items c.deref.ensures.value c.in-Ok-run_joined_with.ensures.makes c.gather-group.ensures.group in
    closes-both ws word c.args.turns.now c.gather-group.new.turns c.put_all.new.turns c.gather-group.ensures.closes (c.put_all.ensures.closes ws word made.1)

pub returns-clause-closed : goal.returns-clause-closed
returns-clause-closed g c =
    let ws = c.args.words.now in
    let word = word_at ws c.args.first in
    let group = c.gather-group.result in
    let made = group-made c.args.memory.now c.args.outcomes.now c.args.places.now ws word group.positions group.judged.items c.deref.result.now c.in-Ok-run_joined_with.products.items c.deref.ensures.value c.in-Ok-run_joined_with.ensures.makes c.gather-group.ensures.group in
    closed-kept ws word c.gather-group.new.turns c.put_all.new.turns c.args.first (length ws) (c.put_all.ensures.closes ws word made.1) c.gather-group.ensures.closed
