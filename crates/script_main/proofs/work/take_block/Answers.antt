use Rattle.std.proofs.Common.{rules, ◌≡◌, ◌++◌, sym, ◌∙◌}
use Rattle.script_main.proofs.WorkLemmas.{block_done, block_left_by_leaving}
use Rattle.script_main.proofs.work.take_block.Goals as goal

pub wait_block-requires-clause-left : goal.wait_block-requires-clause-left
wait_block-requires-clause-left g c κs within = block_left_by_leaving c.args.calls c.args.caller.now c.post_block.new.caller c.in-Ok.ensures.left

pub returns-clause-turn : goal.returns-clause-turn
returns-clause-turn g c =
    let told = c.in-Ok-wait_block.ensures in
    let own = c.in-Ok-wait_block.own in
    let added : c.append.new.self.items ≡ c.args.replies.now.items ++ own.items = search rules in
    let done =
    block_done c.args.caller.now c.post_block.new.caller c.wait_block.new.caller c.args.calls c.in-Ok-wait_block.field-0-0 own c.in-Ok.ensures.left (told.machine ∙ sym c.requires.machine) told.number told.bounds told.idle told.rests
    told.answered in
    (own.items, added, done)
