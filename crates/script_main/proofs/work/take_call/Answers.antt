use Rattle.std.proofs.Common.{rules, ◌≡◌, [], ◌∷◌, ◌++◌, sym, ◌∙◌}
use Rattle.script_main.proofs.WorkLemmas.{call_done, left_by_leaving}
use Rattle.script_main.proofs.work.take_call.Goals as goal

pub wait-requires-clause-left : goal.wait-requires-clause-left
wait-requires-clause-left g c κs within = left_by_leaving c.args.call c.args.caller.now c.post.new.caller c.in-Ok.ensures.left

pub returns-clause-turn : goal.returns-clause-turn
returns-clause-turn g c =
    let told = c.in-Ok-wait.ensures in
    let reply = c.in-Ok-wait.reply in
    let pushed : c.push.new.self.items ≡ c.args.replies.now.items ++ reply ∷ [] = search rules in
    let done =
    call_done c.args.caller.now c.post.new.caller c.wait.new.caller c.args.call c.in-Ok-wait.field-0-0 reply c.in-Ok.ensures.left (told.machine ∙ sym c.requires.machine) told.number told.bounds told.idle told.rests
    told.answered in
    (reply ∷ [], pushed, done)
