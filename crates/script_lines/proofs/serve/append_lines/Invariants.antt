use Rattle.std.proofs.Common.{◌≡◌, ◌++◌, map, take}
use Rattle.std.specs.List.{flat_map}
use Rattle.cvl_text.specs.Answers.{answer_of}
use Rattle.script_lines.specs.Scripts.{reply_line}
use Rattle.script_lines.proofs.serve.append_lines.Given as goal

abbrev pub invariant-loop-reply : goal.invariant-loop-reply
invariant-loop-reply l = l.out.items ≡ l.fn.out.items ++ flat_map (reply_line l.caller) (map answer_of (take l.reply-index l.replies))
