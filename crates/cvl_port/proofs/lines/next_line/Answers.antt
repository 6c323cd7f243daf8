use Rattle.std.proofs.Common.{◌<◌, length, arith, rules}
use Rattle.cvl_port.proofs.LineLemmas.{lines_of-filled, line_len-le}
use Rattle.cvl_port.proofs.lines.next_line.Goals as goal

pub split_at-requires : goal.split_at-requires
split_at-requires c = omega (arith, c.line_len.ensures, line_len-le c.args.text.now)

pub returns-clause-lines : goal.returns-clause-lines
returns-clause-lines c =
    let filled : 0 < length c.args.text.now = search rules in
    rw (c.behind_first.ensures, c.split_at.ensures.front, c.split_at.ensures.back, c.line_len.ensures) (lines_of-filled c.args.text.now filled)
