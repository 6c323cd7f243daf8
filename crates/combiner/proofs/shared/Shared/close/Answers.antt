use Rattle.std.proofs.Common.{arith, length, ◌∙◌, sym, ap, subst}
use Rattle.request_slots.specs.declared.desk.Desk.{Desk}
use Rattle.combiner.specs.Standing.{Standing, standing, IsIdle, callers_of}
use Rattle.combiner.proofs.Alone.{alone_counts}
use Rattle.combiner.proofs.shared.Shared.close.Goals as goal

pub returns-clause-alone : goal.returns-clause-alone
returns-clause-alone c alone idle =
    let line = c.in-Some.ensures.line in let inside = c.in-Some.ensures.inside in
    ap (λ (d : Desk). length d.book.history) c.into_inner-book.ensures
    ∙ (alone_counts c.self.inside.slots (standing c.caller.inside.seat) c.in-Some.desk.value.book.history (ap callers_of c.self.view_is ∙ alone) (omega arith) (subst IsIdle (sym c.caller.view_is) idle) line.own line.no_strangers
    ∙ ap (λ (d : Standing). length d.own) c.caller.view_is)
