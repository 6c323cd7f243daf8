use Rattle.std.proofs.Common.{arith, ◌∙◌, sym, ap, inl, inr, refl}
use Rattle.std.proofs.lemmas.Bool.Decides.{eqb_tells}
use Rattle.combiner.specs.Standing.{callers_of}
use Rattle.script_main.specs.Workers.{reply_count}
use Rattle.script_main.proofs.SettleLemmas.{alone_counts}
use Rattle.script_main.proofs.settle.close.Goals as goal

pub returns-then-not-is_count_of-clause-fault : goal.returns-then-not-is_count_of-clause-fault
returns-then-not-is_count_of-clause-fault c = elim (eqb_tells (callers_of c.args.machine) 1) [
  | inl alone ↦
      let all = alone_counts c.args.machine c.args.closer c.in-Ok.book.history alone.1 c.requires.first c.requires.idle c.in-Ok.ensures.own c.in-Ok.ensures.no_strangers in
      let counts = c.if-not-is_count_of.ensures.exact (ap reply_count c.deref.ensures.value ∙ (c.requires.alone alone.1 ∙ (sym all ∙ sym c.len.ensures.len))) in
      absurd (cc counts)
  | inr more ↦ (refl, omega (arith, more.1, c.requires.some))
]
