use Rattle.std.proofs.Common.{◌≡◌, ◌<◌, ◌+◌, ◌++◌, [], true, false, List, ℕ, Err, length, sym, ap, ◌∙◌, subst, refl, arith}
use Rattle.std.specs.Io.KnownBytes.{Consumes}
use Rattle.std.proofs.lemmas.List.{nil_from_length}
use Rattle.script_lines.specs.declared.fault.InputFault.{InputFault}
use Rattle.script_lines.specs.Scripts.{line_limit}
use Rattle.script_lines.specs.Walks.{Place, halt_at, IsHalt}
use Rattle.script_lines.proofs.WalkLemmas.{walked-ended, walked-read, walked-cut, walked-kept, walked-end}
use Rattle.script_lines.proofs.lines.Lines.fill.Goals as goal

pub returns-then-self-clause-fills : goal.returns-then-self-clause-fills
returns-then-self-clause-fills g c = λ input first w.
    walked-ended input (g.R.Source.rest c.args.reader.now) first c.args.self.now.walk w (sym (ap (λ (p : Place). p.walk.ended) c.self.view_is) ∙ c.if-self.true) c.requires.one_line

pub returns-in-Err-clause-fills : goal.returns-in-Err-clause-fills
returns-in-Err-clause-fills g c = λ input first w.
    let walk = c.args.self.now.walk in
    let partial = c.self.inside.partial.items in
    let left = g.R.Source.rest c.args.reader.now in
    let fault = c.in-Err.fault in
    let unread : partial ++ c.rest.result.now ≡ walk.unread = ap (λ (t : List ℕ). partial ++ t) c.rest.ensures ∙ ap (λ (p : Place). p.walk.unread) c.self.view_is in
    let ended : walk.ended ≡ false = sym (ap (λ (p : Place). p.walk.ended) c.self.view_is) ∙ c.if-self.false in
    let is = c.halt_at.ensures ∙ ap (λ (p : Place). halt_at (p.walk.number + 1) fault) c.self.view_is in
    subst (λ (f : InputFault). IsHalt f input first left) (sym is)
    (walked-kept input left first walk w ended c.requires.one_line fault left (λ bad. subst (λ (t : List ℕ). line_limit < length t) unread (c.keep_rest.ensures.bad (c.in-Err.is ∙ ap (λ f. Err f) bad))))

pub returns-in-Ok-eq0-clause-fills : goal.returns-in-Ok-eq0-clause-fills
returns-in-Ok-eq0-clause-fills g c = λ input first w.
    let walk = c.args.self.now.walk in
    let partial = c.self.inside.partial.items in
    let left = g.R.Source.rest c.args.reader.now in
    let rest = g.R.Source.rest c.read.new.reader in
    let kept = c.deref.result.now in
    let fed = c.end_line.new.block.rest in
    let read = c.in-Ok-eq0.ensures in
    let ended : walk.ended ≡ false = sym (ap (λ (p : Place). p.walk.ended) c.self.view_is) ∙ c.if-self.false in
    let zero : c.in-Ok-eq0.field-0 ≡ 0 = omega arith in
    let none : length c.read.new.self.rest ≡ 0 = sym read.count.0 ∙ zero in
    let consumed : Consumes left rest [] = subst (λ (t : List ℕ). Consumes left rest t) (nil_from_length c.read.new.self.rest none) read.bytes.0 in
    let whole : partial ++ c.rest.result.now ≡ walk.unread = ap (λ (t : List ℕ). partial ++ t) c.rest.ensures ∙ ap (λ (p : Place). p.walk.unread) c.self.view_is in
    let unread : kept ≡ walk.unread = ◌∙◌ {A = List ℕ} c.deref.ensures.value (◌∙◌ {A = List ℕ} c.in_default.ensures.ok whole) in
    walked-end input left first walk w ended c.requires.one_line rest consumed (read.bytes.1 zero) c.end_line.result kept fed (c.end_line.new.block ≡ c.read.new.self)
    (record { unread = c.keep_rest.new.partial.items ++ fed; number = c.self.inside.number; ended = true }) unread c.end_line.ensures
    (ap (λ (t : List ℕ). t ++ fed) (sym c.deref.ensures.value)) (ap (λ (p : Place). p.walk.number) c.self.view_is) refl

pub returns-in-Ok-clause-fills : goal.returns-in-Ok-clause-fills
returns-in-Ok-clause-fills g c = λ input first w.
    let walk = c.args.self.now.walk in
    let partial = c.self.inside.partial.items in
    let left = g.R.Source.rest c.args.reader.now in
    let rest = g.R.Source.rest c.read.new.reader in
    let whole : partial ++ c.rest.result.now ≡ walk.unread = ap (λ (t : List ℕ). partial ++ t) c.rest.ensures ∙ ap (λ (p : Place). p.walk.unread) c.self.view_is in
    let unread : c.keep_rest.new.partial.items ≡ walk.unread = ◌∙◌ {A = List ℕ} c.in_default.ensures.ok whole in
    let ended : walk.ended ≡ false = sym (ap (λ (p : Place). p.walk.ended) c.self.view_is) ∙ c.if-self.false in
    walked-read input left first walk w ended rest c.read.new.self.rest (record { unread = c.keep_rest.new.partial.items ++ c.read.new.self.rest; number = c.self.inside.number; ended = c.self.inside.ended }) c.in-Ok.ensures.bytes.0
    (ap (λ (t : List ℕ). t ++ c.read.new.self.rest) unread) (ap (λ (p : Place). p.walk.number) c.self.view_is) c.if-self.false

pub returns-in-Err-read-clause-fills : goal.returns-in-Err-read-clause-fills
returns-in-Err-read-clause-fills g c = λ input first w.
    let ended = sym (ap (λ (p : Place). p.walk.ended) c.self.view_is) ∙ c.if-self.false in
    walked-cut input (g.R.Source.rest c.args.reader.now) first c.args.self.now.walk w ended c.requires.one_line (g.R.Source.rest c.read.new.reader) c.in-Err-read.ensures.bytes
