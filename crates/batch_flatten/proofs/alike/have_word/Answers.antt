use Rattle.std.proofs.Common.{arith, ◌≡◌, ◌<◌, ◌∙◌, All, ap, get_or, length, subst, sym, take}
use Rattle.std.proofs.lemmas.List.{take_all, take_more}
use Rattle.std.proofs.lemmas.List.Elements.{All-push}
use Rattle.batch_flatten.specs.Counts.{word_asked}
use Rattle.batch_flatten.proofs.alike.have_word.Goals as goal

pub loop-request-preserved : goal.loop-request-preserved
loop-request-preserved c =
    let rs = c.args.requests.now in
    let i = c.loop-request.request-index in
    let r = c.request-item.result in
    let lt : i < length rs = omega arith in
    let here = ap word_asked (sym c.request-item.is) ∙ c.has_word.ensures c.if-not-has_word.false in
    subst (All (λ q. word_asked q ≡ c.args.word)) (sym (take_more rs i r lt)) (All-push (λ q. word_asked q ≡ c.args.word) (take i rs) (get_or rs i r) c.loop-request.invariant here)

pub returns : goal.returns
returns c = λ is.
    let rs = c.args.requests.now in
    let i = c.loop-request.request-index in
    subst (All (λ q. word_asked q ≡ c.args.word)) (take_all i rs (omega arith)) c.loop-request.invariant
