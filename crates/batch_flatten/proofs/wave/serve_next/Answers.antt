use Rattle.std.proofs.Common.{arith, rules, ◌≡◌, ◌<◌, ◌++◌, ◌∷◌, [], ℕ, List, Some, get_or, length, refl, slice_get, slice_index, subst, sym, vec_len}
use Rattle.std.proofs.lemmas.Option.{slice_get-get_or}
use Rattle.call_history.specs.Books.{BookState, memory_of}
use Rattle.call_history.specs.declared.request.Outcome.{Outcome}
use Rattle.batch_flatten.specs.Counts.{CountsTurn}
use Rattle.batch_flatten.specs.declared.turn.Turn.TheVariants.{Open}
use Rattle.batch_flatten.specs.Joining.{ArePrepared, AreWords, IsReadyWork, work_at}
use Rattle.batch_flatten.specs.Places.{IsOutside}
use Rattle.batch_flatten.specs.Serving.{Serving}
use Rattle.batch_flatten.proofs.PlaceLemmas.{place_in}
use Rattle.batch_flatten.proofs.TurnLemmas.{has-work, next-counted, ready-work, together-next, turn-keeps}
use Rattle.batch_flatten.proofs.wave.serve_next.Goals as goal

pub serve_place-requires-clause-ready : goal.serve_place-requires-clause-ready
serve_place-requires-clause-ready g c κs within =
    let m = memory_of c.join.new.book in
    let os = c.args.outcomes.now.items in
    let ps = c.args.places.now in
    let ws = c.args.words.now in
    let position = c.args.position in
    let turn = get_or c.join.new.turns position Open in
    let long : length c.join.new.turns ≡ 64 = search rules in
    let few = c.requires.few_places in
    let lt = c.requires.position in
    let now : slice_get c.join.new.turns position ≡ Some turn = slice_get-get_or c.join.new.turns position Open (omega arith) in
    let has = has-work m m os c.deref.result.now ps ws c.join.new.turns c.join.new.works.items position turn c.work_for-work.result refl c.deref.ensures.value lt now c.join.ensures.prepared c.work_for-work.ensures.work in
    subst (λ (p : ℕ). IsReadyWork m (slice_get os p) c.work_for-work.result) (sym c.from-place.ensures) (ready-work m ws os ps position turn c.work_for-work.result c.requires.words lt has)

pub returns-clause-serves : goal.returns-clause-serves
returns-clause-serves g c =
    λ line rs done by out s.
    let same = c.join.ensures.book in
    subst (λ (p : ℕ). Serving c.args.book.now.bounds line rs (done ++ p ∷ []) c.serve_place.new.book.history c.serve_place.new.outcomes.items) c.from-place.ensures
    (subst (λ (b : BookState). Serving b.bounds line rs (done ++ c.from-place.result ∷ []) c.serve_place.new.book.history c.serve_place.new.outcomes.items) same
    (c.serve_place.ensures.serves line rs done by (subst (IsOutside done) (sym c.from-place.ensures) out)
    (subst (λ (b : BookState). Serving b.bounds line rs done b.history c.args.outcomes.now.items) (sym same) s)))

pub returns-clause-prepared : goal.returns-clause-prepared
returns-clause-prepared g c =
    let m = memory_of c.join.new.book in
    let os = c.args.outcomes.now.items in
    let ps = c.args.places.now in
    let ws = c.args.words.now in
    let position = c.args.position in
    let count : vec_len c.args.outcomes.now ≡ length os = search rules in
    let in_place : slice_index ps position < vec_len c.args.outcomes.now = c.requires.within position 0 c.requires.position in
    let was = place_in os (slice_index ps position) (omega arith) in
    let prepared : ArePrepared m os ps ws c.join.new.turns c.join.new.works.items position =
    subst (λ (o : List Outcome). ArePrepared m o ps ws c.join.new.turns c.join.new.works.items position) c.deref.ensures.value c.join.ensures.prepared in
    turn-keeps m (memory_of c.serve_place.new.book) os c.serve_place.new.outcomes.items ps ws c.join.new.turns c.join.new.works.items c.work_for-work.new.works.items position was.0 c.requires.rising c.requires.apart c.requires.position was.1
    (c.serve_place.ensures.memory was.0 (subst (λ (k : ℕ). slice_get os k ≡ Some was.0) (sym c.from-place.ensures) was.1))
    (λ p other. c.serve_place.ensures.others p (λ e. other (subst (λ (k : ℕ). p ≡ k) c.from-place.ensures e)))
    c.work_for-work.ensures.others prepared

pub returns-clause-together : goal.returns-clause-together
returns-clause-together g c =
    let lt = c.requires.position in
    let paired = c.requires.paired in
    together-next c.args.words.now c.args.turns.now c.join.new.turns c.args.position (omega arith) c.join.ensures.closes c.join.ensures.closed c.requires.together

pub returns-clause-counted : goal.returns-clause-counted
returns-clause-counted g c =
    let m = memory_of c.join.new.book in
    let os = c.args.outcomes.now.items in
    let ps = c.args.places.now in
    let ws = c.args.words.now in
    let position = c.args.position in
    let turn = get_or c.join.new.turns position Open in
    let long : length c.join.new.turns ≡ 64 = search rules in
    let few = c.requires.few_places in
    let lt = c.requires.position in
    let now : slice_get c.join.new.turns position ≡ Some turn = slice_get-get_or c.join.new.turns position Open (omega arith) in
    let has = has-work m m os c.deref.result.now ps ws c.join.new.turns c.join.new.works.items position turn c.work_for-work.result refl c.deref.ensures.value lt now c.join.ensures.prepared c.work_for-work.ensures.work in
    next-counted ws os ps position c.args.turns.now c.join.new.turns (work_at m os ps position) turn c.work_for-work.result c.args.meter.now c.join.new.meter c.serve_place.new.meter c.single.result c.requires.words lt c.requires.paired c.requires.together
    c.join.ensures.closes now has c.join.ensures.counted (subst (λ (p : ℕ). CountsTurn (slice_get os p) c.work_for-work.result c.join.new.meter c.serve_place.new.meter) c.from-place.ensures c.serve_place.ensures.counted) c.single.ensures

pub join-requires-clause-words : goal.join-requires-clause-words
join-requires-clause-words g c κs within = subst (λ (o : List Outcome). AreWords c.args.words.now o c.args.places.now) (sym c.deref.ensures.value) c.requires.words
