use Rattle.std.proofs.Common.{rules, arith, ◌≡◌, ◌+◌, ◌++◌, ◌∷◌, [], List, ℕ, suc, map, replicate, ◌∙◌, sym, ap}
use Rattle.std.proofs.lemmas.List.{map_push}
use Rattle.request_slots.specs.Stages.{own_word}
use Rattle.request_slots.specs.declared.desk.Desk.{Desk}
use Rattle.request_slots.specs.declared.known.Known.{Known}
use Rattle.request_slots.specs.Standing.{newcomer, newcomers}
use Rattle.request_slots.specs.Views.{untold}
use Rattle.request_slots.proofs.Making.{opens}
use Rattle.request_slots.proofs.Sitting.{all_new_at}
use Rattle.request_slots.proofs.slots.Slots.new.Goals as goal

pub new-requires : goal.new-requires
new-requires c =
    let words : c.as_slice.result.now ≡ replicate (own_word c.args.callers) 0 = c.as_slice.ensures.value ∙ (c.in_ok-words.ensures.items_if_clones_equal (λ y e. search rules) ∙ ap (λ (n : ℕ). replicate n 0) c.word_at.ensures) in
    opens _ c.args.callers _ _ c.args.desk words c.in_ok-homes.ensures (ap (λ (d : Desk). d.book.bounds) (sym c.deref.ensures) ∙ sym c.bounds-bounds.ensures) c.requires.empty c.requires.spare

pub returns-clause-each : goal.returns-clause-each
returns-clause-each c = all_new_at _ c.bounds-bounds.result c.loop-k.k c.loop-k.seats.items c.loop-k.invariant.2

-- one seat more is that of one newcomer more
pub loop-k-preserved : goal.loop-k-preserved
loop-k-preserved c =
    let m = c.in-Ok.table.shared.table_id in
    let bounds = c.bounds-bounds.result in
    let before = map untold (newcomers m bounds c.loop-k.k) in
    let pushed = c.in_ok-push.ensures.items in
    let next : suc c.loop-k.k ≡ c.loop-k.k + 1 = omega arith in
    let seats = pushed ∙ ap (λ (l : List Known). l ++ c.make_caller.result ∷ []) c.loop-k.invariant.2 ∙ ap (λ (s : Known). before ++ s ∷ []) c.make_caller.ensures.seat ∙ sym (map_push untold (newcomers m bounds c.loop-k.k) (newcomer m bounds c.loop-k.k)) ∙ ap (λ (n : ℕ). map untold (newcomers m bounds n)) next in
    (c.make_caller.ensures.place, c.make_caller.ensures.maker, seats)
