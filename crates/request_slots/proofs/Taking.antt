-- A try at the word of a caller keeps the rule, whether a request is taken or none was posted.
-- `takes_request` is what the table asks of the step.
use Rattle.std.proofs.Common.{◌≡◌, ◌≢◌, ℕ, ◌+◌, ◌<◌, true, false, List, ◌∷◌, get_or, set, eqb, Option, Some, refl, sym, ap, ◌∙◌, subst, ⊎_elim, arith, eq-eqb, ne_eqb}
use mathlib.Core.Logic.{dite}
use mathlib.Core.Option.{some, none}
use native.Mathlib.Decide.{ℕ_discrete}
use lib.ListN.{get_elem?}
use lib.Seq.{set-get_or}
use prog.Atomic.{either}
use Rattle.atomic_table.specs.Table.{State, step, keeps, takes, stepped, Allows}
use Rattle.call_history.specs.declared.request.Job.{Job}
use Rattle.call_history.specs.History.{Begins}
use Rattle.call_history.specs.Fits.{outcome_by}
use Rattle.call_history.proofs.Beginnings.{begins_self}
use Rattle.call_history.proofs.Serving.{request_by-push, request_by-push_else}
use Rattle.request_slots.specs.declared.desk.Slot.{Slot}
use Rattle.request_slots.specs.declared.desk.Slot.TheVariants.{Asked}
use Rattle.request_slots.specs.declared.known.Pass.{Pass}
use Rattle.request_slots.specs.declared.known.Known.{Known}
use Rattle.request_slots.specs.declared.known.View.{View}
use Rattle.request_slots.specs.declared.known.View.TheVariants.{Caller}
use Rattle.request_slots.specs.Stages.{Stage, unmade, idle, posted, taken, done, code, is_left, Station, own_word}
use Rattle.request_slots.specs.Passes.{held_by, is_in, Part, part_of, takes_on, tries}
use Rattle.request_slots.specs.Requests.{StageHolds, ServedHolds, request_at}
use Rattle.request_slots.specs.Lawful.{Knows, Lawful}
use Rattle.request_slots.specs.Views.{known_of, pass_in, passing}
use Rattle.request_slots.specs.Locks.{HolderSits}
use Rattle.atomic_table.proofs.Lists.{set_again}
use Rattle.vector_memory.specs.declared.bounds.Bounds.{Bounds}
use Rattle.request_slots.specs.Events.{Sat, Takes, Skips}
use Rattle.request_slots.proofs.Stations.{Abides, abides_self, put, put_here, put_else}
use Rattle.request_slots.proofs.Holders.{holder_begins, seats_apart, made_sit_after}
use Rattle.request_slots.proofs.Carrying.{seats_after, seen_by, made_by_stage, moved, view_step}
use Rattle.request_slots.proofs.RequestLists.{is_in-push}
use Rattle.request_slots.proofs.Passing.{staged, mine, holds_pass, own_knows, others_stay, serve_step, open_before}

code_posted : (stage : Stage) → code stage ≡ 2 → stage ≡ posted
code_posted unmade e = absurd (omega arith)
code_posted idle e = absurd (omega arith)
code_posted posted e = refl
code_posted taken e = absurd (omega arith)
code_posted done e = absurd (omega arith)

abides_taken : (s : Station) → s.stage ≡ posted → Abides s (staged s taken)
abides_taken s e = record {
  seat = refl;
  own = refl;
  job = refl;
  start = refl;
  held = refl;
  left = sym (ap is_left e);
  unmade_stays = λ f. absurd (cc (e, f));
  idle_stays = λ f. absurd (cc (e, f));
  done_stays = λ f. absurd (cc (e, f));
  posted_stood = λ f. absurd (cc f);
}

module _ (bounds : Bounds) (s : State Slot View) (r : Lawful bounds s) (id : ℕ) (c : Known) (there : get_elem? s.views id ≡ some (Caller c)) (p : Pass) (has : c.pass ≡ Some p) where
  abbrev knows : Knows bounds r.n r.made r.line r.lock r.station id (Caller c)
  knows = r.each_seat id (Caller c) there

  abbrev rule : Lawful bounds s
  rule = mine bounds s r id c there p has

  take_keeps : (i : ℕ) (job : Job) → i < r.n → is_in p.tried i ≡ false → (r.station i).stage ≡ posted → job ≡ (r.station i).job
      → Lawful bounds (moved s i 3 none id (Caller (passing c (takes_on p i job))))
  take_keeps i job near untried at_post same_job =
      let p' : Pass = takes_on p i job in let there' : Station = r.station i in
      let pass = holds_pass bounds s r id c there p has in
      let open_yet = open_before bounds s r id c there p has i near untried in
      let before_is = pass.before_is open_yet in
      let caller = rule.each_caller i near in
      let stage = subst (StageHolds bounds r.line (part_of (held_by c.standing.number p) i) (get_elem? s.homes (i + 1)) i there') at_post caller.stage_holds in
      serve_step bounds s r id c there p has i 3 none (staged there' taken) p' near (made_by_stage bounds s r i (λ e. let t : posted ≡ unmade = sym at_post ∙ e in absurd (cc t))) (abides_taken there' at_post)
      (λ j other. ap (λ (q : Option Job). let z : Part = record { request = q; outcome = outcome_by j p.asked p.outcomes; before = p.before; committed = p.committed } in z) (request_by-push_else j i p.taken job other))
      record {
        word_is = refl;
        request_is = request_by-push i p.taken job (caller.request_is ∙ ap (λ (z : Stage). request_at z there'.job) at_post) ∙ ap (λ (z : Job). Some z) same_job;
        stage_holds = record {
          home_is = refl;
          begins = subst (Begins there'.start) (sym before_is) stage.begins;
          served = subst (ServedHolds bounds r.line (outcome_by i p.asked p.outcomes) i there'.own there'.job there'.start) (sym open_yet) stage.own_is;
        };
      }
      record {
        line_is = pass.line_is;
        before_is = pass.before_is;
        grows = pass.grows;
        all_tried = λ e. absurd (cc (e, open_yet));
        of_callers = λ j far. request_by-push_else j i p.taken job (λ e. omega arith) ∙ pass.of_callers j far;
      }
      (λ t. dite (ℕ_discrete c.standing.number i)
      (λ same e. let z : taken ≡ posted = ap (λ (z : Station). z.stage) (sym (put_here r.station i (staged there' taken)) ∙ ap (put r.station i (staged there' taken)) (sym same)) ∙ e in absurd (cc z))
      (λ other e. ⊎_elim (λ (old : is_in p.tried c.standing.number ≡ true). knows.settled.tried p has old (ap (λ (z : Station). z.stage) (sym (put_else r.station i (staged there' taken) c.standing.number other)) ∙ e))
      (λ (new : i ≡ c.standing.number). other (sym new)) (is_in-push p.tried i c.standing.number t)))

  -- a try that found no request
  miss_keeps : (i : ℕ) → i < r.n → is_in p.tried i ≡ false → get_or s.words (own_word i) 0 ≢ 2 → Lawful bounds (seen_by s (own_word i) id (Caller (passing c (tries p i))))
  miss_keeps i near untried miss =
      let p' : Pass = tries p i in
      let pass = holds_pass bounds s r id c there p has in
      let open_yet = open_before bounds s r id c there p has i near untried in
      let abide : (m : ℕ) → Abides (r.station m) (r.station m) = λ m. abides_self (r.station m) in
      let seats = seats_after (Knows bounds r.n r.made r.line r.lock r.station) (Knows bounds r.n r.made r.line (held_by c.standing.number p') r.station) s.views id (Caller (passing c p'))
      (own_knows bounds s r id c there p has r.line p' r.station c.standing.passes (begins_self r.line) abide
      (λ t e. ⊎_elim (λ (old : is_in p.tried c.standing.number ≡ true). knows.settled.tried p has old e)
      (λ (new : i ≡ c.standing.number). miss ((r.each_caller i near).word_is ∙ ap code (ap (λ (z : ℕ). (r.station z).stage) new ∙ e))) (is_in-push p.tried i c.standing.number t)))
      (others_stay bounds s r id c there p has r.line p' r.station (begins_self r.line) abide) r.each_seat in
      subst (λ (ws : List ℕ). Lawful bounds record { words = ws; homes = s.homes; views = set s.views id (Caller (passing c p')) }) (sym (set-get_or s.words (own_word i) 0)) record {
        n = r.n;
        made = r.made;
        line = r.line;
        lock = held_by c.standing.number p';
        station = r.station;
        wide = r.wide;
        deep = r.deep;
        not_made = r.not_made;
        line_holds = r.line_holds;
        lock_holds = record {
          word_is = rule.lock_holds.word_is;
          inside = rule.lock_holds.inside;
          home_is = rule.lock_holds.home_is;
          pass = record {
            line_is = pass.line_is;
            before_is = pass.before_is;
            grows = pass.grows;
            all_tried = λ e. absurd (cc (e, open_yet));
            of_callers = pass.of_callers;
          };
        };
        holder_sits = holder_begins s.views r.station id (Caller c) (passing c p') p' there knows.seat_is refl;
        sit_apart = seats_apart bounds r.n r.made r.line (held_by c.standing.number p') r.station (set s.views id (Caller (passing c p'))) seats;
        made_sit = made_sit_after s.views r.station r.station r.made id (Caller c) (Caller (passing c p')) there refl (λ _. refl) r.made_sit;
        each_caller = rule.each_caller;
        each_seat = seats;
      }

pub takes_request : (bounds : Bounds) (slots id i : ℕ) (me : Sat) → me.0 ≡ Caller (known_of me.0) → (known_of me.0).pass ≡ Some (pass_in (known_of me.0)) → i + 1 < slots → is_in (pass_in (known_of me.0)).tried i ≡ false
    → Allows (Lawful bounds) slots id me (own_word i) (λ x. either (eqb x 2) 3 x) (Takes (step slots (own_word i) 2 3 none) me)
takes_request bounds slots id i me is has near untried s r deep at small =
    let c : Known = known_of me.0 in let p : Pass = pass_in c in let x : ℕ = get_or s.words (own_word i) 0 in
    let there : get_elem? s.views id ≡ some (Caller c) = at ∙ ap (λ (v : View). some v) is in
    let sized : slots ≡ r.n + 1 = sym deep ∙ r.deep in
    let inside : i < r.n = omega arith in
    let caller = r.each_caller i inside in
    dite (ℕ_discrete x 2)
    (λ hit. let at_post = code_posted (r.station i).stage (sym caller.word_is ∙ hit) in
    let left = subst (StageHolds bounds r.line (part_of r.lock i) (get_elem? s.homes (i + 1)) i (r.station i)) at_post caller.stage_holds in
    let job : Job = (r.station i).job in (
      Caller (passing c (takes_on p i job)),
      takes (i + 1) (Asked job),
      left.home_is,
      subst (λ b. Lawful bounds (stepped s (own_word i) (either b 3 x) id me.1 (Caller (passing c (takes_on p i job))) (takes (i + 1) (Asked job)))) (sym (eq-eqb x 2 hit))
          (take_keeps bounds s r id c there p has i job inside untried at_post refl),
      λ j e. let same : i ≡ j = omega arith in
          ((λ _. (job, ap (λ (z : ℕ). Caller (passing c (takes_on p z job))) same, ap (λ (z : ℕ). let l : List (ℕ × Slot) = (z + 1, Asked job) ∷ me.1 in l) same, left.lawful)), λ miss. absurd (miss hit)),
    ))
    (λ miss. (
      Caller (passing c (tries p i)),
      keeps,
      tt,
      subst (λ b. Lawful bounds (stepped s (own_word i) (either b 3 x) id me.1 (Caller (passing c (tries p i))) keeps)) (sym (ne_eqb x 2 miss)) (miss_keeps bounds s r id c there p has i inside untried miss),
      λ j e. let same : i ≡ j = omega arith in ((λ hit. absurd (miss hit)), λ _. ap (λ (z : ℕ). let m : Sat = (Caller (passing c (tries p z)), me.1) in m) same),
    ))

-- a look at the word first
pub skips_request : (bounds : Bounds) (slots id i : ℕ) (me : Sat) → me.0 ≡ Caller (known_of me.0) → (known_of me.0).pass ≡ Some (pass_in (known_of me.0)) → i + 1 < slots → is_in (pass_in (known_of me.0)).tried i ≡ false
    → Allows (Lawful bounds) slots id me (own_word i) (λ x. x) (Skips (step slots (own_word i) 0 0 none) me)
skips_request bounds slots id i me is has near untried s r deep at small =
    let c : Known = known_of me.0 in let p : Pass = pass_in c in let x : ℕ = get_or s.words (own_word i) 0 in
    let there : get_elem? s.views id ≡ some (Caller c) = at ∙ ap (λ (v : View). some v) is in
    let sized : slots ≡ r.n + 1 = sym deep ∙ r.deep in
    let inside : i < r.n = omega arith in
    dite (ℕ_discrete x 2)
    (λ hit. (
      me.0,
      keeps,
      tt,
      view_step bounds s r (own_word i) id me.0 me.0 at refl (r.each_seat id me.0 at) (subst (λ vs. HolderSits vs r.station r.lock) (sym (set_again s.views id me.0 at)) r.holder_sits),
      λ j e. ((λ _. refl), λ miss. absurd (miss hit)),
    ))
    (λ miss. (
      Caller (passing c (tries p i)),
      keeps,
      tt,
      miss_keeps bounds s r id c there p has i inside untried miss,
      λ j e. let same : i ≡ j = omega arith in ((λ hit. absurd (miss hit)), λ _. ap (λ (z : ℕ). let m : Sat = (Caller (passing c (tries p z)), me.1) in m) same),
    ))
