-- An outcome that goes home keeps the rule.
-- `tells` is what the table asks of the step.
use Rattle.std.proofs.Common.{◌≡◌, ℕ, ◌+◌, ◌<◌, true, ◌∷◌, Option, Some, refl, sym, ap, ◌∙◌, subst, arith}
use mathlib.Core.Option.{some, none}
use lib.ListN.{get_elem?}
use Rattle.atomic_table.specs.Table.{State, step, gives, Allows, rest}
use Rattle.vector_memory.specs.declared.bounds.Bounds.{Bounds}
use Rattle.call_history.specs.declared.request.Job.{Job}
use Rattle.call_history.specs.declared.request.Outcome.{Outcome}
use Rattle.call_history.specs.Fits.{calls_of, request_by, outcome_by, fate_of, IsOfJob}
use Rattle.request_slots.specs.declared.desk.Slot.{Slot}
use Rattle.request_slots.specs.declared.desk.Slot.TheVariants.{Told}
use Rattle.request_slots.specs.declared.known.Pass.{Pass}
use Rattle.request_slots.specs.declared.known.Known.{Known}
use Rattle.request_slots.specs.declared.known.View.{View}
use Rattle.request_slots.specs.declared.known.View.TheVariants.{Caller}
use Rattle.request_slots.specs.Stages.{Stage, unmade, idle, posted, taken, done, is_left, Station, own_word}
use Rattle.request_slots.specs.Passes.{held_by, Part, part_of, strikes}
use Rattle.request_slots.specs.Requests.{StageHolds, FateHolds, ServedHolds, request_at}
use Rattle.request_slots.specs.Lawful.{Knows, Lawful}
use Rattle.request_slots.specs.Views.{known_of, pass_in, passing}
use Rattle.request_slots.specs.Events.{Sat, Tells}
use Rattle.request_slots.proofs.Stations.{Abides, put_all_abide}
use Rattle.request_slots.proofs.Carrying.{made_by_stage, moved}
use Rattle.request_slots.proofs.RequestLists.{request_by-all_but, request_by-all_but_else}
use Rattle.request_slots.proofs.Passing.{staged, mine, holds_pass, serve_step}

taken_by_request : (stage : Stage) (job asked : Job) → Some asked ≡ request_at stage job → stage ≡ taken
taken_by_request unmade job asked e = absurd (cc e)
taken_by_request idle job asked e = absurd (cc e)
taken_by_request posted job asked e = absurd (cc e)
taken_by_request taken job asked e = refl
taken_by_request done job asked e = absurd (cc e)

abides_done : (s : Station) → s.stage ≡ taken → Abides s (staged s done)
abides_done s e = record {
  seat = refl;
  own = refl;
  job = refl;
  start = refl;
  held = refl;
  left = sym (ap is_left e);
  unmade_stays = λ f. absurd (cc (e, f));
  idle_stays = λ f. absurd (cc (e, f));
  done_stays = λ _. refl;
  posted_stood = λ f. absurd (cc f);
}

module _ (bounds : Bounds) (s : State Slot View) (r : Lawful bounds s) (id : ℕ) (c : Known) (there : get_elem? s.views id ≡ some (Caller c)) (p : Pass) (has : c.pass ≡ Some p) where
  abbrev knows : Knows bounds r.n r.made r.line r.lock r.station id (Caller c)
  knows = r.each_seat id (Caller c) there

  tell_keeps : (i : ℕ) (job : Job) (o : Outcome) → i < r.n → p.committed ≡ true → request_by i p.taken ≡ Some job → outcome_by i p.asked p.outcomes ≡ Some o
      → Lawful bounds (moved s i 4 (some (Told o)) id (Caller (passing c (strikes p i))))
  tell_keeps i job o near over asks has_told =
      let p' : Pass = strikes p i in let there' : Station = r.station i in
      let rule = mine bounds s r id c there p has in
      let pass = holds_pass bounds s r id c there p has in
      let caller = rule.each_caller i near in
      let at_taken = taken_by_request there'.stage there'.job job (sym asks ∙ caller.request_is) in
      let stage = subst (StageHolds bounds r.line (part_of (held_by c.standing.number p) i) (get_elem? s.homes (i + 1)) i there') at_taken caller.stage_holds in
      let told = subst (ServedHolds bounds r.line (outcome_by i p.asked p.outcomes) i there'.own there'.job there'.start) over stage.served in
      let same : told.0 ≡ o = cc (told.1, has_told) in
      serve_step bounds s r id c there p has i 4 (some (Told o)) (staged there' done) p' near (made_by_stage bounds s r i (λ e. let t : taken ≡ unmade = sym at_taken ∙ e in absurd (cc t))) (abides_done there' at_taken)
      (λ j other. ap (λ (q : Option Job). let z : Part = record { request = q; outcome = outcome_by j p.asked p.outcomes; before = p.before; committed = p.committed } in z) (request_by-all_but_else j i p.taken other))
      record {
        word_is = refl;
        request_is = request_by-all_but i p.taken;
        stage_holds = record {
          outcome = o;
          home_is = refl;
          of_job = subst (IsOfJob there'.job) same told.2;
          fate = subst (λ (z : Outcome). FateHolds bounds r.line i there'.own (calls_of there'.job) there'.start (fate_of z)) same told.3;
        };
      }
      record {
        line_is = pass.line_is;
        before_is = pass.before_is;
        grows = pass.grows;
        all_tried = pass.all_tried;
        of_callers = λ j far. request_by-all_but_else j i p.taken (λ e. omega arith) ∙ pass.of_callers j far;
      }
      (λ t e. knows.settled.tried p has t ((put_all_abide r.station i (staged there' done) (abides_done there' at_taken) c.standing.number).posted_stood e))

pub tells : (bounds : Bounds) (slots id i : ℕ) (job : Job) (old me : Sat) (o : Outcome) → me ≡ (old.0, (i + 1, Told o) ∷ rest old.1) → old.0 ≡ Caller (known_of old.0)
    → (known_of old.0).pass ≡ Some (pass_in (known_of old.0)) → i + 1 < slots → (pass_in (known_of old.0)).committed ≡ true → request_by i (pass_in (known_of old.0)).taken ≡ Some job
    → outcome_by i (pass_in (known_of old.0)).asked (pass_in (known_of old.0)).outcomes ≡ Some o
    → Allows (Lawful bounds) slots id me (own_word i) (λ _. 4) (λ _. Tells (step slots (own_word i) 4 0 none) me 4)
tells bounds slots id i job old me o put is has near over asks told =
    subst (λ (m : Sat). Allows (Lawful bounds) slots id m (own_word i) (λ _. 4) (λ _. Tells (step slots (own_word i) 4 0 none) m 4)) (sym put) go
  where
    go : Allows (Lawful bounds) slots id (old.0, (i + 1, Told o) ∷ rest old.1) (own_word i) (λ _. 4) (λ _. Tells (step slots (own_word i) 4 0 none) (old.0, (i + 1, Told o) ∷ rest old.1) 4)
    go s r deep at small =
        let c : Known = known_of old.0 in
        let there : get_elem? s.views id ≡ some (Caller c) = at ∙ ap (λ (v : View). some v) is in
        let sized : slots ≡ r.n + 1 = sym deep ∙ r.deep in (
          Caller (passing c (strikes (pass_in c) i)),
          gives,
          tt,
          tell_keeps bounds s r id c there (pass_in c) has i job o (omega arith) over asks told,
          λ j e. let same : i ≡ j = omega arith in ap (λ (z : ℕ). let m : Sat = (Caller (passing c (strikes (pass_in c) z)), rest old.1) in m) same,
        )
