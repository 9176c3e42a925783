-- A run with a path switch: an SDU arrives at the relay, is purged there, and is heard over the direct path.
use Rattle.std.proofs.Common.{◌≡◌, inl, inr, false, cond, [], ◌∷◌, Some, None, refl, sym, ◌∙◌, arith}
use Rattle.std.proofs.lemmas.Bool.{cases_Bool, cond-false}
use Rattle.item_law.specs.State.{Remote, Drb, Chan, LocalId, Key, Ul, AtRemote, AtRelay, AtGnb, ToDirect, ToRelay, is_remote, is_key, Tables, Sdu, Report, OnFirstHop, InSlot, Arrived, Chain, TablesFit, is_number, put, is_heard}
use Rattle.item_law.specs.Steps.{item_given, next_content, gives_data, gives_report, hears_report, hears_data, planned, after_apply, new_plan, mark, Step, submit, give_data, give_report, complete_direct, complete_relay, plan, apply}
use Rattle.item_law.specs.World.{World, Happens, steps, Begins, IsRun}
use Rattle.item_law.specs.Recovery.{HearsSecondCopy}
use Rattle.item_law.proofs.base.Puts.{of_remote}

abbrev remote : Remote
remote = record { 0 = 1 }

abbrev drb : Drb
drb = record { 0 = 1 }

abbrev chan : Chan
chan = record { 0 = 1 }

abbrev id : LocalId
id = record { 0 = 5 }

abbrev sdu : Sdu
sdu = 99 ∷ []

abbrev tables : Tables
tables = record { bearer = λ r d. is_remote r remote; uu = λ r d. Some chan; goal = λ r. cond (is_remote r remote) (ToRelay id) ToDirect; limit = λ r d. 2048 }

abbrev key : Key
key = record { remote = remote; drb = drb; way = Ul }

---- the chains

abbrev start : Chain
start = record {
  path = λ r. record { epoch = 0; goal = tables.goal r; plan = None };
  sender = λ k. record { submitted = []; confirmed = λ c. false; place = 0; waits = false };
  heard = λ k c. None;
  wanted = λ k. false;
  items = λ n. None;
  spot = λ n. OnFirstHop;
}

abbrev submitted : Chain
submitted = record start { sender = put is_key start.sender key (record (start.sender key) { submitted = sdu ∷ [] }) }

abbrev given : Chain
given = gives_data submitted 0 key

abbrev relayed : Chain
relayed = record given { spot = put is_number given.spot 0 (InSlot remote) }

abbrev opened : Chain
opened = planned relayed remote ToDirect

abbrev purged : Chain
purged = after_apply opened remote (new_plan ToDirect) AtRelay

abbrev left : Chain
left = after_apply purged remote (mark (new_plan ToDirect) AtRelay) AtRemote

abbrev switched : Chain
switched = after_apply left remote (mark (mark (new_plan ToDirect) AtRelay) AtRemote) AtGnb

abbrev reported : Chain
reported = gives_report switched 1 key

abbrev told : Chain
told = record reported { sender = put is_key reported.sender key (hears_report (reported.sender key) (is_heard switched key) 0); spot = put is_number reported.spot 1 Arrived }

abbrev again : Chain
again = gives_data told 2 key

abbrev heard : Chain
heard = record again { heard = put is_key again.heard key (hears_data (again.heard key) 0 sdu); spot = put is_number again.spot 2 Arrived }

---- the run

abbrev world : Chain → World
world s = record { chain = s; tainted = λ r. false; broken = λ r. false }

step : (old new : Chain) → Step tables old new → Happens tables (world old) (world new)
step old new s = steps s refl (λ r e. inl refl)

fits : TablesFit tables
fits = record { apart = λ r q u e f. only r u e ∙ sym (only q u f); rows = λ r d u e b. record { chan = chan; is = refl } }
  where
    not_direct : (u : LocalId) → ToDirect ≡ ToRelay u → ⊥
    not_direct u e = cc

    only : (r : Remote) (u : LocalId) → cond (is_remote r remote) (ToRelay id) ToDirect ≡ ToRelay u → r ≡ remote
    only r u e = elim (cases_Bool (is_remote r remote)) [
      | inl h ↦ of_remote.same r remote h
      | inr h ↦ absurd (not_direct u (sym (cond-false (is_remote r remote) (ToRelay id) ToDirect h) ∙ e))
    ]

begins : Begins tables (world start)
begins = record { opens = record { path = λ r. refl; sender = λ k. refl; heard = λ k c. refl; items = λ n. refl }; tainted = λ r. refl; broken = λ r. refl }

run : IsRun tables (world heard ∷ world again ∷ world told ∷ world reported ∷ world switched ∷ world left ∷ world purged ∷ world opened ∷ world relayed ∷ world given
    ∷ world submitted ∷ world start ∷ [])
run = (
  step again heard (complete_direct 2 (item_given told key (next_content told key)) refl refl refl (refl, refl) refl),
  (
    step told again (give_data 2 key refl refl refl (omega arith) refl refl),
    (
      step reported told (complete_direct 1 (item_given switched key (Report (is_heard switched key))) refl refl refl (refl, refl)
          (0, record { within = omega arith; below = λ c lt. absurd (omega arith); stops = λ lt. refl }, refl)),
      (
        step switched reported (give_report 1 key refl refl refl refl refl),
        (
          step left switched (apply remote (mark (mark (new_plan ToDirect) AtRelay) AtRemote) AtGnb refl refl refl),
          (
            step purged left (apply remote (mark (new_plan ToDirect) AtRelay) AtRemote refl refl refl),
            (
              step opened purged (apply remote (new_plan ToDirect) AtRelay refl refl refl),
              (
                step relayed opened (plan remote ToDirect refl tt refl),
                (
                  step given relayed (complete_relay 0 (item_given submitted key (next_content submitted key)) id remote refl refl refl (refl, refl)
                      (refl, refl, record { chan = chan; is = refl }) refl),
                  (
                    step submitted given (give_data 0 key refl refl refl (omega arith) refl refl),
                    (
                      step start submitted (submit key sdu 0 (λ c lt. absurd (omega arith)) (omega arith) refl),
                      begins,
                    ),
                  ),
                ),
              ),
            ),
          ),
        ),
      ),
    ),
  ),
)

pub hears_second_copy : HearsSecondCopy
hears_second_copy = record {
  tables = tables;
  world = world heard;
  run = record {
    fits = fits;
    before = world again ∷ world told ∷ world reported ∷ world switched ∷ world left ∷ world purged ∷ world opened ∷ world relayed ∷ world given ∷ world submitted ∷ world start
        ∷ [];
    run = run;
  };
  key = key;
  count = 0;
  sdu = sdu;
  id = id;
  n = 0;
  first = item_given submitted key (next_content submitted key);
  is_first = refl;
  its_content = refl;
  its_goal = refl;
  lost = refl;
  m = 2;
  second = item_given told key (next_content told key);
  is_second = refl;
  same_content = refl;
  direct = refl;
  arrived = refl;
  heard = refl;
}
