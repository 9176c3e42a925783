-- What is staged for a burst is on its way to the relay.
use Rattle.std.proofs.Common.{◌≡◌, inl, inr, ℕ, ◌-◌, ◌<◌, ◌≤◌, ◌==◌, Bool, true, false, cond, not, ◌||◌, List, [], ◌∷◌, ◌++◌, length, flat_map, map, Option, Some, None, refl, sym, ◌∙◌, ap, subst, arith}
use Rattle.std.specs.List.{AllByRecursion, AllZip, list_any}
use Rattle.std.proofs.lemmas.Bool.{cases_Bool, cases_lt, cond-true, cond-false, false≢true, and_parts, eqb-true}
use Rattle.std.proofs.lemmas.Option.{none-some, same_Some}
use Rattle.std.proofs.lemmas.List.{get_or_past, length_push}
use Rattle.link_base.specs.declared.names.Key.{Key}
use Rattle.link_base.specs.declared.names.Node.{Node as NodeKind}
use Rattle.link_base.specs.declared.names.PortName.{PortName}
use Rattle.link_base.specs.declared.names.Remote.{Remote}
use Rattle.link_base.specs.declared.names.Way.{Way}
use Rattle.rlc_model.specs.declared.hop.HopGrant.{HopGrant}
use Rattle.rlc_model.specs.declared.hop.HopGrant.TheVariants as grants
use Rattle.rlc_model.specs.declared.hop.Pdu.{Pdu}
use Rattle.rlc_model.specs.Hop.{on_air, off_air, sent_from}
use Rattle.rlc_model.specs.Sides.{hearer_of, sender_of}
use Rattle.pdcp_model.specs.declared.answers.SubmitFault.{SubmitFault}
use Rattle.pdcp_model.specs.Sender.{submit_fault}
use Rattle.script_text.specs.declared.event.Event.{Event}
use Rattle.script_text.specs.declared.event.Event.TheVariants.{Heard as HeardTicket, Left}
use Rattle.script_text.specs.declared.line.Line.{Line}
use Rattle.script_text.specs.declared.line.Line.TheVariants.{Submit, Grant, Deliver, Repeat, Lose, Stage, Expire, Push, Pull, Burst, Report, Plan as PlanLine, Apply}
use Rattle.script_text.specs.declared.reply.Reply.{Reply}
use Rattle.node_model.specs.declared.parcel.Parcel.{Parcel}
use Rattle.node_model.specs.Names.{AtRelay, is_node, node_of, owner}
use Rattle.node_model.specs.State.{PortSide}
use Rattle.node_model.specs.Switching.{node_after}
use Rattle.node_model.specs.Tables.{settings}
use Rattle.node_model.proofs.Names.{node_is}
use Rattle.node_model.proofs.Finding.{each_append}
use Rattle.chain_model.specs.Plans.{marks, is_open}
use Rattle.chain_model.specs.State.{Chain, node_at, set_node, set_plan, sender_at}
use Rattle.chain_model.specs.Bursts.{inbox, Ingests, ends, stops, pushes, hears, Ingress, told_by}
use Rattle.chain_model.specs.Lines.{Unless, submit_refusal, Submits, grant_refusal, Sends, Granted, is_handed_over, Delivers, without, Loses, stage_refusal, Stages, expire_refusal, report_refusal, plan_refusal, apply_refusal, closed, Applies}
use Rattle.chain_model.specs.Steps.{Does}
use Rattle.chain_model.specs.Told.{event_hears}
use Rattle.chain_law.proofs.Bursts.{shows_either}
use Rattle.chain_law.proofs.Counting.{air_less, air_long}
use Rattle.chain_law.proofs.Pairs.{each_picked, each_then}
use Rattle.heard_law.proofs.Air.{ticket_new}
use Rattle.heard_law.proofs.Tickets.{any_append, left_none}

-- the ticket was made, and its PDU goes to the relay as long as it is on the air
pub record IsForRelay (air : List (Option Pdu)) (ticket : ℕ) : Type 0 where
  pub made : ticket ≤ length air
  pub goes : (pdu : Pdu) → on_air air ticket ≡ Some pdu → owner (hearer_of pdu.way) pdu.port ≡ AtRelay

-- so is each ticket that is staged
abbrev pub AreForRelay : Chain → Type 0
AreForRelay c = AllByRecursion (IsForRelay c.air) c.staged

-- of tickets made before nothing is on the air that wasn't, and tickets are made on
pub record Follows (old new : List (Option Pdu)) : Type 0 where
  pub long : length old ≤ length new
  pub less : (ticket : ℕ) (pdu : Pdu) → ticket ≤ length old → on_air new ticket ≡ Some pdu → on_air old ticket ≡ Some pdu

follows_same : (old new : List (Option Pdu)) → new ≡ old → Follows old new
follows_same old new is = record { long = omega (arith, ap length is); less = λ ticket pdu made here. ap (λ (air : List (Option Pdu)). on_air air ticket) (sym is) ∙ here }

follows_off : (air : List (Option Pdu)) (ticket : ℕ) → Follows air (off_air air ticket)
follows_off air ticket = record { long = omega (arith, air_long air ticket); less = λ other pdu made here. air_less air ticket other pdu here }

follows_more : (air : List (Option Pdu)) (x : Pdu) → Follows air (air ++ Some x ∷ [])
follows_more air x = record {
  long = omega (arith, length_push air (Some x));
  less = λ ticket pdu made here. elim (ticket_new air x pdu ticket here) [
    | inl this ↦ absurd (omega (arith, made, this.0))
    | inr other ↦ other.1
  ];
}

for_relay_on : {old new : List (Option Pdu)} → Follows old new → (tickets : List ℕ) → AllByRecursion (IsForRelay old) tickets → AllByRecursion (IsForRelay new) tickets
for_relay_on {old} {new} f tickets all = each_then (IsForRelay old) (IsForRelay new)
    (λ ticket is. record { made = omega (arith, is.made, f.long); goes = λ pdu here. is.goes pdu (f.less ticket pdu is.made here) }) tickets all

-- what is staged stays, and the air goes on
record Keeps (old new : Chain) : Type 0 where
  air : Follows old.air new.air
  staged : new.staged ≡ old.staged

keeps_as : (old c new : Chain) → Follows old.air c.air → c.staged ≡ old.staged → new ≡ c → Keeps old new
keeps_as old c new air staged is = subst (Keeps old) (sym is) (record { air = air; staged = staged })

keeps_same : (old c new : Chain) → c.air ≡ old.air → c.staged ≡ old.staged → new ≡ c → Keeps old new
keeps_same old c new air staged is = keeps_as old c new (follows_same old.air c.air air) staged is

pub keeps_for_relay : (old new : Chain) → Follows old.air new.air → new.staged ≡ old.staged → AreForRelay old → AreForRelay new
keeps_for_relay old new air staged all = subst (AllByRecursion (IsForRelay new.air)) (sym staged) (for_relay_on air old.staged all)

kept : {old new : Chain} → Keeps old new → AreForRelay old → AreForRelay new
kept {old} {new} k all = keeps_for_relay old new k.air k.staged all

module _ (old mid : Chain) where
  unless : (refusal : Option Reply) (own : List Event) (reply : Reply) (done : Type 0) → (refusal ≡ None → done → AreForRelay old → AreForRelay mid)
      → Unless refusal old own reply mid done → AreForRelay old → AreForRelay mid
  unless (Some r) own reply done does u all = subst AreForRelay (sym u.2) all
  unless None own reply done does x all = does refl x all

  submits : (fault : Option SubmitFault) (key : Key) (sdu : List ℕ) (own : List Event) (reply : Reply) → Submits fault old key sdu own reply mid → Keeps old mid
  submits (Some fault) key sdu own reply s = keeps_same old old mid refl refl s.2
  submits None key sdu own reply s = keeps_same old _ mid refl refl s.2

  granted : (port : PortName) (way : Way) (octets : ℕ) (own : List Event) (reply : Reply) → Granted old port way octets own reply mid → Keeps old mid
  granted port way octets own reply g = by g.answer g.sends
    where
      by : (answer : HopGrant) → Sends old g.node port way g.epoch answer reply mid → Keeps old mid
      by (grants.Sent status number bytes) s = keeps_as old _ mid (follows_more old.air (sent_from port (sender_of way) g.epoch status number bytes)) refl s.1
      by grants.Idle s = keeps_same old old mid refl refl s.1
      by (grants.Small need) s = keeps_same old old mid refl refl s.1

  delivers : (o : Option Pdu) (own : List Event) (reply : Reply) (behind : Chain → Chain) → ((c : Chain) → Keeps c (behind c)) → Delivers old o own reply mid behind → Keeps old mid
  delivers None own reply behind so d = keeps_same old old mid refl refl d.2
  delivers (Some pdu) own reply behind so d = subst (Keeps old) (sym d.is) (by (is_handed_over d.answer))
    where
      by : (b : Bool) → Keeps old (cond b (behind (set_node old d.node)) old)
      by true = let k = so (set_node old d.node) in record { air = k.air; staged = k.staged }
      by false = keeps_same old old old refl refl refl

  loses : (o : Option Pdu) (ticket : ℕ) (own : List Event) (reply : Reply) → Loses old o ticket own reply mid → Keeps old mid
  loses None ticket own reply d = keeps_same old old mid refl refl d.2
  loses (Some pdu) ticket own reply d = keeps_as old (without ticket old) mid (follows_off old.air ticket) refl d.2

  closes : (remote : Remote) (b : Bool) (c : Chain) → c.air ≡ old.air → c.staged ≡ old.staged → mid ≡ closed remote b c → Keeps old mid
  closes remote true c air staged is = keeps_same old c mid air staged is
  closes remote false c air staged is = keeps_same old (closed remote false c) mid air staged is

  applies : (remote : Remote) (kind : NodeKind) (own : List Event) (reply : Reply) → Applies old remote kind own reply mid → Keeps old mid
  applies remote kind own reply x = closes remote (is_open (marks x.plan kind))
      (set_plan (set_node old (node_after (settings old.tables) remote x.plan.goal x.plan.epoch (node_at old (node_of kind remote)))) (marks x.plan kind)) refl refl x.is

  -- a ticket that isn't refused is on the air, and its PDU goes to the relay
  stages : (ticket : ℕ) (own : List Event) (reply : Reply) → stage_refusal (on_air old.air ticket) ≡ None → Stages old ticket own reply mid → AreForRelay old → AreForRelay mid
  stages ticket own reply none s all = subst AreForRelay (sym s.2) (by (list_any (λ t. t == ticket) old.staged))
    where
      its : (o : Option Pdu) → on_air old.air ticket ≡ o → stage_refusal o ≡ None → IsForRelay old.air ticket
      its None is e = absurd (none-some _ (sym e))
      its (Some pdu) is e = elim (cases_Bool pdu.status) [
        | inl status ↦ absurd (none-some _ (sym (sym (cond-true pdu.status _ _ status) ∙ e)))
        | inr data_pdu ↦ elim (cases_Bool (is_node AtRelay (owner (hearer_of pdu.way) pdu.port))) [
          | inl at ↦ record {
            made = made;
            goes = λ other here. ap (λ (p : Pdu). owner (hearer_of p.way) p.port) (same_Some other pdu (sym here ∙ is))
                ∙ sym (node_is AtRelay (owner (hearer_of pdu.way) pdu.port) at);
          }
          | inr not_at ↦ absurd (none-some _ (sym (sym (cond-true (not (is_node AtRelay (owner (hearer_of pdu.way) pdu.port))) _ None (ap not not_at))
              ∙ sym (cond-false pdu.status _ _ data_pdu) ∙ e)))
        ]
      ]
        where
          made : ticket ≤ length old.air
          made = elim (cases_lt (length old.air) ticket) [
            | inr le ↦ le
            | inl past ↦ absurd (none-some pdu (sym (off_end past) ∙ is))
          ]
            where
              off_end : length old.air < ticket → on_air old.air ticket ≡ None
              off_end past = elim (cases_Bool (ticket == 0)) [
                | inl nothing ↦ cond-true (ticket == 0) None _ nothing
                | inr some ↦ cond-false (ticket == 0) None _ some ∙ get_or_past old.air (ticket - 1) None (omega (arith, past))
              ]

      by : (b : Bool) → AllByRecursion (IsForRelay old.air) (cond b old.staged (old.staged ++ ticket ∷ []))
      by true = all
      by false = each_append (IsForRelay old.air) old.staged (ticket ∷ []) all (its (on_air old.air ticket) refl none, tt)

  -- each line keeps this
  pub does_for_relay : (line : Line) (own : List Event) (reply : Reply) → Does old line own reply mid → AreForRelay old → AreForRelay mid
  does_for_relay (Submit key sdu) own reply d = unless (submit_refusal old key) own reply _ (λ none x. kept (submits (submit_fault (sender_at old key) sdu) key sdu own reply x)) d
  does_for_relay (Grant port way octets) own reply d = unless (grant_refusal old port way) own reply _ (λ none x. kept (granted port way octets own reply x)) d
  does_for_relay (Deliver ticket) own reply d = kept (delivers (on_air old.air ticket) own reply (without ticket) (λ c. record { air = follows_off c.air ticket; staged = refl }) d)
  does_for_relay (Repeat ticket) own reply d = kept (delivers (on_air old.air ticket) own reply (λ c. c) (λ c. keeps_same c c c refl refl refl) d)
  does_for_relay (Lose ticket) own reply d = kept (loses (on_air old.air ticket) ticket own reply d)
  does_for_relay (Stage ticket) own reply d = unless (stage_refusal (on_air old.air ticket)) own reply _ (λ none x. stages ticket own reply none x) d
  does_for_relay (Expire port at timer) own reply d = unless (expire_refusal old port at) own reply _ (λ none x. kept (keeps_same old _ mid refl refl x.is)) d
  does_for_relay (Push port) own reply d = kept (keeps_same old _ mid refl refl d.is)
  does_for_relay (Pull port) own reply d = kept (keeps_same old _ mid refl refl d.is)
  does_for_relay Burst own reply d = λ all. subst AreForRelay (sym d.is) tt
  does_for_relay (Report key) own reply d = unless (report_refusal old key) own reply _ (λ none x. kept (keeps_same old _ mid refl refl x.2)) d
  does_for_relay (PlanLine remote goal) own reply d = unless (plan_refusal old remote goal) own reply _ (λ none x. kept (keeps_same old _ mid refl refl x.is)) d
  does_for_relay (Apply remote kind) own reply d = unless (apply_refusal old remote kind) own reply _ (λ none x. kept (applies remote kind own reply x)) d
  does_for_relay line own reply d = absurd d

-- of what a burst shows as heard each ticket was staged
module _ (old : Chain) (P : ℕ → Type 0) (t : ℕ) where
  ingested : {side new : PortSide} {tickets left : List ℕ} {heard : List Event} {put : List Parcel} → Ingests old side tickets heard put left new → AllByRecursion P tickets
      → list_any (event_hears t) heard ≡ true → P t
  ingested (ends none) all is = absurd (false≢true is)
  ingested (stops full) all is = absurd (false≢true is)
  ingested (pushes parcel full more) all is = ingested more all is
  ingested (hears {heard = heard} ticket pdu reply none on treats more) all is = elim (cases_Bool (event_hears t (HeardTicket ticket reply))) [
    | inl this ↦ subst P (eqb-true ticket t (and_parts _ _ this).0) all.0
    | inr other ↦ ingested more all.1 (sym (ap (λ (b : Bool). b || list_any (event_hears t) heard) other) ∙ is)
  ]

  pub burst_staged : (sides : List PortSide) (ingresses : List Ingress)
      → AllZip (λ (side : PortSide) (i : Ingress). Ingests old side (inbox old side.name) i.heard i.put i.left i.behind) sides ingresses → AllByRecursion P old.staged
      → list_any (event_hears t) (flat_map told_by ingresses) ≡ true → P t
  burst_staged [] [] zipped all is = absurd (false≢true is)
  burst_staged [] (i ∷ ingresses) zipped all is = absurd zipped
  burst_staged (side ∷ sides) [] zipped all is = absurd zipped
  burst_staged (side ∷ sides) (i ∷ ingresses) zipped all is = elim (shows_either t (told_by i) (flat_map told_by ingresses) is) [
    | inl first ↦ ingested zipped.0 (each_picked P _ old.staged all) (sym (any_append t i.heard (map (λ ticket. Left ticket) i.left) (left_none old old i.left)) ∙ first)
    | inr second ↦ burst_staged sides ingresses zipped.1 all second
  ]
