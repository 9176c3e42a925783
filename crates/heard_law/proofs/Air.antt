-- A PDU on the air is the one that the grant showed which sent it.
use Rattle.std.proofs.Common.{◌≡◌, ◌≢◌, ◌⊎◌, inl, inr, ℕ, zero, suc, ◌+◌, ◌-◌, ◌==◌, Bool, true, false, cond, List, [], ◌∷◌, ◌++◌, length, fold, get_or, Option, Some, None, is_some, is_none, refl, sym, ◌∙◌, ap, subst, arith, nat_le, count_by, option_map, option_and_then}
use Rattle.std.proofs.lemmas.Bool.{cases_Bool, cond-true, cond-false, true≢false, eqb-false, eq-eqb, ne_eqb, false≢true}
use Rattle.std.proofs.lemmas.Option.{none-some, same_Some}
use Rattle.link_base.specs.declared.names.PortName.{PortName}
use Rattle.link_base.specs.declared.names.Way.{Way}
use Rattle.rlc_model.specs.declared.hop.Pdu.{Pdu}
use Rattle.rlc_model.specs.declared.hop.HopGrant.{HopGrant}
use Rattle.rlc_model.specs.declared.hop.HopGrant.TheVariants as grants
use Rattle.rlc_model.specs.Hop.{on_air, sent_from}
use Rattle.rlc_model.specs.Sides.{sender_of}
use Rattle.pdcp_model.specs.declared.answers.SubmitFault.{SubmitFault}
use Rattle.pdcp_model.specs.Sender.{submit_fault}
use Rattle.link_base.specs.declared.names.Key.{Key}
use Rattle.link_base.specs.declared.names.Remote.{Remote}
use Rattle.bearer_map.specs.Contents.{Contents}
use Rattle.script_text.specs.declared.line.Line.{Line}
use Rattle.script_text.specs.declared.line.Line.TheVariants.{Submit, Grant, Deliver, Repeat, Lose, Stage, Expire, Push, Pull, Burst, Report, Plan as PlanLine, Apply}
use Rattle.script_text.specs.declared.event.Event.{Event}
use Rattle.script_text.specs.declared.reply.Reply.{Reply}
use Rattle.script_text.specs.declared.reply.Reply.TheVariants.{NoPort, AirFull, Worn}
use Rattle.script_text.specs.History.{Entry}
use Rattle.node_model.specs.State.{PortSide, entity_of}
use Rattle.chain_model.specs.State.{Chain, set_node, entity_on, sender_at}
use Rattle.chain_model.specs.Bursts.{air_after}
use Rattle.chain_model.specs.Lines.{Unless, submit_refusal, Submits, grant_refusal, Sends, Granted, is_handed_over, Delivers, without, Loses, stage_refusal, Stages, expire_refusal, Expires, report_refusal, Wants, plan_refusal, Plans, apply_refusal, closed, Applies}
use Rattle.chain_model.specs.Steps.{Does}
use Rattle.chain_model.specs.Told.{air_entry, entry_after, side_epoch}
use Rattle.chain_law.proofs.Counting.{air_less}
use Rattle.chain_law.proofs.Bursting.{air_case}
use Rattle.heard_law.proofs.Knowing.{Knows}
use Rattle.heard_law.proofs.Standing.{epoch_of}

-- what is on the air is told
abbrev pub AirTold : List Entry → List (Option Pdu) → Type 0
AirTold h air = (ticket : ℕ) (pdu : Pdu) → on_air air ticket ≡ Some pdu → air_entry h ticket ≡ Some pdu

-- what is on the air was there
abbrev pub Less : List (Option Pdu) → List (Option Pdu) → Type 0
Less new old = (ticket : ℕ) (pdu : Pdu) → on_air new ticket ≡ Some pdu → on_air old ticket ≡ Some pdu

less_same : (new old : List (Option Pdu)) → new ≡ old → Less new old
less_same new old is ticket pdu here = ap (λ (air : List (Option Pdu)). on_air air ticket) (sym is) ∙ here

-- a line sends no PDU
abbrev pub SendsNone : Line → Reply → Type 0
SendsNone line reply = (h : List Entry) (ticket : ℕ) (before : Option Pdu) → entry_after h line reply ticket before ≡ before

-- so it is told behind such a line
pub air_told : (h : List Entry) (e : Entry) (old new : List (Option Pdu)) → SendsNone e.line e.reply → Less new old → AirTold h old → AirTold (e ∷ h) new
air_told h e old new none less told ticket pdu here = none h ticket (air_entry h ticket) ∙ told ticket pdu (less ticket pdu here)

-- what is at a place behind one more
place_new : {T : Type 0} (air : List (Option T)) (x p : T) (n : ℕ) → get_or (air ++ Some x ∷ []) n None ≡ Some p
    → ((n ≡ length air) × (p ≡ x)) ⊎ ((n ≢ length air) × (get_or air n None ≡ Some p))
place_new [] x p zero e = inl (refl, sym (same_Some x p e))
place_new [] x p (suc n) e = absurd (none-some p e)
place_new (y ∷ ys) x p zero e = inr ((λ is. omega (arith, is)), e)
place_new (y ∷ ys) x p (suc n) e = elim (place_new ys x p n e) [
  | inl this ↦ inl (ap suc this.0, this.1)
  | inr other ↦ inr ((λ is. other.0 (omega (arith, is))), other.1)
]

-- the same by tickets
pub ticket_new : (air : List (Option Pdu)) (x p : Pdu) (ticket : ℕ) → on_air (air ++ Some x ∷ []) ticket ≡ Some p
    → ((ticket ≡ length air + 1) × (p ≡ x)) ⊎ ((ticket ≢ length air + 1) × (on_air air ticket ≡ Some p))
ticket_new air x p ticket e = elim (cases_Bool (ticket == 0)) [
  | inl zero_ticket ↦ absurd (none-some p (sym (cond-true (ticket == 0) None (get_or (air ++ Some x ∷ []) (ticket - 1) None) zero_ticket) ∙ e))
  | inr some ↦
      let at : ticket ≢ 0 = eqb-false ticket 0 some in
      elim (place_new air x p (ticket - 1) (sym (cond-false (ticket == 0) None (get_or (air ++ Some x ∷ []) (ticket - 1) None) some) ∙ e)) [
        | inl this ↦ inl (omega (arith, this.0, at), this.1)
        | inr other ↦ inr ((λ is. other.0 (omega (arith, is))), cond-false (ticket == 0) None (get_or air (ticket - 1) None) some ∙ other.1)
      ]
]

-- all that goes off the air in a burst
pub folded_less : (events : List Event) (air : List (Option Pdu)) → Less (fold air_after air events) air
folded_less [] air ticket pdu here = here
folded_less (e ∷ events) air ticket pdu here =
    let first = folded_less events (air_after air e) ticket pdu here in
    elim (air_case air e) [
      | inl same ↦ less_same (air_after air e) air same ticket pdu first
      | inr off ↦ air_less air off.0 ticket pdu (ap (λ (a : List (Option Pdu)). on_air a ticket) (sym off.1) ∙ first)
    ]

abbrev air_of : Chain → List (Option Pdu)
air_of c = c.air

module _ (old mid : Chain) where
  same : (c : Chain) → c.air ≡ old.air → mid ≡ c → Less mid.air old.air
  same c air is = less_same mid.air old.air (ap air_of is ∙ air)

  unless : (refusal : Option Reply) (own : List Event) (reply : Reply) (done : Type 0) → (done → Less mid.air old.air) → Unless refusal old own reply mid done
      → Less mid.air old.air
  unless (Some r) own reply done does (shows, says, is) = same old refl is
  unless None own reply done does x = does x

  submits : (fault : Option SubmitFault) (key : Key) (sdu : List ℕ) (own : List Event) (reply : Reply) → Submits fault old key sdu own reply mid → Less mid.air old.air
  submits (Some fault) key sdu own reply s = same old refl s.2
  submits None key sdu own reply s = less_same mid.air old.air (ap air_of s.2)

  delivers : (o : Option Pdu) (own : List Event) (reply : Reply) (behind : Chain → Chain) → ((c : Chain) → Less (behind c).air c.air) → Delivers old o own reply mid behind
      → Less mid.air old.air
  delivers None own reply behind less d = same old refl d.2
  delivers (Some pdu) own reply behind less d = λ ticket p here. by ticket p (is_handed_over d.answer) (ap (λ (c : Chain). on_air c.air ticket) (sym d.is) ∙ here)
    where
      by : (ticket : ℕ) (p : Pdu) (b : Bool) → on_air (cond b (behind (set_node old d.node)) old).air ticket ≡ Some p → on_air old.air ticket ≡ Some p
      by ticket p true x = less (set_node old d.node) ticket p x
      by ticket p false x = x

  loses : (o : Option Pdu) (ticket : ℕ) (own : List Event) (reply : Reply) → Loses old o ticket own reply mid → Less mid.air old.air
  loses None ticket own reply d = same old refl d.2
  loses (Some pdu) ticket own reply d = λ other p here. air_less old.air ticket other p (ap (λ (c : Chain). on_air c.air other) (sym d.2) ∙ here)

  closes : (remote : Remote) (b : Bool) (c : Chain) → c.air ≡ old.air → (closed remote b c).air ≡ old.air
  closes remote true c is = is
  closes remote false c is = is

  abbrev pub is_grant : Line → Bool
  is_grant (Grant port way octets) = true
  is_grant line = false

  -- each line but a grant
  does_less : (line : Line) (own : List Event) (reply : Reply) → is_grant line ≡ false → Does old line own reply mid → Less mid.air old.air
  does_less (Submit key sdu) own reply it d = unless (submit_refusal old key) own reply _ (submits (submit_fault (sender_at old key) sdu) key sdu own reply) d
  does_less (Grant port way octets) own reply it d = absurd (true≢false it)
  does_less (Deliver ticket) own reply it d = delivers (on_air old.air ticket) own reply (without ticket) (λ c other p. air_less c.air ticket other p) d
  does_less (Repeat ticket) own reply it d = delivers (on_air old.air ticket) own reply (λ c. c) (λ c other p here. here) d
  does_less (Lose ticket) own reply it d = loses (on_air old.air ticket) ticket own reply d
  does_less (Stage ticket) own reply it d = unless (stage_refusal (on_air old.air ticket)) own reply (Stages old ticket own reply mid) (λ x. less_same mid.air old.air (ap air_of x.2)) d
  does_less (Expire port at timer) own reply it d = unless (expire_refusal old port at) own reply (Expires old port at timer own reply mid) (λ x. less_same mid.air old.air (ap air_of x.is)) d
  does_less (Push port) own reply it d = less_same mid.air old.air (ap air_of d.is)
  does_less (Pull port) own reply it d = less_same mid.air old.air (ap air_of d.is)
  does_less Burst own reply it d = λ ticket p here. folded_less own old.air ticket p (ap (λ (c : Chain). on_air c.air ticket) (sym d.is) ∙ here)
  does_less (Report key) own reply it d = unless (report_refusal old key) own reply (Wants old key own reply mid) (λ x. less_same mid.air old.air (ap air_of x.2)) d
  does_less (PlanLine remote goal) own reply it d = unless (plan_refusal old remote goal) own reply (Plans old remote goal own reply mid) (λ x. less_same mid.air old.air (ap air_of x.is)) d
  does_less (Apply remote kind) own reply it d = unless (apply_refusal old remote kind) own reply (Applies old remote kind own reply mid)
      (λ x. less_same mid.air old.air (ap air_of x.is ∙ closes remote _ _ refl)) d
  does_less line own reply it d = absurd d

  pub sends_none : (line : Line) (reply : Reply) → is_grant line ≡ false → SendsNone line reply
  sends_none (Grant port way octets) reply it = absurd (true≢false it)
  sends_none line reply it = λ h ticket before. refl

  -- a grant that is refused
  pub grant_refused : (port : PortName) (way : Way) (octets : ℕ) (r : Reply) → grant_refusal old port way ≡ Some r → SendsNone (Grant port way octets) r
  grant_refused port way octets r = by (is_none (entity_on old (sender_of way) port)) (nat_le 16384 (count_by is_some old.air)) (nat_le 2305843009213693952 (length old.air))
    where
      says : (x : Reply) → SendsNone (Grant port way octets) x → Some x ≡ Some r → SendsNone (Grant port way octets) r
      says x none e = subst (SendsNone (Grant port way octets)) (same_Some x r e) none

      by : (a b c : Bool) → cond a (Some NoPort) (cond b (Some AirFull) (cond c (Some Worn) None)) ≡ Some r → SendsNone (Grant port way octets) r
      by true b c e = says NoPort (λ h ticket before. refl) e
      by false true c e = says AirFull (λ h ticket before. refl) e
      by false false true e = says Worn (λ h ticket before. refl) e
      by false false false e = absurd (none-some r e)

  module _ (t : Contents) (h : List Entry) (k : Knows t h old) (told : AirTold h old.air) where
    granted : (port : PortName) (way : Way) (octets : ℕ) (own events : List Event) (reply : Reply) → Granted old port way octets own reply mid
        → AirTold (record { line = Grant port way octets; events = events; reply = reply } ∷ h) mid.air
    granted port way octets own events reply g = by g.answer g.sends
      where
        its_epoch : g.epoch ≡ side_epoch (sender_of way) port h
        its_epoch = g.grants.its_epoch ∙ k.epochs (sender_of way) port g.grants.entity.epoch
            (ap (λ (o : Option PortSide). option_map epoch_of (option_and_then entity_of o)) g.grants.its.here ∙ ap (option_map epoch_of) g.grants.its.is_open)

        by : (answer : HopGrant) → Sends old g.node port way g.epoch answer reply mid
            → AirTold (record { line = Grant port way octets; events = events; reply = reply } ∷ h) mid.air
        by (grants.Sent status number bytes) s = λ ticket p here.
            let x : Pdu = sent_from port (sender_of way) g.epoch status number bytes in
            let said : (b : Option Pdu) → entry_after h (Grant port way octets) reply ticket b ≡ cond (length old.air + 1 == ticket) (Some (sent_from port (sender_of way) (side_epoch (sender_of way) port h) status number bytes)) b
            = λ b. ap (λ (r : Reply). entry_after h (Grant port way octets) r ticket b) s.0 in
            elim (ticket_new old.air x p ticket (ap (λ (c : Chain). on_air c.air ticket) (sym s.1) ∙ here)) [
              | inl this ↦ said (air_entry h ticket) ∙ cond-true (length old.air + 1 == ticket) _ (air_entry h ticket) (eq-eqb (length old.air + 1) ticket (sym this.0))
                  ∙ ap (λ (n : ℕ). Some (sent_from port (sender_of way) n status number bytes)) (sym its_epoch) ∙ ap (λ (y : Pdu). Some y) (sym this.1)
              | inr other ↦ said (air_entry h ticket) ∙ cond-false (length old.air + 1 == ticket) _ (air_entry h ticket) (ne_eqb (length old.air + 1) ticket (λ e. other.0 (sym e))) ∙ told ticket p other.1
            ]
        by grants.Idle s = air_told h (record { line = Grant port way octets; events = events; reply = reply }) old.air mid.air
            (subst (SendsNone (Grant port way octets)) (sym s.0) (λ h ticket before. refl)) (same old refl s.1) told
        by (grants.Small need) s = air_told h (record { line = Grant port way octets; events = events; reply = reply }) old.air mid.air
            (subst (SendsNone (Grant port way octets)) (sym s.0) (λ h ticket before. refl)) (same old refl s.1) told

    grants_told : (port : PortName) (way : Way) (octets : ℕ) (own events : List Event) (reply : Reply)
        → Unless (grant_refusal old port way) old own reply mid (Granted old port way octets own reply mid)
        → AirTold (record { line = Grant port way octets; events = events; reply = reply } ∷ h) mid.air
    grants_told port way octets own events reply = by (grant_refusal old port way) refl
      where
        by : (o : Option Reply) → grant_refusal old port way ≡ o → Unless o old own reply mid (Granted old port way octets own reply mid)
            → AirTold (record { line = Grant port way octets; events = events; reply = reply } ∷ h) mid.air
        by None is g = granted port way octets own events reply g
        by (Some r) is u = air_told h (record { line = Grant port way octets; events = events; reply = reply }) old.air mid.air
            (subst (SendsNone (Grant port way octets)) (sym u.1) (grant_refused port way octets r is)) (same old refl u.2) told

    -- each line
    pub does_air : (line : Line) (own events : List Event) (reply : Reply) → Does old line own reply mid
        → AirTold (record { line = line; events = events; reply = reply } ∷ h) mid.air
    does_air line own events reply d = elim (cases_Bool (is_grant line)) [
      | inr other ↦ air_told h (record { line = line; events = events; reply = reply }) old.air mid.air (sends_none line reply other) (does_less line own reply other d) told
      | inl is ↦ by line is d
    ]
      where
        by : (line : Line) → is_grant line ≡ true → Does old line own reply mid → AirTold (record { line = line; events = events; reply = reply } ∷ h) mid.air
        by (Grant port way octets) is d = grants_told port way octets own events reply d
        by line is d = absurd (false≢true is)
