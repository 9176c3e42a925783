-- A history tells a PDU as heard by a line exactly where the line has it heard.
use Rattle.std.proofs.Common.{◌≡◌, ◌↔◌, inl, inr, ℕ, ◌==◌, Bool, true, false, cond, not, ◌&&◌, ◌||◌, nat_lt, List, [], ◌∷◌, ◌++◌, map, filter_map, flat_map, Option, Some, None, is_some, append_assoc, refl, sym, ◌∙◌, ap, subst}
use Rattle.std.specs.List.{AllByRecursion, AllZip, cons_option, list_any}
use Rattle.std.proofs.lemmas.Bool.{cases_Bool, true≢false, false≢true, and_parts, and_from, eqb-true, eq-eqb}
use Rattle.std.proofs.lemmas.Option.{none-some, same_Some}
use Rattle.link_base.specs.declared.names.Key.{Key}
use Rattle.link_base.specs.declared.names.PortName.{PortName}
use Rattle.link_base.specs.declared.names.Way.{Way}
use Rattle.link_base.specs.declared.rlc_words.Expired.{Expired}
use Rattle.link_base.specs.declared.rlc_words.Expired.TheVariants as expiry
use Rattle.rlc_model.specs.declared.hop.AirFault.{AirFault}
use Rattle.rlc_model.specs.declared.hop.AirFault.TheVariants.{Gone, Stale}
use Rattle.rlc_model.specs.declared.hop.HopHeard.{HopHeard}
use Rattle.rlc_model.specs.declared.hop.HopHeard.TheVariants as hop
use Rattle.rlc_model.specs.declared.hop.Pdu.{Pdu}
use Rattle.rlc_model.specs.declared.receiver.Heard.TheVariants as receiving
use Rattle.rlc_model.specs.declared.transmitter.StatusHeard.TheVariants as sending
use Rattle.rlc_model.specs.Hop.{on_air}
use Rattle.rlc_model.specs.Sides.{hearer_of, way_from}
use Rattle.pdcp_model.specs.declared.answers.SubmitFault.{SubmitFault}
use Rattle.pdcp_model.specs.Sender.{confirmed, submit_fault}
use Rattle.script_text.specs.declared.line.Line.{Line}
use Rattle.script_text.specs.declared.line.Line.TheVariants.{Submit, Grant, Deliver, Repeat, Lose, Stage, Expire, Push, Pull, Burst, Report, Plan as PlanLine, Apply, Drain, End}
use Rattle.script_text.specs.declared.event.Event.{Event}
use Rattle.script_text.specs.declared.event.Event.TheVariants.{Up, Conf, Rep, Left, Heard as HeardTicket}
use Rattle.script_text.specs.declared.reply.Reply.{Reply}
use Rattle.script_text.specs.History.{Entry}
use Rattle.node_model.specs.declared.answers.NodeHeard.{NodeHeard}
use Rattle.node_model.specs.declared.answers.NodeHeard.TheVariants as answers
use Rattle.node_model.specs.declared.parcel.Parcel.{Parcel}
use Rattle.node_model.specs.Hearing.{entity_fault, side_refusal, hear_refusal, HearsUnless}
use Rattle.node_model.specs.Names.{AtRelay, is_key}
use Rattle.node_model.specs.State.{PortSide, side_at, set_entity}
use Rattle.node_model.specs.Tables.{keys}
use Rattle.chain_model.specs.State.{Chain, node_at, sender_at}
use Rattle.chain_model.specs.Bursts.{inbox, with_side, Ingests, ends, stops, pushes, hears, Ingress, told_by, Bursts}
use Rattle.chain_model.specs.Lines.{Unless, submit_refusal, Submits, grant_refusal, Granted, hearer, is_handed_over, Comes, Delivers, without, Loses, stage_refusal, Stages, expire_refusal, Expires, report_refusal, Wants, plan_refusal, Plans, apply_refusal, Applies}
use Rattle.chain_model.specs.Steps.{Does, Step, confirming, reporting}
use Rattle.chain_model.specs.Telling.{marked, TellsHop, TellsHeard, TellsExpired}
use Rattle.chain_model.specs.Told.{is_unheard, line_hears, event_hears, hears_ticket}
use Rattle.chain_law.proofs.Bursts.{shows_either}
use Rattle.chain_law.proofs.Hearing.{follows_handed}
use Rattle.chain_law.proofs.Stands.{not_true}
use Rattle.book_law.specs.Hearings.{coming}
use Rattle.book_law.specs.Past.{steps, drained, ended}
use Rattle.heard_law.specs.Tickets.{IsTaken, HasHeard, comes, in_burst, TicketsHeardAreTold}

-- the event shows a PDU as heard
abbrev pub shows_heard : Event → Bool
shows_heard (HeardTicket ticket reply) = true
shows_heard event = false

-- the line is a burst
abbrev pub is_burst : Line → Bool
is_burst Burst = true
is_burst line = false

-- none of the events does
abbrev pub NoHeard : List Event → Type 0
NoHeard events = AllByRecursion (λ e. shows_heard e ≡ false) events

none_heard : (t : ℕ) (events : List Event) → NoHeard events → list_any (event_hears t) events ≡ false
none_heard t [] none = refl
none_heard t (HeardTicket ticket reply ∷ events) none = absurd (true≢false none.0)
none_heard t (e ∷ events) none = none_heard t events none.1

pub any_append : (t : ℕ) (xs ys : List Event) → NoHeard ys → list_any (event_hears t) (xs ++ ys) ≡ list_any (event_hears t) xs
any_append t [] ys none = none_heard t ys none
any_append t (x ∷ xs) ys none = ap (λ (b : Bool). event_hears t x || b) (any_append t xs ys none)

pub append_none : (xs ys : List Event) → NoHeard xs → NoHeard ys → NoHeard (xs ++ ys)
append_none [] ys a b = b
append_none (x ∷ xs) ys a b = (a.0, append_none xs ys a.1 b)

pub conf_none : (old mid : Chain) (ks : List Key) → NoHeard (filter_map (confirming old mid) ks)
conf_none old mid [] = tt
conf_none old mid (x ∷ ks) =
    elim (nat_lt (confirmed (sender_at old x)) (confirmed (sender_at mid x))) as (λ b. NoHeard (cons_option (cond b (Some (Conf x (confirmed (sender_at mid x)))) None) (filter_map (confirming old mid) ks))) [
      | true ↦ (refl, conf_none old mid ks)
      | false ↦ conf_none old mid ks
    ]

pub rep_none : (given ks : List Key) → NoHeard (filter_map (reporting given) ks)
rep_none given [] = tt
rep_none given (x ∷ ks) =
    elim (list_any (λ y. is_key x y) given) as (λ b. NoHeard (cons_option (cond b (Some (Rep x)) None) (filter_map (reporting given) ks))) [
      | true ↦ (refl, rep_none given ks)
      | false ↦ rep_none given ks
    ]

ups_none : (key : Key) (sdus : List (List ℕ)) → NoHeard (map (λ sdu. Up key sdu) sdus)
ups_none key [] = tt
ups_none key (x ∷ sdus) = (refl, ups_none key sdus)

marks_none : (port : PortName) (way : Way) (marks : List ℕ) → NoHeard (marked port way marks)
marks_none port way [] = tt
marks_none port way (n ∷ marks) = (refl, marks_none port way marks)

-- a reply tells whether the PDU was handed over
pub record Says (answer : NodeHeard) (events : List Event) (reply : Reply) : Type 0 where
  pub unheard : is_unheard reply ≡ not (is_handed_over answer)
  pub none : NoHeard events

says : (answer : NodeHeard) (events : List Event) (reply told : Reply) → is_unheard told ≡ not (is_handed_over answer) → (events ≡ []) × (reply ≡ told) → Says answer events reply
says answer events reply told is t = record { unheard = ap is_unheard t.1 ∙ is; none = subst NoHeard (sym t.0) tt }

hop_says : (port : PortName) (way : Way) (answer : HopHeard) (events : List Event) (reply : Reply) → TellsHop port way answer events reply
    → Says (answers.Hop answer) events reply
hop_says port way (hop.Amd receiving.Stored) events reply t = says _ events reply _ refl t
hop_says port way (hop.Amd receiving.Repeat) events reply t = says _ events reply _ refl t
hop_says port way (hop.Amd receiving.Outside) events reply t = says _ events reply _ refl t
hop_says port way (hop.Amd receiving.Conflict) events reply t = says _ events reply _ refl t
hop_says port way (hop.Amd (receiving.Complete number sdu)) events reply t = absurd t
hop_says port way (hop.Status (sending.Acked tags marks)) events reply t = record { unheard = ap is_unheard t.1; none = subst NoHeard (sym t.0) (marks_none port way marks) }
hop_says port way (hop.Status (sending.Old ack next)) events reply t = says _ events reply _ refl t
hop_says port way (hop.Status (sending.Beyond ack sent)) events reply t = says _ events reply _ refl t
hop_says port way (hop.BadAmd fault) events reply t = says _ events reply _ refl t
hop_says port way (hop.BadStatus fault) events reply t = says _ events reply _ refl t

heard_says : (port : PortName) (way : Way) (answer : NodeHeard) (events : List Event) (reply : Reply) → TellsHeard port way answer events reply → Says answer events reply
heard_says port way answers.NoPort events reply t = says _ events reply _ refl t
heard_says port way (answers.Air Gone) events reply t = says _ events reply _ refl t
heard_says port way (answers.Air (Stale number next)) events reply t = says _ events reply _ refl t
heard_says port way answers.Held events reply t = says _ events reply _ refl t
heard_says port way (answers.Slot egress) events reply t = says _ events reply _ refl t
heard_says port way (answers.Up key sdus) events reply t = record { unheard = ap is_unheard t.1; none = subst NoHeard (sym t.0) (ups_none key sdus) }
heard_says port way answers.Waiting events reply t = says _ events reply _ refl t
heard_says port way answers.Old events reply t = says _ events reply _ refl t
heard_says port way answers.Twice events reply t = says _ events reply _ refl t
heard_says port way answers.NoCount events reply t = says _ events reply _ refl t
heard_says port way (answers.Report key confirmed) events reply t = says _ events reply _ refl t
heard_says port way (answers.Discard name) events reply t = says _ events reply _ refl t
heard_says port way (answers.Hop answer) events reply t = hop_says port way answer events reply t

-- a side that refuses a PDU doesn't take it over
pub refused : (pdu : Pdu) (o : Option PortSide) (r : NodeHeard) → hear_refusal pdu o ≡ Some r → is_handed_over r ≡ false
refused pdu None r e = ap is_handed_over (sym (same_Some answers.NoPort r e))
refused pdu (Some side) r e = by (entity_fault pdu side.entity) e
  where
    slot : (b : Bool) → cond b (Some answers.Held) None ≡ Some r → is_handed_over r ≡ false
    slot true e = ap is_handed_over (sym (same_Some answers.Held r e))
    slot false e = absurd (none-some r e)

    by : (fault : Option AirFault) → side_refusal pdu side fault ≡ Some r → is_handed_over r ≡ false
    by (Some fault) e = ap is_handed_over (sym (same_Some (answers.Air fault) r e))
    by None e = slot (is_some side.slot && not pdu.status) e

-- a PDU that comes is told as heard exactly where it is taken
pub comes_as : (c : Chain) (pdu : Pdu) (events : List Event) (reply : Reply) (new : Chain) (behind : Chain → Chain) → Comes c pdu events reply new behind
    → NoHeard events × ((is_unheard reply ≡ false) ↔ (hear_refusal pdu (side_at (hearer pdu c) pdu.port) ≡ None))
comes_as c pdu events reply new behind x = (told.none, by (hear_refusal pdu (side_at (hearer pdu c) pdu.port)) refl x.hears)
  where
    told : Says x.answer events reply
    told = heard_says pdu.port (way_from (hearer_of pdu.way)) x.answer events reply x.tells

    by : (o : Option NodeHeard) → hear_refusal pdu (side_at (hearer pdu c) pdu.port) ≡ o → HearsUnless o c.tables (hearer pdu c) (hearer_of pdu.way) pdu x.answer x.node
        → (is_unheard reply ≡ false) ↔ (hear_refusal pdu (side_at (hearer pdu c) pdu.port) ≡ None)
    by (Some r) is u =
        let unheard : is_unheard reply ≡ true = told.unheard ∙ ap not (ap is_handed_over u.0 ∙ refused pdu (side_at (hearer pdu c) pdu.port) r is) in
        (λ heard. absurd (true≢false (sym unheard ∙ heard)), λ none. absurd (none-some r (sym none ∙ is)))
    by None is h =
        (λ heard. is, λ none. told.unheard ∙ ap not (follows_handed c.tables (hearer_of pdu.way) (set_entity (hearer pdu c) h.side h.behind) (record h.side { entity = Some h.behind }) h.hop x.answer x.node h.follows))

module _ (old mid : Chain) where
  -- a line that brings no PDU and isn't a burst shows none as heard
  unless : (refusal : Option Reply) (own : List Event) (reply : Reply) (done : Type 0) → (done → NoHeard own) → Unless refusal old own reply mid done → NoHeard own
  unless (Some r) own reply done does u = subst NoHeard (sym u.0) tt
  unless None own reply done does x = does x

  shows_none : (own : List Event) → own ≡ [] → NoHeard own
  shows_none own is = subst NoHeard (sym is) tt

  submits : (fault : Option SubmitFault) (key : Key) (sdu : List ℕ) (own : List Event) (reply : Reply) → Submits fault old key sdu own reply mid → NoHeard own
  submits (Some fault) key sdu own reply s = shows_none own s.0
  submits None key sdu own reply s = shows_none own s.0

  delivers : (o : Option Pdu) (own : List Event) (reply : Reply) (behind : Chain → Chain) → Delivers old o own reply mid behind → NoHeard own
  delivers None own reply behind d = shows_none own d.0
  delivers (Some pdu) own reply behind d = (comes_as old pdu own reply mid behind d).0

  loses : (o : Option Pdu) (ticket : ℕ) (own : List Event) (reply : Reply) → Loses old o ticket own reply mid → NoHeard own
  loses None ticket own reply d = shows_none own d.0
  loses (Some pdu) ticket own reply d = shows_none own d.0

  expired : (port : PortName) (way : Way) (e : Expired) (own : List Event) (reply : Reply) → TellsExpired port way e own reply → NoHeard own
  expired port way expiry.Done own reply t = shows_none own t.0
  expired port way (expiry.Marked n) own reply t = subst NoHeard (sym t.0) (marks_none port way (n ∷ []))
  expired port way expiry.Stopped own reply t = shows_none own t.0

  pub does_none : (line : Line) (own : List Event) (reply : Reply) → is_burst line ≡ false → Does old line own reply mid → NoHeard own
  does_none (Submit key sdu) own reply it d = unless (submit_refusal old key) own reply _ (submits (submit_fault (sender_at old key) sdu) key sdu own reply) d
  does_none (Grant port way octets) own reply it d = unless (grant_refusal old port way) own reply (Granted old port way octets own reply mid) (λ g. shows_none own g.shows) d
  does_none (Deliver ticket) own reply it d = delivers (on_air old.air ticket) own reply (without ticket) d
  does_none (Repeat ticket) own reply it d = delivers (on_air old.air ticket) own reply (λ c. c) d
  does_none (Lose ticket) own reply it d = loses (on_air old.air ticket) ticket own reply d
  does_none (Stage ticket) own reply it d = unless (stage_refusal (on_air old.air ticket)) own reply (Stages old ticket own reply mid) (λ x. shows_none own x.0) d
  does_none (Expire port at timer) own reply it d = unless (expire_refusal old port at) own reply (Expires old port at timer own reply mid) (λ x. expired port (way_from at) x.expired own reply x.tells) d
  does_none (Push port) own reply it d = shows_none own d.shows
  does_none (Pull port) own reply it d = shows_none own d.shows
  does_none Burst own reply it d = absurd (true≢false it)
  does_none (Report key) own reply it d = unless (report_refusal old key) own reply (Wants old key own reply mid) (λ x. shows_none own x.0) d
  does_none (PlanLine remote goal) own reply it d = unless (plan_refusal old remote goal) own reply (Plans old remote goal own reply mid) (λ x. shows_none own x.shows) d
  does_none (Apply remote kind) own reply it d = unless (apply_refusal old remote kind) own reply (Applies old remote kind own reply mid) (λ x. shows_none own x.shows) d
  does_none line own reply it d = absurd d

  -- deliver and repeat
  brings : (ticket t : ℕ) (own : List Event) (reply : Reply) (behind : Chain → Chain) → Delivers old (on_air old.air ticket) own reply mid behind
      → (((ticket == t) && not (is_unheard reply)) ≡ true) ↔ ((ticket ≡ t) × IsTaken old t)
  brings ticket t own reply behind = by (on_air old.air ticket) refl
    where
      by : (o : Option Pdu) → on_air old.air ticket ≡ o → Delivers old o own reply mid behind
          → (((ticket == t) && not (is_unheard reply)) ≡ true) ↔ ((ticket ≡ t) × IsTaken old t)
      by None is d = (
        λ heard. absurd (false≢true (sym (ap (λ (r : Reply). not (is_unheard r)) d.1) ∙ (and_parts _ _ heard).1)),
        λ x. absurd (none-some x.1.pdu (sym (ap (on_air old.air) (sym x.0) ∙ is) ∙ x.1.here)),
      )
      by (Some pdu) is d =
          let so = (comes_as old pdu own reply mid behind d).1 in (
            λ heard.
                let parts = and_parts _ _ heard in
                let same : ticket ≡ t = eqb-true ticket t parts.0 in
                (same, record { pdu = pdu; here = ap (on_air old.air) (sym same) ∙ is; taken = so.0 (not_true (is_unheard reply) parts.1) }),
            λ x.
                let its : pdu ≡ x.1.pdu = same_Some pdu x.1.pdu (sym is ∙ ap (on_air old.air) x.0 ∙ x.1.here) in
                and_from _ _ (eq-eqb ticket t x.0) (ap not (so.1 (ap (λ (p : Pdu). hear_refusal p (side_at (hearer p old) p.port)) its ∙ x.1.taken))),
          )

  -- what a burst shows as heard was taken
  pub left_none : (tickets : List ℕ) → NoHeard (map (λ ticket. Left ticket) tickets)
  left_none [] = tt
  left_none (ticket ∷ tickets) = (refl, left_none tickets)

  abbrev Taken : ℕ → Type 0
  Taken t = (side : PortSide) × IsTaken (with_side old side) t

  ingests_taken : (t : ℕ) {side new : PortSide} {tickets left : List ℕ} {heard : List Event} {put : List Parcel} → Ingests old side tickets heard put left new
      → list_any (event_hears t) heard ≡ true → Taken t
  ingests_taken t (ends none) is = absurd (false≢true is)
  ingests_taken t (stops full) is = absurd (false≢true is)
  ingests_taken t (pushes parcel full more) is = ingests_taken t more is
  ingests_taken t {side} (hears {heard = heard} ticket pdu reply none on treats more) is = elim (cases_Bool (event_hears t (HeardTicket ticket reply))) [
    | inl this ↦
        let parts = and_parts _ _ this in
        let so = (comes_as (with_side old side) pdu treats.0 reply treats.1 (λ x. x) treats.2).1 in
        (side, record { pdu = pdu; here = ap (on_air old.air) (sym (eqb-true ticket t parts.0)) ∙ on; taken = so.0 (not_true (is_unheard reply) parts.1) })
    | inr other ↦ ingests_taken t more (sym (ap (λ (b : Bool). b || list_any (event_hears t) heard) other) ∙ is)
  ]

  burst_taken : (t : ℕ) (sides : List PortSide) (ingresses : List Ingress)
      → AllZip (λ (side : PortSide) (i : Ingress). Ingests old side (inbox old side.name) i.heard i.put i.left i.behind) sides ingresses
      → list_any (event_hears t) (flat_map told_by ingresses) ≡ true → Taken t
  burst_taken t [] [] all is = absurd (false≢true is)
  burst_taken t [] (i ∷ ingresses) all is = absurd all
  burst_taken t (side ∷ sides) [] all is = absurd all
  burst_taken t (side ∷ sides) (i ∷ ingresses) all is = elim (shows_either t (told_by i) (flat_map told_by ingresses) is) [
    | inl first ↦ ingests_taken t all.0 (sym (any_append t i.heard (map (λ ticket. Left ticket) i.left) (left_none i.left)) ∙ first)
    | inr second ↦ burst_taken t sides ingresses all.1 second
  ]

-- what is shown as heard is among a line's own events
pub own_events : (old new : Chain) (e : Entry) (s : Step old e.line e.events e.reply new) (t : ℕ) → list_any (event_hears t) e.events ≡ list_any (event_hears t) s.own
own_events old new e s t = ap (list_any (event_hears t)) (s.shows ∙ append_assoc s.own _ _)
    ∙ any_append t s.own (filter_map (confirming old s.mid) (keys old.tables) ++ filter_map (reporting s.given) (keys old.tables))
    (append_none _ _ (conf_none old s.mid (keys old.tables)) (rep_none s.given (keys old.tables)))

-- a line with events of its own
module _ (old mid : Chain) (e : Entry) (own rest : List Event) (none : NoHeard rest) (shows : e.events ≡ own ++ rest) (t : ℕ) where
  -- one that brings no PDU
  quiet : (line : Line) → e.line ≡ line → coming line ≡ None → line_hears line e.reply t ≡ false → is_burst line ≡ false → NoHeard own
      → (hears_ticket e t ≡ true) ↔ HasHeard old e t
  quiet line is none_comes no_line no_burst no_own = (
    λ heard. absurd (false≢true (sym unheard ∙ heard)),
    λ x. elim x [
      | comes its taken ↦ absurd (none-some t (sym (ap coming is ∙ none_comes) ∙ its))
      | in_burst side its shown taken ↦ absurd (true≢false (ap is_burst (sym its ∙ is) ∙ no_burst))
    ],
  )
    where
      unheard : hears_ticket e t ≡ false
      unheard = ap (λ (l : Line). line_hears l e.reply t || list_any (event_hears t) e.events) is ∙ ap (λ (b : Bool). b || list_any (event_hears t) e.events) no_line
          ∙ ap (list_any (event_hears t)) shows ∙ none_heard t (own ++ rest) (append_none own rest no_own none)

  -- one that brings one
  bringing : (line : Line) (ticket : ℕ) → e.line ≡ line → coming line ≡ Some ticket → line_hears line e.reply t ≡ ((ticket == t) && not (is_unheard e.reply))
      → is_burst line ≡ false → NoHeard own
      → (((ticket == t) && not (is_unheard e.reply)) ≡ true) ↔ ((ticket ≡ t) × IsTaken old t) → (hears_ticket e t ≡ true) ↔ HasHeard old e t
  bringing line ticket is its hears_so no_burst no_own so = (
    λ heard. let x = so.0 (sym same ∙ heard) in comes (ap coming is ∙ its ∙ ap (λ (n : ℕ). Some n) x.0) x.1,
    λ x. same ∙ elim x [
      | comes at taken ↦ so.1 (same_Some ticket t (sym (ap coming is ∙ its) ∙ at), taken)
      | in_burst side at shown taken ↦ absurd (true≢false (ap is_burst (sym at ∙ is) ∙ no_burst))
    ],
  )
    where
      or_false : (b : Bool) → (b || false) ≡ b
      or_false true = refl
      or_false false = refl

      same : hears_ticket e t ≡ ((ticket == t) && not (is_unheard e.reply))
      same = ap (λ (l : Line). line_hears l e.reply t || list_any (event_hears t) e.events) is ∙ ap (λ (b : Bool). b || list_any (event_hears t) e.events) hears_so
          ∙ ap (λ (b : Bool). ((ticket == t) && not (is_unheard e.reply)) || b) (ap (list_any (event_hears t)) shows ∙ none_heard t (own ++ rest) (append_none own rest no_own none)) ∙ or_false _

  -- a burst
  bursting : e.line ≡ Burst → Bursts old own e.reply mid → (hears_ticket e t ≡ true) ↔ HasHeard old e t
  bursting is b = (
    λ heard.
        let shown : list_any (event_hears t) e.events ≡ true = sym line_none ∙ heard in
        let x = burst_taken old mid t (node_at old AtRelay).ports b.ingresses b.ingest (ap (list_any (event_hears t)) (sym b.shows) ∙ sym (any_append t own rest none) ∙ ap (list_any (event_hears t)) (sym shows) ∙ shown) in
        in_burst x.0 is shown x.1,
    λ x. line_none ∙ elim x [
      | comes its taken ↦ absurd (none-some t (sym (ap coming is) ∙ its))
      | in_burst side its shown taken ↦ shown
    ],
  )
    where
      line_none : hears_ticket e t ≡ list_any (event_hears t) e.events
      line_none = ap (λ (l : Line). line_hears l e.reply t || list_any (event_hears t) e.events) is

  -- each line
  by_line : (line : Line) → e.line ≡ line → Does old line own e.reply mid → (hears_ticket e t ≡ true) ↔ HasHeard old e t
  by_line (Deliver ticket) is d = bringing (Deliver ticket) ticket is refl refl refl (does_none old mid (Deliver ticket) own e.reply refl d) (brings old mid ticket t own e.reply (without ticket) d)
  by_line (Repeat ticket) is d = bringing (Repeat ticket) ticket is refl refl refl (does_none old mid (Repeat ticket) own e.reply refl d) (brings old mid ticket t own e.reply (λ c. c) d)
  by_line Burst is d = bursting is d
  by_line line is d = quiet line is refl refl refl (does_none old mid line own e.reply refl d)

pub tickets_heard_are_told : TicketsHeardAreTold
tickets_heard_are_told old new e (steps s) t =
    by_line old s.mid e s.own (filter_map (confirming old s.mid) (keys old.tables) ++ filter_map (reporting s.given) (keys old.tables))
    (append_none _ _ (conf_none old s.mid (keys old.tables)) (rep_none s.given (keys old.tables))) (s.shows ∙ append_assoc s.own _ _) t e.line refl s.does
tickets_heard_are_told old new e (drained line none is whole) t = quiet old old e [] [] tt none t Drain line refl refl refl tt
tickets_heard_are_told old new e (ended line none reply is) t = quiet old old e [] [] tt none t End line refl refl refl tt
