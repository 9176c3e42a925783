-- What an ingress port puts in a burst, with its completions: they are of different numbers, and come behind all that was passed on before.
use Rattle.std.proofs.Common.{◌≡◌, ◌⊎◌, inl, inr, ℕ, true, List, [], ◌∷◌, ◌++◌, map, append_assoc, Option, Some, None, option_map, option_and_then, refl, sym, ◌∙◌, ap, subst}
use Rattle.std.specs.List.{AllByRecursion}
use Rattle.std.specs.Option.{unwrap_or}
use Rattle.std.proofs.lemmas.Option.{none-some, same_Some}
use Rattle.link_base.specs.declared.names.PortName.{PortName}
use Rattle.bearer_map.specs.Contents.{Contents}
use Rattle.rlc_model.specs.declared.hop.Pdu.{Pdu}
use Rattle.rlc_model.specs.Hop.{on_air}
use Rattle.rlc_model.specs.Sides.{hearer_of}
use Rattle.script_text.specs.declared.event.Event.{Event}
use Rattle.script_text.specs.declared.event.Event.TheVariants.{Heard as HeardTicket}
use Rattle.script_text.specs.declared.reply.Reply.{Reply}
use Rattle.script_text.specs.History.{Entry}
use Rattle.node_model.specs.declared.parcel.Parcel.{Parcel}
use Rattle.node_model.specs.Hearing.{hear_refusal}
use Rattle.node_model.specs.Names.{NodeName, AtRelay, owner}
use Rattle.node_model.specs.State.{PortSide, Node, side_at, entity_of, entity_at, slot_of, slot_at, queue_of, set_side}
use Rattle.chain_model.specs.Bursts.{goes_over, with_side, Treats, Ingests, ends, stops, pushes, hears}
use Rattle.chain_model.specs.Carried.{Passed}
use Rattle.chain_model.specs.Heard.{HeardAt}
use Rattle.chain_model.specs.Lines.{hearer}
use Rattle.chain_model.specs.State.{Chain, node_at}
use Rattle.chain_model.specs.Steps.{Step}
use Rattle.chain_model.specs.Told.{attached_at, known}
use Rattle.chain_law.proofs.Bursting.{OnItsWay, SaysOn, resaid, treated, with_one, one_is}
use Rattle.chain_law.proofs.Bursts.{Shows, shows_first}
use Rattle.chain_law.proofs.Chains.{Holds, holds_implied, view, node_name, node_set, node_there}
use Rattle.chain_law.proofs.Hearing.{Takes, Into}
use Rattle.chain_law.proofs.Nodes.{side_name, side_set}
use Rattle.chain_law.proofs.Pairs.{Pairwise, each_then}
use Rattle.chain_law.proofs.Stands.{Logs, SideChanges, Stands, put, put_here}
use Rattle.heard_law.specs.Telling.{of_remote, Tells}
use Rattle.heard_law.proofs.Leading.{Same}
use Rattle.heard_law.proofs.Logged.{logged, shown, HearsTicket, delivered_more, said, says_on, unshown}
use Rattle.heard_law.proofs.Staged.{IsForRelay, AreForRelay}
use Rattle.carried_law.specs.Foundations.{SentLaws}
use Rattle.carried_law.proofs.Coming.{CameLists, comes_lists, heard_more, Filled, filled}
use Rattle.carried_law.proofs.Holding.{Fills}
use Rattle.carried_law.proofs.Moving.{newest}
use Rattle.carried_law.proofs.Relayed.{IsOf, Apart, Held, parcel_of, Follow, IsHeld}

-- an SDU or none, as a list
abbrev pub list_of : Option Held → List Held
list_of None = []
list_of (Some x) = x ∷ []

module _ (h : List Entry) where
  -- a completion that wasn't yet once these events of a burst were shown
  pub record After (done : List Event) (p : Passed) : Type 0 where
    pub now : p.before ≡ h
    pub undone : (sdu : List ℕ) → HeardAt p.hop (shown done ∷ h) p.number sdu → ⊥

  -- one that was
  abbrev pub DoneBy : List Event → Passed → Type 0
  DoneBy done p = IsOf h p ⊎ ((p.before ≡ h) × (sdu : List ℕ) × HeardAt p.hop (shown done ∷ h) p.number sdu)

  pub done_apart : (done : List Event) (p q : Passed) → DoneBy done p → After done q → Apart p q
  done_apart done p q (inl past) after same = newest h p q past after.now same
  done_apart done p q (inr (now, sdu, heard)) after same = (
    λ e. after.undone sdu (subst (λ (x : Passed). HeardAt x.hop (shown done ∷ h) x.number sdu) e heard),
    ([], after.now ∙ sym now),
  )

module _ (laws : SentLaws) (t : Contents) (h : List Entry) (e : Entry) (old new : Chain) (told : Tells h old) (s : Step old e.line e.events e.reply new) (staged : AreForRelay old)
    (tables : old.tables ≡ t) (holds : Holds (logged t h) old) where
  abbrev pub relay : Node
  relay = node_at old AtRelay

  abbrev pub spoken : List Event → Logs
  spoken done = logged t (shown done ∷ h)

  pub on_and_on : SaysOn old (IsForRelay old.air) (said h e old new told s staged laws.heard t tables)
  on_and_on = says_on h e old new told s staged laws.heard t tables

  pub begun : Holds (spoken []) old
  begun = holds_implied (unshown h e old new told s staged laws.heard t tables) holds

  pub attached : Same relay.attached (known t AtRelay h).attached
  attached r = told.attached AtRelay refl r ∙ ap (λ (u : Contents). of_remote r (attached_at u AtRelay h)) tables

  -- a port of the relay
  module _ (p : PortName) (first : PortSide) (there : side_at relay p ≡ Some first) where
    abbrev pub OnWay : List Event → PortSide → Type 0
    OnWay done side = OnItsWay laws.heard.ports old begun p first there (side_at relay) (spoken done) side

    -- the relay heard the SDU on this port
    abbrev pub Fine : Held → Type 0
    Fine x = IsHeld t (e ∷ h) x.parcel.route.egress x × (x.parcel.from ≡ p)

    -- the SDU was in the slot, or was completed later
    abbrev pub From : List Event → Option Held → Held → Type 0
    From done was x = (was ≡ Some x) ⊎ After h done x.passed

    -- what the port put from where it stood so, and what is in its slot at the end
    pub record Ingested (done : List Event) (was : Option Held) (side : PortSide) (put : List Parcel) (behind : PortSide) : Type 0 where
      pub puts : List Held
      pub its : map parcel_of puts ≡ put
      pub last : Option Held
      pub full : option_map parcel_of last ≡ behind.slot
      pub fine : AllByRecursion Fine (puts ++ list_of last)
      pub from : AllByRecursion (From done was) (puts ++ list_of last)
      pub pairs : Pairwise Follow (puts ++ list_of last)
      pub queue : behind.queue ≡ side.queue

    -- a PDU is treated
    module _ (done : List Event) (side mid : PortSide) (ticket : ℕ) (pdu : Pdu) (reply : Reply) (o : OnWay done side) (none : side.slot ≡ None)
        (on : on_air old.air ticket ≡ Some pdu)
        (for_relay : IsForRelay old.air ticket) (treats : Treats old pdu side reply mid)
        (within : (other : ℕ) → Shows other (done ++ HeardTicket ticket reply ∷ []) → HearsTicket e other) where
      abbrev with : Node
      with = set_side relay side

      sets : SideChanges relay p side with
      sets = side_set relay p first side there (o.name ∙ side_name relay p first there)

      found : node_at (with_side old side) AtRelay ≡ with
      found = node_set old AtRelay with (node_name old AtRelay) relay (node_there old AtRelay p first there)

      here : side_at (node_at (with_side old side) AtRelay) side.name ≡ Some side
      here = ap (λ (n : Node). side_at n side.name) found ∙ ap (side_at with) o.name ∙ sets.here

      at : owner (hearer_of pdu.way) pdu.port ≡ AtRelay
      at = for_relay.goes pdu on

      lists : CameLists (with_side old side) pdu treats.1
      lists = comes_lists (with_side old side) pdu treats.0 reply treats.1 (λ d. d) (λ d. refl) treats.2

      queue_stays : mid.queue ≡ side.queue
      queue_stays = sym (ap (λ (x : Option PortSide). unwrap_or (option_map queue_of x) []) treats.3) ∙ lists.queues side.name
          ∙ ap (λ (x : Option PortSide). unwrap_or (option_map queue_of x) []) here

      slot_now : slot_at (node_at treats.1 AtRelay) side.name ≡ mid.slot
      slot_now = ap (option_and_then slot_of) treats.3

      -- what comes into the slot
      module _ (parcel : Parcel) (f : Fills old.tables (node_at (with_side old side) AtRelay) (hearer_of pdu.way) pdu side.name parcel) where
        into : Into (spoken done) old.tables (side_at (hearer pdu (with_side old side)) pdu.port) pdu (spoken (done ++ HeardTicket ticket reply ∷ []))
        into = on_and_on.treats done ticket pdu on side mid reply treats

        fills : Filled t h e (shown done ∷ h) (shown (done ++ HeardTicket ticket reply ∷ []) ∷ h) parcel × (parcel.from ≡ side.name)
        fills = filled laws.heard t h e (shown done ∷ h) (shown (done ++ HeardTicket ticket reply ∷ []) ∷ h)
            (subst (λ (u : Contents). Stands (spoken done) u (put (view old) AtRelay (with_one p (side_at relay) side)) begun.limit old.air) tables o.stands)
            ticket pdu on (node_at (with_side old side) AtRelay)
            (ap (option_and_then entity_of) (put_here (view old) AtRelay (with_one p (side_at relay) side) (owner (hearer_of pdu.way) pdu.port) pdu.port at
            ∙ one_is p (side_at relay) side (side_at with) o.name sets.here (λ q ne. sets.others q ne) pdu.port) ∙ sym (ap (λ (n : Node). entity_at n pdu.port) found))
            (subst (λ (n : Node). Same n.attached (known t AtRelay h).attached) (sym found) attached) at
            (λ data_pdu. subst (λ (u : Contents). Takes u pdu (spoken done) (spoken (done ++ HeardTicket ticket reply ∷ []))) tables
            (into.taken (ap (λ (x : NodeName). hear_refusal pdu (side_at (node_at (with_side old side) x) pdu.port)) at ∙ f.none) data_pdu))
            (λ hop. delivered_more t h (shown (done ++ HeardTicket ticket reply ∷ [])) e within hop) (λ hop number fields was. inr was) side.name parcel
            (subst (λ (u : Contents). Fills u (node_at (with_side old side) AtRelay) (hearer_of pdu.way) pdu side.name parcel) tables f)

      -- so is what the slot holds then
      record Slotted : Type 0 where
        was : Option Held
        its : option_map parcel_of was ≡ mid.slot
        fine : (x : Held) → was ≡ Some x → Fine x
        done_now : (x : Held) → was ≡ Some x → DoneBy h (done ++ HeardTicket ticket reply ∷ []) x.passed
        after : (x : Held) → was ≡ Some x → After h done x.passed

      slotted : Slotted
      slotted = elim (lists.slots side.name) [
        | inl same ↦ record {
          was = None;
          its = sym (sym slot_now ∙ same ∙ ap (option_and_then slot_of) here ∙ none);
          fine = λ x is. absurd (none-some x is);
          done_now = λ x is. absurd (none-some x is);
          after = λ x is. absurd (none-some x is);
        }
        | inr (its_at, parcel, is, f) ↦
            let x = fills parcel f in
            let y : Held = record { parcel = parcel; passed = x.0.passed } in
            record {
              was = Some y;
              its = sym is ∙ slot_now;
              fine = λ z same. subst Fine (same_Some y z same) (x.0.held, x.1 ∙ o.name);
              done_now = λ z same. subst (λ (z : Held). DoneBy h (done ++ HeardTicket ticket reply ∷ []) z.passed) (same_Some y z same) (inr (x.0.now, x.0.sdu, x.0.done));
              after = λ z same. subst (λ (z : Held). After h done z.passed) (same_Some y z same) (record { now = x.0.now; undone = x.0.undone });
            }
      ]

    -- what is later than more events is later than fewer
    after_more : (done more : List Event) (q : Passed) → After h (done ++ more) q → After h done q
    after_more done more q after = record {
      now = after.now;
      undone = λ sdu was. after.undone sdu (heard_more q.hop (shown done ∷ h) (shown (done ++ more) ∷ h)
          (delivered_more t h (shown done) (shown (done ++ more)) (λ ticket is. shows_first ticket done more is) q.hop) q.number sdu was);
    }

    pub ingested : (done : List Event) {side behind : PortSide} {tickets left : List ℕ} {heard : List Event} {put : List Parcel} → OnWay done side
        → AllByRecursion (λ (ticket : ℕ). goes_over p (on_air old.air ticket) ≡ true) tickets → AllByRecursion (IsForRelay old.air) tickets
        → ((ticket : ℕ) → Shows ticket (done ++ heard) → HearsTicket e ticket) → (was : Option Held) → option_map parcel_of was ≡ side.slot
        → ((x : Held) → was ≡ Some x → Fine x) → ((x : Held) → was ≡ Some x → DoneBy h done x.passed)
        → Ingests old side tickets heard put left behind → Ingested done was side put behind
    ingested done {side} o over for_relay within was is_was fine known_done (ends none) = record {
      puts = [];
      its = refl;
      last = None;
      full = sym none;
      fine = tt;
      from = tt;
      pairs = tt;
      queue = refl;
    }
    ingested done {side} o over for_relay within None is_was fine known_done (stops full) = record {
      puts = [];
      its = refl;
      last = None;
      full = is_was;
      fine = tt;
      from = tt;
      pairs = tt;
      queue = refl;
    }
    ingested done {side} o over for_relay within (Some x) is_was fine known_done (stops full) = record {
      puts = [];
      its = refl;
      last = Some x;
      full = is_was;
      fine = (fine x refl, tt);
      from = (inl refl, tt);
      pairs = (tt, tt);
      queue = refl;
    }
    ingested done {side} o over for_relay within None is_was fine known_done (pushes parcel full more) = absurd (none-some parcel (is_was ∙ full))
    ingested done {side} {behind} {tickets} {left} {heard} o over for_relay within (Some x) is_was fine known_done (pushes {put = put} parcel full more) =
        let r = ingested done {side = record side { slot = None }} {behind = behind} {tickets = tickets} {left = left} {heard = heard} {put = put} (record {
          stands = resaid laws.heard.ports old begun p first there (side_at relay) side (record side { slot = None }) refl refl o.stands;
          fits = record { slot = λ parcel e. absurd (none-some parcel e); queue = o.fits.queue };
          name = o.name;
        }) over for_relay within None refl (λ x is. absurd (none-some x is)) (λ x is. absurd (none-some x is)) more in
        record {
          puts = x ∷ r.puts;
          its = ap (λ (q : Parcel). q ∷ map parcel_of r.puts) (same_Some x.parcel parcel (is_was ∙ full)) ∙ ap (λ (l : List Parcel). parcel ∷ l) r.its;
          last = r.last;
          full = r.full;
          fine = (fine x refl, r.fine);
          from = (
            inl refl,
            each_then (From done None) (From done (Some x)) (λ y is. elim is [ inl none ↦ absurd (none-some y none) | inr after ↦ inr after ])
                (r.puts ++ list_of r.last) r.from,
          );
          pairs = (
            each_then (From done None) (Follow x) (λ y is. elim is [
              | inl none ↦ absurd (none-some y none)
              | inr after ↦ done_apart h done x.passed y.passed (known_done x refl) after
            ]) (r.puts ++ list_of r.last) r.from,
            r.pairs,
          );
          queue = r.queue;
        }
    ingested done {side} {behind} o over for_relay within was is_was fine known_done (hears {mid = mid} {heard = heard} ticket pdu reply none on treats more) =
        let next : List Event = done ++ HeardTicket ticket reply ∷ [] in
        let z = slotted done side mid ticket pdu reply o none on for_relay.0 treats
        (λ other is. within other (subst (Shows other) (append_assoc done (HeardTicket ticket reply ∷ []) heard) (shows_first other next heard is))) in
        let r = ingested next {side = mid} {behind = behind}
        (treated laws.heard.ports old begun p first there (side_at relay) on_and_on done side mid ticket pdu reply for_relay.0 o on (ap (goes_over p) (sym on) ∙ over.0) treats)
        over.1 for_relay.1
        (λ other is. within other (subst (Shows other) (append_assoc done (HeardTicket ticket reply ∷ []) heard) is)) z.was z.its z.fine z.done_now more in
        record {
          puts = r.puts;
          its = r.its;
          last = r.last;
          full = r.full;
          fine = r.fine;
          from = each_then (From next z.was) (From done was) (λ y is. elim is [
            | inl same ↦ inr (z.after y same)
            | inr after ↦ inr (after_more done (HeardTicket ticket reply ∷ []) y.passed after)
          ]) (r.puts ++ list_of r.last) r.from;
          pairs = r.pairs;
          queue = r.queue ∙ queue_stays done side mid ticket pdu reply o none on for_relay.0 treats
              (λ other is. within other (subst (Shows other) (append_assoc done (HeardTicket ticket reply ∷ []) heard) (shows_first other next heard is)));
        }
