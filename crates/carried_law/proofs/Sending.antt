-- The data PDUs that were sent are pieces of one SDU for each number, behind each line.
use Rattle.std.proofs.Common.{◌≡◌, ◌⊎◌, inl, inr, ℕ, ◌+◌, ◌%◌, ◌≤◌, ◌==◌, Bool, true, false, cond, ◌&&◌, List, [], ◌∷◌, ◌++◌, length, map, Option, Some, None, option_and_then, refl, sym, ◌∙◌, ap, subst, arith}
use Rattle.std.specs.List.{AllByRecursion}
use Rattle.std.proofs.lemmas.Bool.{cases_Bool, cond-true, cond-false, true≢false, false≢true, and_parts, and_from, eqb-true, eq-eqb}
use Rattle.std.proofs.lemmas.Option.{none-some, same_Some}
use Rattle.link_base.specs.declared.names.Node.{Node as NodeKind}
use Rattle.link_base.specs.declared.names.PortName.{PortName}
use Rattle.link_base.specs.declared.names.Remote.{Remote}
use Rattle.link_base.specs.declared.names.Side.{Side}
use Rattle.link_base.specs.declared.names.SnSize.{SnSize}
use Rattle.link_base.specs.declared.names.Way.{Way}
use Rattle.link_base.specs.SequenceNumbers.{modulus}
use Rattle.bearer_map.specs.Contents.{Contents}
use Rattle.rlc_pdu.specs.Amd.{IsAmd}
use Rattle.rlc_model.specs.declared.hop.HopGrant.{HopGrant}
use Rattle.rlc_model.specs.declared.hop.HopGrant.TheVariants as grants
use Rattle.rlc_model.specs.declared.hop.Pdu.{Pdu}
use Rattle.rlc_model.specs.Hop.{on_air, sent_from}
use Rattle.rlc_model.specs.Pdu.{IsPiece}
use Rattle.rlc_model.specs.Sides.{Entity, way_from, sender_of}
use Rattle.rlc_model.specs.Tx.{Tx, Kept, kept_at, tx_next}
use Rattle.rlc_law.specs.Hop.{Hop, Reaches, given_at}
use Rattle.rlc_law.specs.Ports.{Port, hop_of, HasMade}
use Rattle.script_text.specs.declared.event.Event.{Event}
use Rattle.script_text.specs.declared.line.Line.{Line}
use Rattle.script_text.specs.declared.line.Line.TheVariants.{Grant, Apply}
use Rattle.script_text.specs.declared.reply.Reply.{Reply}
use Rattle.script_text.specs.History.{Entry}
use Rattle.node_model.specs.Names.{NodeName, AtRelay, is_port, is_way, owner}
use Rattle.node_model.specs.Sides.{GrantsSide}
use Rattle.node_model.specs.State.{Node, entity_of, entity_at}
use Rattle.node_model.proofs.Names.{port_is, port_refl, way_is, way_refl}
use Rattle.chain_model.specs.Draining.{Moment, entry_of}
use Rattle.chain_model.specs.Lines.{Unless, grant_refusal, Sends, Granted, apply_refusal, Applies}
use Rattle.chain_model.specs.Sizes.{port_size}
use Rattle.chain_model.specs.State.{Chain, node_at, entity_on, opened}
use Rattle.chain_model.specs.Steps.{Does, Step}
use Rattle.chain_model.specs.Told.{air_entry, entry_after, side_epoch}
use Rattle.chain_law.specs.Entities.{RlcFits}
use Rattle.chain_law.proofs.Chains.{Holds, node_fits, node_name, node_there, node_set}
use Rattle.chain_law.proofs.Laws.{rlc_fits}
use Rattle.chain_law.proofs.Opened.{opened_holds}
use Rattle.chain_law.proofs.Runs.{AnyTicket, never_said, nothing_into, does_hold, step_holds}
use Rattle.chain_law.proofs.Stands.{nothing_said}
use Rattle.chain_law.proofs.Tables.{TablesApart}
use Rattle.chain_law.proofs.Leaving.{entity_set}
use Rattle.book_law.proofs.Tables.{tables_stay}
use Rattle.book_law.specs.Past.{Goes, steps, drained, ended, Passes, IsDeclaration, AreTables}
use Rattle.heard_law.specs.Telling.{Tells}
use Rattle.heard_law.proofs.Air.{SendsNone, is_grant as is_sending, sends_none, grant_refused}
use Rattle.heard_law.proofs.Along.{passes_told, tells}
use Rattle.heard_law.proofs.Knowing.{Knows}
use Rattle.carried_law.specs.Foundations.{SentLaws}
use Rattle.carried_law.specs.Pieces.{IsPieceOf}
use Rattle.carried_law.proofs.Feeding.{IsFed}
use Rattle.carried_law.proofs.Lines.{ChainKeeps, is_apply, is_grant, not_granted, does_keep, grant_keeps, fed_keep}
use Rattle.carried_law.proofs.Switching.{applies_side, own_epoch, epoch_rises, plan_later}
use Rattle.carried_law.proofs.Sent.{Origins, IsKeptAs, kept_on, AreSent, sender_from, last_on_air, none_shown, nothing_kept}

module _ (origins : Origins) (more : (e : Entry) (h : List Entry) (port : PortName) (way : Way) (epoch n : ℕ) (sdu : List ℕ) → origins h port way epoch n sdu
    → origins (e ∷ h) port way epoch n sdu) (t : Contents) where
  -- transmitters keep what they kept, and what they were given is of such an origin
  sent_on : {May : NodeName → PortName → List ℕ → Type 0} {Begins : NodeName → PortName → ℕ → Type 0} (h : List Entry) (old new : Chain) → ChainKeeps May Begins old new
      → ((side : Side) (q : PortName) (e : Entity) → entity_on new side q ≡ Some e → (n : ℕ) (k : Kept) → kept_at e.tx n ≡ Some k → May (owner side q) q k.sdu
      → origins h q (way_from side) e.epoch n k.sdu)
      → AreSent origins t h old → AreSent origins t h new
  sent_on h old new keeps so s = record {
    sdu_of = s.sdu_of;
    pieces = s.pieces;
    kept = λ ticket pdu shown data_pdu e is epoch.
        let was = (keeps.nodes (owner (sender_of pdu.way) pdu.port)).sides pdu.port e is in
        kept_on (s.sdu_of pdu.port pdu.way pdu.epoch pdu.number) pdu.number was.0.tx e.tx was.3
        (s.kept ticket pdu shown data_pdu was.0 was.1 (sym was.2 ∙ epoch));
    epochs = s.epochs;
    given = λ side q e is n k at.
        let was = (keeps.nodes (owner side q)).sides q e is in
        elim (was.3.kept n k at) [
          | inl x ↦ subst (λ (epoch : ℕ). origins h q (way_from side) epoch n k.sdu) (sym was.2)
              (subst (origins h q (way_from side) was.0.epoch n) (sym x.sdu) (s.given side q was.0 was.1 n x.was x.here))
          | inr new ↦ so side q e is n k at new.allowed
        ];
    origin = s.origin;
  }

  -- a line sends none
  sent_none : (h : List Entry) (e : Entry) (c : Chain) → SendsNone e.line e.reply → AreSent origins t h c → AreSent origins t (e ∷ h) c
  sent_none h e c none s = record {
    sdu_of = s.sdu_of;
    pieces = λ ticket pdu shown. s.pieces ticket pdu (sym (none h ticket (air_entry h ticket)) ∙ shown);
    kept = λ ticket pdu shown. s.kept ticket pdu (sym (none h ticket (air_entry h ticket)) ∙ shown);
    epochs = λ ticket pdu shown. omega
        (arith, s.epochs ticket pdu (sym (none h ticket (air_entry h ticket)) ∙ shown), epoch_rises e h (sender_of pdu.way) pdu.port);
    given = λ side q x is n k at. more e h q (way_from side) x.epoch n k.sdu (s.given side q x is n k at);
    origin = λ ticket pdu shown data_pdu. more e h pdu.port pdu.way pdu.epoch pdu.number (s.sdu_of pdu.port pdu.way pdu.epoch pdu.number)
        (s.origin ticket pdu (sym (none h ticket (air_entry h ticket)) ∙ shown) data_pdu);
  }

  -- a grant sends a PDU
  module _ (laws : SentLaws) (h : List Entry) (old mid : Chain) (told : Tells h old) (holds : Holds nothing_said mid) (tables : mid.tables ≡ t) (port : PortName) (way : Way)
      (octets : ℕ)
      (events : List Event) (reply : Reply) where
    abbrev entry : Entry
    entry = record { line = Grant port way octets; events = events; reply = reply }

    abbrev at : NodeName
    at = owner (sender_of way) port

    module _ (epoch : ℕ) (node : Node) (status : Bool) (number : ℕ) (bytes : List ℕ) (g : GrantsSide (node_at old at) port octets epoch (grants.Sent status number bytes) node)
        (s : Sends old node port way epoch (grants.Sent status number bytes) reply mid) where
      abbrev its_pdu : Pdu
      its_pdu = sent_from port (sender_of way) epoch status number bytes

      its_epoch : epoch ≡ side_epoch (sender_of way) port h
      its_epoch = g.its_epoch ∙ told.epochs (sender_of way) port g.entity (ap (option_and_then entity_of) g.its.here ∙ g.its.is_open)

      -- what is shown is this PDU, or was shown before
      shown_as : (ticket : ℕ) (pdu : Pdu) → air_entry (entry ∷ h) ticket ≡ Some pdu → (its_pdu ≡ pdu) ⊎ (air_entry h ticket ≡ Some pdu)
      shown_as ticket pdu is = elim (cases_Bool (length old.air + 1 == ticket)) [
        | inl this ↦ inl (ap (λ (n : ℕ). sent_from port (sender_of way) n status number bytes) its_epoch
            ∙ same_Some last pdu (sym (cond-true (length old.air + 1 == ticket) (Some last) (air_entry h ticket) this) ∙ sym said ∙ is))
        | inr other ↦ inr (sym (cond-false (length old.air + 1 == ticket) (Some last) (air_entry h ticket) other) ∙ sym said ∙ is)
      ]
        where
          last : Pdu
          last = sent_from port (sender_of way) (side_epoch (sender_of way) port h) status number bytes

          said : air_entry (entry ∷ h) ticket ≡ cond (length old.air + 1 == ticket) (Some last) (air_entry h ticket)
          said = ap (λ (r : Reply). entry_after h (Grant port way octets) r ticket (air_entry h ticket)) s.0

      -- and of an epoch to which its side has come
      epochs_on : AreSent origins t h mid → (ticket : ℕ) (pdu : Pdu) → air_entry (entry ∷ h) ticket ≡ Some pdu → pdu.epoch ≤ side_epoch (sender_of pdu.way) pdu.port (entry ∷ h)
      epochs_on was ticket pdu shown = elim (shown_as ticket pdu shown) [
        | inr before ↦ omega (arith, was.epochs ticket pdu before, epoch_rises entry h (sender_of pdu.way) pdu.port)
        | inl this ↦ subst (λ (p : Pdu). p.epoch ≤ side_epoch (sender_of p.way) p.port (entry ∷ h)) this
            (omega (arith, its_epoch, ap (λ (side : Side). side_epoch side port h) (sender_from (sender_of way)), epoch_rises entry h (sender_of (way_from (sender_of way))) port))
      ]

      abbrev fits : RlcFits mid
      fits = rlc_fits mid holds

      on : on_air mid.air (length old.air + 1) ≡ Some its_pdu
      on = ap (λ (c : Chain). on_air c.air (length old.air + 1)) s.1 ∙ last_on_air old.air its_pdu

      -- the port that has made it
      abbrev its_port : (p : Port) × (fits.ports port epoch ≡ Some p)
      its_port = fits.opened (length old.air + 1) its_pdu on

      made : HasMade its_port.0 (way_from (sender_of way)) status number bytes
      made = fits.fits.made (length old.air + 1) its_pdu its_port.0 on its_port.1

      abbrev hop : Hop
      hop = hop_of its_port.0 (way_from (sender_of way))

      reaches : Reaches hop
      reaches = fits.fits.reaches port epoch its_port.0 its_port.1 (way_from (sender_of way))

      size : hop.tx.size ≡ port_size t port
      size = (fits.sides.sizes port epoch its_port.0 its_port.1 (way_from (sender_of way))).0 ∙ ap (λ (u : Contents). port_size u port) tables

      -- the entity that has sent it
      abbrev now : Entity
      now = record g.entity { tx = g.tx; rx = g.rx }

      open_now : entity_on mid (sender_of way) port ≡ Some now
      open_now = ap (λ (c : Chain). entity_at (node_at c at) port) s.1
          ∙ ap (λ (n : Node). entity_at n port) (node_set old at node name (node_at old at) (node_there old at port g.side g.its.here))
          ∙ ap (λ (n : Node). entity_at n port) g.is ∙ entity_set (node_at old at) port g.side now g.its.here
        where
          name : node.name ≡ at
          name = ap (λ (n : Node). n.name) g.is ∙ node_name old at

    -- a STATUS PDU is sent
    sends_status : (epoch : ℕ) (node : Node) (number : ℕ) (bytes : List ℕ) → GrantsSide (node_at old at) port octets epoch (grants.Sent true number bytes) node
        → Sends old node port way epoch (grants.Sent true number bytes) reply mid → AreSent origins t h mid → AreSent origins t (entry ∷ h) mid
    sends_status epoch node number bytes g s was = record {
      sdu_of = was.sdu_of;
      pieces = λ ticket pdu shown data_pdu. was.pieces ticket pdu (before ticket pdu shown data_pdu) data_pdu;
      kept = λ ticket pdu shown data_pdu. was.kept ticket pdu (before ticket pdu shown data_pdu) data_pdu;
      epochs = epochs_on epoch node true number bytes g s was;
      given = λ side q e is n k at. more entry h q (way_from side) e.epoch n k.sdu (was.given side q e is n k at);
      origin = λ ticket pdu shown data_pdu. more entry h pdu.port pdu.way pdu.epoch pdu.number (was.sdu_of pdu.port pdu.way pdu.epoch pdu.number)
          (was.origin ticket pdu (before ticket pdu shown data_pdu) data_pdu);
    }
      where
        before : (ticket : ℕ) (pdu : Pdu) → air_entry (entry ∷ h) ticket ≡ Some pdu → pdu.status ≡ false → air_entry h ticket ≡ Some pdu
        before ticket pdu shown data_pdu = elim (shown_as epoch node true number bytes g s ticket pdu shown) [
          | inl this ↦ absurd (true≢false (ap (λ (p : Pdu). p.status) this ∙ data_pdu))
          | inr there ↦ there
        ]

    -- a data PDU is sent
    module _ (epoch : ℕ) (node : Node) (number : ℕ) (bytes : List ℕ) (g : GrantsSide (node_at old at) port octets epoch (grants.Sent false number bytes) node)
        (s : Sends old node port way epoch (grants.Sent false number bytes) reply mid) where
      abbrev x : Pdu
      x = its_pdu epoch node false number bytes g s

      abbrev o : Hop
      o = hop epoch node false number bytes g s

      abbrev can : Reaches o
      can = reaches epoch node false number bytes g s

      abbrev m : HasMade (its_port epoch node false number bytes g s).0 (way_from (sender_of way)) false number bytes
      m = made epoch node false number bytes g s

      -- the SDU given under its number
      abbrev sdu : List ℕ
      sdu = given_at o number

      is_piece : IsPieceOf t sdu x
      is_piece =
          let p = laws.heard.pieces o can m.0 m.2.among in
          let z = size epoch node false number bytes g s in (
            m.0.view,
            subst (λ (z : SnSize). IsAmd z m.0.view bytes) z (subst (IsAmd o.tx.size m.0.view) (sym m.2.octets) (laws.heard.reads_back o.tx.size m.0.view p.3).1),
            p.1 ∙ ap (λ (n : ℕ). n % modulus o.tx.size) m.1 ∙ ap (λ (z : SnSize). number % modulus z) z,
            subst (λ (n : ℕ). IsPiece (given_at o n) m.0.view) m.1 p.2,
          )

      kept_by : (e : Entity) → entity_on mid (sender_of way) port ≡ Some e → e.epoch ≡ epoch → IsKeptAs sdu number e.tx
      kept_by e is same =
          let f = fits epoch node false number bytes g s in
          let p = its_port epoch node false number bytes g s in
          let its = f.sides.open_port (sender_of way) port e is in
          let one : its.0 ≡ p.0 = same_Some its.0 p.0 (sym its.1 ∙ ap (f.ports port) same ∙ p.1) in
          let tx : e.tx ≡ o.tx = its.2.its_tx ∙ ap (λ (p : Port). (hop_of p (way_from (sender_of way))).tx) one in
          record {
            below = omega (arith, ap tx_next tx, (laws.heard.ports.in_order o can).0, (laws.heard.pieces o can m.0 m.2.among).0, m.1);
            same = λ k here. laws.kept o can number k (ap (λ (u : Tx). kept_at u number) (sym tx) ∙ here);
          }

      -- whether a number of a hop is this one
      abbrev is_this : PortName → Way → ℕ → ℕ → Bool
      is_this p w e n = is_port port p && (is_way (way_from (sender_of way)) w && ((epoch == e) && (number == n)))

      this_is : is_this port (way_from (sender_of way)) epoch number ≡ true
      this_is = and_from _ _ (port_refl port) (and_from _ _ (way_refl (way_from (sender_of way))) (and_from _ _ (eq-eqb epoch epoch refl) (eq-eqb number number refl)))

      module _ (was : AreSent origins t h mid) where
        abbrev new_sdu : PortName → Way → ℕ → ℕ → List ℕ
        new_sdu p w e n = cond (is_this p w e n) sdu (was.sdu_of p w e n)

        new_is : new_sdu port (way_from (sender_of way)) epoch number ≡ sdu
        new_is = cond-true (is_this port (way_from (sender_of way)) epoch number) sdu (was.sdu_of port (way_from (sender_of way)) epoch number) this_is

        -- the SDU of a number of which a PDU was sent before stays
        stays : (ticket : ℕ) (pdu : Pdu) → air_entry h ticket ≡ Some pdu → pdu.status ≡ false
            → new_sdu pdu.port pdu.way pdu.epoch pdu.number ≡ was.sdu_of pdu.port pdu.way pdu.epoch pdu.number
        stays ticket pdu shown data_pdu = elim (cases_Bool (is_this pdu.port pdu.way pdu.epoch pdu.number)) [
          | inr other ↦ cond-false (is_this pdu.port pdu.way pdu.epoch pdu.number) sdu (was.sdu_of pdu.port pdu.way pdu.epoch pdu.number) other
          | inl same ↦
              let a = and_parts _ _ same in
              let b = and_parts _ _ a.1 in
              let c = and_parts _ _ b.1 in
              let its_port : port ≡ pdu.port = port_is port pdu.port a.0 in
              let its_way : way_from (sender_of way) ≡ pdu.way = way_is (way_from (sender_of way)) pdu.way b.0 in
              let e = now epoch node false number bytes g s in
              let sent = g.grants.1.2 in
              let open_e = open_now epoch node false number bytes g s in
              let mine = kept_by e open_e (sym g.its_epoch) in
              let theirs = was.kept ticket pdu shown data_pdu e
              (ap (λ (side : Side). entity_on mid side pdu.port) (ap sender_of (sym its_way) ∙ sender_from (sender_of way))
              ∙ ap (entity_on mid (sender_of way)) (sym its_port) ∙ open_e) (sym g.its_epoch ∙ eqb-true epoch pdu.epoch c.0) in
              cond-true (is_this pdu.port pdu.way pdu.epoch pdu.number) sdu (was.sdu_of pdu.port pdu.way pdu.epoch pdu.number) same
              ∙ sym (mine.same (record sent.kept { flags = sent.flags }) sent.this)
              ∙ theirs.same (record sent.kept { flags = sent.flags }) (ap (kept_at g.tx) (sym (eqb-true number pdu.number c.1)) ∙ sent.this)
        ]

        -- the SDU that is sent was kept, and so it has its origin
        its_origin : origins (entry ∷ h) port (way_from (sender_of way)) epoch number sdu
        its_origin =
            let e = now epoch node false number bytes g s in
            let sent = g.grants.1.2 in
            let open_e = open_now epoch node false number bytes g s in
            more entry h port (way_from (sender_of way)) epoch number sdu
            (subst (origins h port (way_from (sender_of way)) epoch number) ((kept_by e open_e (sym g.its_epoch)).same (record sent.kept { flags = sent.flags }) sent.this)
            (subst (λ (x : ℕ). origins h port (way_from (sender_of way)) x number sent.kept.sdu) (sym g.its_epoch)
            (was.given (sender_of way) port e open_e number (record sent.kept { flags = sent.flags }) sent.this)))

        sends_data : AreSent origins t (entry ∷ h) mid
        sends_data = record {
          sdu_of = new_sdu;
          pieces = λ ticket pdu shown data_pdu. elim (shown_as epoch node false number bytes g s ticket pdu shown) [
            | inl this ↦ subst (λ (p : Pdu). IsPieceOf t (new_sdu p.port p.way p.epoch p.number) p) this (subst (λ (l : List ℕ). IsPieceOf t l x) (sym new_is) is_piece)
            | inr before ↦ subst (λ (l : List ℕ). IsPieceOf t l pdu) (sym (stays ticket pdu before data_pdu)) (was.pieces ticket pdu before data_pdu)
          ];
          kept = λ ticket pdu shown data_pdu. elim (shown_as epoch node false number bytes g s ticket pdu shown) [
            | inl this ↦ subst (λ (p : Pdu). (e : Entity) → entity_on mid (sender_of p.way) p.port ≡ Some e → e.epoch ≡ p.epoch
                → IsKeptAs (new_sdu p.port p.way p.epoch p.number) p.number e.tx) this
                (λ e is same. subst (λ (l : List ℕ). IsKeptAs l number e.tx) (sym new_is)
                (kept_by e (ap (λ (side : Side). entity_on mid side port) (sym (sender_from (sender_of way))) ∙ is) same))
            | inr before ↦ λ e is same. subst (λ (l : List ℕ). IsKeptAs l pdu.number e.tx) (sym (stays ticket pdu before data_pdu))
                (was.kept ticket pdu before data_pdu e is same)
          ];
          epochs = epochs_on epoch node false number bytes g s was;
          given = λ side q e is n k at. more entry h q (way_from side) e.epoch n k.sdu (was.given side q e is n k at);
          origin = λ ticket pdu shown data_pdu. elim (shown_as epoch node false number bytes g s ticket pdu shown) [
            | inl this ↦ subst (λ (p : Pdu). origins (entry ∷ h) p.port p.way p.epoch p.number (new_sdu p.port p.way p.epoch p.number)) this
                (subst (origins (entry ∷ h) port (way_from (sender_of way)) epoch number) (sym new_is) its_origin)
            | inr before ↦ subst (origins (entry ∷ h) pdu.port pdu.way pdu.epoch pdu.number) (sym (stays ticket pdu before data_pdu))
                (more entry h pdu.port pdu.way pdu.epoch pdu.number (was.sdu_of pdu.port pdu.way pdu.epoch pdu.number) (was.origin ticket pdu before data_pdu))
          ];
        }

    silent : (r : Reply) → reply ≡ r → SendsNone (Grant port way octets) r → AreSent origins t h mid → AreSent origins t (entry ∷ h) mid
    silent r is none was = sent_none h entry mid (subst (SendsNone (Grant port way octets)) (sym is) none) was

    granted : (epoch : ℕ) (node : Node) (answer : HopGrant) → GrantsSide (node_at old at) port octets epoch answer node → Sends old node port way epoch answer reply mid
        → AreSent origins t h mid → AreSent origins t (entry ∷ h) mid
    granted epoch node (grants.Sent true number bytes) g s was = sends_status epoch node number bytes g s was
    granted epoch node (grants.Sent false number bytes) g s was = sends_data epoch node number bytes g s was
    granted epoch node grants.Idle g s was = silent _ s.0 (λ h ticket before. refl) was
    granted epoch node (grants.Small need) g s was = silent _ s.0 (λ h ticket before. refl) was

    grants_sent : (own : List Event) → Unless (grant_refusal old port way) old own reply mid (Granted old port way octets own reply mid) → AreSent origins t h mid
        → AreSent origins t (entry ∷ h) mid
    grants_sent own = by (grant_refusal old port way) refl
      where
        by : (refusal : Option Reply) → grant_refusal old port way ≡ refusal → Unless refusal old own reply mid (Granted old port way octets own reply mid)
            → AreSent origins t h mid
            → AreSent origins t (entry ∷ h) mid
        by None is g was = granted g.epoch g.node g.answer g.grants g.sends was
        by (Some r) is u was = silent r u.1 (grant_refused old mid port way octets r is) was

  -- a node applies a plan
  applies_sent : (h : List Entry) (old mid : Chain) → Knows t h old → (remote : Remote) (kind : NodeKind) (own events : List Event) (reply : Reply)
      → Unless (apply_refusal old remote kind) old own reply mid (Applies old remote kind own reply mid) → AreSent origins t h old
      → AreSent origins t (record { line = Apply remote kind; events = events; reply = reply } ∷ h) mid
  applies_sent h old mid knows remote kind own events reply d s = by (apply_refusal old remote kind) refl d
    where
      by : (refusal : Option Reply) → apply_refusal old remote kind ≡ refusal → Unless refusal old own reply mid (Applies old remote kind own reply mid)
          → AreSent origins t (record { line = Apply remote kind; events = events; reply = reply } ∷ h) mid
      by (Some r) is u = sent_none h (record { line = Apply remote kind; events = events; reply = reply }) mid (λ h ticket before. refl) (subst (AreSent origins t h) (sym u.2) s)
      by None none a = sent_none h (record { line = Apply remote kind; events = events; reply = reply }) mid (λ h ticket before. refl) (record {
        sdu_of = s.sdu_of;
        pieces = s.pieces;
        kept = λ ticket pdu shown data_pdu x is epoch. elim (applies_side old mid remote kind own reply a (sender_of pdu.way) pdu.port x is) [
          | inl was ↦ s.kept ticket pdu shown data_pdu x was epoch
          | inr new ↦
              let its : x.epoch ≡ a.plan.epoch = ap (λ (e : Entity). e.epoch) new.3 in
              absurd (omega (
                arith,
                s.epochs ticket pdu shown,
                own_epoch h (sender_of pdu.way) pdu.port remote kind new.0 new.1,
                its,
                epoch,
                plan_later t h old knows remote kind none a.plan a.its,
              ))
        ];
        epochs = s.epochs;
        given = λ side q x is n k at. elim (applies_side old mid remote kind own reply a side q x is) [
          | inl was ↦ s.given side q x was n k at
          | inr new ↦ absurd (none-some k (sym (ap (λ (e : Entity). kept_at e.tx n) new.3) ∙ at))
        ];
        origin = s.origin;
      })

  -- what the relay's transmitters keep is of such an origin
  abbrev pub KeptAtRelay : List Entry → Chain → Type 0
  KeptAtRelay h c = (side : Side) (q : PortName) (e : Entity) → entity_on c side q ≡ Some e → owner side q ≡ AtRelay → (n : ℕ) (k : Kept) → kept_at e.tx n ≡ Some k
      → origins h q (way_from side) e.epoch n k.sdu

  -- so is what the nodes have to give over ports
  abbrev pub FedSo : List Entry → Chain → Type 0
  FedSo h c = (side : Side) (q : PortName) (epoch n : ℕ) (sdu : List ℕ) → IsFed c.tables (node_at c (owner side q)) q sdu → origins h q (way_from side) epoch n sdu

  module _ (laws : SentLaws) where
    -- a line, before the nodes feed
    does_sent : (h : List Entry) (old mid : Chain) → Tells h old → Knows t h old → Holds nothing_said old → Holds nothing_said mid → mid.tables ≡ t
        → (line : Line) (own events : List Event) (reply : Reply) → KeptAtRelay (record { line = line; events = events; reply = reply } ∷ h) mid → Does old line own reply mid
        → AreSent origins t h old → AreSent origins t (record { line = line; events = events; reply = reply } ∷ h) mid
    does_sent h old mid told knows before holds tables line own events reply relayed d s = elim (cases_Bool (is_apply line)) [
      | inl is ↦ apply line is d
      | inr no_apply ↦ elim (cases_Bool (is_grant line)) [
        | inl is ↦ grant line is d
        | inr no_grant ↦ sent_on (record { line = line; events = events; reply = reply } ∷ h) old mid
            (does_keep {May = λ x q sdu. x ≡ AtRelay} {Begins = λ x q n. Unit {0}} old mid laws (node_fits old before AtRelay) line
            (λ is q sdu. refl) own reply no_apply no_grant d)
            (λ side q e is n k here at. relayed side q e is at n k here)
            (sent_none h (record { line = line; events = events; reply = reply }) old (sends_none old mid line reply (not_granted old mid line no_grant)) s)
      ]
    ]
      where
        apply : (line : Line) → is_apply line ≡ true → Does old line own reply mid → AreSent origins t (record { line = line; events = events; reply = reply } ∷ h) mid
        apply (Apply remote kind) is d = applies_sent h old mid knows remote kind own events reply d s
        apply line is d = absurd (false≢true is)

        grant : (line : Line) → is_grant line ≡ true → Does old line own reply mid → AreSent origins t (record { line = line; events = events; reply = reply } ∷ h) mid
        grant (Grant port way octets) is d = grants_sent laws h old mid told holds tables port way octets events reply own d
            (sent_on h old mid (grant_keeps {May = λ x q sdu. ⊥} {Begins = λ x q n. Unit {0}} old mid (λ x q n. tt) port way octets own reply d)
            (λ side q e is n k here none. absurd none) s)
        grant line is d = absurd (false≢true is)

    -- what holds behind each line
    pub record Behind (h : List Entry) (c : Chain) : Type 0 where
      pub sent : AreSent origins t h c
      pub holds : Holds nothing_said c

    rests : (h : List Entry) (e : Entry) (old new : Chain) → is_sending old new e.line ≡ false → new ≡ old → Behind h old → Behind (e ∷ h) new
    rests h e old new no_grant is b = subst (Behind (e ∷ h)) (sym is) (record { sent = sent_none h e old (sends_none old new e.line e.reply no_grant) b.sent; holds = b.holds })

    pub goes_sent : (h : List Entry) (m : Moment) (new : Chain) → Tells h m.before → Knows t h m.before → new.tables ≡ t
        → ((s : Step m.before m.entry.line m.entry.events m.entry.reply new) → KeptAtRelay (m.entry ∷ h) s.mid × FedSo (m.entry ∷ h) s.mid)
        → Goes m.before m.entry new → Behind h m.before → Behind (m.entry ∷ h) new
    goes_sent h m new told knows tables origin_so (steps s) b =
        let e = m.entry in
        let holds_mid = does_hold laws.heard.ports AnyTicket never_said m.before e.line s.own e.reply s.mid (nothing_into m.before e.line s.own) b.holds s.does in
        let mid_tables : s.mid.tables ≡ t = sym (ap (λ (c : Chain). c.tables) s.is) ∙ tables in
        let mid = does_sent h m.before s.mid told knows b.holds holds_mid mid_tables e.line s.own e.events e.reply (origin_so s).0 s.does b.sent in
        record {
          sent = subst (AreSent origins t (e ∷ h)) (sym s.is) (sent_on (e ∷ h) s.mid (record s.mid { nodes = s.nodes })
              (fed_keep s.mid s.given s.nodes s.feeds {May = λ x q sdu. IsFed s.mid.tables (node_at s.mid x) q sdu} {Begins = λ x q n. Unit {0}} (λ x q sdu given. given))
              (λ side q x is n k here given. (origin_so s).1 side q x.epoch n k.sdu given) mid);
          holds = step_holds laws.heard.ports AnyTicket never_said m.before e.line e.events e.reply new s (nothing_into m.before e.line s.own) b.holds;
        }
    goes_sent h m new told knows tables origin_so (drained line none is whole) b = rests h m.entry m.before new (ap (is_sending m.before new) line) is b
    goes_sent h m new told knows tables origin_so (ended line none says is) b = rests h m.entry m.before new (ap (is_sending m.before new) line) is b

    module _ (apart : TablesApart t) (are : AreTables t) (declared : List Entry) (all : AllByRecursion IsDeclaration declared) where
      -- behind the tables nothing is kept or sent
      pub begun : Behind declared (opened t)
      begun = record {
        sent = record {
          sdu_of = λ port way epoch n. [];
          pieces = λ ticket pdu shown. absurd (none-some pdu (sym (none_shown declared all ticket) ∙ shown));
          kept = λ ticket pdu shown. absurd (none-some pdu (sym (none_shown declared all ticket) ∙ shown));
          epochs = λ ticket pdu shown. absurd (none-some pdu (sym (none_shown declared all ticket) ∙ shown));
          given = λ side q e is n k at. absurd (nothing_kept t side q e is n k at);
          origin = λ ticket pdu shown. absurd (none-some pdu (sym (none_shown declared all ticket) ∙ shown));
        };
        holds = opened_holds t (λ name epoch way. tt) apart;
      }

      -- behind one line more
      pub one_more : (ms : List Moment) (m : Moment) (c : Chain) → Passes t (m ∷ ms) c
          → ((s : Step m.before m.entry.line m.entry.events m.entry.reply c)
          → KeptAtRelay (m.entry ∷ map entry_of ms ++ declared) s.mid × FedSo (m.entry ∷ map entry_of ms ++ declared) s.mid)
          → Behind (map entry_of ms ++ declared) m.before → Behind (m.entry ∷ map entry_of ms ++ declared) c
      one_more ms m c (before, goes) origin_so b =
          let told = passes_told t are declared all ms m.before before in
          goes_sent (map entry_of ms ++ declared) m c (tells t are (map entry_of ms ++ declared) m.before (tables_stay t ms m.before before) told) told.knows
          (tables_stay t (m ∷ ms) c (before, goes)) origin_so goes b
