-- A line completes a data PDU of a key exactly where the key's receiving end hears it.
use Rattle.std.proofs.Common.{◌≡◌, ◌⊎◌, inl, inr, ℕ, Bool, true, false, List, Option, Some, None, Result, Ok, refl, sym, ◌∙◌, ap, subst}
use Rattle.std.proofs.lemmas.Bool.{cases_Bool, cases_eq, true≢false, false≢true}
use Rattle.std.proofs.lemmas.Option.{none-some, same_Some}
use Rattle.link_base.specs.declared.discard.Discard.{Discard}
use Rattle.link_base.specs.declared.names.Key.{Key}
use Rattle.link_base.specs.declared.names.PortName.{PortName}
use Rattle.link_base.specs.declared.names.PortName.TheVariants.{Direct}
use Rattle.link_base.specs.declared.names.Side.{Side}
use Rattle.link_base.specs.declared.names.SnSize.{SnSize}
use Rattle.link_base.specs.declared.names.Way.{Way}
use Rattle.link_base.specs.declared.names.Way.TheVariants.{Ul, Dl}
use Rattle.bearer_map.specs.declared.rows.BearerRow.{BearerRow}
use Rattle.bearer_map.specs.Contents.{Contents}
use Rattle.rlc_pdu.specs.Amd.{Amd, IsAmd}
use Rattle.rlc_model.specs.declared.hop.HopHeard.{HopHeard}
use Rattle.rlc_model.specs.declared.hop.HopHeard.TheVariants.{Amd as AmdHeard, Status, BadAmd, BadStatus}
use Rattle.rlc_model.specs.declared.hop.Pdu.{Pdu}
use Rattle.rlc_model.specs.declared.receiver.Heard.TheVariants.{Stored, Complete, Repeat, Outside, Conflict}
use Rattle.rlc_model.specs.Hop.{on_air, HearsHop}
use Rattle.rlc_model.specs.Sides.{hearer_of, way_from}
use Rattle.pdcp_pdu.specs.Pdcp.{Pdcp, Sdu as SduPdu, Report as ReportPdu, IsPdcp, IsPdcpFault}
use Rattle.pdcp_pdu.specs.Laws.{OneReading, NoFaultWhereRead}
use Rattle.pdcp_model.specs.HandUp.{Hearing}
use Rattle.script_text.specs.declared.line.Line.{Line}
use Rattle.script_text.specs.declared.line.Line.TheVariants.{Deliver, Repeat as RepeatLine}
use Rattle.script_text.specs.History.{Entry}
use Rattle.node_model.specs.declared.answers.NodeHeard.{NodeHeard}
use Rattle.node_model.specs.Ends.{HearsPdcp, data_pdu, report, neither}
use Rattle.node_model.specs.Hearing.{hear_refusal, Passes, Follows, HearsSide, HearsUnless}
use Rattle.node_model.specs.Names.{NodeName, AtRelay, owner, sink, is_key}
use Rattle.node_model.specs.Routing.{Target, ToPdcp, Leads}
use Rattle.node_model.specs.State.{Node, side_at, incoming, set_entity}
use Rattle.node_model.proofs.Names.{cases_port, key_refl}
use Rattle.chain_model.specs.Draining.{Moment}
use Rattle.chain_model.specs.Heard.{HopOf, GoesOver, Delivers, CompletesAt, Completes}
use Rattle.chain_model.specs.Lines.{hearer, Comes, Delivers as DeliversPdu, without}
use Rattle.chain_model.specs.State.{Chain, node_at, receiving_at}
use Rattle.chain_model.specs.Steps.{Does, Step}
use Rattle.chain_model.specs.Telling.{TellsHeard}
use Rattle.chain_model.specs.Told.{known}
use Rattle.chain_law.proofs.Chains.{Holds}
use Rattle.chain_law.proofs.Nodes.{side_name}
use Rattle.book_law.specs.Hearings.{coming, tells_hearing, EntityHears, HearsBy, HearsNone}
use Rattle.book_law.proofs.Heard.{told_data}
use Rattle.heard_law.specs.Foundations.{HeardLaws}
use Rattle.heard_law.specs.Receiving.{hop_at}
use Rattle.heard_law.specs.Telling.{has_node, Tells}
use Rattle.heard_law.proofs.Completing.{Answers, is_data, completes_only, completes_answered}
use Rattle.heard_law.proofs.Hops.{completes_none}
use Rattle.heard_law.proofs.Leading.{leads_same, nodes_lead_as_told}
use Rattle.heard_law.proofs.Logged.{logged, IsAtEnd, none_comes, none_there, comes_so}
use Rattle.heard_law.proofs.Staged.{AreForRelay}

-- at each node an SDU leads to one target
abbrev pub LeadsOnce : Chain → Type 0
LeadsOnce c = (name : NodeName) (at : Side) (port : PortName) (sdu : List ℕ) (a b : Result Target Discard) → Leads c.tables (node_at c name) at port sdu a
    → Leads c.tables (node_at c name) at port sdu b → a ≡ b

abbrev is_relay : NodeName → Bool
is_relay AtRelay = true
is_relay name = false

abbrev is_up : Way → Bool
is_up Ul = true
is_up Dl = false

-- a key's receiving end isn't the relay
pub sink_is_end : (key : Key) → sink key ≡ AtRelay → ⊥
sink_is_end key = by key.way
  where
    by : (way : Way) → owner (hearer_of way) (Direct key.remote key.drb) ≡ AtRelay → ⊥
    by Ul is = false≢true (ap is_relay is)
    by Dl is = false≢true (ap is_relay is)

-- a PDU goes over a hop, or it doesn't
over_or_not : (over : HopOf) (pdu : Pdu) → GoesOver over pdu ⊎ (GoesOver over pdu → ⊥)
over_or_not over pdu = elim (cases_port pdu.port over.port) [
  | inr ne ↦ inr (λ is. ne is.port)
  | inl port ↦ elim (cases_way pdu.way over.way) [
    | inr ne ↦ inr (λ is. ne is.way)
    | inl way ↦ elim (cases_eq pdu.epoch over.epoch) [
      | inr ne ↦ inr (λ is. ne is.epoch)
      | inl epoch ↦ inl (record { port = port; way = way; epoch = epoch })
    ]
  ]
]
  where
    cases_way : (a b : Way) → (a ≡ b) ⊎ (a ≡ b → ⊥)
    cases_way Ul Ul = inl refl
    cases_way Dl Dl = inl refl
    cases_way Ul Dl = inr (λ is. false≢true (ap is_up (sym is)))
    cases_way Dl Ul = inr (λ is. false≢true (ap is_up is))

-- what is said of a data PDU
abbrev is_sdu : Pdcp → Bool
is_sdu (SduPdu sn sdu) = true
is_sdu (ReportPdu fmc map) = false

-- the key to which a target leads
abbrev key_in : Key → Result Target Discard → Key
key_in other (Ok (ToPdcp key body)) = key
key_in other target = other

module _ (laws : HeardLaws) (reading : OneReading) (no_fault : NoFaultWhereRead) (t : Contents) (h : List Entry) (m : Moment) (new : Chain) (told : Tells h m.before)
    (s : Step m.before m.entry.line m.entry.events m.entry.reply new) (staged : AreForRelay m.before) (tables : m.before.tables ≡ t) (holds : Holds (logged t h) m.before)
    (once : LeadsOnce m.before) where
  -- a PDU that comes by the line comes to its node
  comes_by : (line : Line) → Does m.before line s.own m.entry.reply s.mid → (ticket : ℕ) → coming line ≡ Some ticket → (pdu : Pdu) → on_air m.before.air ticket ≡ Some pdu
      → (behind : Chain → Chain) × Comes m.before pdu s.own m.entry.reply s.mid behind
  comes_by (Deliver other) d ticket is pdu on = (
    without other,
    subst (λ (o : Option Pdu). DeliversPdu m.before o s.own m.entry.reply s.mid (without other)) (ap (on_air m.before.air) (same_Some other ticket is) ∙ on) d,
  )
  comes_by (RepeatLine other) d ticket is pdu on = (
    λ c. c,
    subst (λ (o : Option Pdu). DeliversPdu m.before o s.own m.entry.reply s.mid (λ c. c)) (ap (on_air m.before.air) (same_Some other ticket is) ∙ on) d,
  )
  comes_by line d ticket is pdu on = absurd (none-some ticket is)

  -- a PDU of which a receiving end of a key hears
  module _ (key : Key) (hearing : Hearing) (y : HearsBy key m hearing) where
    comes : EntityHears (sink key) m (AmdHeard (Complete y.completes.number y.completes.whole))
    comes = y.completes.comes

    its_data : y.completes.comes.pdu.status ≡ false
    its_data = is_data laws t h m tables holds y.completes.comes (Complete y.completes.number y.completes.whole) refl

    completed : CompletesAt (hop_at t y.completes.comes.pdu.port y.completes.comes.pdu.way y.completes.comes.pdu.epoch) h m.entry y.completes.number y.completes.whole
    completed = completes_answered laws t h m tables holds y.completes.comes new told s staged its_data y.completes.number y.completes.whole refl

  -- there is one key of which a receiving end hears a data PDU by the line
  pub one_key : (a b : Key) (for_a for_b : Hearing) → HearsBy a m for_a → HearsBy b m for_b → a ≡ b
  one_key a b for_a for_b x y = ap (key_in a) (once (owner (hearer_of pdu.way) pdu.port) (hearer_of pdu.way) pdu.port x.completes.whole
      (Ok (ToPdcp a x.body)) (Ok (ToPdcp b y.body)) x.completes.leads
      (subst (λ (sdu : List ℕ). Leads m.before.tables (hearer pdu m.before) (hearer_of pdu.way) pdu.port sdu (Ok (ToPdcp b y.body))) only.1
      (subst (λ (p : Pdu). Leads m.before.tables (hearer p m.before) (hearer_of p.way) p.port y.completes.whole (Ok (ToPdcp b y.body))) same y.completes.leads)))
    where
      pdu : Pdu
      pdu = x.completes.comes.pdu

      same : y.completes.comes.pdu ≡ x.completes.comes.pdu
      same = same_Some _ _ (sym y.completes.comes.shown ∙ ap (on_air m.before.air) (same_Some _ _ (sym y.completes.comes.line ∙ x.completes.comes.line)) ∙ x.completes.comes.shown)

      only : (y.completes.number ≡ x.completes.number) × (y.completes.whole ≡ x.completes.whole)
      only = completes_only laws t h m tables holds x.completes.comes new told s staged (its_data a for_a x) y.completes.number y.completes.whole
          (subst (λ (p : Pdu). CompletesAt (hop_at t p.port p.way p.epoch) h m.entry y.completes.number y.completes.whole) same (completed b for_b y))

  module _ (row : BearerRow) (key : Key) (has : has_node m.before.tables (sink key) ≡ true) (size : (receiving_at m.before key).receiver.size ≡ row.pdcp) where
    -- what the receiving end hears is completed
    pub hears_completes : (hearing : Hearing) → HearsBy key m hearing → Completes t row key h m.entry hearing
    hears_completes hearing y = record {
      hop = hop_at t x.pdu.port x.pdu.way x.pdu.epoch;
      its_size = refl;
      number = y.completes.number;
      whole = y.completes.whole;
      completes = completed key hearing y;
      at_sink = x.at_node;
      pdu = y.body;
      leads = subst (λ (u : Contents). Leads u (known u (sink key) h) (hearer_of x.pdu.way) x.pdu.port y.completes.whole (Ok (ToPdcp key y.body))) tables
          ((nodes_lead_as_told h m.before told (sink key) has (hearer_of x.pdu.way) x.pdu.port y.completes.whole (Ok (ToPdcp key y.body))).0
          (subst (λ (n : NodeName). Leads m.before.tables (node_at m.before n) (hearer_of x.pdu.way) x.pdu.port y.completes.whole
          (Ok (ToPdcp key y.body))) x.at_node y.completes.leads));
      reads = subst (λ (size : SnSize). IsPdcp size (SduPdu hearing.sn hearing.sdu) y.body) size y.reads;
    }
      where
        x : EntityHears (sink key) m (AmdHeard (Complete y.completes.number y.completes.whole))
        x = y.completes.comes

    -- what is completed the receiving end hears
    module _ (hearing : Hearing) (z : Completes t row key h m.entry hearing) where
      at : IsAtEnd z.hop.way z.hop.port
      at relay = sink_is_end key (sym z.at_sink ∙ relay)

      nothing : ((number : ℕ) (fields : Amd) → Delivers z.hop h m.entry number fields → ⊥) → HearsBy key m hearing
      nothing none = absurd (completes_none z.hop h m.entry none z.number z.whole z.completes)

      module _ (ticket : ℕ) (pdu : Pdu) (line : coming m.entry.line ≡ Some ticket) (on : on_air m.before.air ticket ≡ Some pdu)
          (taken : hear_refusal pdu (side_at (hearer pdu m.before) pdu.port) ≡ None) (status : pdu.status ≡ false) (over : GoesOver z.hop pdu) where
        hop_is : z.hop ≡ hop_at t pdu.port pdu.way pdu.epoch
        hop_is = ap (λ (size : SnSize). record { size = size; port = z.hop.port; way = z.hop.way; epoch = z.hop.epoch }) z.its_size
            ∙ ap (λ (port : PortName). hop_at t port z.hop.way z.hop.epoch) (sym over.port) ∙ ap (λ (way : Way). hop_at t pdu.port way z.hop.epoch) (sym over.way)
            ∙ ap (hop_at t pdu.port pdu.way) (sym over.epoch)

        at_sink : owner (hearer_of pdu.way) pdu.port ≡ sink key
        at_sink = subst (λ (hop : HopOf). owner (hearer_of hop.way) hop.port ≡ sink key) hop_is z.at_sink

        c : (behind : Chain → Chain) × Comes m.before pdu s.own m.entry.reply s.mid behind
        c = comes_by m.entry.line s.does ticket line pdu on

        side_hears : HearsSide m.before.tables (hearer pdu m.before) (hearer_of pdu.way) pdu.port pdu.bytes c.1.answer c.1.node
        side_hears = subst (λ (o : Option NodeHeard). HearsUnless o m.before.tables (hearer pdu m.before) (hearer_of pdu.way) pdu c.1.answer c.1.node) taken c.1.hears

        abbrev n : Node
        n = set_entity (hearer pdu m.before) side_hears.side side_hears.behind

        abbrev x : (answer : HopHeard) → side_hears.hop ≡ answer → EntityHears (sink key) m answer
        x answer is = record {
          ticket = ticket;
          line = line;
          pdu = pdu;
          shown = on;
          at_node = at_sink;
          taken = taken;
          side = side_hears.side;
          entity = side_hears.entity;
          its = side_hears.its;
          tx = side_hears.tx;
          rx = side_hears.rx;
          hears = subst (λ (a : HopHeard). HearsHop side_hears.entity.tx side_hears.entity.rx pdu.bytes a side_hears.tx side_hears.rx) is side_hears.hears;
        }

        answers : Answers side_hears.hop z.number z.whole
        answers = completes_only laws t h m tables holds (x side_hears.hop refl) new told s staged status z.number z.whole
            (subst (λ (hop : HopOf). CompletesAt hop h m.entry z.number z.whole) hop_is z.completes)

        leads : Leads m.before.tables (hearer pdu m.before) (hearer_of pdu.way) pdu.port z.whole (Ok (ToPdcp key z.pdu))
        leads = subst (λ (name : NodeName). Leads m.before.tables (node_at m.before name) (hearer_of pdu.way) pdu.port z.whole (Ok (ToPdcp key z.pdu))) (sym at_sink)
            ((nodes_lead_as_told h m.before told (sink key) has (hearer_of pdu.way) pdu.port z.whole (Ok (ToPdcp key z.pdu))).1
            (subst (λ (u : Contents). Leads u (known u (sink key) h) (hearer_of pdu.way) pdu.port z.whole (Ok (ToPdcp key z.pdu))) (sym tables)
            (subst (λ (hop : HopOf). Leads t (known t (sink key) h) (hearer_of hop.way) hop.port z.whole (Ok (ToPdcp key z.pdu))) hop_is z.leads)))

        here : (incoming n key).receiver.size ≡ row.pdcp
        here = ap (λ (name : NodeName). (incoming (node_at m.before name) key).receiver.size) at_sink ∙ size

        -- the receiver of the key hears a data PDU
        said : (answer : NodeHeard) (node : Node) → HearsPdcp n key z.pdu answer node → TellsHeard pdu.port (way_from (hearer_of pdu.way)) answer s.own m.entry.reply
            → tells_hearing m.entry.reply ≡ true
        said answer node (data_pdu sn sdu reads heard) tells =
            (told_data pdu.port (way_from (hearer_of pdu.way)) key heard.heard s.own m.entry.reply
            (subst (λ (a : NodeHeard). TellsHeard pdu.port (way_from (hearer_of pdu.way)) a s.own m.entry.reply) heard.says tells)).0
        said answer node (report fmc map reads heard) tells = absurd (false≢true (ap is_sdu (reading row.pdcp (ReportPdu fmc map) (SduPdu hearing.sn hearing.sdu) z.pdu
            (subst (λ (size : SnSize). IsPdcp size (ReportPdu fmc map) z.pdu) here reads) z.reads)))
        said answer node (neither bad is says same) tells = absurd (no_fault row.pdcp (SduPdu hearing.sn hearing.sdu) z.pdu bad z.reads
            (subst (λ (size : SnSize). IsPdcpFault size z.pdu bad) here is))

        heard_so : (answer : HopHeard) → side_hears.hop ≡ answer → Answers answer z.number z.whole
            → Follows m.before.tables n (hearer_of pdu.way) (record side_hears.side { entity = Some side_hears.behind }) answer c.1.answer c.1.node → HearsBy key m hearing
        heard_so (AmdHeard (Complete own whole)) is only f = record {
          body = z.pdu;
          completes = record { number = own; whole = whole; comes = x (AmdHeard (Complete own whole)) is; leads = leads_here };
          reads = subst (λ (size : SnSize). IsPdcp size (SduPdu hearing.sn hearing.sdu) z.pdu) (sym size) z.reads;
          told = said c.1.answer c.1.node
              (subst (λ (target : Result Target Discard). Passes n (record side_hears.side { entity = Some side_hears.behind }) whole target c.1.answer c.1.node) target_is f.2) c.1.tells;
        }
          where
            leads_here : Leads m.before.tables (hearer pdu m.before) (hearer_of pdu.way) pdu.port whole (Ok (ToPdcp key z.pdu))
            leads_here = subst (λ (sdu : List ℕ). Leads m.before.tables (hearer pdu m.before) (hearer_of pdu.way) pdu.port sdu (Ok (ToPdcp key z.pdu))) only.1 leads

            target_is : f.0 ≡ Ok (ToPdcp key z.pdu)
            target_is = once (owner (hearer_of pdu.way) pdu.port) (hearer_of pdu.way) pdu.port whole f.0 (Ok (ToPdcp key z.pdu))
                (leads_same m.before.tables n (hearer pdu m.before) (λ r. refl) (hearer_of pdu.way) pdu.port whole f.0
                (subst (λ (port : PortName). Leads m.before.tables n (hearer_of pdu.way) port whole f.0)
                (sym (side_name (hearer pdu m.before) pdu.port side_hears.side side_hears.its.here)) f.1)) leads_here
        heard_so (AmdHeard Stored) is only f = absurd only
        heard_so (AmdHeard Repeat) is only f = absurd only
        heard_so (AmdHeard Outside) is only f = absurd only
        heard_so (AmdHeard Conflict) is only f = absurd only
        heard_so (Status answered) is only f = absurd only
        heard_so (BadAmd bad) is only f = absurd only
        heard_so (BadStatus bad) is only f = absurd only

        pub heard_over : HearsBy key m hearing
        heard_over = heard_so side_hears.hop refl answers side_hears.follows

      pub completes_hears : HearsBy key m hearing
      completes_hears = by (coming m.entry.line) refl
        where
          air : (ticket : ℕ) → coming m.entry.line ≡ Some ticket → (o : Option Pdu) → on_air m.before.air ticket ≡ o → HearsBy key m hearing
          air ticket line None gone = nothing (λ number fields now. none_there h m.entry m.before new told s staged ticket line gone z.hop at number fields now)
          air ticket line (Some pdu) on = side (hear_refusal pdu (side_at (hearer pdu m.before) pdu.port)) refl
            where
              its : (number : ℕ) (fields : Amd) → Delivers z.hop h m.entry number fields
                  → (hear_refusal pdu (side_at (hearer pdu m.before) pdu.port) ≡ None) × (pdu.status ≡ false) × GoesOver z.hop pdu ×
                  (pdu.number ≡ number) × IsAmd z.hop.size fields pdu.bytes
              its number fields now = comes_so h m.entry m.before new told s staged ticket pdu line on z.hop number fields at now

              side : (refusal : Option NodeHeard) → hear_refusal pdu (side_at (hearer pdu m.before) pdu.port) ≡ refusal → HearsBy key m hearing
              side (Some refusal) refused = nothing (λ number fields now. none-some refusal (sym (its number fields now).0 ∙ refused))
              side None taken = elim (cases_Bool pdu.status) [
                | inl status ↦ nothing (λ number fields now. true≢false (sym status ∙ (its number fields now).1))
                | inr no_status ↦ elim (over_or_not z.hop pdu) [
                  | inr other ↦ nothing (λ number fields now. other (its number fields now).2)
                  | inl over ↦ heard_over ticket pdu line on taken no_status over
                ]
              ]

          by : (o : Option ℕ) → coming m.entry.line ≡ o → HearsBy key m hearing
          by None line = nothing (λ number fields now. none_comes h m.entry m.before new told s staged line z.hop at number fields now)
          by (Some ticket) line = air ticket line (on_air m.before.air ticket) refl

    -- so where the receiving end hears none, none is completed
    pub none_completed : HearsNone key m → (hearing : Hearing) → Completes t row key h m.entry hearing → ⊥
    none_completed (inl no_line) hearing z = none-some _ (sym no_line ∙ (completes_hears hearing z).completes.comes.line)
    none_completed (inr (inl untold)) hearing z = true≢false (sym (completes_hears hearing z).told ∙ untold)
    none_completed (inr (inr other)) hearing z =
        let same : other.0 ≡ key = one_key other.0 key other.2 hearing other.3 (completes_hears hearing z) in
        true≢false (sym (key_refl key) ∙ ap (λ (k : Key). is_key k key) (sym same) ∙ other.1)
