-- An end takes what comes to it for one of its keys: a data PDU for the receiver, a status report for the sender of the other way.
use Rattle.std.proofs.Common.{◌≡◌, inl, inr, ℕ, ◌+◌, ◌%◌, List, Option, Some, refl, sym, ◌∙◌, ap, subst}
use Rattle.std.specs.Option.{unwrap_or}
use Rattle.std.proofs.lemmas.Option.{same_Some}
use Rattle.link_base.specs.declared.names.Drb.{Drb}
use Rattle.link_base.specs.declared.names.Key.{Key}
use Rattle.link_base.specs.declared.names.PortName.{PortName}
use Rattle.link_base.specs.declared.names.Remote.{Remote}
use Rattle.link_base.specs.declared.names.SnSize.{SnSize}
use Rattle.link_base.specs.declared.names.Way.{Way}
use Rattle.link_base.specs.declared.names.Way.TheVariants.{Ul, Dl}
use Rattle.link_base.specs.SequenceNumbers.{modulus}
use Rattle.bearer_map.specs.declared.rows.BearerRow.{BearerRow}
use Rattle.rlc_model.specs.declared.receiver.Heard.TheVariants.{Complete}
use Rattle.rlc_model.specs.Rx.{Rx}
use Rattle.rlc_model.specs.Sides.{Entity, flip, hearer_of}
use Rattle.rlc_model.specs.Tx.{Tx}
use Rattle.rlc_law.specs.PortLaws.{HearsDataMade}
use Rattle.pdcp_pdu.specs.Pdcp.{Pdcp, Sdu, Report as ReportPdu, IsPdcp, IsPdcpFault, pdcp_bytes}
use Rattle.pdcp_model.specs.Receiver.{Hears}
use Rattle.pdcp_model.specs.Sender.{hears_report, is_reported, IsBeyond}
use Rattle.node_model.specs.declared.answers.NodeHeard.{NodeHeard}
use Rattle.node_model.specs.Names.{NodeName, back, key_of, is_node, is_key, is_port, owner, source, sink}
use Rattle.node_model.specs.State.{Incoming, Outgoing, Node, PortSide, side_at, incoming, outgoing, incoming_at, outgoing_at, no_incoming, no_outgoing, set_entity, set_incoming, set_outgoing}
use Rattle.node_model.specs.Ends.{HearsSdu, HearsReport, HearsPdcp, data_pdu, report, neither}
use Rattle.node_model.specs.Tables.{first_count}
use Rattle.chain_model.specs.State.{Chain, node_at, set_node}
use Rattle.item_law.specs.State.{Content, Data, Report, Item, way_with, way_of}
use Rattle.item_law.specs.State.{Chain as ItemChain}
use Rattle.item_law.specs.Live.{Live}
use Rattle.item_law.specs.Steps.{Step, Arrives}
use Rattle.item_chain.specs.Foundations.{PduLaws}
use Rattle.item_chain.specs.View.{View, view, is_side, put_at}
use Rattle.item_chain.specs.Stands.{row_of, IsPdu, item_tables, Ghost, Stands, Refines}
use Rattle.item_chain.proofs.Arrives.{data_arrives}
use Rattle.item_chain.proofs.ArrivesReport.{not_beyond, report_arrives}
use Rattle.item_chain.proofs.Completed.{n}
use Rattle.item_chain.proofs.Hearing.{its}
use Rattle.item_chain.proofs.Views.{both_in, both_out}

-- the item that completed is the PDCP PDU, comes for this key, which is received at this node, and takes a step there
pub record Taken (g : Ghost) (v : View) (st : Stands g v) (N : ℕ) (name : NodeName) (key : Key) (pdu : List ℕ) : Type 0 where
  pub item : Item
  pub its : g.chain.items N ≡ Some item
  pub remote : item.key.remote ≡ key.remote
  pub drb : item.key.drb ≡ key.drb
  pub way : way_of item ≡ key.way
  pub home : name ≡ sink key
  pub live : Live g.chain N item
  pub spelled : pdu ≡ pdcp_bytes (st.spelt N item its).row.pdcp (st.spelt N item its).pdu
  pub step : (new : ItemChain) → Arrives g.chain N item.key item.content new → Step (item_tables v.tables) g.chain new

-- the end that sends the other way is the one that receives this way
pub back_source : (key : Key) → source (back key) ≡ sink key
back_source key = by key.way refl
  where
    by : (w : Way) → key.way ≡ w → source (back key) ≡ sink key
    by Ul e = ap (λ (w : Way). source (key_of key.remote key.drb (flip w))) e ∙ sym (ap (λ (w : Way). sink (key_of key.remote key.drb w)) e)
    by Dl e = ap (λ (w : Way). source (key_of key.remote key.drb (flip w))) e ∙ sym (ap (λ (w : Way). sink (key_of key.remote key.drb w)) e)

pub flip_twice : (w : Way) → flip (flip w) ≡ w
flip_twice Ul = refl
flip_twice Dl = refl

pub key_is : (a b : Key) → a.remote ≡ b.remote → a.drb ≡ b.drb → a.way ≡ b.way → a ≡ b
key_is a b r d w = ap (λ (x : Remote). key_of x a.drb a.way) r ∙ ap (λ (x : Drb). key_of b.remote x a.way) d ∙ ap (key_of b.remote b.drb) w

pub same_sn : (a b : ℕ) (x y : List ℕ) → Sdu a x ≡ Sdu b y → a ≡ b
same_sn a b x y e = cc

pub same_body : (a b : ℕ) (x y : List ℕ) → Sdu a x ≡ Sdu b y → x ≡ y
same_body a b x y e = cc

pub same_fmc : (a b : ℕ) (x y : List ℕ) → ReportPdu a x ≡ ReportPdu b y → a ≡ b
same_fmc a b x y e = cc

pub same_map : (a b : ℕ) (x y : List ℕ) → ReportPdu a x ≡ ReportPdu b y → x ≡ y
same_map a b x y e = cc

pub no_both : (a b : ℕ) (x y : List ℕ) → Sdu a x ≡ ReportPdu b y → ⊥
no_both a b x y e = cc

module _ (l : PduLaws) (g : Ghost) (old : Chain) (st : Stands g (view old)) (way : Way) (name : PortName) (side : PortSide)
    (here : side_at (node_at old (owner (hearer_of way) name)) name ≡ Some side)
    (e : Entity) (is_open : (view old).entity (hearer_of way) name ≡ Some e) (number : ℕ) (bytes : List ℕ) (tx : Tx) (rx : Rx)
    (x : ℕ) (sdu : List ℕ) (h : HearsDataMade (its g (view old) st way name e is_open number bytes tx rx) way number bytes (Complete x sdu) tx rx)
    (key : Key) (pdu : List ℕ) (taken : Taken g (view old) st (n g (view old) st way name e is_open number bytes tx rx x sdu h) (owner (hearer_of way) name) key pdu) where
  abbrev v : View
  v = view old

  abbrev N : Node
  N = node_at old (owner (hearer_of way) name)

  abbrev after : Node
  after = set_entity N side (record e { tx = tx; rx = rx })

  abbrev G : Node → Type 0
  G node = Refines old.tables g (view (set_node old node))

  abbrev i : Item
  i = taken.item

  abbrev k : ℕ
  k = n g v st way name e is_open number bytes tx rx x sdu h

  abbrev row : BearerRow
  row = (st.spelt k i taken.its).row

  abbrev p : Pdcp
  p = (st.spelt k i taken.its).pdu

  its_row : row_of old.tables key.remote key.drb ≡ Some row
  its_row = ap (λ (r : Remote). row_of old.tables r key.drb) (sym taken.remote) ∙ ap (row_of old.tables i.key.remote) (sym taken.drb) ∙ (st.spelt k i taken.its).its_row

  inc : (j : Incoming) × (v.incoming (sink key) key ≡ Some j)
  inc = st.ends.receives key row its_row

  inc_here : incoming_at N key ≡ Some inc.0
  inc_here = ap (λ (m : NodeName). incoming_at (node_at old m) key) taken.home ∙ inc.1

  inc_is : incoming after key ≡ inc.0
  inc_is = ap (λ (o : Option Incoming). unwrap_or o (no_incoming key)) inc_here

  size_is : (incoming after key).receiver.size ≡ row.pdcp
  size_is =
      let f = st.ends.incomings (sink key) key inc.0 inc.1 in
      ap (λ (j : Incoming). j.receiver.size) inc_is ∙ f.size ∙ ap (λ (b : BearerRow). b.pdcp) (same_Some f.row row (sym f.its_row ∙ its_row))

  spells : IsPdcp row.pdcp p pdu
  spells = subst (IsPdcp row.pdcp p) (sym taken.spelled) (l.one_spelling.0 row.pdcp p (st.spelt k i taken.its).fits).0

  -- what is read is what is spelt
  reads : (q : Pdcp) → IsPdcp (incoming after key).receiver.size q pdu → q ≡ p
  reads q is = l.one_reading row.pdcp q p pdu (subst (λ (z : SnSize). IsPdcp z q pdu) size_is is) spells

  -- a data PDU
  data_case : (content : Content) → i.content ≡ content → (sn : ℕ) (body : List ℕ) → IsPdcp (incoming after key).receiver.size (Sdu sn body) pdu
      → (answer : NodeHeard) (node : Node) → HearsSdu after key sn body answer node → G node
  data_case (Report named) content sn body is answer node s =
      let r = subst (λ (c : Content). IsPdu row i.key.way c p) content (st.spelt k i taken.its).is_pdu in
      absurd (no_both sn r.0 body r.1 (reads (Sdu sn body) is ∙ r.2))
  data_case (Data c y) content sn body is answer node s =
      let is_pdu = subst (λ (c : Content). IsPdu row i.key.way c p) content (st.spelt k i taken.its).is_pdu in
      let same = reads (Sdu sn body) is ∙ is_pdu in
      let its_key : i.key ≡ key = key_is i.key key taken.remote taken.drb (ap (way_with i.key.way) (sym content) ∙ taken.way) in
      let f = st.ends.incomings (sink key) key inc.0 inc.1 in
      let as_sn : sn ≡ (inc.0.receiver.first + c) % modulus inc.0.receiver.size =
      same_sn sn _ body y same ∙ ap (λ (q : Key). (first_count row q.way + c) % modulus row.pdcp) its_key
      ∙ ap (λ (b : BearerRow). (first_count b key.way + c) % modulus b.pdcp) (same_Some row f.row (sym its_row ∙ f.its_row))
      ∙ ap (λ (z : ℕ). (z + c) % modulus f.row.pdcp) (sym f.first) ∙ ap (λ (z : SnSize). (inc.0.receiver.first + c) % modulus z) (sym f.size) in
      let hears : Hears inc.0.receiver sn y s.heard s.receiver = subst (λ (b : List ℕ). Hears inc.0.receiver sn b s.heard s.receiver) (same_body sn _ body y same)
      (subst (λ (j : Incoming). Hears j.receiver sn body s.heard s.receiver) inc_is s.hears) in
      let now : Incoming = record inc.0 { receiver = s.receiver } in
      let has : v.incoming (sink i.key) i.key ≡ Some inc.0 = ap (λ (q : Key). v.incoming (sink q) q) its_key ∙ inc.1 in
      let done = data_arrives g v st way name e is_open number bytes tx rx x sdu h i taken.live c y content
      (λ new arrives. taken.step new (subst (λ (q : Content). Arrives g.chain k i.key q new) (sym content) arrives)) inc.0 has sn as_sn s.heard s.receiver hears in
      subst (Refines old.tables g)
      (ap (λ (q : Key). record v {
        entity = put_at is_side is_port v.entity (hearer_of way) name (Some (record e { tx = tx; rx = rx }));
        incoming =
            put_at is_node is_key v.incoming (sink q) q (Some now);
      }) its_key
      ∙ ap (λ (m : NodeName). record v {
        entity = put_at is_side is_port v.entity (hearer_of way) name (Some (record e { tx = tx; rx = rx }));
        incoming =
            put_at is_node is_key v.incoming m key (Some now);
      }) (sym taken.home)
      ∙ ap (λ (q : Key). record v {
        entity = put_at is_side is_port v.entity (hearer_of way) name (Some (record e { tx = tx; rx = rx }));
        incoming =
            put_at is_node is_key v.incoming (owner (hearer_of way) name) q (Some now);
      }) (sym f.named)
      ∙ sym (both_in old (hearer_of way) name side here (record e { tx = tx; rx = rx }) now inc.0 (ap (incoming_at N) f.named ∙ inc_here))
      ∙ ap (λ (j : Incoming). view (set_node old (set_incoming after (record j { receiver = s.receiver })))) (sym inc_is)
      ∙ ap (λ (m : Node). view (set_node old m)) (sym s.is))
      done

  -- a status report
  report_case : (content : Content) → i.content ≡ content → (fmc : ℕ) (map : List ℕ) → IsPdcp (incoming after key).receiver.size (ReportPdu fmc map) pdu
      → (answer : NodeHeard) (node : Node) → HearsReport after (back key) fmc map answer node → G node
  report_case (Data c y) content fmc map is answer node s =
      let is_pdu = subst (λ (c : Content). IsPdu row i.key.way c p) content (st.spelt k i taken.its).is_pdu in
      absurd (no_both _ fmc y map (sym is_pdu ∙ sym (reads (ReportPdu fmc map) is)))
  report_case (Report named) content fmc map is answer node s =
      let r = subst (λ (c : Content). IsPdu row i.key.way c p) content (st.spelt k i taken.its).is_pdu in
      let same = reads (ReportPdu fmc map) is ∙ r.2 in
      let its_way : i.key.way ≡ flip key.way = sym (flip_twice i.key.way) ∙ ap flip (ap (way_with i.key.way) (sym content) ∙ taken.way) in
      let its_key : i.key ≡ back key = key_is i.key (back key) taken.remote taken.drb its_way in
      let out = st.ends.sends (back key) row its_row in
      let f = st.ends.outgoings (source (back key)) (back key) out.0 out.1 in
      let has : v.outgoing (source i.key) i.key ≡ Some out.0 = ap (λ (q : Key). v.outgoing (source q) q) its_key ∙ out.1 in
      let out_here : outgoing_at N (back key) ≡ Some out.0 = ap (λ (m : NodeName). outgoing_at (node_at old m) (back key)) (taken.home ∙ sym (back_source key)) ∙ out.1 in
      let out_is : outgoing after (back key) ≡ out.0 = ap (λ (o : Option Outgoing). unwrap_or o (no_outgoing (back key))) out_here in
      let named_is : (c : ℕ) → named c ≡ is_reported fmc map (out.0.sender.first + c) = λ c. r.3 c
      ∙ ap (λ (z : ℕ). is_reported z r.1 (first_count row i.key.way + c)) (sym (same_fmc fmc r.0 map r.1 same))
      ∙ ap (λ (z : List ℕ). is_reported fmc z (first_count row i.key.way + c)) (sym (same_map fmc r.0 map r.1 same))
      ∙ ap (λ (z : ℕ). is_reported fmc map (z + c)) (ap (λ (q : Key). first_count row q.way) its_key
      ∙ ap (λ (b : BearerRow). first_count b (flip key.way)) (same_Some row f.row (sym its_row ∙ f.its_row)) ∙ sym f.first) in
      let step = λ (new : ItemChain) (arrives : Arrives g.chain k i.key (Report named) new). taken.step new
      (subst (λ (q : Content). Arrives g.chain k i.key q new) (sym content) arrives) in
      let now : Outgoing = record out.0 { sender = hears_report out.0.sender fmc map } in
      let done = report_arrives g v st way name e is_open number bytes tx rx x sdu h i taken.its named content step out.0 has fmc map named_is in
      elim s [
        | inl takes ↦ subst (Refines old.tables g)
            (ap (λ (q : Key). record v {
              entity = put_at is_side is_port v.entity (hearer_of way) name (Some (record e { tx = tx; rx = rx }));
              outgoing =
                  put_at is_node is_key v.outgoing (source q) q (Some now);
            }) its_key
            ∙ ap (λ (m : NodeName). record v {
              entity = put_at is_side is_port v.entity (hearer_of way) name (Some (record e { tx = tx; rx = rx }));
              outgoing =
                  put_at is_node is_key v.outgoing m (back key) (Some now);
            }) (back_source key ∙ sym taken.home)
            ∙ ap (λ (q : Key). record v {
              entity = put_at is_side is_port v.entity (hearer_of way) name (Some (record e { tx = tx; rx = rx }));
              outgoing =
                  put_at is_node is_key v.outgoing (owner (hearer_of way) name) q (Some now);
            }) (sym f.named)
            ∙ sym (both_out old (hearer_of way) name side here (record e { tx = tx; rx = rx }) now out.0 (ap (outgoing_at N) f.named ∙ out_here))
            ∙ ap (λ (o : Outgoing). view (set_node old (set_outgoing after (record o { sender = hears_report o.sender fmc map })))) (sym out_is)
            ∙ ap (λ (m : Node). view (set_node old m)) (sym takes.2))
            done
        | inr beyond ↦ absurd (not_beyond g v st way name e is_open number bytes tx rx x sdu h i taken.its named content step out.0 has fmc map named_is
            (subst (λ (o : Outgoing). IsBeyond o.sender fmc map) out_is beyond.0))
      ]

  pub pdcp_taken : (answer : NodeHeard) (node : Node) → HearsPdcp after key pdu answer node → G node
  pdcp_taken answer node (data_pdu sn body is s) = data_case i.content refl sn body is answer node s
  pdcp_taken answer node (report fmc map is s) = report_case i.content refl fmc map is answer node s
  pdcp_taken answer node (neither fault is says same) = absurd (l.no_fault row.pdcp p pdu fault spells (subst (λ (z : SnSize). IsPdcpFault z pdu fault) size_is is))
