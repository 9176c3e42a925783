-- What the ends give to their transmitters, on every path: data PDUs of what was submitted, and reports that name exactly what was heard.
use Rattle.std.proofs.Common.{◌≡◌, ◌↔◌, ℕ, ◌+◌, ◌%◌, ◌<◌, ◌≤◌, Bool, true, false, List, [], ◌∷◌, ◌++◌, length, get_or, map, Option, Some, None, option_map, refl, sym, ◌∙◌, ap, subst}
use Rattle.std.specs.List.{AllByRecursion, Contains}
use Rattle.std.proofs.lemmas.Bool.{false≢true}
use Rattle.std.proofs.lemmas.Option.{none-some, same_Some}
use Rattle.link_base.specs.declared.names.Key.{Key}
use Rattle.link_base.specs.declared.names.LocalId.{LocalId}
use Rattle.link_base.specs.declared.names.PortName.{PortName}
use Rattle.link_base.specs.declared.names.PortName.TheVariants.{Direct}
use Rattle.link_base.specs.declared.names.Remote.{Remote}
use Rattle.link_base.specs.declared.names.Side.{Side}
use Rattle.link_base.specs.declared.names.Side.TheVariants.{Low, High}
use Rattle.link_base.specs.declared.names.SnSize.{SnSize}
use Rattle.link_base.specs.declared.names.Way.{Way}
use Rattle.link_base.specs.declared.names.Way.TheVariants.{Ul, Dl}
use Rattle.link_base.specs.SequenceNumbers.{modulus}
use Rattle.bearer_map.specs.declared.ids.Attachment.{Attachment}
use Rattle.bearer_map.specs.declared.rows.BearerRow.{BearerRow}
use Rattle.bearer_map.specs.declared.rows.MapRow.{MapRow}
use Rattle.bearer_map.specs.Contents.{Contents}
use Rattle.pdcp_pdu.specs.Pdcp.{Sdu, Report, pdcp_bytes}
use Rattle.pdcp_pdu.specs.Reports.{Reports}
use Rattle.pdcp_model.specs.Receiver.{Receiver, IsReport}
use Rattle.pdcp_model.specs.Sender.{Sender, kept_at}
use Rattle.rlc_model.specs.Sides.{flip, way_from, sender_of, hearer_of}
use Rattle.script_text.specs.History.{Entry}
use Rattle.node_model.specs.Feeding.{in_key, out_key, port_on, first_hop, under}
use Rattle.node_model.specs.Names.{NodeName, AtRelay, AtGnb, owner, source, sink, back}
use Rattle.node_model.specs.State.{Node, id_in, id_at, outgoing, incoming}
use Rattle.node_model.specs.Tables.{first_count, map_row, relay_port}
use Rattle.node_model.proofs.Names.{owner_side}
use Rattle.chain_model.specs.Book.{submitted, handed}
use Rattle.chain_model.specs.Carried.{IsBefore, IsRowOf, IsGiven, data_pdu as data_given, report as report_given}
use Rattle.chain_model.specs.Draining.{Moment, entry_of}
use Rattle.chain_model.specs.Heard.{IsHeard}
use Rattle.chain_model.specs.State.{Chain, node_at, sender_at, receiving_at, opened}
use Rattle.chain_model.specs.Steps.{Step}
use Rattle.chain_model.specs.Told.{attached_at, known}
use Rattle.chain_law.specs.Laws.{ComesUp, goes_on}
use Rattle.chain_law.proofs.Chains.{node_fits}
use Rattle.chain_law.proofs.Tables.{TablesApart}
use Rattle.book_law.specs.Kept.{KeepsSdus}
use Rattle.book_law.specs.Laws.{TellsHandUps}
use Rattle.book_law.specs.Past.{Goes, steps, drained, ended, Passes, IsDeclaration, AreTables, IsPast}
use Rattle.book_law.proofs.Opened.{member}
use Rattle.book_law.proofs.Senders.{KeepsAll}
use Rattle.book_law.proofs.Tables.{tables_stay}
use Rattle.heard_law.specs.Telling.{has_node, of_remote}
use Rattle.heard_law.proofs.Keys.{LeadsOnce}
use Rattle.heard_law.proofs.Leading.{own_id}
use Rattle.heard_law.proofs.Logged.{told_behind, behind_lines as heard_behind}
use Rattle.carried_law.specs.Foundations.{SentLaws, EndLaws}
use Rattle.carried_law.proofs.Completing.{AllOnce, has_sink, has_source, size_of, has_heard}
use Rattle.carried_law.proofs.Feeding.{IsFed, data_pdu, report, Rests}
use Rattle.carried_law.proofs.Lines.{fed_rests}
use Rattle.carried_law.proofs.Own.{HasRow, EachOwn, goes_own, opened_own}

-- an end gave the SDU at a time before
abbrev pub WasGiven : Contents → List Entry → PortName → Way → List ℕ → Type 0
WasGiven t h port way sdu = (g : List Entry) × IsBefore g h × IsGiven t g port way sdu

pub given_more : (t : Contents) (e : Entry) (h : List Entry) (port : PortName) (way : Way) (sdu : List ℕ) → WasGiven t h port way sdu → WasGiven t (e ∷ h) port way sdu
given_more t e h port way sdu (g, (later, is), given) = (g, (e ∷ later, ap (λ (l : List Entry). e ∷ l) is), given)

-- the port over which an end sends PDUs of a key is one over which it sends in the key's way
abbrev is_gnb : NodeName → Bool
is_gnb AtGnb = true
is_gnb x = false

abbrev is_relay : NodeName → Bool
is_relay AtRelay = true
is_relay x = false

way_of_hop : (t : Contents) (o : Option LocalId) (key : Key) (q : PortName) (side : Side) → port_on t o key ≡ Some q → owner side q ≡ source key → way_from side ≡ key.way
way_of_hop t None key q side hop at = by key.way side
    (owner_side side (sender_of key.way) (Direct key.remote key.drb) (ap (owner side) (same_Some (Direct key.remote key.drb) q hop) ∙ at))
  where
    by : (way : Way) (side : Side) → side ≡ sender_of way → way_from side ≡ way
    by Ul side is = ap way_from is
    by Dl side is = ap way_from is
way_of_hop t (Some id) key q side hop at = by key.way (map_row t key.remote key.drb) hop at
  where
    up : (side : Side) (r : MapRow) → owner side (relay_port Ul r) ≡ owner (sender_of Ul) (Direct key.remote key.drb) → way_from side ≡ Ul
    up Low r at = refl
    up High r at = absurd (false≢true (ap is_relay (sym at)))

    down : (side : Side) (r : MapRow) → owner side (relay_port Dl r) ≡ owner (sender_of Dl) (Direct key.remote key.drb) → way_from side ≡ Dl
    down Low r at = absurd (false≢true (ap is_gnb at))
    down High r at = refl

    by : (way : Way) (o : Option MapRow) → option_map (relay_port way) o ≡ Some q → owner side q ≡ owner (sender_of way) (Direct key.remote key.drb) → way_from side ≡ way
    by way None hop at = absurd (none-some q hop)
    by Ul (Some r) hop at = up side r (ap (owner side) (same_Some (relay_port Ul r) q hop) ∙ at)
    by Dl (Some r) hop at = down side r (ap (owner side) (same_Some (relay_port Dl r) q hop) ∙ at)

-- the end that receives a key's SDUs sends those of its other way
sink_sends : (key : Key) → sink key ≡ source (back key)
sink_sends key = by key.way
  where
    by : (way : Way) → owner (hearer_of way) (Direct key.remote key.drb) ≡ owner (sender_of (flip way)) (Direct key.remote key.drb)
    by Ul = refl
    by Dl = refl

-- two lists with the same attachments of a remote give it one identity
ids_alike : (r : Remote) (xs ys : List Attachment) → of_remote r xs ≡ of_remote r ys → id_in xs r ≡ id_in ys r
ids_alike r xs ys same = sym (own_id r xs) ∙ ap (λ (l : List Attachment). id_in l r) same ∙ own_id r ys

module _ (laws : SentLaws) (ends : EndLaws) (t : Contents) (apart : TablesApart t) (are : AreTables t) (declared : List Entry) (all : AllByRecursion IsDeclaration declared)
    (up : ComesUp (opened t)) where
  abbrev history : List Moment → List Entry
  history ms = map entry_of ms ++ declared

  comes : (ms : List Moment) (c : Chain) → Passes t ms c → ComesUp c
  comes [] c is = subst ComesUp (sym is) up
  comes (m ∷ ms) c (before, goes) = by goes (comes ms m.before before)
    where
      by : Goes m.before m.entry c → ComesUp m.before → ComesUp c
      by (steps s) first = goes_on m.entry.line m.entry.events m.entry.reply first s
      by (drained line none is whole) first = subst ComesUp (sym is) first
      by (ended line none says is) first = subst ComesUp (sym is) first

  -- at each chain of the run an SDU leads to one target
  pub once : (ms : List Moment) (c : Chain) → Passes t ms c → AllOnce ms
  once [] c passes = tt
  once (m ∷ ms) c (before, goes) = (one m.before (comes ms m.before before), once ms m.before before)
    where
      one : (c : Chain) → ComesUp c → LeadsOnce c
      one c up name at port sdu a b x y = let o = ends.orderly c up in ends.hearings.one_target c.tables (node_at c name) at port sdu a b o.rows (o.ids name) x y

  -- behind each line nodes have their own keys
  pub own_behind : (ms : List Moment) (c : Chain) → Passes t ms c → EachOwn t c
  own_behind [] c is = subst (EachOwn t) (sym is) (opened_own t)
  own_behind (m ∷ ms) c (before, goes) = goes_own laws t m.before c m.entry
      (node_fits m.before (heard_behind laws.heard t apart are declared all ms m.before before).holds AtRelay) goes (own_behind ms m.before before)

  module _ (ms : List Moment) (m : Moment) (new : Chain) (passes : Passes t (m ∷ ms) new) (s : Step m.before m.entry.line m.entry.events m.entry.reply new) where
    abbrev c : Chain
    c = record s.mid { nodes = s.nodes }

    abbrev h : List Entry
    h = m.entry ∷ map entry_of ms ++ declared

    it_passes : Passes t (m ∷ ms) c
    it_passes = subst (λ (x : Chain). Passes t (m ∷ ms) x) s.is passes

    tables : c.tables ≡ t
    tables = tables_stay t (m ∷ ms) c it_passes

    abbrev past : IsPast h c
    past = record { tables = t; are_tables = are; declared = declared; declare = all; moments = m ∷ ms; are = refl; passes = it_passes }

    module _ (side : Side) (q : PortName) where
      abbrev x : NodeName
      x = owner side q

      abbrev n : Node
      n = node_at s.mid x

      rested : Rests n (node_at c x)
      rested = fed_rests s.mid s.given s.nodes s.feeds x

      -- the history tells what an end attaches
      same_id : (r : Remote) → has_node t x ≡ true → id_at n r ≡ id_at (known t x h) r
      same_id r has = ap (λ (l : List Attachment). id_in l r) (sym rested.same.attached)
          ∙ ids_alike r (node_at c x).attached (attached_at c.tables x h)
          ((told_behind laws.heard t apart are declared all (m ∷ ms) c it_passes).attached x (ap (λ (u : Contents). has_node u x) tables ∙ has) r)
          ∙ ap (λ (u : Contents). id_in (attached_at u x h) r) tables

      sends : (key : Key) → Contains (map out_key n.outgoing) key → (source key ≡ x) × HasRow t key
      sends key among = member (λ (k : Key). (source k ≡ x) × HasRow t k) (map out_key (node_at c x).outgoing) key (own_behind (m ∷ ms) c it_passes x).outs
          (subst (λ (l : List Key). Contains l key) (sym rested.same.outs) among)

      receives : (key : Key) → Contains (map in_key n.incoming) key → (sink key ≡ x) × HasRow t key
      receives key among = member (λ (k : Key). (sink k ≡ x) × HasRow t k) (map in_key (node_at c x).incoming) key (own_behind (m ∷ ms) c it_passes x).ins
          (subst (λ (l : List Key). Contains l key) (sym rested.same.ins) among)

      -- a data PDU is of an SDU submitted
      gives_data : (sdu : List ℕ) (key : Key) (k : ℕ) (body : List ℕ) → Contains (map out_key n.outgoing) key → kept_at (outgoing n key).sender k ≡ Some body
          → first_hop s.mid.tables n key ≡ Some q
          → sdu ≡ under (id_at n key.remote) key.drb (pdcp_bytes (outgoing n key).sender.size (Sdu (((outgoing n key).sender.first + k) % modulus
          (outgoing n key).sender.size) body))
          → IsGiven t h q (way_from side) sdu
      gives_data sdu key k body among kept hop sdu_is = data_given key row k its (sym (way_of_hop s.mid.tables (id_at n key.remote) key q side hop (sym at))) each.0
          (ap (λ (o : Option LocalId). port_on t o key) (sym id) ∙ ap (λ (u : Contents). port_on u (id_at n key.remote) key) (sym tables) ∙ hop)
          (sdu_is
          ∙ ap (λ (z : SnSize). under (id_at n key.remote) key.drb (pdcp_bytes z (Sdu ((s0.first + k) % modulus z) body))) (sym keeps.size ∙ book.size)
          ∙ ap (λ (f : ℕ). under (id_at n key.remote) key.drb (spelt f body)) (sym keeps.first ∙ book.first)
          ∙ ap (λ (b : List ℕ). under (id_at n key.remote) key.drb (spelt (first_count row key.way) b)) each.1
          ∙ ap (λ (o : Option LocalId). under o key.drb (spelt (first_count row key.way) (get_or (submitted key h) k []))) id)
        where
          s0 : Sender
          s0 = (outgoing n key).sender

          at : source key ≡ x
          at = (sends key among).0

          row : BearerRow
          row = (sends key among).1.0

          its : IsRowOf t key row
          its = (sends key among).1.1

          spelt : ℕ → List ℕ → List ℕ
          spelt f b = pdcp_bytes row.pdcp (Sdu ((f + k) % modulus row.pdcp) b)

          keeps : KeepsAll s0 (sender_at c key)
          keeps = subst (KeepsAll s0) (ap (λ (y : NodeName). (outgoing (node_at c y) key).sender) (sym at)) (rested.senders key)

          book : KeepsSdus row key.way (submitted key h) (sender_at c key)
          book = (ends.keeps h c past row key (subst (λ (u : Contents). IsRowOf u key row) (sym tables) its)).0

          each : (k < length (submitted key h)) × (body ≡ get_or (submitted key h) k [])
          each = book.each k body (ap (λ (l : List (Option (List ℕ))). get_or l k None) keeps.kept ∙ kept)

          id : id_at n key.remote ≡ id_at (known t (source key) h) key.remote
          id = same_id key.remote (ap (has_node t) (sym at) ∙ has_source t are row key its) ∙ ap (λ (y : NodeName). id_at (known t y h) key.remote) (sym at)

      -- a report names exactly what was heard
      gives_report : (sdu : List ℕ) (key : Key) (fmc : ℕ) (bits : List ℕ) → Contains (map in_key n.incoming) key → IsReport (incoming n key).receiver fmc bits
          → first_hop s.mid.tables n (back key) ≡ Some q → sdu ≡ under (id_at n key.remote) key.drb (pdcp_bytes (incoming n key).receiver.size (Report fmc bits))
          → IsGiven t h q (way_from side) sdu
      gives_report sdu key fmc bits among reports hop sdu_is = report_given key row fmc bits its
          (sym (way_of_hop s.mid.tables (id_at n key.remote) (back key) q side hop (sym at ∙ sink_sends key))) says
          (ap (λ (o : Option LocalId). port_on t o (back key)) (sym id) ∙ ap (λ (u : Contents). port_on u (id_at n key.remote) (back key)) (sym tables) ∙ hop)
          (sdu_is
          ∙ ap (λ (z : SnSize). under (id_at n key.remote) key.drb (pdcp_bytes z (Report fmc bits)))
          (ap (λ (r : Receiver). r.size) (sym receiver_is) ∙ size_of laws.heard ends.hearings t apart are declared all row key its (m ∷ ms) c it_passes)
          ∙ ap (λ (o : Option LocalId). under o key.drb (pdcp_bytes row.pdcp (Report fmc bits))) id)
        where
          at : sink key ≡ x
          at = (receives key among).0

          row : BearerRow
          row = (receives key among).1.0

          its : IsRowOf t key row
          its = (receives key among).1.1

          receiver_is : (receiving_at c key).receiver ≡ (incoming n key).receiver
          receiver_is = ap (λ (y : NodeName). (incoming (node_at c y) key).receiver) at ∙ rested.receivers key

          told : TellsHandUps (m ∷ ms) h c row key
          told = ends.hearings.hand_ups h c past row key (subst (λ (u : Contents). IsRowOf u key row) (sym tables) its)

          id : id_at n key.remote ≡ id_at (known t (sink key) h) key.remote
          id = same_id key.remote (ap (has_node t) (sym at) ∙ has_sink t are row key its) ∙ ap (λ (y : NodeName). id_at (known t y h) key.remote) (sym at)

          says : (count : ℕ) → first_count row key.way ≤ count → Reports fmc bits count ↔ IsHeard t row key h count
          says count low =
              let counted = ends.reports row.pdcp (first_count row key.way) told.hearings (handed key h) (receiving_at c key).receiver told.heard fmc bits
              (subst (λ (r : Receiver). IsReport r fmc bits) (sym receiver_is) reports) count low in
              let has = has_heard laws.heard ends.hearings t apart are declared all row key its ends.has_heard (m ∷ ms) c it_passes
              (once (m ∷ ms) c it_passes) count low in
              let tests = ends.tests fmc bits count in
              (λ reported. has.0 (counted.0 (tests.1 reported)), λ was. tests.0 (counted.1 (has.1 was)))

      -- so all that a node has to give was given by an end
      pub fed_given : (sdu : List ℕ) → IsFed s.mid.tables n q sdu → WasGiven t h q (way_from side) sdu
      fed_given sdu (data_pdu key k body among kept hop sdu_is) = (h, ([], refl), gives_data sdu key k body among kept hop sdu_is)
      fed_given sdu (report key fmc bits among reports hop sdu_is) = (h, ([], refl), gives_report sdu key fmc bits among reports hop sdu_is)
