-- An end gives the status report of a key: it names what was heard, and a new item comes to the first hop.
use Rattle.std.proofs.Common.{◌≡◌, ℕ, ◌+◌, Bool, true, false, List, length, Option, Some, None, is_some, refl, sym, ◌∙◌, ap, subst, arith}
use Rattle.std.proofs.lemmas.Option.{slice_get_past}
use Rattle.link_base.specs.declared.names.Key.{Key}
use Rattle.link_base.specs.declared.names.LocalId.{LocalId}
use Rattle.link_base.specs.declared.names.PortName.{PortName}
use Rattle.link_base.specs.declared.names.SnSize.{SnSize}
use Rattle.link_base.specs.declared.rlc_words.Tag.{Tag}
use Rattle.bearer_map.specs.declared.rows.BearerRow.{BearerRow}
use Rattle.rlc_model.specs.Sides.{Entity, sender_of, flip}
use Rattle.pdcp_pdu.specs.Pdcp.{Pdcp, Report as ReportPdu, pdcp_bytes}
use Rattle.pdcp_model.specs.Receiver.{Receiver}
use Rattle.pdcp_model.specs.Sender.{is_reported}
use Rattle.node_model.specs.Feeding.{under, tag_of, GivesPdu, GivesReport}
use Rattle.node_model.specs.Names.{NodeName, back, is_key, is_node, is_port, owner, source, sink}
use Rattle.node_model.specs.State.{Incoming, Node, incoming_at, id_at, set_entity, set_incoming}
use Rattle.chain_model.specs.State.{Chain, node_at, set_node}
use Rattle.item_law.specs.State.{Item, Report, OnFirstHop, is_number, is_heard, put, goal_at, epoch_at}
use Rattle.item_law.specs.State.{Chain as ItemChain, Tables as ItemTables, source as source_kind}
use Rattle.item_law.specs.Steps.{Step, want_report, give_report}
use Rattle.item_law.proofs.base.Puts.{of_key, put_same}
use Rattle.item_place.specs.Places.{FirstBy}
use Rattle.item_chain.specs.View.{View, view, is_side, put_at}
use Rattle.item_chain.specs.Stands.{id_of, item_tables, IsSpelt, IncomingFits, EndsFit, Ghost, Stands, Goes, rests, steps, Refines}
use Rattle.item_chain.proofs.Calls.{way_sends}
use Rattle.item_chain.proofs.Ends.{incoming_wants}
use Rattle.item_chain.proofs.FirstHops.{id_back, first_by, own, here, its_open, its_goal, is_open_by}
use Rattle.item_chain.proofs.Gives.{ghost as ghost_given, given_more, given_stands}
use Rattle.item_chain.proofs.Goings.{reaches_goes}
use Rattle.item_chain.proofs.Puts.{put_twice}
use Rattle.item_chain.proofs.Reports.{tells_all, deliv_low, report_spelt, report_fits, names_heard}
use Rattle.item_chain.proofs.Taken.{back_source}
use Rattle.item_chain.proofs.Views.{both_in}

module _ (g : Ghost) (c : Chain) (st : Stands g (view c)) (j : Incoming) (has : (view c).incoming (sink j.key) j.key ≡ Some j) (ready : j.held_back ≡ false) (new : Node)
    (y : GivesReport c.tables (node_at c (source (back j.key))) j new) where
  abbrev v : View
  v = view c

  abbrev T : ItemTables
  T = item_tables c.tables

  abbrev k : Key
  k = j.key

  abbrev r : Receiver
  r = j.receiver

  -- the key whose way the report goes
  abbrev to : Key
  to = back k

  abbrev node : Node
  node = node_at c (source to)

  abbrev f : IncomingFits c.tables g.chain.path g.chain.heard g.chain.wanted (sink k) k j
  f = st.ends.incomings (sink k) k j has

  abbrev tag : Tag
  tag = tag_of node k None

  abbrev pdu : Pdcp
  pdu = ReportPdu y.fmc y.map

  abbrev pdu_bytes : List ℕ
  pdu_bytes = pdcp_bytes r.size pdu

  abbrev its : GivesPdu c.tables node to tag pdu_bytes y.mid
  its = y.gives

  abbrev i : Item
  i = record {
    key = k;
    content = Report (is_heard g.chain k);
    goal = goal_at (g.chain.path k.remote) (source_kind (flip k.way));
    epoch = epoch_at (g.chain.path k.remote) (source_kind (flip k.way));
  }

  abbrev e : Entity
  e = its.entity

  abbrev p : PortName
  p = its.port

  abbrev bytes : List ℕ
  bytes = under (id_at node k.remote) k.drb pdu_bytes

  by : FirstBy c.tables i i.goal (flip k.way) p e.epoch
  by = first_by c.tables g.chain.path i to refl refl refl p e.epoch (is_open_by g c st to tag pdu_bytes y.mid its) (id_at node k.remote) its.its_port
      (its_goal g c st to tag pdu_bytes y.mid its) refl

  spells : IsSpelt c.tables i bytes
  spells = record {
    row = f.row;
    its_row = f.its_row;
    pdu = pdu;
    is_pdu = (y.fmc, y.map, refl, λ n. names_heard (g.chain.heard k) r f.fits y.fmc y.map y.its n ∙ ap (λ (z : ℕ). is_reported y.fmc y.map (z + n)) f.first);
    fits = report_fits f.row.pdcp r y.fmc y.map y.its (tells_all g v st (sink k) k j has) (deliv_low g v st (sink k) k j has);
    its_bytes = ap (λ (z : SnSize). under (id_at node k.remote) k.drb (pdcp_bytes z pdu)) f.size
        ∙ ap (λ (z : Option LocalId). under z k.drb (pdcp_bytes f.row.pdcp pdu)) (sym (id_back (id_at node k.remote)) ∙ ap id_of (its_goal g c st to tag pdu_bytes y.mid its));
  }

  bears : id_at node k.remote ≡ id_of i.goal
  bears = sym (id_back (id_at node k.remote)) ∙ ap id_of (its_goal g c st to tag pdu_bytes y.mid its)

  abbrev wants : Key → Bool
  wants = put is_key g.chain.wanted k false

  abbrev mid : ItemChain
  mid = record g.chain { wanted = put is_key g.chain.wanted k true }

  abbrev N : ℕ
  N = length g.layout.items

  abbrev with_wanted : (Key → Bool) → ItemChain
  with_wanted w = record g.chain { items = put is_number g.chain.items N (Some i); spot = put is_number g.chain.spot N OnFirstHop; sender = g.chain.sender; wanted = w }

  abbrev behind : ItemChain
  behind = with_wanted wants

  -- it is wanted at the items too, and then given
  gives_step : Step T mid behind
  gives_step = give_report N k (st.layout.has N ∙ slice_get_past g.layout.items N (omega arith)) (ap (λ (o : Option BearerRow). is_some o) f.its_row)
      (put_same of_key g.chain.wanted k true) (f.ready ready) (ap with_wanted (sym (put_twice of_key g.chain.wanted k true false)))

  all_goes : Goes T g.chain behind
  all_goes = steps (steps rests (want_report k refl)) gives_step

  abbrev new_in : Incoming
  new_in = record j { wanted = false; reported = r.handed }

  ends : EndsFit c.tables g.chain.path g.chain.sender g.chain.heard wants v.outgoing (put_at is_node is_key v.incoming (sink k) k (Some new_in))
  ends = incoming_wants st.ends k new_in false (record {
    home = refl;
    named = refl;
    row = f.row;
    its_row = f.its_row;
    size = f.size;
    first = f.first;
    fits = f.fits;
    wants = λ w. sym (put_same of_key g.chain.wanted k false) ∙ w;
    ready = f.ready;
  })

  abbrev new_entity : Entity
  new_entity = record e { tx = its.tx }

  abbrev new_view : View
  new_view = record v {
    entity = put_at is_side is_port v.entity (sender_of to.way) p (Some new_entity);
    outgoing = v.outgoing;
    incoming = put_at is_node is_key v.incoming (sink k) k (Some new_in);
  }

  at_own : owner (sender_of to.way) p ≡ source to
  at_own = own g c st to tag pdu_bytes y.mid its

  seen : view (set_node c new) ≡ new_view
  seen =
      ap (λ (n : Node). view (set_node c n)) y.is ∙ ap (λ (n : Node). view (set_node c (set_incoming n new_in))) its.is
      ∙ ap (λ (m : NodeName). view (set_node c (set_incoming (set_entity (node_at c m) its.side new_entity) new_in))) (sym at_own)
      ∙ both_in c (sender_of to.way) p its.side (here g c st to tag pdu_bytes y.mid its) new_entity new_in j
      (ap (λ (m : NodeName). incoming_at (node_at c m) k) (at_own ∙ back_source k) ∙ has)
      ∙ ap (λ (m : NodeName). record new_view { incoming = put_at is_node is_key v.incoming m k (Some new_in) }) (at_own ∙ back_source k)

  -- a status report is given by steps
  pub report_given : Refines c.tables g (view (set_node c new))
  report_given = record {
    ghost = ghost_given g v st (sender_of to.way) p e (its_open g c st to tag pdu_bytes y.mid its) i bytes tag its.number its.tx its.gives (sym (way_sends to.way)) by spells
        (report_spelt (id_at node k.remote) k.drb r.size r y.fmc y.map y.its (tells_all g v st (sink k) k j has)) refl bears g.chain.sender wants;
    goes = all_goes;
    given = given_more g v st (sender_of to.way) p e (its_open g c st to tag pdu_bytes y.mid its) i bytes tag its.number its.tx its.gives (sym (way_sends to.way)) by spells
        (report_spelt (id_at node k.remote) k.drb r.size r y.fmc y.map y.its (tells_all g v st (sink k) k j has)) refl bears g.chain.sender wants;
    stands = subst (Stands _) (sym seen)
        (given_stands g v st (sender_of to.way) p e (its_open g c st to tag pdu_bytes y.mid its) i bytes tag its.number its.tx its.gives (sym (way_sends to.way)) by spells
        (report_spelt (id_at node k.remote) k.drb r.size r y.fmc y.map y.its (tells_all g v st (sink k) k j has)) refl bears g.chain.sender wants
        v.outgoing (put_at is_node is_key v.incoming (sink k) k (Some new_in)) (reaches_goes st.reaches all_goes) ends);
  }
