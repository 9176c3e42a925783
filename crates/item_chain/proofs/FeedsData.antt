-- An end gives the next SDU of a key: confirmed COUNTs are passed, and a new item comes to the first hop.
use Rattle.std.proofs.Common.{◌≡◌, inl, inr, ℕ, zero, suc, ◌+◌, ◌-◌, ◌%◌, ◌<◌, ◌≤◌, Bool, true, false, not, nat_lt, List, [], length, drop, get_or, Option, Some, None, is_some, is_none, refl, sym, ◌∙◌, ap, subst, arith}
use Rattle.std.proofs.lemmas.Bool.{cases_Bool, cases_lt, and_parts, false≢true}
use Rattle.std.proofs.lemmas.List.{get_or-drop, get_or_past}
use Rattle.std.proofs.lemmas.List.Sums.{prefix_len_passes}
use Rattle.std.proofs.lemmas.Nat.{mod_below}
use Rattle.std.proofs.lemmas.Option.{none-some, slice_get_past}
use Rattle.link_base.specs.declared.names.Key.{Key}
use Rattle.link_base.specs.declared.names.LocalId.{LocalId}
use Rattle.link_base.specs.declared.names.PortName.{PortName}
use Rattle.link_base.specs.declared.names.SnSize.{SnSize}
use Rattle.link_base.specs.declared.names.SnSize.TheVariants.{S12, S18}
use Rattle.link_base.specs.declared.rlc_words.Tag.{Tag}
use Rattle.link_base.specs.SequenceNumbers.{modulus}
use Rattle.bearer_map.specs.declared.rows.BearerRow.{BearerRow}
use Rattle.rlc_model.specs.Sides.{Entity, sender_of}
use Rattle.pdcp_pdu.specs.Pdcp.{Pdcp, Sdu as SduPdu, IsBody, pdcp_bytes}
use Rattle.pdcp_model.specs.Sender.{Sender, kept_at, next, has_next, data_pdu, gave_next}
use Rattle.node_model.specs.Feeding.{under, tag_of, GivesPdu, GivesData}
use Rattle.node_model.specs.Names.{NodeName, is_key, is_node, is_port, owner, source}
use Rattle.node_model.specs.State.{Outgoing, Node, outgoing_at, id_at, set_entity, set_outgoing}
use Rattle.node_model.specs.Tables.{first_count}
use Rattle.chain_model.specs.State.{Chain, node_at, set_node}
use Rattle.chain_law.proofs.Feeds.{under_fits, data_long}
use Rattle.item_law.specs.State.{Sdu, Item, Data, OnFirstHop, is_number, put, goal_at, epoch_at}
use Rattle.item_law.specs.State.{Chain as ItemChain, Sender as ItemSender, Tables as ItemTables, source as source_kind}
use Rattle.item_law.specs.Steps.{Step, skip, give_data, gives_data}
use Rattle.item_law.proofs.base.Puts.{of_key, put_same}
use Rattle.item_place.specs.Places.{FirstBy}
use Rattle.item_chain.specs.View.{View, view, is_side, put_at}
use Rattle.item_chain.specs.Stands.{id_of, item_tables, IsSpelt, IsLongEnough, IsTag, SenderFits, OutgoingFits, EndsFit, Ghost, Stands, Goes, rests, steps, Refines}
use Rattle.item_chain.proofs.Calls.{way_sends}
use Rattle.item_chain.proofs.Ends.{outgoing_goes}
use Rattle.item_chain.proofs.FirstHops.{id_back, first_by, own, here, its_open, its_goal, is_open_by}
use Rattle.item_chain.proofs.Gives.{ghost as ghost_given, given_more, given_stands}
use Rattle.item_chain.proofs.Goings.{reaches_goes}
use Rattle.item_chain.proofs.Puts.{put_twice, put_own}
use Rattle.item_chain.proofs.Views.{both_out}

none_of : (o : Option Sdu) → is_none o ≡ true → o ≡ None
none_of None e = refl
none_of (Some x) e = absurd (false≢true e)

pub not_true : (b : Bool) → not b ≡ true → b ≡ false
not_true true e = absurd (false≢true e)
not_true false e = refl

modulus_some : (size : SnSize) → 0 < modulus size
modulus_some S12 = omega arith
modulus_some S18 = omega arith

-- a sender passes COUNTs that are confirmed
module _ (t : ItemTables) (s : ItemChain) (k : Key) where
  abbrev a : ItemSender
  a = s.sender k

  abbrev at_place : ℕ → ItemChain
  at_place p = record s { sender = put is_key s.sender k (record a { place = p }) }

  at_first : at_place (a.place + 0) ≡ s
  at_first = ap (λ (f : Key → ItemSender). record s { sender = f })
      (put_own of_key s.sender k (record a { place = a.place + 0 }) (ap (λ (p : ℕ). record a { place = p }) (let same : a.place ≡ a.place + 0 = omega arith in same)))

  -- the sender behind one more
  abbrev one_on : ItemChain → ItemSender → ItemChain
  one_on c x = record c { sender = put is_key c.sender k (record x { place = x.place + 1 }) }

  at_next : (p : ℕ) → one_on (at_place p) ((at_place p).sender k) ≡ at_place (p + 1)
  at_next p = ap (one_on (at_place p)) (put_same of_key s.sender k (record a { place = p }))
      ∙ ap (λ (f : Key → ItemSender). record s { sender = f }) (put_twice of_key s.sender k (record a { place = p }) (record a { place = p + 1 }))

  pub passes : (n : ℕ) → a.place + n ≤ length a.submitted → ((c : ℕ) → a.place ≤ c → c < a.place + n → a.confirmed c ≡ true) → Goes t s (at_place (a.place + n))
  passes zero le all = subst (Goes t s) (sym at_first) rests
  passes (suc n) le all =
      let now = put_same of_key s.sender k (record a { place = a.place + n }) in
      let step = skip k (omega (arith, le, ap (λ (x : ItemSender). x.place) now, ap (λ (x : ItemSender). length x.submitted) now))
      (ap (λ (x : ItemSender). x.confirmed x.place) now ∙ all (a.place + n) (omega arith) (omega arith))
      (sym (at_next (a.place + n))) in
      subst (Goes t s) (ap at_place (let same : a.place + n + 1 ≡ a.place + suc n = omega arith in same))
      (steps (passes n (omega (arith, le)) (λ c low lt. all c low (omega (arith, lt)))) step)

module _ (g : Ghost) (c : Chain) (st : Stands g (view c)) (o : Outgoing) (has : (view c).outgoing (source o.key) o.key ≡ Some o) (new : Node)
    (x : GivesData c.tables (node_at c (source o.key)) o new) (goes : has_next o.sender ≡ true) where
  abbrev v : View
  v = view c

  abbrev T : ItemTables
  T = item_tables c.tables

  abbrev k : Key
  k = o.key

  abbrev s : Sender
  s = o.sender

  abbrev old : ItemSender
  old = g.chain.sender k

  abbrev node : Node
  node = node_at c (source k)

  abbrev f : OutgoingFits c.tables g.chain.sender (source k) k o
  f = st.ends.outgoings (source k) k o has

  abbrev fit : SenderFits old s
  fit = f.fits

  abbrev tag : Tag
  tag = tag_of node k (Some (s.first + next s))

  abbrev pdu : Pdcp
  pdu = data_pdu s (next s) x.sdu

  abbrev pdu_bytes : List ℕ
  pdu_bytes = pdcp_bytes s.size pdu

  abbrev its : GivesPdu c.tables node k tag pdu_bytes x.mid
  its = x.gives

  below : next s < length s.kept
  below = elim (cases_lt (next s) (length s.kept)) [
    | inl lt ↦ lt
    | inr ge ↦ absurd (none-some x.sdu (sym (get_or_past s.kept (next s) None ge) ∙ x.its))
  ]

  -- the COUNTs before the next one are confirmed
  passed : (c : ℕ) → old.place ≤ c → c < next s → old.confirmed c ≡ true
  passed c low lt =
      let j : ℕ = c - s.place in
      (fit.confirmed c (omega (arith, lt, below))).1 (none_of (kept_at s c)
      (ap is_none (ap (λ (i : ℕ). get_or s.kept i None) (let same : c ≡ s.place + j = omega (arith, low, fit.place) in same) ∙ sym (get_or-drop s.place s.kept j None))
      ∙ prefix_len_passes is_none (drop s.place s.kept) j None (omega (arith, lt, low, fit.place))))

  kept : old.confirmed (next s) ≡ false
  kept = elim (cases_Bool (old.confirmed (next s))) [
    | inl e ↦ absurd (none-some x.sdu (sym ((fit.confirmed (next s) below).0 e) ∙ x.its))
    | inr e ↦ e
  ]

  abbrev i : Item
  i = record { key = k; content = Data (next s) x.sdu; goal = goal_at (g.chain.path k.remote) (source_kind k.way); epoch = epoch_at (g.chain.path k.remote) (source_kind k.way) }

  abbrev e : Entity
  e = its.entity

  abbrev bytes : List ℕ
  bytes = under (id_at node k.remote) k.drb (pdcp_bytes s.size pdu)

  by : FirstBy c.tables i i.goal k.way its.port e.epoch
  by = first_by c.tables g.chain.path i k refl refl refl its.port e.epoch (is_open_by g c st k tag pdu_bytes x.mid its) (id_at node k.remote) its.its_port
      (its_goal g c st k tag pdu_bytes x.mid its) refl

  body : IsBody x.sdu
  body = subst IsBody (fit.sdus (next s) x.sdu x.its) (fit.bodies (next s) (omega (arith, fit.long, below)))

  -- it is one that RLC can take
  long : IsLongEnough bytes
  long =
      let size = data_long s.size ((s.first + next s) % modulus s.size) x.sdu body in
      let fits = under_fits (id_at node k.remote) k.drb pdu_bytes size.0 size.1 in
      (fits.some, fits.most)

  spells : IsSpelt c.tables i bytes
  spells = record {
    row = f.row;
    its_row = f.its_row;
    pdu = pdu;
    is_pdu = ap (λ (n : ℕ). SduPdu ((n + next s) % modulus s.size) x.sdu) f.first ∙ ap (λ (z : SnSize). SduPdu ((first_count f.row k.way + next s) % modulus z) x.sdu) f.size;
    fits = (subst (λ (z : SnSize). (s.first + next s) % modulus s.size < modulus z) f.size (mod_below (s.first + next s) (modulus s.size) (modulus_some s.size)), body);
    its_bytes = ap (λ (z : SnSize). under (id_at node k.remote) k.drb (pdcp_bytes z pdu)) f.size
        ∙ ap (λ (z : Option LocalId). under z k.drb (pdcp_bytes f.row.pdcp pdu)) (sym (id_back (id_at node k.remote)) ∙ ap id_of (its_goal g c st k tag pdu_bytes x.mid its));
  }

  tagged : IsTag c.tables k (Data (next s) x.sdu) tag
  tagged = (refl, f.row, f.its_row, ap (λ (n : ℕ). Some (n + next s)) f.first)

  bears : id_at node k.remote ≡ id_of i.goal
  bears = sym (id_back (id_at node k.remote)) ∙ ap id_of (its_goal g c st k tag pdu_bytes x.mid its)

  abbrev after : ItemSender
  after = record old { place = next s + 1 }

  abbrev senders : Key → ItemSender
  senders = put is_key g.chain.sender k after

  abbrev mid : ItemChain
  mid = at_place T g.chain k (next s)

  abbrev N : ℕ
  N = length g.layout.items

  abbrev behind : ItemChain
  behind = record g.chain { items = put is_number g.chain.items N (Some i); spot = put is_number g.chain.spot N OnFirstHop; sender = senders; wanted = g.chain.wanted }

  first_goes : Goes T g.chain mid
  first_goes = subst (λ (p : ℕ). Goes T g.chain (at_place T g.chain k p)) (let same : old.place + (next s - old.place) ≡ next s = omega (arith, fit.place) in same)
      (passes T g.chain k (next s - old.place) (omega (arith, fit.place, fit.long, below)) (λ c low lt. passed c low (omega (arith, lt, fit.place))))

  its_sender : mid.sender k ≡ record old { place = next s }
  its_sender = put_same of_key g.chain.sender k (record old { place = next s })

  -- the chain with a content given and a sender
  abbrev with_given : ℕ → Sdu → (Key → ItemSender) → ItemChain
  with_given p sdu f = record g.chain {
    items = put is_number g.chain.items N (Some (record i { content = Data p sdu }));
    spot = put is_number g.chain.spot N OnFirstHop;
    sender = f;
    wanted = g.chain.wanted;
  }

  is_given : behind ≡ gives_data mid N k
  is_given =
      sym (ap (λ (z : ItemSender). with_given z.place (get_or z.submitted z.place []) (put is_key mid.sender k (record z { place = z.place + 1 }))) its_sender
      ∙ ap (λ (sdu : Sdu). with_given (next s) sdu (put is_key mid.sender k after)) (fit.sdus (next s) x.sdu x.its)
      ∙ ap (with_given (next s) x.sdu) (put_twice of_key g.chain.sender k (record old { place = next s }) after))

  gives_step : Step T mid behind
  gives_step = give_data N k (st.layout.has N ∙ slice_get_past g.layout.items N (omega arith)) (ap (λ (o : Option BearerRow). is_some o) f.its_row)
      (ap (λ (z : ItemSender). z.waits) its_sender ∙ fit.waits ∙ not_true s.waits (and_parts (not s.waits) (nat_lt (next s) (length s.kept)) goes).0)
      (omega (arith, ap (λ (z : ItemSender). z.place) its_sender, ap (λ (z : ItemSender). length z.submitted) its_sender, fit.long, below))
      (ap (λ (z : ItemSender). z.confirmed z.place) its_sender ∙ kept) is_given

  all_goes : Goes T g.chain behind
  all_goes = steps first_goes gives_step

  abbrev new_out : Outgoing
  new_out = record o { sender = gave_next s }

  ends : EndsFit c.tables g.chain.path senders g.chain.heard g.chain.wanted (put_at is_node is_key v.outgoing (source k) k (Some new_out)) v.incoming
  ends = outgoing_goes st.ends k new_out after (record {
    home = refl;
    named = refl;
    row = f.row;
    its_row = f.its_row;
    size = f.size;
    first = f.first;
    few = f.few;
    fits = subst (λ (z : ItemSender). SenderFits z (gave_next s)) (sym (put_same of_key g.chain.sender k after))
        (record { long = fit.long; sdus = fit.sdus; confirmed = fit.confirmed; place = refl; waits = fit.waits; bodies = fit.bodies });
  })

  abbrev p : PortName
  p = its.port

  abbrev new_entity : Entity
  new_entity = record e { tx = its.tx }

  abbrev new_view : View
  new_view = record v {
    entity = put_at is_side is_port v.entity (sender_of k.way) p (Some new_entity);
    outgoing = put_at is_node is_key v.outgoing (source k) k (Some new_out);
    incoming = v.incoming;
  }

  at_own : owner (sender_of k.way) p ≡ source k
  at_own = own g c st k tag pdu_bytes x.mid its

  seen : view (set_node c new) ≡ new_view
  seen =
      ap (λ (n : Node). view (set_node c n)) x.is ∙ ap (λ (n : Node). view (set_node c (set_outgoing n new_out))) its.is
      ∙ ap (λ (m : NodeName). view (set_node c (set_outgoing (set_entity (node_at c m) its.side new_entity) new_out))) (sym at_own)
      ∙ both_out c (sender_of k.way) p its.side (here g c st k tag pdu_bytes x.mid its) new_entity new_out o (ap (λ (m : NodeName). outgoing_at (node_at c m) k) at_own ∙ has)
      ∙ ap (λ (m : NodeName). record new_view { outgoing = put_at is_node is_key v.outgoing m k (Some new_out) }) at_own

  -- a data PDU is given by steps
  pub data_given : Refines c.tables g (view (set_node c new))
  data_given = record {
    ghost = ghost_given g v st (sender_of k.way) p e (its_open g c st k tag pdu_bytes x.mid its) i bytes tag its.number its.tx its.gives (sym (way_sends k.way)) by spells
        long tagged bears senders g.chain.wanted;
    goes = all_goes;
    given = given_more g v st (sender_of k.way) p e (its_open g c st k tag pdu_bytes x.mid its) i bytes tag its.number its.tx its.gives (sym (way_sends k.way)) by spells
        long tagged bears senders g.chain.wanted;
    stands = subst (Stands _) (sym seen)
        (given_stands g v st (sender_of k.way) p e (its_open g c st k tag pdu_bytes x.mid its) i bytes tag its.number its.tx its.gives (sym (way_sends k.way)) by spells
        long tagged bears senders g.chain.wanted
        (put_at is_node is_key v.outgoing (source k) k (Some new_out)) v.incoming (reaches_goes st.reaches all_goes) ends);
  }
