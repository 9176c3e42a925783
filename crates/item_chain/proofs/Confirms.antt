-- RLC of a direct port confirms SDUs that have arrived: those with a COUNT are confirmed at their sender.
use Rattle.std.proofs.Common.{◌≡◌, ◌⊎◌, ◌↔◌, inl, inr, ℕ, zero, suc, ◌+◌, ◌==◌, ◌<◌, Bool, true, List, [], ◌∷◌, length, fold, Option, Some, None, refl, sym, ◌∙◌, ap, subst, arith}
use Rattle.std.specs.Option.{unwrap_or}
use Rattle.std.specs.List.{slice_get, slice_index_or}
use Rattle.std.proofs.lemmas.Bool.{cases_eq, eqb-true, eq-eqb}
use Rattle.std.proofs.lemmas.Option.{same_Some}
use Rattle.link_base.specs.declared.names.Drb.{Drb}
use Rattle.link_base.specs.declared.names.Key.{Key}
use Rattle.link_base.specs.declared.names.PortName.TheVariants.{Direct}
use Rattle.link_base.specs.declared.names.Remote.{Remote}
use Rattle.link_base.specs.declared.names.Side.{Side}
use Rattle.link_base.specs.declared.names.Way.{Way}
use Rattle.link_base.specs.declared.names.Way.TheVariants.{Ul, Dl}
use Rattle.link_base.specs.declared.rlc_words.Tag.{Tag}
use Rattle.bearer_map.specs.declared.rows.BearerRow.{BearerRow}
use Rattle.bearer_map.specs.Contents.{Contents}
use Rattle.rlc_model.specs.declared.transmitter.StatusHeard.TheVariants as told
use Rattle.rlc_model.specs.Retransmission.{confirmed_tags}
use Rattle.rlc_model.specs.Rx.{Rx}
use Rattle.rlc_model.specs.Sides.{Entity, flip, hearer_of, sender_of, way_from}
use Rattle.rlc_model.specs.Tx.{Tx, Kept, kept_at as tx_kept_at}
use Rattle.rlc_law.specs.Hop.{Hop, DeliverStatus, Reaches}
use Rattle.rlc_law.specs.Ports.{Port, hop_of, IsSide}
use Rattle.rlc_law.specs.PortLaws.{HearsStatusMade}
use Rattle.rlc_law.proofs.Runs.{reaches_more}
use Rattle.rlc_law.proofs.Safety.{confirms_complete, gives_in_order}
use Rattle.pdcp_model.specs.Sender.{Sender, kept_at, confirms}
use Rattle.book_law.proofs.Senders.{Drops, confirms_drops}
use Rattle.node_model.specs.Ends.{confirm_count}
use Rattle.node_model.specs.Names.{NodeName, is_node, is_key, owner, source}
use Rattle.node_model.specs.State.{Outgoing, Node, PortSide, side_at, outgoing_at, outgoing, no_outgoing, set_outgoing}
use Rattle.node_model.specs.Tables.{first_count}
use Rattle.chain_model.specs.State.{Chain, node_at, set_node}
use Rattle.item_law.specs.State.{ToDirect, Sdu, Content, Data, Report, Item, Spot, Arrived, is_number, put, way_with, way_of}
use Rattle.item_law.specs.State.{Chain as ItemChain, Sender as ItemSender}
use Rattle.item_law.specs.Steps.{confirm_direct}
use Rattle.item_law.proofs.base.Puts.{of_number, of_key, put_same, put_other}
use Rattle.item_place.specs.Places.{Link, Box}
use Rattle.item_place.specs.HopFits.{HopFits}
use Rattle.item_chain.specs.View.{View, view, put_at}
use Rattle.item_chain.specs.Stands.{row_of, item_tables, DirectFits, IsTag, SenderFits, OutgoingFits, Ghost, Stands, Goes, rests, Refines}
use Rattle.item_chain.proofs.ArrivesReport.{freed}
use Rattle.item_chain.proofs.Ends.{outgoing_goes}
use Rattle.item_chain.proofs.Goings.{one_step, reaches_on, goes_on}
use Rattle.item_chain.proofs.Hearing.{its}
use Rattle.item_chain.proofs.Ports.{own}
use Rattle.item_chain.proofs.Quiet.{same_fits, acknowledge_quiet}
use Rattle.item_chain.proofs.Views.{same_node, set_twice, node_behind, outgoing_set}
use Rattle.item_chain.proofs.Given.{given_same}

module _ (a : ItemSender) (s : Sender) (fit : SenderFits a s) (c count : ℕ) (is_count : count ≡ s.first + c) where
  abbrev test : ℕ → Bool
  test other = other == count

  abbrev now : ItemSender
  now = record a { confirmed = put is_number a.confirmed c true }

  drops : Drops (λ x. test x ≡ true) s (confirms s test)
  drops = confirms_drops (λ x. test x ≡ true) s test (λ x e. e)

  passes : (k : ℕ) → k ≡ c → test (s.first + k) ≡ true
  passes k same = eq-eqb (s.first + k) count (omega (arith, same, is_count))

  is_same : (k : ℕ) → test (s.first + k) ≡ true → k ≡ c
  is_same k e = omega (arith, eqb-true (s.first + k) count e, is_count)

  free_is : (k : ℕ) → k < length s.kept → (put is_number a.confirmed c true k ≡ true) ↔ (kept_at (confirms s test) k ≡ None)
  free_is k lt = (to, from)
    where
      to : put is_number a.confirmed c true k ≡ true → kept_at (confirms s test) k ≡ None
      to e = freed test s.first s.kept k (elim (cases_eq k c) [
        | inl same ↦ inr (passes k same)
        | inr ne ↦ inl ((fit.confirmed k lt).0 (sym (put_other of_number a.confirmed c true k ne) ∙ e))
      ])

      here : k ≡ c → put is_number a.confirmed c true k ≡ true
      here same = ap (put is_number a.confirmed c true) same ∙ put_same of_number a.confirmed c true

      from : kept_at (confirms s test) k ≡ None → put is_number a.confirmed c true k ≡ true
      from none = elim (cases_eq k c) [
        | inl same ↦ here same
        | inr ne ↦ elim (drops.causes k lt none) [
          | inl was ↦ put_other of_number a.confirmed c true k ne ∙ (fit.confirmed k lt).1 was
          | inr cause ↦ absurd (ne (is_same k cause))
        ]
      ]

  confirmed_fits : SenderFits now (confirms s test)
  confirmed_fits = record {
    long = fit.long ∙ sym drops.forgets.many;
    sdus = λ k sdu is. fit.sdus k sdu (drops.forgets.each k sdu is);
    confirmed = λ k lt. free_is k (omega (arith, lt, drops.forgets.many));
    place = fit.place;
    waits = fit.waits;
    bodies = fit.bodies;
  }

-- a tag of a data item that has arrived on a direct port on which this node sends
pub record IsConfirmed (t : Contents) (items : ℕ → Option Item) (spot : ℕ → Spot) (name : NodeName) (tag : Tag) : Type 0 where
  pub n : ℕ
  pub i : Item
  pub c : ℕ
  pub x : Sdu
  pub is : items n ≡ Some i
  pub arrived : spot n ≡ Arrived
  pub goal : i.goal ≡ ToDirect
  pub content : i.content ≡ Data c x
  pub key : tag.key ≡ i.key
  pub home : name ≡ source i.key
  pub row : BearerRow
  pub its_row : row_of t i.key.remote i.key.drb ≡ Some row
  pub count : tag.count ≡ Some (first_count row i.key.way + c)

-- or one without a COUNT
abbrev pub IsDone : Contents → (ℕ → Option Item) → (ℕ → Spot) → NodeName → Tag → Type 0
IsDone t items spot name tag = (tag.count ≡ None) ⊎ IsConfirmed t items spot name tag

-- all of a list
abbrev pub AllDone : Contents → (ℕ → Option Item) → (ℕ → Spot) → NodeName → List Tag → Type 0
AllDone t items spot name [] = Unit {0}
AllDone t items spot name (tag ∷ tags) = IsDone t items spot name tag × AllDone t items spot name tags

-- senders change, and what they were stands for a view
pub record Confirmed (g : Ghost) (v : View) : Type 0 where
  pub sender : Key → ItemSender
  pub goes : Goes (item_tables v.tables) g.chain (record g.chain { sender = sender })
  pub stands : Stands (record g { chain = record g.chain { sender = sender } }) v

confirm_one : (g : Ghost) (c : Chain) → Stands g (view c) → (name : NodeName) (tag : Tag) → IsDone c.tables g.chain.items g.chain.spot name tag
    → Confirmed g (view (set_node c (confirm_count (node_at c name) tag.key tag.count)))
confirm_one g c st name tag (inl none) = subst (λ (o : Option ℕ). Confirmed g (view (set_node c (confirm_count (node_at c name) tag.key o)))) (sym none)
    (record { sender = g.chain.sender; goes = rests; stands = subst (Stands g) (sym (same_node c name)) st })
confirm_one g c st name tag (inr d) =
    let k : Key = d.i.key in
    let out = st.ends.sends k d.row d.its_row in
    let o : Outgoing = out.0 in
    let f : OutgoingFits c.tables g.chain.sender (source k) k o = st.ends.outgoings (source k) k o out.1 in
    let here : outgoing_at (node_at c name) k ≡ Some o = ap (λ (m : NodeName). outgoing_at (node_at c m) k) d.home ∙ out.1 in
    let count : ℕ = first_count d.row k.way + d.c in
    let is_count : count ≡ o.sender.first + d.c = ap (λ (b : BearerRow). first_count b k.way + d.c) (same_Some d.row f.row (sym d.its_row ∙ f.its_row))
    ∙ ap (λ (z : ℕ). z + d.c) (sym f.first) in
    let new_out : Outgoing = record o { sender = confirms o.sender (λ other. other == count) } in
    let its_now : ItemSender = now (g.chain.sender k) o.sender f.fits d.c count is_count in
    let dropped = drops (g.chain.sender k) o.sender f.fits d.c count is_count in
    let chain : ItemChain = record g.chain { sender = put is_key g.chain.sender k its_now } in
    let step = confirm_direct d.n d.i d.c d.x d.is d.arrived d.goal d.content refl in
    let ends = outgoing_goes st.ends k new_out its_now (record {
      home = refl;
      named = f.named;
      row = f.row;
      its_row = f.its_row;
      size = dropped.forgets.size ∙ f.size;
      first = dropped.forgets.first ∙ f.first;
      few =
          omega (arith, f.few, dropped.forgets.first, dropped.forgets.many);
      fits = subst (λ (z : ItemSender). SenderFits z new_out.sender) (sym (put_same of_key g.chain.sender k its_now))
          (confirmed_fits (g.chain.sender k) o.sender f.fits d.c count is_count);
    }) in
    let behind : Stands (record g { chain = chain }) (record (view c) { outgoing = put_at is_node is_key (view c).outgoing (source k) k (Some new_out) }) = record {
      good = st.good;
      reaches = reaches_on (item_tables c.tables) g.chain chain st.reaches step;
      layout = st.layout;
      spelt = st.spelt;
      lengths = st.lengths;
      ports = st.ports;
      sides = st.sides;
      hops = st.hops;
      directs = st.directs;
      unopened = st.unopened;
      places = st.places;
      paths = st.paths;
      openings = st.openings;
      ends = ends;
    } in
    let same_out : outgoing (node_at c name) k ≡ o = ap (λ (x : Option Outgoing). unwrap_or x (no_outgoing k)) here in
    let seen : view (set_node c (confirm_count (node_at c name) tag.key tag.count)) ≡ record
    (view c) { outgoing = put_at is_node is_key (view c).outgoing (source k) k (Some new_out) } =
    ap (λ (x : Option ℕ). view (set_node c (confirm_count (node_at c name) tag.key x))) d.count
    ∙ ap (λ (x : Key). view (set_node c (confirm_count (node_at c name) x (Some count)))) d.key
    ∙ ap (λ (x : Outgoing). view (set_node c (set_outgoing (node_at c name) (record x { sender = confirms x.sender (λ other. other == count) })))) same_out
    ∙ outgoing_set c name new_out o (ap (outgoing_at (node_at c name)) f.named ∙ here)
    ∙ ap (λ (x : Key). record (view c) { outgoing = put_at is_node is_key (view c).outgoing name x (Some new_out) }) f.named
    ∙ ap (λ (m : NodeName). record (view c) { outgoing = put_at is_node is_key (view c).outgoing m k (Some new_out) }) d.home in
    record {
      sender = put is_key g.chain.sender k its_now;
      goes = one_step (item_tables c.tables) g.chain chain step;
      stands =
          subst (Stands (record g { chain = chain })) (sym seen) behind;
    }

-- all tags of a list, at the node of a side
module _ (old : Chain) (name : NodeName) (r : Remote) (d : Drb) (row : PortSide) (here : side_at (node_at old name) (Direct r d) ≡ Some row) where
  count_name : (n : Node) (key : Key) (count : Option ℕ) → (confirm_count n key count).name ≡ n.name
  count_name n key None = refl
  count_name n key (Some count) = refl

  pub confirm_all : (tags : List Tag) (g : Ghost) (n : Node) → n.name ≡ name → Stands g (view (set_node old n)) → AllDone old.tables g.chain.items g.chain.spot name tags
      → Refines old.tables g (view (set_node old (fold (λ node (tag : Tag). confirm_count node tag.key tag.count) n tags)))
  confirm_all [] g n named st done = record { ghost = g; goes = rests; given = given_same g.ports; stands = st }
  confirm_all (tag ∷ tags) g n named st done =
      let one = confirm_one g (set_node old n) st name tag done.0 in
      let next : Node = confirm_count n tag.key tag.count in
      let same_name : next.name ≡ n.name = count_name n tag.key tag.count in
      let is : view (set_node (set_node old n) (confirm_count (node_at (set_node old n) name) tag.key tag.count)) ≡ view (set_node old next) =
      ap (λ (m : Node). view (set_node (set_node old n) (confirm_count m tag.key tag.count))) (node_behind old name n (Direct r d) row here named)
      ∙ ap view (set_twice old n next (sym same_name)) in
      let more = confirm_all tags (record g { chain = record g.chain { sender = one.sender } }) next (same_name ∙ named)
      (subst (Stands (record g { chain = record g.chain { sender = one.sender } })) is one.stands) done.1 in
      record { ghost = more.ghost; goes = goes_on one.goes more.goes; given = more.given; stands = more.stands }

-- each tag that is newly confirmed is that of an SDU which was kept, and is no more
tags_done : (t : Contents) (items : ℕ → Option Item) (spot : ℕ → Spot) (name : NodeName) (olds news : List (Option Kept))
    → ((k : ℕ) (kept : Kept) → slice_index_or olds k None ≡ Some kept → k < length news → slice_index_or news k None ≡ None → IsDone t items spot name kept.tag)
    → AllDone t items spot name (confirmed_tags olds news)
tags_done t items spot name [] news each = tt
tags_done t items spot name (o ∷ olds) [] each = tt
tags_done t items spot name (None ∷ olds) (n ∷ news) each = tags_done t items spot name olds news (λ k kept was lt is. each (suc k) kept was (omega (arith, lt)) is)
tags_done t items spot name (Some k ∷ olds) (None ∷ news) each = (
  each zero k refl (omega arith) refl,
  tags_done t items spot name olds news
      (λ k kept was lt is. each (suc k) kept was (omega (arith, lt)) is),
)
tags_done t items spot name (Some k ∷ olds) (Some n ∷ news) each = tags_done t items spot name olds news (λ k kept was lt is. each (suc k) kept was (omega (arith, lt)) is)

-- a list has something at each place below its length
pub has_at : {T : Type 0} (xs : List T) (k : ℕ) → k < length xs → (x : T) × (slice_get xs k ≡ Some x)
has_at [] k lt = absurd (omega (arith, lt))
has_at (x ∷ xs) zero lt = (x, refl)
has_at (x ∷ xs) (suc k) lt = has_at xs k (omega (arith, lt))

sends_way : (w : Way) → way_from (hearer_of w) ≡ flip w
sends_way Ul = refl
sends_way Dl = refl

sends_flip : (w : Way) → hearer_of w ≡ sender_of (flip w)
sends_flip Ul = refl
sends_flip Dl = refl

module _ (g : Ghost) (v : View) (st : Stands g v) (e : Entity) (number : ℕ) (bytes : List ℕ) (tx : Tx) (rx : Rx) (r : Remote) (d : Drb) (w : Way)
    (is_open : v.entity (hearer_of w) (Direct r d) ≡ Some e)
    (tags : List Tag) (marks : List ℕ) (h : HearsStatusMade (its g v st w (Direct r d) e is_open number bytes tx rx) w number bytes (told.Acked tags marks) tx rx) where
  abbrev name : NodeName
  name = owner (hearer_of w) (Direct r d)

  abbrev before : Hop
  before = hop_of (its g v st w (Direct r d) e is_open number bytes tx rx) (flip w)

  abbrev behind : Hop
  behind = hop_of h.behind (flip w)

  abbrev b : Box
  b = g.layout.box (Link (Direct r d) (flip w) e.epoch)

  abbrev was_open : (p : Port) × (g.ports (Direct r d) e.epoch ≡ Some p) × IsSide p (hearer_of w) e.tx e.rx
  was_open = own g v st (hearer_of w) (Direct r d) e is_open

  came : Reaches behind
  came = reaches_more before (DeliverStatus h.heard) behind (st.ports.reaches (Direct r d) e.epoch was_open.0 was_open.1 (flip w)) h.moves.moves.happens

  fits : HopFits g.spell behind b
  fits = same_fits g.spell before behind b (acknowledge_quiet before behind h.heard h.moves.moves.happens) (st.hops (Direct r d) e.epoch was_open.0 was_open.1 (flip w))

  tx_is : tx ≡ behind.tx
  tx_is = h.moves.here.its_tx ∙ ap (λ (z : Way). (hop_of h.behind z).tx) (sends_way w)

  abbrev direct : DirectFits r d (flip w) v.tables g.chain.items g.chain.spot b before.tx
  direct = st.directs (Direct r d) e.epoch was_open.0 was_open.1 (flip w)

  by_content : (n : ℕ) (i : Item) → g.chain.items n ≡ Some i → g.chain.spot n ≡ Arrived → i.goal ≡ ToDirect → (i.key.remote ≡ r) × (i.key.drb ≡ d) × (way_of i ≡ flip w)
      → (tag : Tag) (content : Content) → i.content ≡ content → IsTag v.tables i.key content tag → IsDone v.tables g.chain.items g.chain.spot name tag
  by_content n i is spot goal of tag (Report named) content its_tag = inl its_tag
  by_content n i is spot goal of tag (Data c x) content its_tag = inr (record {
    n = n;
    i = i;
    c = c;
    x = x;
    is = is;
    arrived = spot;
    goal = goal;
    content = content;
    key = its_tag.0;
    row = its_tag.1;
    its_row = its_tag.2;
    count = its_tag.3;
    home = ap (λ (q : Remote). owner (hearer_of w) (Direct q d)) (sym of.0) ∙ ap (λ (z : Drb). owner (hearer_of w) (Direct i.key.remote z)) (sym of.1)
        ∙ ap (λ (s : Side). owner s (Direct i.key.remote i.key.drb)) (sends_flip w ∙ ap sender_of (sym (ap (way_with i.key.way) (sym content) ∙ of.2)));
  })

  done_at : (k : ℕ) (kept : Kept) → tx_kept_at before.tx k ≡ Some kept → k < length tx.kept → tx_kept_at tx k ≡ None → IsDone v.tables g.chain.items g.chain.spot name kept.tag
  done_at k kept was lt gone =
      let given = gives_in_order behind came in
      let below : k < length behind.given = omega (arith, lt, given.0, ap (λ (x : Tx). length x.kept) tx_is) in
      let complete = confirms_complete behind came k below (ap (λ (x : Tx). tx_kept_at x k) (sym tx_is) ∙ gone) in
      let left : b.left k ≡ true = (fits.left k).1 complete.0 in
      let at = has_at b.log k (omega (arith, below, fits.long)) in
      let i = direct.goals k at.0 at.1 in
      by_content at.0 i.0 i.1 (direct.arrived k at.0 at.1 left) i.2 (i.3, i.4, i.5) kept.tag i.0.content refl (direct.tags k at.0 i.0 kept at.1 i.1 was)

  pub all_done : AllDone v.tables g.chain.items g.chain.spot name tags
  all_done = subst (AllDone v.tables g.chain.items g.chain.spot name) (sym h.hears.its_tags) (tags_done v.tables g.chain.items g.chain.spot name before.tx.kept tx.kept done_at)
