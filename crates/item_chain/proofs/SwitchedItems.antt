-- What the item step of an apply leaves: paths, senders, what is wanted, and spots.
use Rattle.std.proofs.Common.{◌≡◌, ℕ, ◌+◌, ◌&&◌, Bool, true, false, cond, Option, Some, None, refl, sym, ◌∙◌, ap}
use Rattle.std.proofs.lemmas.Bool.{cond-true, and_parts, true≢false}
use Rattle.link_base.specs.declared.names.Key.{Key}
use Rattle.link_base.specs.declared.names.Node.{Node as NodeKind}
use Rattle.link_base.specs.declared.names.Node.TheVariants as kinds
use Rattle.link_base.specs.declared.names.PortName.TheVariants.{Direct}
use Rattle.link_base.specs.declared.names.Remote.{Remote}
use Rattle.link_base.specs.declared.names.Way.{Way}
use Rattle.link_base.specs.declared.names.Way.TheVariants.{Ul, Dl}
use Rattle.rlc_model.specs.Sides.{sender_of, hearer_of}
use Rattle.node_model.specs.Names.{NodeName, AtRemote, AtRelay, AtGnb, is_remote, is_way, node_of, owner, source, sink}
use Rattle.node_model.proofs.Names.{remote_is, remote_refl}
use Rattle.item_law.specs.State.{Path, Plan, Sender, Chain, Item, Spot, put, applied_at, applied_in, has_applied, epoch_at, goal_at, goal_in}
use Rattle.item_law.specs.State.{sink as sink_kind}
use Rattle.item_law.specs.Steps.{mark, all_applied, begin_waits, drop_wanted, purged, after_apply, closed, applied_by}
use Rattle.item_law.proofs.base.Puts.{of_remote, put_same}
use Rattle.item_chain.proofs.Puts.{put_twice}

-- a path once a node applied its plan, which closes if it is the third
abbrev pub path_next : Bool → Path → Plan → NodeKind → Path
path_next true x p kind = record { epoch = x.epoch + 1; goal = p.asks; plan = None }
path_next false x p kind = record x { plan = Some (mark p kind) }

-- the senders, what is wanted and the spots then, before a plan closes
abbrev pub senders_next : NodeKind → Remote → (Key → Sender) → Key → Sender
senders_next kinds.Remote remote sender = begin_waits Ul remote sender
senders_next kinds.Relay remote sender = sender
senders_next kinds.Gnb remote sender = begin_waits Dl remote sender

abbrev pub wanted_next : NodeKind → Remote → (Key → Bool) → Key → Bool
wanted_next kinds.Remote remote wanted = drop_wanted Dl remote wanted
wanted_next kinds.Relay remote wanted = wanted
wanted_next kinds.Gnb remote wanted = drop_wanted Ul remote wanted

abbrev pub spots_next : NodeKind → Remote → (ℕ → Spot) → (ℕ → Option Item) → ℕ → Spot
spots_next kinds.Remote remote spot items = spot
spots_next kinds.Relay remote spot items = λ n. purged remote (spot n) (items n)
spots_next kinds.Gnb remote spot items = spot

-- where the plan closes, reports about all keys of the remote are wanted
abbrev pub wanted_closed : Bool → Remote → (Key → Bool) → Key → Bool
wanted_closed true remote wanted = λ k. cond (is_remote k.remote remote) true (wanted k)
wanted_closed false remote wanted = wanted

module _ (s : Chain) (remote : Remote) (p : Plan) where
  abbrev pub next_path : Bool → NodeKind → Remote → Path
  next_path all kind = put is_remote s.path remote (path_next all (s.path remote) p kind)

  abbrev pub next_chain : Bool → NodeKind → Chain
  next_chain all kind = record s {
    path = next_path all kind;
    sender = senders_next kind remote s.sender;
    wanted = wanted_closed all remote (wanted_next kind remote s.wanted);
    spot = spots_next kind remote s.spot s.items;
  }

  -- a path that is set twice
  path_twice : (q : Plan) → q.asks ≡ p.asks
      → put is_remote (put is_remote s.path remote (record (s.path remote) { plan = Some q })) remote
      (record { epoch = (put is_remote s.path remote (record (s.path remote) { plan = Some q }) remote).epoch + 1; goal = q.asks; plan = None })
      ≡ put is_remote s.path remote (record { epoch = (s.path remote).epoch + 1; goal = p.asks; plan = None })
  path_twice q same =
      let x : Path = record (s.path remote) { plan = Some q } in
      put_twice of_remote s.path remote x (record { epoch = (put is_remote s.path remote x remote).epoch + 1; goal = q.asks; plan = None })
      ∙ ap (λ (y : Path). put is_remote s.path remote (record { epoch = y.epoch + 1; goal = q.asks; plan = None })) (put_same of_remote s.path remote x)
      ∙ ap (λ (goal : _). put is_remote s.path remote (record { epoch = (s.path remote).epoch + 1; goal = goal; plan = None })) same

  pub next_is : (kind : NodeKind) (all : Bool) → all_applied (mark p kind) ≡ all → after_apply s remote p kind ≡ next_chain all kind
  next_is kind all is = ap (λ (b : Bool). cond b (closed (applied_by s remote p kind) remote (mark p kind)) (applied_by s remote p kind)) is ∙ by kind all
    where
      by : (kind : NodeKind) (all : Bool) → cond all (closed (applied_by s remote p kind) remote (mark p kind)) (applied_by s remote p kind) ≡ next_chain all kind
      by kinds.Remote false = refl
      by kinds.Relay false = refl
      by kinds.Gnb false = refl
      by kinds.Remote true = ap (λ (f : Remote → Path). record (next_chain true kinds.Remote) { path = f }) (path_twice (mark p kinds.Remote) refl)
      by kinds.Relay true = ap (λ (f : Remote → Path). record (next_chain true kinds.Relay) { path = f }) (path_twice (mark p kinds.Relay) refl)
      by kinds.Gnb true = ap (λ (f : Remote → Path). record (next_chain true kinds.Gnb) { path = f }) (path_twice (mark p kinds.Gnb) refl)

-- what the path says at the node, and at others
module _ (x : Path) (p : Plan) (its : x.plan ≡ Some p) (kind : NodeKind) where
  pub epoch_here : (all : Bool) → epoch_at (path_next all x p kind) kind ≡ x.epoch + 1
  epoch_here true = refl
  epoch_here false = by kind
    where
      by : (kind : NodeKind) → epoch_at (record x { plan = Some (mark p kind) }) kind ≡ x.epoch + 1
      by kinds.Remote = refl
      by kinds.Relay = refl
      by kinds.Gnb = refl

  pub goal_here : (all : Bool) → goal_at (path_next all x p kind) kind ≡ p.asks
  goal_here true = refl
  goal_here false = by kind
    where
      by : (kind : NodeKind) → goal_at (record x { plan = Some (mark p kind) }) kind ≡ p.asks
      by kinds.Remote = refl
      by kinds.Relay = refl
      by kinds.Gnb = refl

  marked_there : (other : NodeKind) → (other ≡ kind → ⊥) → applied_at (mark p kind) other ≡ applied_at p other
  marked_there other ne = by kind other ne
    where
      by : (kind other : NodeKind) → (other ≡ kind → ⊥) → applied_at (mark p kind) other ≡ applied_at p other
      by kinds.Remote kinds.Remote ne = absurd (ne refl)
      by kinds.Relay kinds.Relay ne = absurd (ne refl)
      by kinds.Gnb kinds.Gnb ne = absurd (ne refl)
      by kinds.Remote kinds.Relay ne = refl
      by kinds.Remote kinds.Gnb ne = refl
      by kinds.Relay kinds.Remote ne = refl
      by kinds.Relay kinds.Gnb ne = refl
      by kinds.Gnb kinds.Remote ne = refl
      by kinds.Gnb kinds.Relay ne = refl

  all_at : (q : Plan) → all_applied q ≡ true → (other : NodeKind) → applied_at q other ≡ true
  all_at q all kinds.Remote = (and_parts _ _ all).0
  all_at q all kinds.Relay = (and_parts q.at_relay q.at_gnb (and_parts _ _ all).1).0
  all_at q all kinds.Gnb = (and_parts q.at_relay q.at_gnb (and_parts _ _ all).1).1

  module _ (other : NodeKind) (ne : other ≡ kind → ⊥) where
    pub epoch_there : (all : Bool) → all_applied (mark p kind) ≡ all → epoch_at (path_next all x p kind) other ≡ epoch_at x other
    epoch_there true all = sym (ap (λ (o : Option Plan). cond (applied_in o other) (x.epoch + 1) x.epoch) its
        ∙ cond-true (applied_at p other) (x.epoch + 1) x.epoch (sym (marked_there other ne) ∙ all_at (mark p kind) all other))
    epoch_there false all = ap (λ (b : Bool). cond b (x.epoch + 1) x.epoch) (marked_there other ne) ∙ sym (ap
        (λ (o : Option Plan). cond (applied_in o other) (x.epoch + 1) x.epoch) its)

    pub goal_there : (all : Bool) → all_applied (mark p kind) ≡ all → goal_at (path_next all x p kind) other ≡ goal_at x other
    goal_there true all = sym (ap (λ (o : Option Plan). goal_in x.goal o other) its
        ∙ cond-true (applied_at p other) p.asks x.goal (sym (marked_there other ne) ∙ all_at (mark p kind) all other))
    goal_there false all = same_asks kind ∙ ap (λ (b : Bool). cond b p.asks x.goal) (marked_there other ne)
        ∙ sym (ap (λ (o : Option Plan). goal_in x.goal o other) its)
      where
        same_asks : (kind : NodeKind) → cond (applied_at (mark p kind) other) (mark p kind).asks x.goal ≡ cond (applied_at (mark p kind) other) p.asks x.goal
        same_asks kinds.Remote = refl
        same_asks kinds.Relay = refl
        same_asks kinds.Gnb = refl

    -- a node that had not applied it still hasn't, or it is closed
    pub applied_there : (all : Bool) → has_applied x other ≡ false → has_applied (path_next all x p kind) other ≡ false
    applied_there true none = refl
    applied_there false none = marked_there other ne ∙ sym (ap (λ (o : Option Plan). applied_in o other) its) ∙ none

-- the ends of keys at the node, and elsewhere
pub same_remote : (a b : Remote) → is_remote a b ≡ is_remote b a
same_remote a b = by (is_remote a b) (is_remote b a) refl refl
  where
    by : (p q : Bool) → is_remote a b ≡ p → is_remote b a ≡ q → is_remote a b ≡ is_remote b a
    by true q is other = is ∙ sym (ap (is_remote b) (remote_is a b is) ∙ remote_refl b)
    by false true is other = absurd (true≢false (sym (ap (is_remote a) (remote_is b a other) ∙ remote_refl a) ∙ is))
    by false false is other = is ∙ sym other

module _ {X : Type 0} (remote : Remote) (key : Key) (x y : X) where
  abbrev turned_by : Way → X
  turned_by w = cond (is_remote key.remote remote && is_way key.way w) x y

  turns : (w : Way) → is_way key.way w ≡ true → turned_by w ≡ cond (is_remote remote key.remote) x y
  turns w way = ap (λ (b : Bool). cond (is_remote key.remote remote && b) x y) way ∙ and_true (is_remote key.remote remote)
      ∙ ap (λ (b : Bool). cond b x y) (same_remote key.remote remote)
    where
      and_true : (b : Bool) → cond (b && true) x y ≡ cond b x y
      and_true true = refl
      and_true false = refl

  other_way : (w : Way) → is_way key.way w ≡ false → turned_by w ≡ y
  other_way w way = ap (λ (b : Bool). cond (is_remote key.remote remote && b) x y) way ∙ and_false (is_remote key.remote remote)
    where
      and_false : (b : Bool) → cond (b && false) x y ≡ y
      and_false true = refl
      and_false false = refl

  other_remote : (w : Way) → (AtRemote key.remote ≡ AtRemote remote → ⊥) → turned_by w ≡ y
  other_remote w ne = by (is_remote key.remote remote) refl
    where
      by : (b : Bool) → is_remote key.remote remote ≡ b → turned_by w ≡ y
      by true is = absurd (ne (ap AtRemote (remote_is key.remote remote is)))
      by false is = ap (λ (b : Bool). cond (b && is_way key.way w) x y) is

remote_relay : (r : Remote) → AtRemote r ≡ AtRelay → ⊥
remote_relay r e = cc

remote_gnb : (r : Remote) → AtRemote r ≡ AtGnb → ⊥
remote_gnb r e = cc

gnb_relay : AtGnb ≡ AtRelay → ⊥
gnb_relay e = cc

-- the sending end of a key at the node that applies, or elsewhere
module _ (remote : Remote) (sender : Key → Sender) (key : Key) where
  abbrev waits : Sender
  waits = record (sender key) { waits = true }

  abbrev start_of : Way → NodeName
  start_of w = owner (sender_of w) (Direct key.remote key.drb)

  pub sender_here : (kind : NodeKind) → source key ≡ node_of kind remote → senders_next kind remote sender key ≡ cond (is_remote remote key.remote) waits (sender key)
  sender_here kind = by key.way refl kind
    where
      by : (w : Way) → key.way ≡ w → (kind : NodeKind) → start_of w ≡ node_of kind remote → senders_next kind remote sender key ≡ cond (is_remote remote key.remote) waits
          (sender key)
      by Ul way kinds.Remote e = turns remote key waits (sender key) Ul (ap (λ (w : Way). is_way w Ul) way)
      by Dl way kinds.Gnb e = turns remote key waits (sender key) Dl (ap (λ (w : Way). is_way w Dl) way)
      by Ul way kinds.Relay e = absurd (remote_relay key.remote e)
      by Ul way kinds.Gnb e = absurd (remote_gnb key.remote e)
      by Dl way kinds.Remote e = absurd (remote_gnb remote (sym e))
      by Dl way kinds.Relay e = absurd (gnb_relay e)

  pub sender_there : (kind : NodeKind) → (source key ≡ node_of kind remote → ⊥) → senders_next kind remote sender key ≡ sender key
  sender_there kind = by key.way refl kind
    where
      by : (w : Way) → key.way ≡ w → (kind : NodeKind) → (start_of w ≡ node_of kind remote → ⊥) → senders_next kind remote sender key ≡ sender key
      by Ul way kinds.Remote ne = other_remote remote key waits (sender key) Ul ne
      by Dl way kinds.Remote ne = other_way remote key waits (sender key) Ul (ap (λ (w : Way). is_way w Ul) way)
      by w way kinds.Relay ne = refl
      by Ul way kinds.Gnb ne = other_way remote key waits (sender key) Dl (ap (λ (w : Way). is_way w Dl) way)
      by Dl way kinds.Gnb ne = absurd (ne refl)

-- its receiving end
module _ (remote : Remote) (wanted : Key → Bool) (key : Key) where
  abbrev end_of : Way → NodeName
  end_of w = owner (hearer_of w) (Direct key.remote key.drb)

  pub wanted_here : (kind : NodeKind) → sink key ≡ node_of kind remote → wanted_next kind remote wanted key ≡ cond (is_remote remote key.remote) false (wanted key)
  wanted_here kind = by key.way refl kind
    where
      by : (w : Way) → key.way ≡ w → (kind : NodeKind) → end_of w ≡ node_of kind remote → wanted_next kind remote wanted key ≡ cond (is_remote remote key.remote) false (wanted key)
      by Dl way kinds.Remote e = turns remote key false (wanted key) Dl (ap (λ (w : Way). is_way w Dl) way)
      by Ul way kinds.Gnb e = turns remote key false (wanted key) Ul (ap (λ (w : Way). is_way w Ul) way)
      by Dl way kinds.Relay e = absurd (remote_relay key.remote e)
      by Dl way kinds.Gnb e = absurd (remote_gnb key.remote e)
      by Ul way kinds.Remote e = absurd (remote_gnb remote (sym e))
      by Ul way kinds.Relay e = absurd (gnb_relay e)

  pub wanted_there : (kind : NodeKind) → (sink key ≡ node_of kind remote → ⊥) → wanted_next kind remote wanted key ≡ wanted key
  wanted_there kind = by key.way refl kind
    where
      by : (w : Way) → key.way ≡ w → (kind : NodeKind) → (end_of w ≡ node_of kind remote → ⊥) → wanted_next kind remote wanted key ≡ wanted key
      by Dl way kinds.Remote ne = other_remote remote key false (wanted key) Dl ne
      by Ul way kinds.Remote ne = other_way remote key false (wanted key) Dl (ap (λ (w : Way). is_way w Dl) way)
      by w way kinds.Relay ne = refl
      by Dl way kinds.Gnb ne = other_way remote key false (wanted key) Ul (ap (λ (w : Way). is_way w Ul) way)
      by Ul way kinds.Gnb ne = absurd (ne refl)

  -- the kind of the node that hears a key
  pub hears_at : node_of (sink_kind key.way) key.remote ≡ sink key
  hears_at = by key.way
    where
      by : (w : Way) → node_of (sink_kind w) key.remote ≡ end_of w
      by Ul = refl
      by Dl = refl
