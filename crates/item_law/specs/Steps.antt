-- What may happen next in the chain, where no octets are injected and no channel fails.
use Rattle.std.specs.Prelude.{◌≡◌, ℕ, ◌+◌, ◌<◌, ◌≤◌, ◌&&◌, ◌||◌, Bool, true, false, cond, [], ◌∷◌, ◌++◌, length, get_or, Option, Some, None}
use Rattle.std.specs.Option.{unwrap_or}
use Rattle.item_law.specs.State.{Remote, Drb, LocalId, Key, Way, Ul, Dl, Node, AtRemote, AtRelay, AtGnb, Goal, ToDirect, ToRelay, is_remote, is_way, is_key, key_of, Tables, Sdu, Content, Data, Report, Item, Spot, OnFirstHop, InSlot, InQueue, OnSecondHop, Arrived, Lost, Plan, Sender, Chain, is_number, put, source, sink, way_with, way_of, applied_at, has_applied, epoch_at, goal_at, is_over_relay, Reserves, HasRow, SameUu, is_heard, is_off_pc5}

---- an end gives

-- the item with this content that the end of a key gives now: towards its own goal, and in its own epoch
abbrev pub item_given : Chain → Key → Content → Item
item_given s k x = record { key = k; content = x; goal = goal_at (s.path k.remote) (source (way_with k.way x)); epoch = epoch_at (s.path k.remote) (source (way_with k.way x)) }

-- the SDU of the sender's place under its COUNT
abbrev pub next_content : Chain → Key → Content
next_content s k = Data (s.sender k).place (get_or (s.sender k).submitted (s.sender k).place [])

-- the sender of a key gives its next SDU as item n, and its place goes on
abbrev pub gives_data : Chain → ℕ → Key → Chain
gives_data s n k = record s {
  items = put is_number s.items n (Some (item_given s k (next_content s k)));
  spot = put is_number s.spot n OnFirstHop;
  sender = put is_key s.sender k (record (s.sender k) { place = (s.sender k).place + 1 });
}

-- the receiving end of a key gives a status report of all that it heard as item n (TS 38.323 clause 5.4.1)
abbrev pub gives_report : Chain → ℕ → Key → Chain
gives_report s n k = record s {
  items = put is_number s.items n (Some (item_given s k (Report (is_heard s k))));
  spot = put is_number s.spot n OnFirstHop;
  wanted = put is_key s.wanted k false;
}

---- an item arrives at an end

-- the place is the first COUNT that is neither confirmed nor named, or behind all SDUs submitted
pub record IsFirstUnconfirmed (a : Sender) (named : ℕ → Bool) (p : ℕ) : Type 0 where
  pub within : p ≤ length a.submitted
  pub below : (c : ℕ) → c < p → (a.confirmed c || named c) ≡ true
  pub stops : p < length a.submitted → (a.confirmed p || named p) ≡ false

-- a status report confirms the COUNTs that it names and ends a wait; then the sender goes on from the first unconfirmed COUNT (TS 38.323 clauses 5.1.2 and
-- 5.4.1)
abbrev pub hears_report : Sender → (ℕ → Bool) → ℕ → Sender
hears_report a named p = record a { confirmed = λ c. a.confirmed c || named c; waits = false; place = cond a.waits p a.place }

-- a receiving end keeps the first SDU that it hears under a COUNT
abbrev pub hears_data : (ℕ → Option Sdu) → ℕ → Sdu → ℕ → Option Sdu
hears_data heard c x = put is_number heard c (Some (unwrap_or (heard c) x))

-- item n arrives with its content for a key
abbrev pub Arrives : Chain → ℕ → Key → Content → Chain → Type 0
Arrives s n k (Data c x) new = new ≡ record s { heard = put is_key s.heard k (hears_data (s.heard k) c x); spot = put is_number s.spot n Arrived }
Arrives s n k (Report f) new = (p : ℕ) × IsFirstUnconfirmed (s.sender k) f p
    × (new ≡ record s { sender = put is_key s.sender k (hears_report (s.sender k) f p); spot = put is_number s.spot n Arrived })

---- which receivers are open, and where they lead

-- the receiver of a direct port is open in the item's epoch
abbrev pub IsOpenDirect : Chain → Item → Type 0
IsOpenDirect s i = (epoch_at (s.path i.key.remote) (sink (way_of i)) ≡ i.epoch) × (goal_at (s.path i.key.remote) (sink (way_of i)) ≡ ToDirect)

-- the relay's receiver of the item's first hop is: a PC5 port in the item's epoch, a Uu port always
abbrev pub IsOpenAtRelay : Chain → Item → Way → Type 0
IsOpenAtRelay s i Ul = (epoch_at (s.path i.key.remote) AtRelay ≡ i.epoch) × (is_over_relay (goal_at (s.path i.key.remote) AtRelay) ≡ true)
IsOpenAtRelay s i Dl = Unit {0}

-- the relay routes the item for a remote: uplink by the link on which it came and the identity that it attaches there, downlink by the identity, and in
-- both ways the bearer has a row (TS 38.351 clauses 5.2 and 5.3)
abbrev pub RelayRoutes : Tables → Chain → Item → Way → Remote → Type 0
RelayRoutes t s i Ul q = (q ≡ i.key.remote) × (goal_at (s.path q) AtRelay ≡ i.goal) × HasRow t q i.key.drb
RelayRoutes t s i Dl q = (goal_at (s.path q) AtRelay ≡ i.goal) × SameUu t i.key.remote q i.key.drb

-- the receiver of the item's second hop is open: a Uu port always, a PC5 port in the epoch of the hop
abbrev pub IsOpenAtEnd : Chain → Way → Remote → ℕ → Type 0
IsOpenAtEnd s Ul to e = Unit {0}
IsOpenAtEnd s Dl to e = (epoch_at (s.path to) AtRemote ≡ e) × (is_over_relay (goal_at (s.path to) AtRemote) ≡ true)

-- the end takes the item for a remote: the gNB by the identity and the channel on which it came, a remote by its own identity (TS 38.351 clauses 5.2 and 5.3)
abbrev pub EndRoutes : Tables → Chain → Item → Way → Remote → Remote → Type 0
EndRoutes t s i Ul to q = (goal_at (s.path q) AtGnb ≡ i.goal) × SameUu t to q i.key.drb
EndRoutes t s i Dl to q = (q ≡ to) × (goal_at (s.path q) AtRemote ≡ i.goal) × HasRow t q i.key.drb

-- the key of another remote with the item's bearer and way
abbrev pub key_for : Remote → Item → Key
key_for q i = key_of q i.key.drb i.key.way

---- plans

-- a plan is accepted: each bearer of the remote has a row, and the identity is free, that is, it is no remote's, and nothing bears it on a Uu hop, in a
-- slot or in a queue
abbrev pub MayPlan : Tables → Chain → Remote → Goal → Type 0
MayPlan t s r ToDirect = Unit {0}
MayPlan t s r (ToRelay u) = ((d : Drb) → t.bearer r d ≡ true → HasRow t r d) × ((q : Remote) → Reserves (s.path q) u → ⊥)
    × ((n : ℕ) (i : Item) → s.items n ≡ Some i → i.goal ≡ ToRelay u → is_off_pc5 (s.spot n) (way_of i) ≡ false)

-- a plan that no node has applied
abbrev pub new_plan : Goal → Plan
new_plan goal = record { asks = goal; at_remote = false; at_relay = false; at_gnb = false }

-- a plan of a remote opens
abbrev pub planned : Chain → Remote → Goal → Chain
planned s r goal = record s { path = put is_remote s.path r (record (s.path r) { plan = Some (new_plan goal) }) }

-- a plan that one more node has applied
abbrev pub mark : Plan → Node → Plan
mark p AtRemote = record p { at_remote = true }
mark p AtRelay = record p { at_relay = true }
mark p AtGnb = record p { at_gnb = true }

-- whether all three nodes have applied a plan
abbrev pub all_applied : Plan → Bool
all_applied p = p.at_remote && (p.at_relay && p.at_gnb)

-- a remote's senders of one way begin to wait for a status report (TS 38.323 clause 5.1.2)
abbrev pub begin_waits : Way → Remote → (Key → Sender) → Key → Sender
begin_waits w r sender k = cond (is_remote k.remote r && is_way k.way w) (record (sender k) { waits = true }) (sender k)

-- a remote's receiving ends of one way want no status report
abbrev pub drop_wanted : Way → Remote → (Key → Bool) → Key → Bool
drop_wanted w r wanted k = cond (is_remote k.remote r && is_way k.way w) false (wanted k)

-- what the relay's purge for a remote leaves of an item: it discards the slots with a route to the remote, and the queues of the remote's PC5 ports
abbrev pub purged : Remote → Spot → Option Item → Spot
purged r OnFirstHop o = OnFirstHop
purged r (InSlot q) o = cond (is_remote q r) Lost (InSlot q)
purged r (InQueue q) None = InQueue q
purged r (InQueue q) (Some i) = cond (is_remote q r && is_way (way_of i) Dl) Lost (InQueue q)
purged r (OnSecondHop q e) o = OnSecondHop q e
purged r Arrived o = Arrived
purged r Lost o = Lost

-- the chain with another open plan of a remote
abbrev pub with_plan : Chain → Remote → Plan → Chain
with_plan s r m = record s { path = put is_remote s.path r (record (s.path r) { plan = Some m }) }

-- a node applies the open plan of a remote: at an end the senders begin to wait and no status report is wanted, at the relay there is the purge
abbrev pub applied_by : Chain → Remote → Plan → Node → Chain
applied_by s r p AtRemote = record (with_plan s r (mark p AtRemote)) { sender = begin_waits Ul r s.sender; wanted = drop_wanted Dl r s.wanted }
applied_by s r p AtRelay = record (with_plan s r (mark p AtRelay)) { spot = λ n. purged r (s.spot n) (s.items n) }
applied_by s r p AtGnb = record (with_plan s r (mark p AtGnb)) { sender = begin_waits Dl r s.sender; wanted = drop_wanted Ul r s.wanted }

-- the third node has applied: the plan closes, and status reports are wanted at all receiving ends of the remote
abbrev pub closed : Chain → Remote → Plan → Chain
closed s r m = record s {
  path = put is_remote s.path r (record { epoch = (s.path r).epoch + 1; goal = m.asks; plan = None });
  wanted = λ k. cond (is_remote k.remote r) true (s.wanted k);
}

-- what a node's apply leaves, with the close where it is the third
abbrev pub after_apply : Chain → Remote → Plan → Node → Chain
after_apply s r p nd = cond (all_applied (mark p nd)) (closed (applied_by s r p nd) r (mark p nd)) (applied_by s r p nd)

---- steps

-- one step. submit: an SDU is accepted while fewer than the limit are unconfirmed. skip: the sender's place passes a confirmed COUNT. give_data,
-- give_report: an end gives an item to the transmitter of the first hop; a waiting sender gives no data, and an end that has applied the open plan no
-- report. want_report: a report is asked for. complete_direct, complete_relay, complete_end: a receiver that is open completes an item, and it goes where
-- it is routed; discard_relay, discard_end: it has no route. confirm_direct: RLC of a direct port confirms an SDU that arrived. push, pull: the relay
-- moves an SDU from a slot into a queue, and from there to the transmitter of the second hop. plan, apply: a path switch
pub data Step (t : Tables) (old : Chain) (new : Chain) : Type 0 where
  submit : (k : Key) (sdu : Sdu) (n : ℕ) → ((c : ℕ) → c < n → (old.sender k).confirmed c ≡ true) → length (old.sender k).submitted < n + t.limit k.remote k.drb
      → new ≡ record old { sender = put is_key old.sender k (record (old.sender k) { submitted = (old.sender k).submitted ++ sdu ∷ [] }) } → Step t old new
  skip : (k : Key) → (old.sender k).place < length (old.sender k).submitted → (old.sender k).confirmed (old.sender k).place ≡ true
      → new ≡ record old { sender = put is_key old.sender k (record (old.sender k) { place = (old.sender k).place + 1 }) } → Step t old new
  give_data : (n : ℕ) (k : Key) → old.items n ≡ None → t.bearer k.remote k.drb ≡ true → (old.sender k).waits ≡ false
      → (old.sender k).place < length (old.sender k).submitted → (old.sender k).confirmed (old.sender k).place ≡ false → new ≡ gives_data old n k → Step t old new
  want_report : (k : Key) → new ≡ record old { wanted = put is_key old.wanted k true } → Step t old new
  give_report : (n : ℕ) (k : Key) → old.items n ≡ None → t.bearer k.remote k.drb ≡ true → old.wanted k ≡ true
      → has_applied (old.path k.remote) (sink k.way) ≡ false → new ≡ gives_report old n k → Step t old new
  complete_direct : (n : ℕ) (i : Item) → old.items n ≡ Some i → old.spot n ≡ OnFirstHop → i.goal ≡ ToDirect → IsOpenDirect old i → Arrives old n i.key i.content new
      → Step t old new
  confirm_direct : (n : ℕ) (i : Item) (c : ℕ) (x : Sdu) → old.items n ≡ Some i → old.spot n ≡ Arrived → i.goal ≡ ToDirect → i.content ≡ Data c x
      → new ≡ record old { sender = put is_key old.sender i.key (record (old.sender i.key) { confirmed = put is_number (old.sender i.key).confirmed c true }) } → Step t old new
  complete_relay : (n : ℕ) (i : Item) (u : LocalId) (q : Remote) → old.items n ≡ Some i → old.spot n ≡ OnFirstHop → i.goal ≡ ToRelay u → IsOpenAtRelay old i (way_of i)
      → RelayRoutes t old i (way_of i) q → new ≡ record old { spot = put is_number old.spot n (InSlot q) } → Step t old new
  discard_relay : (n : ℕ) (i : Item) (u : LocalId) → old.items n ≡ Some i → old.spot n ≡ OnFirstHop → i.goal ≡ ToRelay u → IsOpenAtRelay old i (way_of i)
      → ((q : Remote) → RelayRoutes t old i (way_of i) q → ⊥) → new ≡ record old { spot = put is_number old.spot n Lost } → Step t old new
  push : (n : ℕ) (q : Remote) → old.spot n ≡ InSlot q → new ≡ record old { spot = put is_number old.spot n (InQueue q) } → Step t old new
  pull : (n : ℕ) (q : Remote) → old.spot n ≡ InQueue q → new ≡ record old { spot = put is_number old.spot n (OnSecondHop q (epoch_at (old.path q) AtRelay)) } → Step t old new
  complete_end : (n : ℕ) (i : Item) (to : Remote) (e : ℕ) (q : Remote) → old.items n ≡ Some i → old.spot n ≡ OnSecondHop to e → IsOpenAtEnd old (way_of i) to e
      → EndRoutes t old i (way_of i) to q → Arrives old n (key_for q i) i.content new → Step t old new
  discard_end : (n : ℕ) (i : Item) (to : Remote) (e : ℕ) → old.items n ≡ Some i → old.spot n ≡ OnSecondHop to e → IsOpenAtEnd old (way_of i) to e
      → ((q : Remote) → EndRoutes t old i (way_of i) to q → ⊥) → new ≡ record old { spot = put is_number old.spot n Lost } → Step t old new
  plan : (r : Remote) (goal : Goal) → (old.path r).plan ≡ None → MayPlan t old r goal → new ≡ planned old r goal → Step t old new
  apply : (r : Remote) (p : Plan) (nd : Node) → (old.path r).plan ≡ Some p → applied_at p nd ≡ false → new ≡ after_apply old r p nd → Step t old new
