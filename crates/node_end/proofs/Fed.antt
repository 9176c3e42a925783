-- Of which bearers an end has nothing to give, from step to step.
use Rattle.std.proofs.Common.{◌≡◌, ◌⊎◌, inl, inr, ℕ, zero, suc, ◌+◌, ◌≤◌, Bool, true, false, cond, List, [], ◌∷◌, length, drop, Option, Some, None, is_some, refl, sym, ◌∙◌, ap, subst, arith}
use Rattle.std.specs.Prelude.{◌&&◌, ◌==◌, not, nat_lt, nat_le, if◌then◌else◌, find, unwrap_or}
use Rattle.std.specs.List.{prefix_len}
use Rattle.std.specs.Option.{is_none}
use Rattle.std.proofs.lemmas.Bool.{cases_Bool, false≢true}
use Rattle.std.proofs.lemmas.Bool.Decides.{nat_tests}
use Rattle.link_base.specs.declared.names.Key.{Key}
use Rattle.link_base.specs.declared.names.PortName.{PortName}
use Rattle.link_base.specs.declared.names.Timer.{Timer}
use Rattle.link_base.specs.declared.rlc_words.Expired.{Expired}
use Rattle.link_base.specs.declared.rlc_words.Tag.{Tag}
use Rattle.bearer_map.specs.declared.ids.Attachment.{Attachment}
use Rattle.bearer_map.specs.Contents.{Contents}
use Rattle.rlc_model.specs.Sides.{Entity}
use Rattle.pdcp_model.specs.Sender.{Sender, has_next, still_kept, confirms}
use Rattle.pdcp_model.specs.Receiver.{can_report}
use Rattle.node_model.specs.declared.answers.NodeHeard.{NodeHeard}
use Rattle.node_model.specs.declared.answers.PortGrant.{PortGrant}
use Rattle.node_model.specs.declared.answers.PortGrant.TheVariants.{NoPort, Hop}
use Rattle.node_model.specs.Names.{back, is_key, replaced}
use Rattle.node_model.specs.Places.{SetsByName, outgoing_key, incoming_key}
use Rattle.node_model.specs.State.{PortSide, Node, Outgoing, Incoming, entity_at, side_at, id_in, outgoing, incoming, set_entity, set_outgoing, set_incoming, no_outgoing, no_incoming}
use Rattle.node_model.specs.Sides.{GrantsPort, ExpiresPort}
use Rattle.node_model.specs.Tables.{settings}
use Rattle.node_model.specs.Ends.{HearsPdcp, confirm_count}
use Rattle.node_model.specs.Ends.HearsPdcp.{data_pdu, report, neither}
use Rattle.node_model.specs.Feeding.{GivesPdu, GivesData, FeedsReport, FeedsData, wants_report, has_room, room_of, in_key, out_key}
use Rattle.node_model.specs.Feeding.FeedsReport.{unwanted, dropped, no_room, gives as given_one}
use Rattle.node_model.specs.Feeding.FeedsData.{rests, gives}
use Rattle.node_model.proofs.Names.{cases_key, cases_port, key_apart}
use Rattle.node_model.proofs.ByName.{outgoing_set, incoming_set}
use Rattle.node_ports.specs.Calls.{GivesPort}
use Rattle.node_bearers.specs.Calls.{confirm_each}
use Rattle.node_end.specs.Feeding.{GivesSome}
use Rattle.node_end.specs.Feeding.GivesSome.{none, more}
use Rattle.node_end.specs.declared.to_feed.ToFeed.{ToFeed}
use Rattle.node_end.specs.Fed.{HasNoData, HasNoReport, IsKeyFed, OthersAreFed}
use Rattle.node_end.specs.Ports.{is_over, side_name}
use Rattle.node_end.proofs.Names.{found_name}
use Rattle.node_model.proofs.Names.{port_is}
use Rattle.node_model.specs.Names.{is_port}
use Rattle.node_end.proofs.Over.{back_over, hop_over, less_room, room_elsewhere}
use Rattle.node_end.proofs.Rooms.{given_room}

pub and_false : (b : Bool) → (b && false) ≡ false
and_false true = refl
and_false false = refl

pub its_name : (n : Node) (port : PortName) (s : PortSide) → side_at n port ≡ Some s → port ≡ side_name s
its_name n port s is = found_name side_name is_port port_is port n.ports s is

-- ends of keys, found by key: what is found once one is set
module _ {Row : Type 0} (key_in : Row → Key) (sets : SetsByName is_key key_in) (missing : Key → Row) where
  abbrev row : List Row → Key → Row
  row rows key = unwrap_or (find (λ x. is_key key (key_in x)) rows) (missing key)

  row_named : ((key : Key) → key_in (missing key) ≡ key) → (rows : List Row) (key : Key) → key_in (row rows key) ≡ key
  row_named named rows key = by (find (λ x. is_key key (key_in x)) rows) refl
    where
      by : (found : Option Row) → find (λ x. is_key key (key_in x)) rows ≡ found → key_in (unwrap_or found (missing key)) ≡ key
      by None is = named key
      by (Some x) is = sets.named rows key x is

  module _ (rows : List Row) (new : Row) (key : Key) (named : key_in new ≡ key) where
    abbrev after : List Row
    after = replaced (λ x. is_key (key_in new) (key_in x)) new rows

    row_at : ((row after key) ≡ new) ⊎ ((row after key ≡ row rows key) × (row rows key ≡ missing key))
    row_at = by (find (λ x. is_key key (key_in x)) rows) refl
      where
        by : (found : Option Row) → find (λ x. is_key key (key_in x)) rows ≡ found → ((row after key) ≡ new) ⊎ ((row after key ≡ row rows key) × (row rows key ≡ missing key))
        by None is = inr (
          ap (λ xs. row xs key) (sets.none rows new (subst (λ (k : Key). find (λ x. is_key k (key_in x)) rows ≡ None) (sym named) is)),
          ap (λ x. unwrap_or x (missing key)) is,
        )
        by (Some x) is = inl (ap (λ y. unwrap_or y (missing key)) (subst (λ (k : Key). find (λ y. is_key k (key_in y)) after ≡ Some new) named
            (sets.own rows new x (subst (λ (k : Key). find (λ y. is_key k (key_in y)) rows ≡ Some x) (sym named) is))))

    row_set : (k : Key) → ((key ≡ k) × (row after k ≡ new)) ⊎ ((row after k ≡ row rows k) × (key ≡ k → row rows k ≡ missing k))
    row_set k = elim (cases_key key k) [
      | inl same ↦ subst (λ (j : Key). ((key ≡ j) × (row after j ≡ new)) ⊎ ((row after j ≡ row rows j) × (key ≡ j → row rows j ≡ missing j))) same (here row_at)
      | inr other ↦ inr (ap (λ x. unwrap_or x (missing k)) (sets.others rows new k (λ is. other (sym named ∙ is))), λ is. absurd (other is))
    ]
      where
        here : ((row after key) ≡ new) ⊎ ((row after key ≡ row rows key) × (row rows key ≡ missing key)) → ((key ≡ key) × (row after key ≡ new)) ⊎ ((row after key ≡ row rows key) × (key ≡ key → row rows key ≡ missing key))
        here (inl is) = inl (refl, is)
        here (inr is) = inr (is.0, λ same. is.1)

pub out_named : (n : Node) (key : Key) → out_key (outgoing n key) ≡ key
out_named n key = row_named outgoing_key outgoing_set no_outgoing (λ k. refl) n.outgoing key

pub in_named : (n : Node) (key : Key) → in_key (incoming n key) ≡ key
in_named n key = row_named incoming_key incoming_set no_incoming (λ k. refl) n.incoming key

same_le : (a b : ℕ) → a ≡ b → a ≤ b
same_le a b same = omega (arith, same)

-- a row that is set by its key where that changes nothing changes nothing still where another is set
module _ (i j : Incoming) (apart : i.key ≡ j.key → ⊥) where
  step_still : (b c : Bool) (x : Incoming) → b ≡ is_key j.key x.key → c ≡ is_key i.key x.key → cond c i x ≡ x → cond (is_key i.key (cond b j x).key) i (cond b j x) ≡ cond b j x
  step_still true c x here there same = ap (λ (d : Bool). cond d i j) (key_apart i.key j.key apart)
  step_still false c x here there same = ap (λ (d : Bool). cond d i x) (sym there) ∙ same

  heads : (x y : Incoming) (xs ys : List Incoming) → x ∷ xs ≡ y ∷ ys → x ≡ y
  heads x y xs ys same = cc

  tails : (x y : Incoming) (xs ys : List Incoming) → x ∷ xs ≡ y ∷ ys → xs ≡ ys
  tails x y xs ys same = cc

  settled_still : (rows : List Incoming) → replaced (λ x. is_key i.key x.key) i rows ≡ rows
      → replaced (λ x. is_key i.key x.key) i (replaced (λ x. is_key j.key x.key) j rows) ≡ replaced (λ x. is_key j.key x.key) j rows
  settled_still [] same = refl
  settled_still (x ∷ rows) same =
      ap (λ (y : Incoming). y ∷ replaced (λ x. is_key i.key x.key) i (replaced (λ x. is_key j.key x.key) j rows)) (step_still (is_key j.key x.key) (is_key i.key x.key) x refl refl (heads _ x _ rows same))
      ∙ ap (λ (ys : List Incoming). cond (is_key j.key x.key) j x ∷ ys) (settled_still rows (tails _ x _ rows same))

-- and to set it twice is to set it once
both_same : (i : Incoming) (b : Bool) → cond b i i ≡ i
both_same i true = refl
both_same i false = refl

one_twice : (i x : Incoming) (b : Bool) → b ≡ is_key i.key x.key → cond (is_key i.key (cond b i x).key) i (cond b i x) ≡ cond b i x
one_twice i x true is = both_same i (is_key i.key i.key)
one_twice i x false is = ap (λ (d : Bool). cond d i x) (sym is)

set_twice : (i : Incoming) (rows : List Incoming) → replaced (λ x. is_key i.key x.key) i (replaced (λ x. is_key i.key x.key) i rows) ≡ replaced (λ x. is_key i.key x.key) i rows
set_twice i [] = refl
set_twice i (x ∷ rows) =
    ap (λ (y : Incoming). y ∷ replaced (λ x. is_key i.key x.key) i (replaced (λ x. is_key i.key x.key) i rows)) (one_twice i x (is_key i.key x.key) refl)
    ∙ ap (λ (ys : List Incoming). cond (is_key i.key x.key) i x ∷ ys) (set_twice i rows)

module _ (t : Contents) where
  -- a key has nothing to give still
  still_no_data : (n m : Node) (k : Key) → (has_next (outgoing n k).sender ≡ false → has_next (outgoing m k).sender ≡ false) → (has_room t n k ≡ false → has_room t m k ≡ false) → HasNoData t n k → HasNoData t m k
  still_no_data n m k quiet full (inl empty) = inl (quiet empty)
  still_no_data n m k quiet full (inr spent) = inr (full spent)

  wants_still : (n m : Node) (k : Key) → m.attached ≡ n.attached → incoming m k ≡ incoming n k → wants_report t m (incoming m k) ≡ wants_report t n (incoming n k)
  wants_still n m k attached same =
      ap (λ (i : Incoming). wants_report t m i) same ∙ ap (λ (ids : List Attachment). wants_report t (record n { attached = ids }) (incoming n k)) attached

  still_no_report : (n m : Node) (k : Key) → m.attached ≡ n.attached → incoming m k ≡ incoming n k → (set_incoming n (record (incoming n k) { wanted = false }) ≡ n → set_incoming m (record (incoming n k) { wanted = false }) ≡ m)
      → (has_room t n (back k) ≡ false → has_room t m (back k) ≡ false) → HasNoReport t n k → HasNoReport t m k
  still_no_report n m k attached same settled full (inl quiet) = inl (wants_still n m k attached same ∙ quiet)
  still_no_report n m k attached same settled full (inr (inl (can, spent))) = inr (inl (ap (λ (i : Incoming). can_report i.receiver) same ∙ can, full spent))
  still_no_report n m k attached same settled full (inr (inr (cannot, is))) =
      inr (inr (ap (λ (i : Incoming). can_report i.receiver) same ∙ cannot, ap (λ (i : Incoming). set_incoming m (record i { wanted = false })) same ∙ settled is))

  -- what has nothing to give at one node has nothing to give at another
  pub record KeepsFed (n m : Node) : Type 0 where
    pub data_pdus : (k : Key) → HasNoData t n k → HasNoData t m k
    pub reports : (k : Key) → HasNoReport t n k → HasNoReport t m k

  pub keeps_fed : (n m : Node) → KeepsFed n m → (k : Key) → IsKeyFed t n k → IsKeyFed t m k
  keeps_fed n m keeps k fed = record { data_pdus = keeps.data_pdus k fed.data_pdus; report = keeps.reports k fed.report }

  pub same_fed : (n m : Node) → m ≡ n → KeepsFed n m
  same_fed n m same = record {
    data_pdus = λ k is. subst (λ (x : Node). HasNoData t x k) (sym same) is;
    reports = λ k is. subst (λ (x : Node). HasNoReport t x k) (sym same) is;
  }

  pub both_fed : (n mid m : Node) → KeepsFed n mid → KeepsFed mid m → KeepsFed n m
  both_fed n mid m first rest = record {
    data_pdus = λ k is. rest.data_pdus k (first.data_pdus k is);
    reports = λ k is. rest.reports k (first.reports k is);
  }

  -- a sender is set that has no SDU to give where the one before it had none
  sender_set_fed : (n : Node) (key : Key) (o : Outgoing) → o.key ≡ key → (has_next (outgoing n key).sender ≡ false → has_next o.sender ≡ false) → KeepsFed n (set_outgoing n o)
  sender_set_fed n key o named quiet = record {
    data_pdus = λ k. still_no_data n (set_outgoing n o) k (by k (row_set outgoing_key outgoing_set no_outgoing n.outgoing o key named k)) (λ full. full);
    reports = λ k. still_no_report n (set_outgoing n o) k refl refl (λ is. ap (λ (m : Node). set_outgoing m o) is) (λ full. full);
  }
    where
      by : (k : Key) → ((key ≡ k) × (outgoing (set_outgoing n o) k ≡ o)) ⊎ ((outgoing (set_outgoing n o) k ≡ outgoing n k) × (key ≡ k → outgoing n k ≡ no_outgoing k))
          → has_next (outgoing n k).sender ≡ false → has_next (outgoing (set_outgoing n o) k).sender ≡ false
      by k (inl here) empty = ap (λ (x : Outgoing). has_next x.sender) here.1 ∙ quiet (subst (λ (j : Key). has_next (outgoing n j).sender ≡ false) (sym here.0) empty)
      by k (inr same) empty = ap (λ (x : Outgoing). has_next x.sender) same.0 ∙ empty

  -- a sender, or a receiver, of another key is set
  module _ (k : Key) where
    pub sender_elsewhere : (n : Node) (key : Key) (o : Outgoing) → (key ≡ k → ⊥) → o.key ≡ key → IsKeyFed t n k → IsKeyFed t (set_outgoing n o) k
    sender_elsewhere n key o another named fed =
        let same : outgoing (set_outgoing n o) k ≡ outgoing n k = ap (λ (x : Option Outgoing). unwrap_or x (no_outgoing k)) (outgoing_set.others n.outgoing o k (λ is. another (sym named ∙ is))) in
        record {
          data_pdus = still_no_data n (set_outgoing n o) k (λ empty. ap (λ (x : Outgoing). has_next x.sender) same ∙ empty) (λ full. full) fed.data_pdus;
          report = still_no_report n (set_outgoing n o) k refl refl (λ is. ap (λ (m : Node). set_outgoing m o) is) (λ full. full) fed.report;
        }

    settles : (n : Node) (key : Key) (i : Incoming) → (key ≡ k → ⊥) → i.key ≡ key → (o : Incoming) → o.key ≡ k → set_incoming n o ≡ n → set_incoming (set_incoming n i) o ≡ set_incoming n i
    settles n key i another named o own is =
        ap (λ (rows : List Incoming). record n { incoming = rows })
        (settled_still o i (λ same. another (sym named ∙ (sym same ∙ own))) n.incoming (ap (λ (m : Node). m.incoming) is))

    pub receiver_elsewhere : (n : Node) (key : Key) (i : Incoming) → (key ≡ k → ⊥) → i.key ≡ key → IsKeyFed t n k → IsKeyFed t (set_incoming n i) k
    receiver_elsewhere n key i another named fed =
        let same : incoming (set_incoming n i) k ≡ incoming n k = ap (λ (x : Option Incoming). unwrap_or x (no_incoming k)) (incoming_set.others n.incoming i k (λ is. another (sym named ∙ is))) in
        record {
          data_pdus = fed.data_pdus;
          report = still_no_report n (set_incoming n i) k refl same (settles n key i another named (record (incoming n k) { wanted = false }) (in_named n k)) (λ full. full) fed.report;
        }

    -- a PDCP PDU that is heard changes nothing of other bearers
    pub hears_elsewhere : (n : Node) (key : Key) (pdu : List ℕ) (answer : NodeHeard) (new : Node) → HearsPdcp n key pdu answer new → (key ≡ k → ⊥) → (back key ≡ k → ⊥) → IsKeyFed t n k → IsKeyFed t new k
    hears_elsewhere n key pdu answer new (data_pdu sn sdu is h) another other fed =
        subst (λ (m : Node). IsKeyFed t m k) (sym h.is) (receiver_elsewhere n key (record (incoming n key) { receiver = h.receiver }) another (in_named n key) fed)
    hears_elsewhere n key pdu answer new (report fmc bits is (inl taken)) another other fed =
        subst (λ (m : Node). IsKeyFed t m k) (sym taken.2) (sender_elsewhere n (back key) _ other (out_named n (back key)) fed)
    hears_elsewhere n key pdu answer new (report fmc bits is (inr beyond)) another other fed = subst (λ (m : Node). IsKeyFed t m k) (sym beyond.2) fed
    hears_elsewhere n key pdu answer new (neither fault is says same) another other fed = subst (λ (m : Node). IsKeyFed t m k) (sym same) fed

    -- an entity is set at a port over which they don't go
    pub side_elsewhere : (n : Node) (port : PortName) (side : PortSide) (entity : Entity) → side_at n port ≡ Some side → (new : Node) → new ≡ set_entity n side entity → is_over t port k ≡ false → IsKeyFed t n k → IsKeyFed t new k
    side_elsewhere n port side entity here new is apart fed =
        let name = its_name n port side here in
        let m = set_entity n side entity in
        let others : (key : Key) → is_over t port key ≡ false → has_room t n key ≡ false → has_room t m key ≡ false = λ key not_over. less_room t n m refl key (λ q hop. same_le _ _ (room_elsewhere n side entity q
        (λ same. false≢true (sym not_over ∙ ap (λ (p : PortName). is_over t p key) (name ∙ same) ∙ hop_over t (id_in n.attached key.remote) key q hop)))) in
        subst (λ (x : Node). IsKeyFed t x k) (sym is) (record {
          data_pdus = still_no_data n m k (λ empty. empty) (others k apart) fed.data_pdus;
          report = still_no_report n m k refl refl (λ same. ap (λ (x : Node). set_entity x side entity) same) (others (back k) (back_over t port k ∙ apart)) fed.report;
        })

    pub grant_elsewhere : (n : Node) (port : PortName) (octets : ℕ) (answer : PortGrant) (new : Node) → GrantsPort n port octets answer new → is_over t port k ≡ false → IsKeyFed t n k → IsKeyFed t new k
    grant_elsewhere n port octets NoPort new is apart fed = subst (λ (m : Node). IsKeyFed t m k) (sym is.1) fed
    grant_elsewhere n port octets (Hop epoch answer) new is apart fed = side_elsewhere n port is.side _ is.its.here new is.is apart fed

    pub expiry_elsewhere : (n : Node) (port : PortName) (timer : Timer) (answer : Option Expired) (new : Node) → ExpiresPort n port timer answer new → is_over t port k ≡ false → IsKeyFed t n k → IsKeyFed t new k
    expiry_elsewhere n port timer None new is apart fed = subst (λ (m : Node). IsKeyFed t m k) (sym is.1) fed
    expiry_elsewhere n port timer (Some expired) new is apart fed = side_elsewhere n port is.side _ is.its.here new is.is apart fed

  -- an SDU that is given to a transmitter takes room, and makes none elsewhere
  given_less : (n : Node) (port : PortName) (tag : Tag) (sdu : List ℕ) (new : Node) → GivesPort n port tag sdu new → (q : PortName) → room_of (entity_at new q) ≤ room_of (entity_at n q)
  given_less n port tag sdu new g q = elim (cases_port port q) [
    | inl same ↦
        let less = given_room n port tag sdu new (λ s is. its_name n port s is) g in
        subst (λ (p : PortName). room_of (entity_at new p) ≤ room_of (entity_at n p)) same (omega (arith, less))
    | inr other ↦
        let name = its_name n port g.side g.its.here in
        same_le _ _ (ap (λ (m : Node). room_of (entity_at m q)) g.is ∙ room_elsewhere n g.side _ q (λ same. other (name ∙ same)))
  ]

  pub given_full : (n : Node) (port : PortName) (tag : Tag) (sdu : List ℕ) (new : Node) → GivesPort n port tag sdu new → (k : Key) → has_room t n k ≡ false → has_room t new k ≡ false
  given_full n port tag sdu new g k = less_room t n new (ap (λ (m : Node). m.attached) g.is) k (λ q hop. given_less n port tag sdu new g q)

  pdu_full : (n : Node) (key : Key) (tag : Tag) (pdu : List ℕ) (new : Node) → GivesPdu t n key tag pdu new → (k : Key) → has_room t n k ≡ false → has_room t new k ≡ false
  pdu_full n key tag pdu new g = given_full n g.port tag _ new (record { side = g.side; entity = g.entity; its = g.its; tx = g.tx; number = g.number; gives = g.gives; is = g.is })

  -- a key that has nothing to give is fed as it is
  pub rests_data : (n : Node) (key : Key) → HasNoData t n key → (has_next (outgoing n key).sender && has_room t n key) ≡ false
  rests_data n key (inl empty) = rw empty refl
  rests_data n key (inr full) = rw full (and_false (has_next (outgoing n key).sender))

  fed_data : (n : Node) (key : Key) → (has_next (outgoing n key).sender && has_room t n key) ≡ false → HasNoData t n key
  fed_data n key rest = elim (cases_Bool (has_next (outgoing n key).sender)) [
    | inl some ↦ inr (ap (λ b. b && has_room t n key) (sym some) ∙ rest)
    | inr empty ↦ inl empty
  ]

  pub rests_report : (n : Node) (key : Key) → HasNoReport t n key → FeedsReport t n (incoming n key) [] n
  rests_report n key (inl quiet) = unwanted quiet refl refl
  rests_report n key (inr (inl (can, full))) = elim (cases_Bool (wants_report t n (incoming n key))) [
    | inl wants ↦ no_room wants can (ap (λ (j : Key). has_room t n (back j)) (in_named n key) ∙ full) refl refl
    | inr quiet ↦ unwanted quiet refl refl
  ]
  rests_report n key (inr (inr (cannot, settled))) = elim (cases_Bool (wants_report t n (incoming n key))) [
    | inl wants ↦ dropped wants cannot refl (sym settled)
    | inr quiet ↦ unwanted quiet refl refl
  ]

  -- no SDUs were handed up since a report
  no_more : (every handed : ℕ) (b : Bool) → (nat_lt 0 every && (b && nat_le (handed + every) handed)) ≡ false
  no_more every handed b = elim (cases_Bool (nat_lt 0 every)) [
    | inl some ↦
        let few : nat_le (handed + every) handed ≡ false = grind (arith, nat_tests) in
        rw (few, and_false b) (and_false (nat_lt 0 every))
    | inr never ↦ rw never refl
  ]

  pub none_wanted : (n : Node) (k : Key) → wants_report t n (no_incoming k) ≡ false
  none_wanted n k = no_more (settings t).report 0 (is_some (id_in n.attached k.remote))

  pub reported : (n : Node) (i : Incoming) → wants_report t n (record i { wanted = false; reported = i.receiver.handed }) ≡ false
  reported n i = ap (λ b. not i.held_back && b) (no_more (settings t).report i.receiver.handed (is_some (id_in n.attached i.key.remote))) ∙ and_false (not i.held_back)

  -- no report is to be given about what this receiver tells of
  abbrev pub HasNone : Node → Incoming → Type 0
  HasNone n i = (wants_report t n i ≡ false) ⊎ ((can_report i.receiver ≡ false) × (i ≡ record i { wanted = false }))

  -- such a receiver is set
  module _ (n : Node) (key : Key) (i : Incoming) (named : i.key ≡ key) (fed : HasNone n i) where
    set_here : (k : Key) → incoming (set_incoming n i) k ≡ i → HasNone n i → HasNoReport t (set_incoming n i) k
    set_here k here (inl quiet) = inl (ap (wants_report t n) here ∙ quiet)
    set_here k here (inr (cannot, off)) = inr (inr (
      ap (λ (j : Incoming). can_report j.receiver) here ∙ cannot,
      ap (λ (j : Incoming). set_incoming (set_incoming n i) (record j { wanted = false })) here
          ∙ ap (λ (j : Incoming). set_incoming (set_incoming n i) j) (sym off)
          ∙ ap (λ (rows : List Incoming). record n { incoming = rows }) (set_twice i n.incoming),
    ))

    set_there : (k : Key) → incoming (set_incoming n i) k ≡ incoming n k → (key ≡ k → incoming n k ≡ no_incoming k) → HasNoReport t n k ⊎ (key ≡ k) → HasNoReport t (set_incoming n i) k
    set_there k same missing (inr here) = inl (ap (wants_report t n) (same ∙ missing here) ∙ none_wanted n k)
    set_there k same missing (inl was) = elim (cases_key key k) [
      | inl here ↦ inl (ap (wants_report t n) (same ∙ missing here) ∙ none_wanted n k)
      | inr another ↦ still_no_report n (set_incoming n i) k refl same (settles k n key i another named (record (incoming n k) { wanted = false }) (in_named n k)) (λ full. full) was
    ]

    report_set : (k : Key) → HasNoReport t n k ⊎ (key ≡ k) → HasNoReport t (set_incoming n i) k
    report_set k was = elim (row_set incoming_key incoming_set no_incoming n.incoming i key named k) [
      | inl here ↦ set_here k here.1 fed
      | inr same ↦ set_there k same.0 same.1 was
    ]

    pub receiver_set_fed : KeepsFed n (set_incoming n i)
    receiver_set_fed = record { data_pdus = λ k is. is; reports = λ k is. report_set k (inl is) }

  -- a PDU is given to a transmitter
  module _ (old : Node) (key : Key) (tag : Tag) (pdu : List ℕ) (mid : Node) (g : GivesPdu t old key tag pdu mid) where
    sets_still : (o : Incoming) → set_incoming old o ≡ old → set_incoming mid o ≡ mid
    sets_still o is = subst (λ (m : Node). set_incoming m o ≡ m) (sym g.is) (ap (λ (m : Node). set_entity m g.side (record g.entity { tx = g.tx })) is)

    pub pdu_fed : KeepsFed old mid
    pdu_fed = record {
      data_pdus = λ k. still_no_data old mid k (λ empty. ap (λ (m : Node). has_next (outgoing m k).sender) g.is ∙ empty) (pdu_full old key tag pdu mid g k);
      reports = λ k. still_no_report old mid k (ap (λ (m : Node). m.attached) g.is) (ap (λ (m : Node). incoming m k) g.is) (sets_still _) (pdu_full old key tag pdu mid g (back k));
    }

  -- a report is given, or isn't
  module _ (old : Node) (key : Key) where
    or_else : (k : Key) → HasNoReport t old key → HasNoReport t old k ⊎ (key ≡ k) → HasNoReport t old k
    or_else k fed (inl was) = was
    or_else k fed (inr here) = subst (λ (j : Key). HasNoReport t old j) here fed

    pub report_fed : (given : List Key) (new : Node) → FeedsReport t old (incoming old key) given new → (k : Key) → HasNoReport t old k ⊎ (key ≡ k) → HasNoReport t new k
    report_fed given new (unwanted quiet empty same) k was = subst (λ (m : Node). HasNoReport t m k) (sym same) (or_else k (inl quiet) was)
    report_fed given new (no_room wants can full empty same) k was =
        subst (λ (m : Node). HasNoReport t m k) (sym same) (or_else k (inr (inl (can, ap (λ (j : Key). has_room t old (back j)) (sym (in_named old key)) ∙ full))) was)
    report_fed given new (dropped wants cannot empty same) k was =
        subst (λ (m : Node). HasNoReport t m k) (sym same) (report_set old key (record (incoming old key) { wanted = false }) (in_named old key) (inr (cannot, refl)) k was)
    report_fed given new (given_one wants can room g one) k was =
        subst (λ (m : Node). HasNoReport t m k) (sym g.is) (report_set g.mid key _ (in_named old key) (inl (reported g.mid (incoming old key))) k (behind was))
      where
        behind : HasNoReport t old k ⊎ (key ≡ k) → HasNoReport t g.mid k ⊎ (key ≡ k)
        behind (inl fed) = inl ((pdu_fed old _ _ _ g.mid g.gives).reports k fed)
        behind (inr here) = inr here

    pub report_data : (given : List Key) (new : Node) → FeedsReport t old (incoming old key) given new → (k : Key) → HasNoData t old k → HasNoData t new k
    report_data given new (unwanted quiet empty same) k is = subst (λ (m : Node). HasNoData t m k) (sym same) is
    report_data given new (no_room wants can full empty same) k is = subst (λ (m : Node). HasNoData t m k) (sym same) is
    report_data given new (dropped wants can empty same) k is = subst (λ (m : Node). HasNoData t m k) (sym same) is
    report_data given new (given_one wants can room g one) k is = subst (λ (m : Node). HasNoData t m k) (sym g.is) ((pdu_fed old _ _ _ g.mid g.gives).data_pdus k is)

  -- data PDUs of a key are given that has some to give
  module _ (key : Key) where
    turn_keeps : (n mid : Node) → (has_next (outgoing n key).sender && has_room t n key) ≡ true → mid.outgoing ≡ n.outgoing → KeepsFed n mid → (o : Outgoing) → o.key ≡ key → KeepsFed n (set_outgoing mid o)
    turn_keeps n mid has outs less o named = record {
      data_pdus = λ k is. by k is (less.data_pdus k is) (row_set outgoing_key outgoing_set no_outgoing mid.outgoing o key named k);
      reports = λ k is. still_no_report mid (set_outgoing mid o) k refl refl (λ same. ap (λ (m : Node). set_outgoing m o) same) (λ full. full) (less.reports k is);
    }
      where
        never : HasNoData t n key → ⊥
        never is = false≢true (sym (rests_data n key is) ∙ has)

        by : (k : Key) → HasNoData t n k → HasNoData t mid k → ((key ≡ k) × (outgoing (set_outgoing mid o) k ≡ o)) ⊎ ((outgoing (set_outgoing mid o) k ≡ outgoing mid k) × (key ≡ k → outgoing mid k ≡ no_outgoing k))
            → HasNoData t (set_outgoing mid o) k
        by k was is (inl here) = absurd (never (subst (λ (j : Key). HasNoData t n j) (sym here.0) was))
        by k was is (inr same) = still_no_data mid (set_outgoing mid o) k (λ empty. ap (λ (x : Outgoing). has_next x.sender) same.0 ∙ empty) (λ full. full) is

    gives_keeps : (old new : Node) → (has_next (outgoing old key).sender && has_room t old key) ≡ true → GivesData t old (outgoing old key) new → KeepsFed old new
    gives_keeps old new has g =
        subst (λ (m : Node). KeepsFed old m) (sym g.is)
        (turn_keeps old g.mid has (ap (λ (m : Node). m.outgoing) g.gives.is) (pdu_fed old _ _ _ g.mid g.gives) _ (out_named old key))

    pub some_keeps : (old new : Node) → GivesSome t key old new → KeepsFed old new
    some_keeps old new none = same_fed old old refl
    some_keeps old new (more {mid = mid} has g rest) = both_fed old mid new (gives_keeps old mid has g) (some_keeps mid new rest)

    pub data_keeps : (old new : Node) → FeedsData t key old new → (KeepsFed old new) × HasNoData t new key
    data_keeps old new (rests rest) = (same_fed old old refl, fed_data old key rest)
    data_keeps old new (gives {mid = mid} has g rest) =
        let later = data_keeps mid new rest in
        (both_fed old mid new (gives_keeps old mid has g) later.0, later.1)

-- what RLC confirms leaves no more to give
module _ (is_confirmed : ℕ → Bool) where
  as_long : (count : ℕ) (sdus : List (Option (List ℕ))) → length (still_kept is_confirmed count sdus) ≡ length sdus
  as_long count [] = refl
  as_long count (sdu ∷ sdus) = ap suc (as_long (count + 1) sdus)

  front_grows : (count : ℕ) (sdus : List (Option (List ℕ))) → prefix_len is_none sdus ≤ prefix_len is_none (still_kept is_confirmed count sdus)
  front_grows count [] = same_le 0 0 refl
  front_grows count (None ∷ sdus) =
      let rest = front_grows (count + 1) sdus in
      elim (is_confirmed count) as (λ b. 1 + prefix_len is_none sdus ≤ prefix_len is_none ((if b then None else None) ∷ still_kept is_confirmed (count + 1) sdus)) [
        | true ↦ omega (arith, rest)
        | false ↦ omega (arith, rest)
      ]
  front_grows count (Some sdu ∷ sdus) = omega arith

  next_grows : (place count : ℕ) (sdus : List (Option (List ℕ))) → prefix_len is_none (drop place sdus) ≤ prefix_len is_none (drop place (still_kept is_confirmed count sdus))
  next_grows zero count sdus = front_grows count sdus
  next_grows (suc place) count [] = same_le 0 0 refl
  next_grows (suc place) count (sdu ∷ sdus) = next_grows place (count + 1) sdus

  quiet_still : (s : Sender) → has_next s ≡ false → has_next (confirms s is_confirmed) ≡ false
  quiet_still s empty = by s.waits refl
    where
      by : (waits : Bool) → s.waits ≡ waits → has_next (confirms s is_confirmed) ≡ false
      by true is = rw is refl
      by false is =
          let before : nat_lt (s.place + prefix_len is_none (drop s.place s.kept)) (length s.kept) ≡ false = rw is at empty in
          let grown = next_grows s.place s.first s.kept in
          let long = as_long s.first s.kept in
          let behind : nat_lt (s.place + prefix_len is_none (drop s.place (still_kept is_confirmed s.first s.kept))) (length (still_kept is_confirmed s.first s.kept)) ≡ false = grind (arith, nat_tests) in
          rw is behind

pub confirming_fed : (t : Contents) (n : Node) (tags : List Tag) → KeepsFed t n (confirm_each n tags)
confirming_fed t n [] = same_fed t n n refl
confirming_fed t n (tag ∷ tags) = both_fed t n (confirm_count n tag.key tag.count) _ (by tag.count) (confirming_fed t (confirm_count n tag.key tag.count) tags)
  where
    by : (count : Option ℕ) → KeepsFed t n (confirm_count n tag.key count)
    by None = same_fed t n n refl
    by (Some count) = sender_set_fed t n tag.key _ (out_named n tag.key) (quiet_still (λ other. other == count) (outgoing n tag.key).sender)

-- the same tables feed the same
pub fed_by : (t u : Contents) (n : Node) (to_feed : ToFeed) → t ≡ u → OthersAreFed t to_feed n → OthersAreFed u to_feed n
fed_by t u n to_feed same fed = subst (λ (x : Contents). OthersAreFed x to_feed n) same fed
