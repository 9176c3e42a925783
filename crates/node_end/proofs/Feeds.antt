-- What an end gives, PDU by PDU.
use Rattle.std.proofs.Common.{◌≡◌, ℕ, zero, suc, ◌+◌, ◌-◌, ◌<◌, ◌≤◌, true, false, List, [], ◌∷◌, ◌++◌, length, map, take, drop, append_assoc, Option, Some, None, inl, inr, refl, sym, ◌∙◌, ap, subst, arith}
use Rattle.std.specs.Prelude.{◌&&◌, nat_lt, unwrap_or, slice_get}
use Rattle.std.proofs.lemmas.Bool.Decides.{nat_tests}
use Rattle.std.proofs.lemmas.List.{append-nil, length-map, take_all}
use Rattle.link_base.specs.declared.names.Key.{Key}
use Rattle.link_base.specs.declared.names.LocalId.{LocalId}
use Rattle.link_base.specs.declared.names.PortName.{PortName}
use Rattle.link_base.specs.declared.names.Way.{Way}
use Rattle.link_base.specs.declared.names.Way.TheVariants.{Ul, Dl}
use Rattle.link_base.specs.declared.rlc_words.Tag.{Tag}
use Rattle.bearer_map.specs.declared.ids.Attachment.{Attachment}
use Rattle.bearer_map.specs.Contents.{Contents}
use Rattle.rlc_model.specs.Sides.{flip}
use Rattle.pdcp_model.specs.Sender.{Sender, next, has_next, data_pdu}
use Rattle.pdcp_model.specs.Receiver.{can_report}
use Rattle.pdcp_pdu.specs.Pdcp.{pdcp_bytes}
use Rattle.pdcp_rx.specs.Reporting.{SpellsReport}
use Rattle.node_model.specs.Names.{NodeName, back, key_of}
use Rattle.node_model.specs.State.{PortSide, Node, Outgoing, Incoming, entity_at, side_at, id_in, outgoing_at, outgoing, incoming, set_outgoing, set_incoming, no_outgoing}
use Rattle.node_model.specs.Feeding.{GivesPdu, GivesData, FeedsReport, FeedsReports, FeedsData, FeedsEach, wants_report, has_room, room_at, room_of, first_hop, port_on, tag_of, under, in_key, out_key}
use Rattle.node_model.specs.Feeding.FeedsReport.{gives}
use Rattle.node_model.specs.Feeding.FeedsData.{rests as no_more, gives as one_first}
use Rattle.node_ports.specs.Calls.{GivesPort}
use Rattle.node_bearers.specs.Calls.{Gives, Sends, Receives, gave_report}
use Rattle.node_end.specs.Ports.{IsEnd}
use Rattle.node_end.specs.Node.{end_with}
use Rattle.node_end.specs.Feeding.{HaveNumbersLeft, KeepsKeys, GivesSome, had_turn, StopsGiving, StopsFeeding, IsToReport, FeedsReportOf}
use Rattle.node_end.specs.Feeding.StopsFeeding.{at_report, at_data}
use Rattle.node_end.specs.Feeding.GivesSome.{none, more}
use Rattle.node_end.proofs.Names.{out_keys_kept, in_keys_kept}
use Rattle.node_end.proofs.Ends.{end_set, still_end}
use Rattle.node_end.proofs.Rooms.{given_numbers, given_room, key_set, some_is}
use Rattle.node_end.proofs.Fed.{and_false, its_name}

-- the room of a key's first hop
module _ (t : Contents) (n : Node) (key : Key) (port : PortName) (hop : first_hop t n key ≡ Some port) where
  room_is : room_at n (first_hop t n key) ≡ room_of (entity_at n port)
  room_is = ap (room_at n) hop

  pub space : 0 < room_of (entity_at n port) → has_room t n key ≡ true
  space some = let is = room_is in grind (arith, nat_tests)

  pub no_space : room_of (entity_at n port) ≡ 0 → has_room t n key ≡ false
  no_space full = ap (nat_lt 0) (room_is ∙ full)

  -- a PDU that is given to its port is given to the key's first hop
  pub gives_pdu : (tag : Tag) (pdu : List ℕ) (mid : Node) → GivesPort n port tag (under (id_in n.attached key.remote) key.drb pdu) mid → GivesPdu t n key tag pdu mid
  gives_pdu tag pdu mid g = record { port = port; its_port = hop; side = g.side; entity = g.entity; its = g.its; tx = g.tx; number = g.number; gives = g.gives; is = g.is }

-- a key without a first hop has no room
pub no_hop : (t : Contents) (n : Node) (key : Key) → first_hop t n key ≡ None → has_room t n key ≡ false
no_hop t n key missing = ap (λ (hop : Option PortName). nat_lt 0 (room_at n hop)) missing

-- the bearer's other way of its other way
pub back_back : (key : Key) → back (back key) ≡ key
back_back key = ap (λ (w : Way). key_of key.remote key.drb w) (by key.way)
  where
    by : (w : Way) → flip (flip w) ≡ w
    by Ul = refl
    by Dl = refl

-- one more data PDU is given
pub one_more : (t : Contents) (key : Key) (old mid new : Node) → GivesSome t key old mid → (has_next (outgoing mid key).sender && has_room t mid key) ≡ true → GivesData t mid (outgoing mid key) new → GivesSome t key old new
one_more t key old mid new none has g = more has g none
one_more t key old mid new (more {mid = first} had h some) has g = more had h (one_more t key first mid new some has g)

-- and there is none, or no room
pub all_given : (t : Contents) (key : Key) (old new : Node) → GivesSome t key old new → (has_next (outgoing new key).sender && has_room t new key) ≡ false → FeedsData t key old new
all_given t key old new none rest = no_more rest
all_given t key old new (more {mid = mid} had h some) rest = one_first had h (all_given t key mid new some rest)

-- a node whose sender of a key, or receiver, is set
pub sender_end : (t : Contents) (n : Node) (o : Outgoing) → IsEnd t n → IsEnd t (set_outgoing n o)
sender_end t n o is = still_end t n (set_outgoing n o) refl refl refl refl is

pub receiver_end : (t : Contents) (n : Node) (i : Incoming) → IsEnd t n → IsEnd t (set_incoming n i)
receiver_end t n i is = still_end t n (set_incoming n i) refl refl (in_keys_kept n i) refl is

pub given_end : (t : Contents) (n : Node) (port : PortName) (tag : Tag) (sdu : List ℕ) (new : Node) → GivesPort n port tag sdu new → IsEnd t n → IsEnd t new
given_end t n port tag sdu new g is = subst (λ (m : Node). IsEnd t m) (sym g.is) (end_set t n port g.side g.entity g.its is _)

-- data PDUs of a key are given over a port
pub record IsGiving (t : Contents) (key : Key) (port : PortName) (init cur : Node) (room : ℕ) : Type 0 where
  pub some : GivesSome t key init cur
  pub left : room ≡ room_of (entity_at cur port)
  pub hop : port_on t (id_in init.attached key.remote) key ≡ Some port
  pub keys : KeepsKeys init cur
  pub numbers : HaveNumbersLeft cur
  pub is_end : IsEnd t cur
  pub there : outgoing_at cur key ≡ Some (outgoing cur key)
  pub named : out_key (outgoing cur key) ≡ key

-- a sending end that is set is found
pub sender_set : (n : Node) (key : Key) (o : Outgoing) → outgoing_at n key ≡ Some (outgoing n key) → out_key (outgoing n key) ≡ key → out_key o ≡ key
    → (outgoing_at (set_outgoing n o) key ≡ Some o) × (outgoing (set_outgoing n o) key ≡ o)
sender_set n key o there named same =
    let found = key_set key o (outgoing n key) n.outgoing (same ∙ sym named) (sym named) there in
    (found, ap (λ (x : Option Outgoing). unwrap_or x (no_outgoing key)) found)

module _ (t : Contents) (key : Key) (port : PortName) (init : Node) (name : NodeName) (ports : List PortSide) (ids : List Attachment) (ends : Node) (room : ℕ) (going : IsGiving t key port init (end_with name ports ids ends) room) where
  abbrev at_now : Node
  at_now = end_with name ports ids ends

  pub hop_now : port_on t (id_in ids key.remote) key ≡ Some port
  hop_now = ap (λ (as_ : List Attachment). port_on t (id_in as_ key.remote) key) going.keys.attached ∙ going.hop

  pub has : 0 < room → has_next (outgoing ends key).sender ≡ true → (has_next (outgoing ends key).sender && has_room t at_now key) ≡ true
  has some next_one =
      let spare : has_room t at_now key ≡ true = space t at_now key port hop_now (subst (λ (m : ℕ). 0 < m) going.left some) in
      rw (next_one, spare) refl

  -- there is no room for more, or nothing to give
  pub rests : room ≡ 0 → FeedsData t key init at_now
  rests full =
      let spent : has_room t at_now key ≡ false = no_space t at_now key port hop_now (sym going.left ∙ full) in
      all_given t key init at_now going.some (rw spent (and_false (has_next (outgoing ends key).sender)))

  pub rests_empty : has_next (outgoing ends key).sender ≡ false → FeedsData t key init at_now
  rests_empty empty = all_given t key init at_now going.some (rw empty refl)

  -- memory is wanting for the next PDU
  pub stops_before : (ends' : Node) → ends' ≡ ends → 0 < room → has_next (outgoing ends key).sender ≡ true → StopsGiving t key init (end_with name ports ids ends')
  stops_before ends' same some next_one = (at_now, going.some, has some next_one, inl (ap (end_with name ports ids) same))

  module _ (count : ℕ) (pdu : List ℕ) (ends' : Node) (given : Gives ends key (Some (count, pdu)) ends') where
    turned : ends' ≡ set_outgoing ends (had_turn (outgoing ends key))
    turned = given.2 ∙ ap (λ (s : Sender). set_outgoing ends (record (outgoing ends key) { sender = s })) given.1.5

    keys_behind : (ports' : List PortSide) → KeepsKeys init (end_with name ports' ids ends')
    keys_behind ports' = record {
      name = going.keys.name;
      attached = going.keys.attached;
      sent = ap (λ (m : Node). map out_key m.outgoing) turned ∙ out_keys_kept ends (had_turn (outgoing ends key)) ∙ going.keys.sent;
      received = ap (λ (m : Node). map in_key m.incoming) given.2 ∙ going.keys.received;
    }

    end_behind : (ports' : List PortSide) → IsEnd t (end_with name ports' ids ends) → IsEnd t (end_with name ports' ids ends')
    end_behind ports' is = subst (λ (m : Node). IsEnd t (end_with name ports' ids m)) (sym turned) (sender_end t (end_with name ports' ids ends) (had_turn (outgoing ends key)) is)

    -- memory is wanting to give it
    pub stops_behind : (ports' : List PortSide) → ports' ≡ ports → 0 < room
        → StopsGiving t key init (end_with name ports' ids ends') × KeepsKeys init (end_with name ports' ids ends') × IsEnd t (end_with name ports' ids ends') × HaveNumbersLeft (end_with name ports' ids ends')
    stops_behind ports' same some = (
      (at_now, going.some, has some given.1.0, inr (ap (λ (ps : List PortSide). end_with name ps ids ends') same ∙ ap (end_with name ports ids) turned)),
      keys_behind ports',
      end_behind ports' (subst (λ (ps : List PortSide). IsEnd t (end_with name ps ids ends)) (sym same) going.is_end),
      subst (λ (ps : List PortSide). HaveNumbersLeft (end_with name ps ids ends')) (sym same) going.numbers,
    )

    -- it is given
    module _ (ports' : List PortSide) (ue : Option LocalId) (ue_is : ue ≡ id_in ids key.remote) (bytes : List ℕ) (bytes_are : bytes ≡ under ue key.drb pdu)
        (g : GivesPort at_now port (record { key = key; count = Some count; ue = ue }) bytes (end_with name ports' ids ends)) (some : 0 < room) where
      abbrev behind : Node
      behind = end_with name ports' ids ends

      at_key : GivesPdu t at_now key (tag_of at_now key (Some count)) pdu behind
      at_key =
          gives_pdu t at_now key port hop_now (tag_of at_now key (Some count)) pdu behind
          (subst (λ (u : Option LocalId). GivesPort at_now port (record { key = key; count = Some count; ue = u }) (under u key.drb pdu) behind) ue_is
          (subst (λ (b : List ℕ). GivesPort at_now port (record { key = key; count = Some count; ue = ue }) b behind) bytes_are g))

      data_given : GivesData t at_now (outgoing ends key) (end_with name ports' ids ends')
      data_given = record {
        sdu = given.1.2;
        its = given.1.3;
        mid = behind;
        gives =
            let o = outgoing ends key in
            let counted = subst (λ (m : ℕ). GivesPdu t at_now key (tag_of at_now key (Some m)) pdu behind) given.1.1 at_key in
            let spelt = subst (λ (b : List ℕ). GivesPdu t at_now key (tag_of at_now key (Some (o.sender.first + next o.sender))) b behind) given.1.4 counted in
            subst (λ (k : Key). GivesPdu t at_now k (tag_of at_now k (Some (o.sender.first + next o.sender))) (pdcp_bytes o.sender.size (data_pdu o.sender (next o.sender) given.1.2)) behind) (sym going.named) spelt;
        is = ap (end_with name ports' ids) turned;
      }

      pub goes_on : IsGiving t key port init (end_with name ports' ids ends') (room - 1)
      goes_on =
          let named : (s : PortSide) → side_at at_now port ≡ Some s → port ≡ s.name = λ s is. its_name at_now port s is in
          let less = given_room at_now port _ bytes behind named g in
          let found = sender_set ends key (had_turn (outgoing ends key)) going.there going.named going.named in
          record {
            some = one_more t key init at_now (end_with name ports' ids ends') going.some (has some given.1.0) data_given;
            left = omega (arith, going.left, less, some);
            hop = going.hop;
            keys = keys_behind ports';
            numbers = given_numbers at_now port _ bytes behind named g going.numbers;
            is_end = end_behind ports' (given_end t at_now port _ bytes behind g going.is_end);
            there = ap (λ (m : Node). outgoing_at m key) turned ∙ found.0 ∙ ap (λ (x : Outgoing). Some x) (sym found.1) ∙ ap (λ (m : Node). Some (outgoing m key)) (sym turned);
            named = ap (λ (m : Node). out_key (outgoing m key)) turned ∙ ap out_key found.1 ∙ going.named;
          }

-- the key at a place stays there
pub sends_still : (init cur : Node) (place : ℕ) (key : Key) → KeepsKeys init cur → Sends init place key → Sends cur place key
sends_still init cur place key keys is = ap (λ (ks : List Key). slice_get ks place) keys.sent ∙ is

pub receives_still : (init cur : Node) (place : ℕ) (key : Key) → KeepsKeys init cur → Receives init place key → Receives cur place key
receives_still init cur place key keys is = ap (λ (ks : List Key). slice_get ks place) keys.received ∙ is

-- there is one at each place below the length
pub key_at : (ks : List Key) (place : ℕ) → place < length ks → (key : Key) × (slice_get ks place ≡ Some key)
key_at [] place lt = absurd (omega arith)
key_at (k ∷ ks) zero lt = (k, refl)
key_at (k ∷ ks) (suc place) lt = key_at ks place (omega arith)

pub one_key : (ks : List Key) (place : ℕ) (a b : Key) → slice_get ks place ≡ Some a → slice_get ks place ≡ Some b → a ≡ b
one_key ks place a b here there = some_is a b (sym here ∙ there)

pub take_next : (ks : List Key) (place : ℕ) (key : Key) → slice_get ks place ≡ Some key → take (place + 1) ks ≡ take place ks ++ key ∷ []
take_next [] place key is = absurd cc
take_next (k ∷ ks) zero key is = ap (λ (x : Key). x ∷ []) (some_is k key is)
take_next (k ∷ ks) (suc place) key is =
    let more : suc place + 1 ≡ suc (place + 1) = omega arith in
    rw more (ap (λ (xs : List Key). k ∷ xs) (take_next ks place key is))

pub split_at : (ks : List Key) (place : ℕ) (key : Key) → slice_get ks place ≡ Some key → ks ≡ take place ks ++ key ∷ drop (suc place) ks
split_at [] place key is = absurd cc
split_at (k ∷ ks) zero key is = ap (λ (x : Key). x ∷ ks) (some_is k key is)
split_at (k ∷ ks) (suc place) key is = ap (λ (xs : List Key). k ∷ xs) (split_at ks place key is)

-- one more report is fed, and one more key's data PDUs
pub report_more : (t : Contents) (old mid new : Node) (keys given first : List Key) (key : Key) → FeedsReports t old keys given mid → FeedsReport t mid (incoming mid key) first new → FeedsReports t old (keys ++ key ∷ []) (given ++ first) new
report_more t old mid new [] given first key fed report =
    (first, [], new, subst (λ (n : Node). FeedsReport t n (incoming n key) first new) fed.1 report, (refl, refl), ap (λ (g : List Key). g ++ first) fed.0 ∙ sym (append-nil first))
report_more t old mid new (k ∷ keys) given first key fed report =
    (fed.0, fed.1 ++ first, fed.2, fed.3, report_more t fed.2 mid new keys fed.1 first key fed.4 report, ap (λ (g : List Key). g ++ first) fed.5 ∙ append_assoc fed.0 fed.1 first)

pub data_more : (t : Contents) (old mid new : Node) (keys : List Key) (key : Key) → FeedsEach t old keys mid → FeedsData t key mid new → FeedsEach t old (keys ++ key ∷ []) new
data_more t old mid new [] key same fed = (new, subst (λ (n : Node). FeedsData t key n new) same fed, refl)
data_more t old mid new (k ∷ keys) key each fed = (each.0, each.1, data_more t each.0 mid new keys key each.2 fed)

-- the report about what a node receives, whose bearer sends this key
module _ (t : Contents) (name : NodeName) (ports : List PortSide) (ids : List Attachment) (ends : Node) (sent : Key) (port : PortName) (hop : port_on t (id_in ids sent.remote) sent ≡ Some port) where
  abbrev before_it : Node
  before_it = end_with name ports ids ends

  pub is_to_report : wants_report t before_it (incoming ends (back sent)) ≡ true → 0 < room_of (entity_at before_it port) → IsToReport t before_it (back sent)
  is_to_report wants some = (wants, ap (has_room t before_it) (back_back sent) ∙ space t before_it sent port hop some)

  module _ (named : in_key (incoming ends (back sent)) ≡ back sent) (report : List ℕ) (spells : SpellsReport (incoming ends (back sent)).receiver report) (ports' : List PortSide)
      (ue : Option LocalId) (ue_is : ue ≡ id_in ids sent.remote) (bytes : List ℕ) (bytes_are : bytes ≡ under ue sent.drb report)
      (g : GivesPort before_it port (record { key = back sent; count = None; ue = ue }) bytes (end_with name ports' ids ends)) where
    abbrev mid_report : Node
    mid_report = end_with name ports' ids ends

    at_sent : GivesPdu t before_it sent (tag_of before_it (back sent) None) report mid_report
    at_sent =
        gives_pdu t before_it sent port hop (tag_of before_it (back sent) None) report mid_report
        (subst (λ (u : Option LocalId). GivesPort before_it port (record { key = back sent; count = None; ue = u }) (under u sent.drb report) mid_report) ue_is
        (subst (λ (b : List ℕ). GivesPort before_it port (record { key = back sent; count = None; ue = ue }) b mid_report) bytes_are g))

    pub report_given : (ends' : Node) → wants_report t before_it (incoming ends (back sent)) ≡ true → can_report (incoming ends (back sent)).receiver ≡ true → 0 < room_of (entity_at before_it port)
        → ends' ≡ set_incoming ends (gave_report (incoming ends (back sent))) → FeedsReport t before_it (incoming ends (back sent)) (back sent ∷ []) (end_with name ports' ids ends')
    report_given ends' wants can some given =
        let i = incoming ends (back sent) in
        let to = is_to_report wants some in
        let about = subst (λ (k : Key). GivesPdu t before_it k (tag_of before_it (back sent) None) report mid_report) (sym (back_back sent)) at_sent in
        let keyed = subst (λ (k : Key). GivesPdu t before_it (back k) (tag_of before_it k None) report mid_report) (sym named) about in
        gives wants can (subst (λ (k : Key). has_room t before_it (back k) ≡ true) (sym named) to.1) (record {
          fmc = spells.fmc;
          map = spells.map;
          its = spells.report;
          mid = mid_report;
          gives = subst (λ (b : List ℕ). GivesPdu t before_it (back i.key) (tag_of before_it i.key None) b mid_report) spells.spelt keyed;
          is = ap (end_with name ports' ids) given;
        }) (ap (λ (k : Key). k ∷ []) (sym named))

    pub report_numbers : HaveNumbersLeft before_it → HaveNumbersLeft mid_report
    report_numbers left = given_numbers before_it port _ bytes mid_report (λ s is. its_name before_it port s is) g left

    pub report_end : (ends' : Node) → ends' ≡ set_incoming ends (gave_report (incoming ends (back sent))) → IsEnd t before_it → IsEnd t (end_with name ports' ids ends')
    report_end ends' given is =
        subst (λ (m : Node). IsEnd t (end_with name ports' ids m)) (sym given) (receiver_end t mid_report (gave_report (incoming ends (back sent))) (given_end t before_it port _ bytes mid_report g is))

-- the keys are as many, and stay over two steps
pub same_long : (old new : Node) → KeepsKeys old new → (length new.outgoing ≡ length old.outgoing) × (length new.incoming ≡ length old.incoming)
same_long old new keys =
    (sym (length-map new.outgoing out_key) ∙ ap length keys.sent ∙ length-map old.outgoing out_key, sym (length-map new.incoming in_key) ∙ ap length keys.received ∙ length-map old.incoming in_key)

pub keeps_both : (old mid new : Node) → KeepsKeys old mid → KeepsKeys mid new → KeepsKeys old new
keeps_both old mid new first rest = record { name = rest.name ∙ first.name; attached = rest.attached ∙ first.attached; sent = rest.sent ∙ first.sent; received = rest.received ∙ first.received }

-- the reports of all places are fed, place by place
module _ (t : Contents) (old cur : Node) (place : ℕ) (lt : place < length old.incoming) (given : List Key) (fed : FeedsReports t old (take place (map in_key old.incoming)) given cur) (keys : KeepsKeys old cur) where
  receiving : (key : Key) × (slice_get (map in_key old.incoming) place ≡ Some key)
  receiving = key_at (map in_key old.incoming) place (omega (arith, lt, length-map old.incoming in_key))

  pub next_report : (after : List Key) (new : Node) → ((key : Key) → Receives cur place key → FeedsReportOf t cur key given after new) → FeedsReports t old (take (place + 1) (map in_key old.incoming)) after new
  next_report after new step =
      let key = receiving.0 in
      let one = step key (receives_still old cur place key keys receiving.1) in
      rw (take_next (map in_key old.incoming) place key receiving.1, one.2) (report_more t old cur new (take place (map in_key old.incoming)) given one.0 key fed one.1)

  pub stops_at_report : (new : Node) → new ≡ cur → ((key : Key) → Receives cur place key → IsToReport t cur key) → StopsFeeding t old new
  stops_at_report new same to =
      let key = receiving.0 in
      rw same (at_report (take place (map in_key old.incoming)) (drop (suc place) (map in_key old.incoming)) given key (split_at (map in_key old.incoming) place key receiving.1) fed (to key (receives_still old cur place key keys receiving.1)))

-- and then the data PDUs of all places
module _ (t : Contents) (mid cur : Node) (place : ℕ) (lt : place < length mid.outgoing) (fed : FeedsEach t mid (take place (map out_key mid.outgoing)) cur) (keys : KeepsKeys mid cur) where
  sending : (key : Key) × (slice_get (map out_key mid.outgoing) place ≡ Some key)
  sending = key_at (map out_key mid.outgoing) place (omega (arith, lt, length-map mid.outgoing out_key))

  pub next_data : (new : Node) → ((key : Key) → Sends cur place key → FeedsData t key cur new) → FeedsEach t mid (take (place + 1) (map out_key mid.outgoing)) new
  next_data new step =
      let key = sending.0 in
      rw (take_next (map out_key mid.outgoing) place key sending.1) (data_more t mid cur new (take place (map out_key mid.outgoing)) key fed (step key (sends_still mid cur place key keys sending.1)))

  pub stops_at_data : (old new : Node) (given : List Key) → FeedsReports t old (map in_key old.incoming) given mid → ((key : Key) → Sends cur place key → StopsGiving t key cur new) → StopsFeeding t old new
  stops_at_data old new given reports stops =
      let key = sending.0 in
      at_data given mid (take place (map out_key mid.outgoing)) (drop (suc place) (map out_key mid.outgoing)) key cur reports (split_at (map out_key mid.outgoing) place key sending.1) fed (stops key (sends_still mid cur place key keys sending.1))

-- all reports, once all places had theirs
pub all_reports : (t : Contents) (old new : Node) (place : ℕ) (given : List Key) → length old.incoming ≤ place → FeedsReports t old (take place (map in_key old.incoming)) given new → FeedsReports t old (map in_key old.incoming) given new
all_reports t old new place given le fed =
    subst (λ (ks : List Key). FeedsReports t old ks given new) (take_all place (map in_key old.incoming) (omega (arith, le, length-map old.incoming in_key))) fed

pub all_data : (t : Contents) (old new : Node) (place : ℕ) → length old.outgoing ≤ place → FeedsEach t old (take place (map out_key old.outgoing)) new → FeedsEach t old (map out_key old.outgoing) new
all_data t old new place le fed =
    subst (λ (ks : List Key). FeedsEach t old ks new) (take_all place (map out_key old.outgoing) (omega (arith, le, length-map old.outgoing out_key))) fed
