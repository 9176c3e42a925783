-- Less is left once the next move of a port is carried out.
use Rattle.std.proofs.Common.{◌≡◌, ◌⊎◌, inl, inr, ℕ, ◌<◌, ◌≤◌, Bool, true, false, not, nat_lt, cond, ◌&&◌, List, ◌∷◌, Some, refl, sym, ◌∙◌, ap, subst, arith}
use Rattle.std.proofs.lemmas.Bool.{true≢false}
use Rattle.link_base.specs.declared.names.PortName.TheVariants.{Uu}
use Rattle.link_base.specs.declared.names.Side.{Side}
use Rattle.link_base.specs.declared.names.Side.TheVariants.{Low, High}
use Rattle.link_base.specs.declared.names.SnSize.{SnSize}
use Rattle.link_base.specs.declared.names.SnSize.TheVariants.{S12, S18}
use Rattle.link_base.specs.declared.names.Timer.{Timer}
use Rattle.link_base.specs.declared.names.Timer.TheVariants.{Poll, Prohibit}
use Rattle.link_base.specs.declared.names.Way.{Way}
use Rattle.link_base.specs.declared.rlc_words.Expired.{Expired}
use Rattle.link_base.specs.declared.rlc_words.Expired.TheVariants.{Done, Marked, Stopped}
use Rattle.rlc_pdu.specs.Amd.{Amd as AmdPdu, IsAmd, amd_bytes}
use Rattle.rlc_pdu.proofs.Spelling.{reads_back}
use Rattle.rlc_status.specs.declared.status.Status.{Status as StatusPdu}
use Rattle.rlc_status.specs.Format.{IsStatus, status_bytes}
use Rattle.rlc_status.proofs.Spelling.{plain, is_free}
use Rattle.rlc_status.proofs.Unique.{one_reading}
use Rattle.rlc_model.specs.declared.hop.HopGrant.{HopGrant}
use Rattle.rlc_model.specs.declared.hop.HopGrant.TheVariants.{Sent, Idle, Small}
use Rattle.rlc_model.specs.declared.hop.HopHeard.{HopHeard}
use Rattle.rlc_model.specs.declared.hop.HopHeard.TheVariants.{Amd, Status, BadAmd, BadStatus}
use Rattle.rlc_model.specs.declared.hop.Move.{Move}
use Rattle.rlc_model.specs.Hop.{sent_from, GrantsHop, HearsHop, ExpiresHop}
use Rattle.rlc_model.specs.Made.{WritesStatus}
use Rattle.rlc_model.specs.Retransmission.{HearsStatus, ExpiresPoll}
use Rattle.rlc_model.specs.Rx.{Rx, status_due, Hears}
use Rattle.rlc_model.specs.Sides.{flip, across, way_from, sender_of, hearer_of, Entity}
use Rattle.rlc_model.specs.Tx.{Tx, header, unconfirmed, PendingWaits, UnsentWaits, Sends}
use Rattle.rlc_law.specs.Hop.{Hop, Event, Grant as GrantEvent, Reaches}
use Rattle.rlc_law.specs.Hop as events
use Rattle.rlc_law.specs.Ports.{Port, hop_of, ReachesPort, tx_of, rx_of, IsSide, MovesSide}
use Rattle.rlc_law.specs.PortLaws.{SendsMade, HearLeaves}
use Rattle.rlc_law.proofs.Hearing.{hear_moves}
use Rattle.rlc_law.proofs.Inductive.{reaches_inv}
use Rattle.rlc_law.proofs.Lists.{contains_here}
use Rattle.rlc_law.proofs.Moving.{moves_on, grant_moves, expire_moves, fresh_when_made, rx_across, tx_across}
use Rattle.rlc_law.proofs.Runs.{reaches_more}
use Rattle.rlc_law.proofs.Safety.{sends_pieces, makes_true}
use Rattle.rlc_rest.specs.Moves.{NothingWaits, WayMove, sends, makes_status, prohibits, polls, up, down, left, AreSides, Falls, IsPdu, GrantFalls, ExpiryFalls, MoveLeaves, MoveFalls}
use Rattle.rlc_rest.specs.Rest.{rest}
use Rattle.rlc_rest.proofs.Bounds.{some_unconfirmed}
use Rattle.rlc_rest.proofs.Choosing.{poll_runs}
use Rattle.rlc_rest.proofs.Pdus.{data_falls}
use Rattle.rlc_rest.proofs.Statuses.{status_falls}
use Rattle.rlc_rest.proofs.Timers.{poll_falls, prohibit_falls}

---- the sides of a port

twice_across : (side : Side) → across (across side) ≡ side
twice_across Low = refl
twice_across High = refl

sender_is : (side : Side) → sender_of (way_from side) ≡ side
sender_is Low = refl
sender_is High = refl

hearer_is : (side : Side) → hearer_of (way_from side) ≡ across side
hearer_is Low = refl
hearer_is High = refl

back_is : (side : Side) → sender_of (flip (way_from side)) ≡ across side
back_is Low = refl
back_is High = refl

---- a grant, and the PDU heard at once

-- a data PDU is heard as one, a STATUS PDU as one
abbrev IsAlike : Bool → HopHeard → Type 0
IsAlike false (Amd answer) = Unit {0}
IsAlike true (Status answer) = Unit {0}
IsAlike status heard = ⊥

alike_pdu : (status : Bool) (heard : HopHeard) → IsAlike status heard → IsPdu heard
alike_pdu false (Amd answer) fine = tt
alike_pdu true (Status answer) fine = tt
alike_pdu true (Amd answer) fine = tt
alike_pdu false (Status answer) fine = tt
alike_pdu true (BadAmd fault) fine = absurd fine
alike_pdu false (BadAmd fault) fine = absurd fine
alike_pdu true (BadStatus fault) fine = absurd fine
alike_pdu false (BadStatus fault) fine = absurd fine

module _ (port : Port) (reaches : ReachesPort port) (entities : Side → Entity) (are : AreSides port entities) (side : Side) (n : ℕ) where
  abbrev tx0 : Tx
  tx0 = (entities side).tx

  abbrev rx0 : Rx
  rx0 = (entities side).rx

  abbrev far_tx0 : Tx
  far_tx0 = (entities (across side)).tx

  abbrev far_rx0 : Rx
  far_rx0 = (entities (across side)).rx

  -- what the other side has, it has of the two hops
  far_rx_is : far_rx0 ≡ (hop_of port (way_from side)).rx
  far_rx_is = (are (across side)).its_rx ∙ rx_across port side

  far_tx_is : far_tx0 ≡ (hop_of port (flip (way_from side))).tx
  far_tx_is = (are (across side)).its_tx ∙ tx_across port side

  -- a port that has what was left at both sides
  record Lands (tx : Tx) (rx : Rx) (far_tx : Tx) (far_rx : Rx) : Type 0 where
    behind : Port
    goes : ReachesPort behind
    here : IsSide behind side tx rx
    there : IsSide behind (across side) far_tx far_rx

  -- the other side moves behind the first one
  then_moves : (mid : Port) (tx : Tx) (rx : Rx) → ReachesPort mid → IsSide mid side tx rx → (way : Way) (event : Event) (far_tx : Tx) (far_rx : Rx) (behind : Port) → MovesSide mid (hearer_of (way_from side)) way event far_tx far_rx behind → Lands tx rx far_tx far_rx
  then_moves mid tx rx goes was way event far_tx far_rx behind m = record {
    behind = behind;
    goes = (moves_on mid way event behind m.moves).0 goes;
    here =
        let same = subst (λ (s : Side). IsSide behind s (tx_of mid s) (rx_of mid s)) (ap across (hearer_is side) ∙ twice_across side) m.there in
        record { its_tx = was.its_tx ∙ same.its_tx; its_rx = was.its_rx ∙ same.its_rx };
    there = subst (λ (s : Side). IsSide behind s far_tx far_rx) (hearer_is side) m.here;
  }

  -- the PDU of a grant is heard as what it is
  lands : (status : Bool) (number : ℕ) (bytes : List ℕ) (tx : Tx) (rx : Rx) → GrantsHop tx0 rx0 n (Sent status number bytes) tx rx → (heard : HopHeard) (far_tx : Tx) (far_rx : Rx) → HearsHop far_tx0 far_rx0 bytes heard far_tx far_rx
      → IsAlike status heard × Lands tx rx far_tx far_rx
  lands status number bytes tx rx g heard far_tx far_rx h = go status s.behind goes s.moves.here heard
      (hear_moves s.behind goes (sent_from (Uu (record { 0 = 1 })) side 0 status number bytes) s.made far_tx0 far_rx0
      (subst (λ (s1 : Side). IsSide s.behind s1 far_tx0 far_rx0) (sym (hearer_is side)) there) (Some 0)
      (fresh_when_made port reaches side tx0 rx0 (are side) far_tx0 far_rx0 (are (across side)) n status number bytes tx rx g (Uu (record { 0 = 1 })) 0) heard far_tx far_rx h)
    where
      s : SendsMade port side n status number bytes tx rx
      s = grant_moves port side tx0 rx0 (are side) n (Sent status number bytes) tx rx g

      there : IsSide s.behind (across side) far_tx0 far_rx0
      there = record { its_tx = (are (across side)).its_tx ∙ s.moves.there.its_tx; its_rx = (are (across side)).its_rx ∙ s.moves.there.its_rx }

      goes : ReachesPort s.behind
      goes = (moves_on port _ _ s.behind s.moves.moves).0 reaches

      go : (kind : Bool) (mid : Port) → ReachesPort mid → IsSide mid side tx rx → (heard : HopHeard) → HearLeaves mid (way_from side) kind number bytes heard far_tx far_rx → IsAlike kind heard × Lands tx rx far_tx far_rx
      go false mid goes was (Amd answer) x = (tt, then_moves mid tx rx goes was _ _ far_tx far_rx x.behind x.moves)
      go true mid goes was (Status answer) x = (tt, then_moves mid tx rx goes was _ _ far_tx far_rx x.behind x.moves)
      go true mid goes was (Amd answer) x = absurd x
      go false mid goes was (Status answer) x = absurd x
      go true mid goes was (BadAmd fault) x = absurd x
      go false mid goes was (BadAmd fault) x = absurd x
      go true mid goes was (BadStatus fault) x = absurd x
      go false mid goes was (BadStatus fault) x = absurd x

  -- less is left once the PDU is heard, where less is left of the two ways together
  falls_by : (tx : Tx) (rx : Rx) (far_tx : Tx) (far_rx : Rx) → Lands tx rx far_tx far_rx → left tx rx far_tx far_rx < left tx0 rx0 far_tx0 far_rx0 → Falls entities side tx rx far_tx far_rx
  falls_by tx rx far_tx far_rx l less = record { behind = l.behind; reaches = l.goes; here = l.here; there = l.there; falls = less }

  -- a data PDU
  module _ (number : ℕ) (bytes : List ℕ) (v : AmdPdu) (tx : Tx) (octets : bytes ≡ amd_bytes tx0.size v) (s : Sends tx0 n number v tx) where
    abbrev fore : Hop
    fore = hop_of port (way_from side)

    abbrev fore1 : Hop
    fore1 = record fore { tx = tx; pdus = record { number = number; view = v } ∷ fore.pdus }

    sent : Sends fore.tx n number v tx
    sent = subst (λ (t : Tx). Sends t n number v tx) (are side).its_tx s

    run1 : Reaches fore1
    run1 = reaches_more fore (GrantEvent n) fore1 (reaches (way_from side)) (events.sends number v tx sent)

    -- it is read as it was sent
    read_as : (pdu : AmdPdu) → IsAmd far_rx0.size pdu bytes → pdu ≡ v
    read_as pdu read =
        let size : far_rx0.size ≡ tx.size = ap (λ (r : Rx). r.size) far_rx_is ∙ (reaches_inv fore (reaches (way_from side))).size ∙ sym sent.same.size in
        (reads_back tx.size v (sends_pieces fore1 run1 (record { number = number; view = v }) (contains_here (record { number = number; view = v }) fore.pdus)).3).2 pdu
        (subst (IsAmd tx.size pdu) (octets ∙ ap (λ (z : SnSize). amd_bytes z v) (sym s.same.size)) (subst (λ (z : SnSize). IsAmd z pdu bytes) size read))

    data_less : (rx : Rx) → rx ≡ rx0 → (heard : HopHeard) (far_tx : Tx) (far_rx : Rx) → IsAlike false heard → HearsHop far_tx0 far_rx0 bytes heard far_tx far_rx → left tx rx far_tx far_rx < left tx0 rx0 far_tx0 far_rx0
    data_less rx same (Amd answer) far_tx far_rx fine h =
        let less : rest tx far_rx < rest fore.tx fore.rx = data_falls fore (reaches (way_from side)) n number v tx answer far_rx sent
        (subst (λ (r : Rx). Hears r v answer far_rx) far_rx_is (subst (λ (w : AmdPdu). Hears far_rx0 w answer far_rx) (read_as h.1 h.2) h.3)) in
        omega (arith, less, ap (rest tx0) far_rx_is, ap (λ (t : Tx). rest t fore.rx) (are side).its_tx, ap (λ (t : Tx). rest t rx) h.4, ap (rest far_tx0) same)
    data_less rx same (Status answer) far_tx far_rx fine h = absurd fine
    data_less rx same (BadAmd fault) far_tx far_rx fine h = absurd fine
    data_less rx same (BadStatus fault) far_tx far_rx fine h = absurd fine

  -- a STATUS
  module _ (number : ℕ) (bytes : List ℕ) (s : StatusPdu) (rx : Rx) (octets : bytes ≡ status_bytes rx0.size s) (made : WritesStatus rx0 n number s rx) where
    abbrev back : Hop
    back = hop_of port (flip (way_from side))

    was_made : WritesStatus back.rx n number s rx
    was_made = subst (λ (r : Rx). WritesStatus r n number s rx) (are side).its_rx made

    -- it is read as it was made
    told_as : (status : StatusPdu) → IsStatus far_tx0.size status bytes → status ≡ s
    told_as status read =
        let size : back.rx.size ≡ far_tx0.size = (reaches_inv back (reaches (flip (way_from side)))).size ∙ sym (ap (λ (t : Tx). t.size) far_tx_is) in
        one_reading far_tx0.size status s bytes read
        (subst (λ (z : SnSize). IsStatus z s bytes) size (subst (IsStatus back.rx.size s) (sym (octets ∙ ap (λ (r : Rx). status_bytes r.size s) (are side).its_rx))
        (is_free back.rx.size s _ (plain back.rx.size s (makes_true back (reaches (flip (way_from side))) n number s rx was_made).1))))

    status_less : (tx : Tx) → tx ≡ tx0 → (heard : HopHeard) (far_tx : Tx) (far_rx : Rx) → IsAlike true heard → HearsHop far_tx0 far_rx0 bytes heard far_tx far_rx → left tx rx far_tx far_rx < left tx0 rx0 far_tx0 far_rx0
    status_less tx same (Status answer) far_tx far_rx fine h =
        let less : rest far_tx rx < rest back.tx back.rx = status_falls back (reaches (flip (way_from side))) n number s rx answer far_tx was_made
        (subst (λ (t : Tx). HearsStatus t s answer far_tx) far_tx_is (subst (λ (w : StatusPdu). HearsStatus far_tx0 w answer far_tx) (told_as h.1 h.2) h.3)) in
        omega (arith, less, ap (λ (t : Tx). rest t rx0) far_tx_is, ap (rest back.tx) (are side).its_rx, ap (rest tx) h.4, ap (λ (t : Tx). rest t far_rx0) same)
    status_less tx same (Amd answer) far_tx far_rx fine h = absurd fine
    status_less tx same (BadAmd fault) far_tx far_rx fine h = absurd fine
    status_less tx same (BadStatus fault) far_tx far_rx fine h = absurd fine

  -- the longest header and one byte have 6 octets
  header_few : (size : SnSize) (a : ℕ) → header size a ≤ 5
  header_few S12 a = few (nat_lt 0 a)
    where
      few : (b : Bool) → cond b 4 2 ≤ 5
      few true = omega arith
      few false = omega arith
  header_few S18 a = few (nat_lt 0 a)
    where
      few : (b : Bool) → cond b 5 3 ≤ 5
      few true = omega arith
      few false = omega arith

  pub grant_falls : 6 ≤ n → (status_due rx0 ≡ true) ⊎ PendingWaits tx0 ⊎ UnsentWaits tx0 → (answer : HopGrant) (tx : Tx) (rx : Rx) → GrantsHop tx0 rx0 n answer tx rx → GrantFalls entities side answer tx rx
  grant_falls wide some (Sent false number bytes) tx rx g = λ heard far_tx far_rx h.
      let l = lands false number bytes tx rx g heard far_tx far_rx h in
      (alike_pdu false heard l.0, falls_by tx rx far_tx far_rx l.1 (data_less number bytes g.1.0 tx g.1.1 g.1.2 rx g.2 heard far_tx far_rx l.0 h))
  grant_falls wide some (Sent true number bytes) tx rx g = λ heard far_tx far_rx h.
      let l = lands true number bytes tx rx g heard far_tx far_rx h in
      (alike_pdu true heard l.0, falls_by tx rx far_tx far_rx l.1 (status_less number bytes g.0 rx g.2 g.1 tx g.3 heard far_tx far_rx l.0 h))
  grant_falls wide (inl due) Idle tx rx g = absurd (true≢false (sym due ∙ g.0))
  grant_falls wide (inr (inl waits)) Idle tx rx g = absurd (g.1.0 waits)
  grant_falls wide (inr (inr waits)) Idle tx rx g = absurd (g.1.1 waits)
  grant_falls wide some (Small need) tx rx (inl g) = absurd (omega (arith, g.1.0, g.1.1, wide))
  grant_falls wide some (Small need) tx rx (inr g) = absurd (omega (arith, g.1.5, g.1.6, header_few tx0.size g.1.2, wide))

---- a timer

module _ (port : Port) (reaches : ReachesPort port) (entities : Side → Entity) (are : AreSides port entities) (side : Side) where
  -- where its way has less left
  expired_by : (way : Way) (event : Event) (tx : Tx) (rx : Rx) (behind : Port) → MovesSide port side way event tx rx behind
      → left tx rx (entities (across side)).tx (entities (across side)).rx < left (entities side).tx (entities side).rx (entities (across side)).tx (entities (across side)).rx → Falls entities side tx rx (entities (across side)).tx (entities (across side)).rx
  expired_by way event tx rx behind m less = record {
    behind = behind;
    reaches = (moves_on port way event behind m.moves).0 reaches;
    here = m.here;
    there = record { its_tx = (are (across side)).its_tx ∙ m.there.its_tx; its_rx = (are (across side)).its_rx ∙ m.there.its_rx };
    falls = less;
  }

  abbrev its_hop : Hop
  its_hop = hop_of port (way_from side)

  rx_is : (entities (across side)).rx ≡ its_hop.rx
  rx_is = (are (across side)).its_rx ∙ rx_across port side

  module _ (none : NothingWaits (entities side).tx) (some : 0 < unconfirmed (entities side).tx) where
    no_byte : NothingWaits its_hop.tx
    no_byte = subst NothingWaits (are side).its_tx none

    one_there : 0 < unconfirmed its_hop.tx
    one_there = subst (λ (t : Tx). 0 < unconfirmed t) (are side).its_tx some

    -- t-PollRetransmit of the side that sends
    poll_less : (entities (across side)).rx.status_triggered ≡ false → (marks : List ℕ) (tx : Tx) (rx : Rx) → ExpiresPoll (entities side).tx marks tx → rx ≡ (entities side).rx
        → left tx rx (entities (across side)).tx (entities (across side)).rx < left (entities side).tx (entities side).rx (entities (across side)).tx (entities (across side)).rx
    poll_less quiet marks tx rx x same =
        let less : rest tx its_hop.rx < rest its_hop.tx its_hop.rx = poll_falls its_hop (reaches (way_from side)) no_byte.pending no_byte.unsent (sym (ap (λ (r : Rx). r.status_triggered) rx_is) ∙ quiet) (some_unconfirmed its_hop.tx one_there) marks tx
        (subst (λ (t : Tx). ExpiresPoll t marks tx) (are side).its_tx x) in
        omega (arith, less, ap (rest tx) rx_is, ap (rest (entities side).tx) rx_is, ap (λ (t : Tx). rest t its_hop.rx) (are side).its_tx, ap (rest (entities (across side)).tx) same)

    pub poll_expiry : (entities (across side)).rx.status_triggered ≡ false → (expired : Expired) (tx : Tx) (rx : Rx) → ExpiresHop (entities side).tx (entities side).rx Poll expired tx rx → ExpiryFalls entities side expired tx rx
    poll_expiry quiet Done tx rx x = let m = expire_moves port side (entities side).tx (entities side).rx (are side) Poll Done tx rx x in expired_by _ _ tx rx m.0 m.1 (poll_less quiet _ tx rx x.0 x.1)
    poll_expiry quiet (Marked k) tx rx x = let m = expire_moves port side (entities side).tx (entities side).rx (are side) Poll (Marked k) tx rx x in expired_by _ _ tx rx m.0 m.1 (poll_less quiet _ tx rx x.0 x.1)
    poll_expiry quiet Stopped tx rx x = absurd (true≢false (sym (poll_runs its_hop (reaches (way_from side)) no_byte one_there) ∙ sym (ap (λ (t : Tx). t.poll_retransmit_runs) (are side).its_tx) ∙ x.0.0))

  -- t-StatusProhibit of the side that hears
  pub prohibit_expiry : (entities side).rx.status_triggered ≡ true → status_due (entities side).rx ≡ false → (expired : Expired) (tx : Tx) (rx : Rx) → ExpiresHop (entities side).tx (entities side).rx Prohibit expired tx rx → ExpiryFalls entities side expired tx rx
  prohibit_expiry triggered held Done tx rx x = let m = expire_moves port side (entities side).tx (entities side).rx (are side) Prohibit Done tx rx x in
      expired_by _ _ tx rx m.0 m.1 (omega (arith, prohibit_falls (entities (across side)).tx (entities side).rx rx x.0, ap (λ (t : Tx). rest t (entities (across side)).rx) x.1))
  prohibit_expiry triggered held (Marked k) tx rx x = absurd x.0
  prohibit_expiry triggered held Stopped tx rx x = absurd (true≢false (sym (ap (λ (b : Bool). b && not (entities side).rx.status_prohibit_runs) triggered ∙ ap not x.0.0) ∙ held))

---- the moves

module _ (port : Port) (reaches : ReachesPort port) (entities : Side → Entity) (are : AreSides port entities) (n : ℕ) (wide : 6 ≤ n) where
  -- what a grant at a side leaves, and what the expiry of a timer there
  abbrev Grants : Side → Type 0
  Grants side = (answer : HopGrant) (tx : Tx) (rx : Rx) → GrantsHop (entities side).tx (entities side).rx n answer tx rx → GrantFalls entities side answer tx rx

  abbrev Expires : Timer → Side → Type 0
  Expires timer side = (expired : Expired) (tx : Tx) (rx : Rx) → ExpiresHop (entities side).tx (entities side).rx timer expired tx rx → ExpiryFalls entities side expired tx rx

  -- of a side that sends and has an SDU unconfirmed
  way_falls : (side : Side) (move : Move) → 0 < unconfirmed (entities side).tx → WayMove (way_from side) (entities side).tx (entities (across side)).rx move → MoveLeaves entities n move
  way_falls side move some (sends waits) = subst Grants (sym (sender_is side)) (grant_falls port reaches entities are side n wide (inr waits))
  way_falls side move some (makes_status none due) = subst Grants (sym (back_is side)) (grant_falls port reaches entities are (across side) n wide (inl due))
  way_falls side move some (prohibits none triggered held) = subst (Expires Prohibit) (sym (hearer_is side)) (prohibit_expiry port reaches entities are (across side) triggered held)
  way_falls side move some (polls none quiet) = subst (Expires Poll) (sym (sender_is side)) (poll_expiry port reaches entities are side none some quiet)

pub move_falls : MoveFalls
move_falls port reaches entities are n wide move (up some moves) = way_falls port reaches entities are n wide Low move some moves
move_falls port reaches entities are n wide move (down none some moves) = way_falls port reaches entities are n wide High move some moves
