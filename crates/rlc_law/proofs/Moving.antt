-- The calls of a side of a port move one of its hops.
use Rattle.std.proofs.Common.{◌≡◌, inl, inr, ℕ, ◌-◌, ◌≤◌, Bool, true, false, List, [], ◌∷◌, Some, refl, sym, ◌∙◌, ap, subst, arith}
use Rattle.std.proofs.lemmas.List.Sums.{prefix_len-le-length}
use Rattle.link_base.specs.declared.names.Side.{Side}
use Rattle.link_base.specs.declared.names.Side.TheVariants.{Low, High}
use Rattle.link_base.specs.declared.names.SnSize.{SnSize}
use Rattle.link_base.specs.declared.names.Timer.TheVariants.{Poll, Reasm, Prohibit}
use Rattle.link_base.specs.declared.names.Way.{Way}
use Rattle.link_base.specs.declared.names.Way.TheVariants.{Ul, Dl}
use Rattle.link_base.specs.declared.rlc_words.Expired.TheVariants.{Done, Marked, Stopped}
use Rattle.rlc_pdu.specs.Amd.{Amd, amd_bytes}
use Rattle.rlc_status.specs.declared.status.Status.{Status}
use Rattle.rlc_status.specs.Format.{status_bytes}
use Rattle.rlc_model.specs.declared.hop.HopGrant.TheVariants.{Sent, Idle, Small}
use Rattle.rlc_model.specs.Air.{IsFresh}
use Rattle.rlc_model.specs.Hop.{sent_from}
use Rattle.rlc_model.specs.Made.{WritesStatus}
use Rattle.rlc_model.specs.Retransmission.{ExpiresPoll}
use Rattle.rlc_model.specs.Rx.{Rx, is_done, rx_next, ExpiresReassembly, ExpiresProhibit}
use Rattle.rlc_model.specs.Sides.{flip, across, way_from}
use Rattle.rlc_model.specs.Tx.{Tx, tx_next_ack, Gives, Sends}
use Rattle.rlc_law.specs.Hop.{Hop, Event, Give, Grant, GrantStatus, ExpirePoll, ExpireReassembly, ExpireProhibit, Happens, gives, sends, makes_status, expires_poll, expires_reassembly, expires_prohibit, Reaches}
use Rattle.rlc_law.specs.Ports.{Port, hop_of, ReachesPort, tx_of, rx_of, IsSide, SpellsData, SpellsStatus, HasMade, Moves, MovesSide}
use Rattle.rlc_law.specs.PortLaws.{MovesOn, SendsMade, GrantMoves, FreshWhenMade, GiveMoves, ExpireMoves}
use Rattle.rlc_law.proofs.Base.{at_rx_next, next_ack_le, below_next_ack, window_pos}
use Rattle.rlc_law.proofs.Fresh.{data_fresh, status_fresh, passes_fresh}
use Rattle.rlc_law.proofs.Grant.{next_was}
use Rattle.rlc_law.proofs.Inductive.{reaches_inv}
use Rattle.rlc_law.proofs.Invariant.{Invariant}
use Rattle.rlc_law.proofs.Lists.{contains_here}
use Rattle.rlc_law.proofs.Receiver.{next_le_status}
use Rattle.rlc_law.proofs.Runs.{reaches_more}
use Rattle.rlc_law.proofs.Sized.{Grown, happens_grown}
use Rattle.rlc_law.proofs.Truth.{writes_le}
use Rattle.std.proofs.lemmas.Bool.{cases_lt}

-- the port whose hop of this way is another one
abbrev pub with_hop : Port → Way → Hop → Port
with_hop port Ul hop = record { up = hop; down = port.down }
with_hop port Dl hop = record { up = port.up; down = hop }

pub at_way : (port : Port) (way : Way) (hop : Hop) → hop_of (with_hop port way hop) way ≡ hop
at_way port Ul hop = refl
at_way port Dl hop = refl

-- a side's transmitter moves with the hop on which it sends
pub moves_tx : (port : Port) (side : Side) (event : Event) (hop : Hop) (rx : Rx) → Happens (hop_of port (way_from side)) event hop → hop.rx ≡ (hop_of port (way_from side)).rx → rx ≡ rx_of port side
    → MovesSide port side (way_from side) event hop.tx rx (with_hop port (way_from side) hop)
moves_tx port Low event hop rx happens same is = record { moves = record { happens = happens; other = refl }; here = record { its_tx = refl; its_rx = is }; there = record { its_tx = refl; its_rx = sym same } }
moves_tx port High event hop rx happens same is = record { moves = record { happens = happens; other = refl }; here = record { its_tx = refl; its_rx = is }; there = record { its_tx = refl; its_rx = sym same } }

-- and its receiver with the other hop
pub moves_rx : (port : Port) (side : Side) (event : Event) (hop : Hop) (tx : Tx) → Happens (hop_of port (flip (way_from side))) event hop → hop.tx ≡ (hop_of port (flip (way_from side))).tx → tx ≡ tx_of port side
    → MovesSide port side (flip (way_from side)) event tx hop.rx (with_hop port (flip (way_from side)) hop)
moves_rx port Low event hop tx happens same is = record { moves = record { happens = happens; other = refl }; here = record { its_tx = is; its_rx = refl }; there = record { its_tx = sym same; its_rx = refl } }
moves_rx port High event hop tx happens same is = record { moves = record { happens = happens; other = refl }; here = record { its_tx = is; its_rx = refl }; there = record { its_tx = sym same; its_rx = refl } }

---- what a move keeps

-- what holds of the hop of a way and of the other one holds of both
both : (P : Way → Type 0) (way : Way) → P way → P (flip way) → (to : Way) → P to
both P Ul this that Ul = this
both P Ul this that Dl = that
both P Dl this that Ul = that
both P Dl this that Dl = this

-- the sizes and what was made stay in both
pub both_grown : (old : Port) (way : Way) (event : Event) (new : Port) → Moves old way event new → (to : Way) → Grown (hop_of old to) (hop_of new to)
both_grown old way event new m = both (λ to. Grown (hop_of old to) (hop_of new to)) way (happens_grown (hop_of old way) event (hop_of new way) m.happens)
    (subst (Grown (hop_of old (flip way))) (sym m.other) (record { tx_size = refl; rx_size = refl; pdus = λ d a. a; statuses = λ t a. a }))

pub moves_on : MovesOn
moves_on old way event new m = (reaches, made)
  where
    reaches : ReachesPort old → ReachesPort new
    reaches was = both (λ to. Reaches (hop_of new to)) way (reaches_more (hop_of old way) event (hop_of new way) (was way) m.happens) (subst Reaches (sym m.other) (was (flip way)))

    made : (to : Way) (status : Bool) (number : ℕ) (bytes : List ℕ) → HasMade old to status number bytes → HasMade new to status number bytes
    made to false number bytes h = let g = both_grown old way event new m to in (h.0, h.1, record { among = g.pdus h.0 h.2.among; octets = h.2.octets ∙ ap (λ (z : SnSize). amd_bytes z h.0.view) (sym g.tx_size) })
    made to true number bytes h = let g = both_grown old way event new m (flip to) in (h.0, h.1, record { among = g.statuses h.0 h.2.among; octets = h.2.octets ∙ ap (λ (z : SnSize). status_bytes z h.0.status) (sym g.rx_size) })

---- a grant

module _ (port : Port) (side : Side) (tx : Tx) (rx : Rx) (is : IsSide port side tx rx) (n number : ℕ) (bytes : List ℕ) where
  abbrev fore : Hop
  fore = hop_of port (way_from side)

  abbrev back : Hop
  back = hop_of port (flip (way_from side))

  data_moves : (v : Amd) (tx' : Tx) (rx' : Rx) → bytes ≡ amd_bytes tx.size v → Sends tx n number v tx' → rx' ≡ rx → SendsMade port side n false number bytes tx' rx'
  data_moves v tx' rx' octets s same = record {
    behind = with_hop port (way_from side) hop;
    moves = moves_tx port side (Grant n) hop rx' (sends number v tx' (subst (λ (t : Tx). Sends t n number v tx') is.its_tx s)) refl (same ∙ is.its_rx);
    made = (
      record { number = number; view = v },
      refl,
      subst (λ (h : Hop). SpellsData h (record { number = number; view = v }) bytes) (sym (at_way port (way_from side) hop))
          (record { among = contains_here (record { number = number; view = v }) fore.pdus; octets = octets ∙ ap (λ (z : SnSize). amd_bytes z v) (sym s.same.size) }),
    );
  }
    where
      hop : Hop
      hop = record fore { tx = tx'; pdus = record { number = number; view = v } ∷ fore.pdus }

  status_moves : (s : Status) (tx' : Tx) (rx' : Rx) → bytes ≡ status_bytes rx.size s → WritesStatus rx n number s rx' → tx' ≡ tx → SendsMade port side n true number bytes tx' rx'
  status_moves s tx' rx' octets r same = record {
    behind = with_hop port (flip (way_from side)) hop;
    moves = moves_rx port side (GrantStatus n) hop tx' (makes_status number s rx' (subst (λ (y : Rx). WritesStatus y n number s rx') is.its_rx r)) refl (same ∙ is.its_tx);
    made = (
      record { ack = number; status = s },
      refl,
      subst (λ (h : Hop). SpellsStatus h (record { ack = number; status = s }) bytes) (sym (at_way port (flip (way_from side)) hop))
          (record { among = contains_here (record { ack = number; status = s }) back.statuses; octets = octets ∙ ap (λ (z : SnSize). status_bytes z s) (sym (ap (λ (r : Rx). r.size) r.after)) }),
    );
  }
    where
      hop : Hop
      hop = record back { rx = rx'; statuses = record { ack = number; status = s } ∷ back.statuses }

pub grant_moves : GrantMoves
grant_moves port side tx rx is n (Sent false number bytes) tx' rx' g = data_moves port side tx rx is n number bytes g.1.0 tx' rx' g.1.1 g.1.2 g.2
grant_moves port side tx rx is n (Sent true number bytes) tx' rx' g = status_moves port side tx rx is n number bytes g.0 tx' rx' g.2 g.1 g.3
grant_moves port side tx rx is n Idle tx' rx' g = record { its_tx = g.1.2 ∙ is.its_tx; its_rx = g.2 ∙ is.its_rx }
grant_moves port side tx rx is n (Small need) tx' rx' (inl g) = record { its_tx = g.2 ∙ is.its_tx; its_rx = g.1.2 ∙ is.its_rx }
grant_moves port side tx rx is n (Small need) tx' rx' (inr g) = record { its_tx = g.1.7 ∙ is.its_tx; its_rx = g.2 ∙ is.its_rx }

---- what was just made is fresh

-- a data PDU at the receiver of its hop
pub fresh_sent : (h : Hop) → Reaches h → (n m : ℕ) (v : Amd) (t : Tx) → Sends h.tx n m v t → IsFresh h.rx.size false m (rx_next h.rx)
fresh_sent h run n m v t s =
    let inv = reaches_inv h run in
    subst (λ (z : SnSize). IsFresh z false m (rx_next h.rx)) (sym inv.size) (data_fresh h.tx.size m (rx_next h.rx)
    (omega (arith, prefix_len-le-length is_done h.rx.received, inv.rx.long, inv.tx.long, inv.tx.within m s.kept (next_was h.tx m s.kept s.a s.b s.next))))

-- TX_Next_Ack is at most RX_Next
pub next_ack_le_rx_next : (h : Hop) → Invariant h → tx_next_ack h.tx ≤ rx_next h.rx
next_ack_le_rx_next h inv = elim (cases_lt (rx_next h.rx) (tx_next_ack h.tx)) [
  | inl lt ↦ absurd (at_rx_next h.rx (inv.confirms (rx_next h.rx) (omega (arith, next_ack_le h.tx)) (below_next_ack h.tx (rx_next h.rx) lt)))
  | inr le ↦ le
]

-- the ACK of a STATUS is from TX_Next_Ack on
pub made_from : (h : Hop) → Reaches h → (n a : ℕ) (s : Status) (r : Rx) → WritesStatus h.rx n a s r → tx_next_ack h.tx ≤ a
made_from h run n a s r made =
    let inv = reaches_inv h run in
    omega (arith, next_ack_le_rx_next h inv, (writes_le h.rx inv.sound.parts (n - 3) (rx_next h.rx) s.nacks a (next_le_status h.rx inv.sound) made.writes).0)

-- so it is fresh at the transmitter of its hop
pub fresh_reported : (h : Hop) → Reaches h → (n a : ℕ) (s : Status) (r : Rx) → WritesStatus h.rx n a s r → IsFresh h.tx.size true a (tx_next_ack h.tx)
fresh_reported h run n a s r made = status_fresh h.tx.size a (tx_next_ack h.tx) (omega (arith, made_from h run n a s r made, window_pos h.tx.size))

-- the receiver that hears what a side sends is that of its hop
pub rx_across : (port : Port) (side : Side) → rx_of port (across side) ≡ (hop_of port (way_from side)).rx
rx_across port Low = refl
rx_across port High = refl

-- and the transmitter that hears its STATUS is that of the other hop
pub tx_across : (port : Port) (side : Side) → tx_of port (across side) ≡ (hop_of port (flip (way_from side))).tx
tx_across port Low = refl
tx_across port High = refl

pub fresh_when_made : FreshWhenMade
fresh_when_made port run side tx rx is far_tx far_rx far n false number bytes tx' rx' g name epoch =
    (passes_fresh far_rx.size (sent_from name side epoch false number bytes) (Some epoch) (rx_next far_rx)).1 (
      refl,
      subst (λ (r : Rx). IsFresh r.size false number (rx_next r)) (sym (far.its_rx ∙ rx_across port side))
          (fresh_sent (hop_of port (way_from side)) (run (way_from side)) n number g.1.0 tx' (subst (λ (t : Tx). Sends t n number g.1.0 tx') is.its_tx g.1.2)),
    )
fresh_when_made port run side tx rx is far_tx far_rx far n true number bytes tx' rx' g name epoch =
    (passes_fresh far_tx.size (sent_from name side epoch true number bytes) (Some epoch) (tx_next_ack far_tx)).1 (
      refl,
      subst (λ (t : Tx). IsFresh t.size true number (tx_next_ack t)) (sym (far.its_tx ∙ tx_across port side))
          (fresh_reported (hop_of port (flip (way_from side))) (run (flip (way_from side))) n number g.0 rx' (subst (λ (r : Rx). WritesStatus r n number g.0 rx') is.its_rx g.1)),
    )

---- an SDU is given, or a timer runs out

pub give_moves : GiveMoves
give_moves port side tx rx is tag sdu number tx' some small g = (_, moves_tx port side (Give tag sdu) _ rx (gives number tx' some small (subst (λ (t : Tx). Gives t tag sdu number tx') is.its_tx g)) refl is.its_rx)

module _ (port : Port) (side : Side) (tx : Tx) (rx : Rx) (is : IsSide port side tx rx) (tx' : Tx) (rx' : Rx) where
  poll_expires : (marks : List ℕ) → ExpiresPoll tx marks tx' → rx' ≡ rx → (behind : Port) × MovesSide port side (way_from side) ExpirePoll tx' rx' behind
  poll_expires marks x same = (_, moves_tx port side ExpirePoll _ rx' (expires_poll marks tx' (subst (λ (t : Tx). ExpiresPoll t marks tx') is.its_tx x)) refl (same ∙ is.its_rx))

  reassembly_expires : ExpiresReassembly rx rx' → tx' ≡ tx → (behind : Port) × MovesSide port side (flip (way_from side)) ExpireReassembly tx' rx' behind
  reassembly_expires x same = (_, moves_rx port side ExpireReassembly _ tx' (expires_reassembly rx' (subst (λ (r : Rx). ExpiresReassembly r rx') is.its_rx x)) refl (same ∙ is.its_tx))

  prohibit_expires : ExpiresProhibit rx rx' → tx' ≡ tx → (behind : Port) × MovesSide port side (flip (way_from side)) ExpireProhibit tx' rx' behind
  prohibit_expires x same = (_, moves_rx port side ExpireProhibit _ tx' (expires_prohibit rx' (subst (λ (r : Rx). ExpiresProhibit r rx') is.its_rx x)) refl (same ∙ is.its_tx))

pub expire_moves : ExpireMoves
expire_moves port side tx rx is Poll Done tx' rx' x = poll_expires port side tx rx is tx' rx' [] x.0 x.1
expire_moves port side tx rx is Poll (Marked k) tx' rx' x = poll_expires port side tx rx is tx' rx' (k ∷ []) x.0 x.1
expire_moves port side tx rx is Poll Stopped tx' rx' x = record { its_tx = x.0.1 ∙ is.its_tx; its_rx = x.1 ∙ is.its_rx }
expire_moves port side tx rx is Reasm Done tx' rx' x = reassembly_expires port side tx rx is tx' rx' x.0 x.1
expire_moves port side tx rx is Reasm (Marked k) tx' rx' x = absurd x.0
expire_moves port side tx rx is Reasm Stopped tx' rx' x = record { its_tx = x.1 ∙ is.its_tx; its_rx = x.0.1 ∙ is.its_rx }
expire_moves port side tx rx is Prohibit Done tx' rx' x = prohibit_expires port side tx rx is tx' rx' x.0 x.1
expire_moves port side tx rx is Prohibit (Marked k) tx' rx' x = absurd x.0
expire_moves port side tx rx is Prohibit Stopped tx' rx' x = record { its_tx = x.1 ∙ is.its_tx; its_rx = x.0.1 ∙ is.its_rx }
