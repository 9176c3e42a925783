-- A side that is granted a PDU, and a timer that runs out, have one outcome.
use Rattle.std.proofs.Common.{◌≡◌, ◌⊎◌, inl, inr, ℕ, Bool, true, false, List, [], ◌∷◌, length, Option, Some, None, refl, sym, ◌∙◌, ap, subst, arith}
use Rattle.std.proofs.lemmas.Bool.{false≢true}
use Rattle.std.proofs.lemmas.Option.{none-some}
use Rattle.link_base.specs.declared.names.PortName.{PortName}
use Rattle.link_base.specs.declared.names.SnSize.{SnSize}
use Rattle.link_base.specs.declared.names.Timer.{Timer}
use Rattle.link_base.specs.declared.names.Timer.TheVariants.{Poll, Reasm, Prohibit}
use Rattle.link_base.specs.declared.rlc_words.Expired.{Expired}
use Rattle.link_base.specs.declared.rlc_words.Expired.TheVariants as expiry
use Rattle.rlc_status.specs.Format.{status_bytes}
use Rattle.rlc_model.specs.declared.hop.HopGrant.{HopGrant}
use Rattle.rlc_model.specs.declared.hop.HopGrant.TheVariants as hop
use Rattle.rlc_model.specs.declared.receiver.Made.{Made}
use Rattle.rlc_model.specs.declared.receiver.Made.TheVariants as made
use Rattle.rlc_model.specs.declared.transmitter.TxGrant.{TxGrant}
use Rattle.rlc_model.specs.declared.transmitter.TxGrant.TheVariants as sent
use Rattle.rlc_model.specs.Tx.{Tx, Grants}
use Rattle.rlc_model.specs.Rx.{Rx, status_due}
use Rattle.rlc_model.specs.Made.{Makes}
use Rattle.rlc_model.specs.Retransmission.{ExpiresPoll}
use Rattle.rlc_model.specs.Calls.{ExpiresPollAs, ExpiresReassemblyAs, ExpiresProhibitAs}
use Rattle.rlc_model.specs.Sides.{Entity}
use Rattle.rlc_model.specs.Hop.{GrantsHop, ExpiresHop}
use Rattle.rlc_law.specs.Receiver.{IsSound}
use Rattle.rlc_law.proofs.OneReport.{one_report}
use Rattle.rlc_law.proofs.OneTransmitter.{one_grant}
use Rattle.rlc_law.proofs.OneReceiver.{one_reassembly_expiry}
use Rattle.rlc_law.proofs.OneStatus.{one_poll_expiry}
use Rattle.node_model.specs.declared.answers.PortGrant.TheVariants.{NoPort, Hop}
use Rattle.node_model.specs.State.{PortSide, Node, entity_of, entity_at, set_entity}
use Rattle.node_model.specs.Sides.{IsOpen}
use Rattle.node_law.specs.OneOutcome.{OnePortGrant, OnePortExpiry}
use Rattle.node_law.proofs.Relaying.{one_side}

-- what a side answers with a STATUS, and with a grant of its transmitter
abbrev with_status : SnSize → Made → HopGrant
with_status size (made.Full status number) = hop.Sent true number (status_bytes size status)
with_status size (made.Small need) = hop.Small need

abbrev with_grant : TxGrant → HopGrant
with_grant (sent.Sent number bytes) = hop.Sent false number bytes
with_grant sent.Idle = hop.Idle
with_grant (sent.Small need) = hop.Small need

-- a side sends a STATUS where one is due, else what its transmitter sends
grant_ways : (tx : Tx) (rx : Rx) (n : ℕ) (a : HopGrant) (tx' : Tx) (rx' : Rx) → GrantsHop tx rx n a tx' rx'
    → ((x : Made) × (status_due rx ≡ true) × Makes rx n x rx' × (tx' ≡ tx) × (a ≡ with_status rx.size x)) ⊎
    ((x : TxGrant) × (status_due rx ≡ false) × Grants tx n x tx' × (rx' ≡ rx) × (a ≡ with_grant x))
grant_ways tx rx n (hop.Sent true number bytes) tx' rx' p = inl (made.Full p.0 number, p.1.due, p.1, p.3, ap (λ (x : List ℕ). hop.Sent true number x) p.2)
grant_ways tx rx n (hop.Sent false number bytes) tx' rx' p = inr (sent.Sent number bytes, p.0, p.1, p.2, refl)
grant_ways tx rx n hop.Idle tx' rx' p = inr (sent.Idle, p.0, p.1, p.2, refl)
grant_ways tx rx n (hop.Small need) tx' rx' (inl p) = inl (made.Small need, p.0, p.1, p.2, refl)
grant_ways tx rx n (hop.Small need) tx' rx' (inr p) = inr (sent.Small need, p.0, p.1, p.2, refl)

-- so a grant has one outcome
pub one_hop_grant : (tx : Tx) (rx : Rx) → IsSound rx → (n : ℕ) (a b : HopGrant) (tx' tx'' : Tx) (rx' rx'' : Rx) → GrantsHop tx rx n a tx' rx' → GrantsHop tx rx n b tx'' rx''
    → (a ≡ b) × (tx' ≡ tx'') × (rx' ≡ rx'')
one_hop_grant tx rx sound n a b tx' tx'' rx' rx'' p q = elim (grant_ways tx rx n a tx' rx' p) [
  | inl x ↦ elim (grant_ways tx rx n b tx'' rx'' q) [
    | inl y ↦ let same = one_report rx sound n x.0 y.0 rx' rx'' x.2 y.2 in (x.4 ∙ ap (with_status rx.size) same.0 ∙ sym y.4, x.3 ∙ sym y.3, same.1)
    | inr y ↦ absurd (false≢true (sym y.1 ∙ x.1))
  ]
  | inr x ↦ elim (grant_ways tx rx n b tx'' rx'' q) [
    | inl y ↦ absurd (false≢true (sym x.1 ∙ y.1))
    | inr y ↦ let same = one_grant tx n x.0 y.0 tx' tx'' x.2 y.2 in (x.4 ∙ ap with_grant same.0 ∙ sym y.4, same.1, x.3 ∙ sym y.3)
  ]
]

-- the node whose side has this entity with these two
abbrev with_hop : Node → PortSide → Entity → Tx → Rx → Node
with_hop n side entity tx rx = set_entity n side (record entity { tx = tx; rx = rx })

-- two such nodes are the same where all of this is
same_node : (n : Node) (s r : PortSide) → s ≡ r → (e f : Entity) → e ≡ f → (t u : Tx) → t ≡ u → (x y : Rx) → x ≡ y → with_hop n s e t x ≡ with_hop n r f u y
same_node n s r side e f entity t u tx x y rx =
    ap (λ (z : PortSide). with_hop n z e t x) side ∙ ap (λ (z : Entity). with_hop n r z t x) entity ∙ ap (λ (z : Tx). with_hop n r f z x) tx ∙ ap
    (λ (z : Rx). with_hop n r f u z) rx

-- an open port isn't closed
not_closed : {A : Type 0} (n : Node) (port : PortName) (s : PortSide) (e : Entity) → IsOpen n port s e → entity_at n port ≡ None → A
not_closed n port s e is_open none = absurd
    (none-some e (sym none ∙ ap (λ (o : Option PortSide). Rattle.std.proofs.Common.option_and_then entity_of o) is_open.here ∙ is_open.is_open))

pub one_port_grant : OnePortGrant
one_port_grant old sound port octets NoPort NoPort m n p q = (refl, p.1 ∙ sym q.1)
one_port_grant old sound port octets NoPort (Hop epoch b) m n p q = not_closed old port q.side q.entity q.its p.0
one_port_grant old sound port octets (Hop epoch a) NoPort m n p q = not_closed old port p.side p.entity p.its q.0
one_port_grant old sound port octets (Hop epoch a) (Hop epoch' b) m n p q =
    let is_open = one_side old port p.side q.side p.entity q.entity p.its q.its in
    let same = one_hop_grant q.entity.tx q.entity.rx (sound port q.side q.entity q.its) octets a b p.tx q.tx p.rx q.rx
    (subst (λ (e : Entity). GrantsHop e.tx e.rx octets a p.tx p.rx) is_open.1 p.grants) q.grants in
    let epochs : epoch ≡ epoch' = p.its_epoch ∙ ap (λ (e : Entity). e.epoch) is_open.1 ∙ sym q.its_epoch in (
      ap (λ (k : ℕ). Hop k a) epochs ∙ ap (λ (x : HopGrant). Hop epoch' x) same.0,
      p.is ∙ same_node old p.side q.side is_open.0 p.entity q.entity is_open.1 p.tx q.tx same.1 p.rx q.rx same.2 ∙ sym q.is,
    )

-- the marks of an expiry
abbrev with_marks : List ℕ → Expired
with_marks [] = expiry.Done
with_marks (n ∷ ns) = expiry.Marked n

-- t-PollRetransmit runs, or is stopped
poll_ways : (tx : Tx) (a : Expired) (tx' : Tx) → ExpiresPollAs tx a tx'
    → ((marks : List ℕ) × ExpiresPoll tx marks tx' × (a ≡ with_marks marks)) ⊎ ((tx.poll_retransmit_runs ≡ false) × (tx' ≡ tx) × (a ≡ expiry.Stopped))
poll_ways tx expiry.Done tx' p = inl ([], p, refl)
poll_ways tx (expiry.Marked n) tx' p = inl (n ∷ [], p, refl)
poll_ways tx expiry.Stopped tx' p = inr (p.0, p.1, refl)

-- a timer of a side has one outcome
one_poll : (tx : Tx) (a b : Expired) (t u : Tx) → ExpiresPollAs tx a t → ExpiresPollAs tx b u → (a ≡ b) × (t ≡ u)
one_poll tx a b t u p q = elim (poll_ways tx a t p) [
  | inl x ↦ elim (poll_ways tx b u q) [
    | inl y ↦ let same = one_poll_expiry tx x.0 y.0 t u x.1 y.1 in (x.2 ∙ ap with_marks same.0 ∙ sym y.2, same.1)
    | inr y ↦ absurd (false≢true (sym y.0 ∙ x.1.runs))
  ]
  | inr x ↦ elim (poll_ways tx b u q) [
    | inl y ↦ absurd (false≢true (sym x.0 ∙ y.1.runs))
    | inr y ↦ (x.2 ∙ sym y.2, x.1 ∙ sym y.1)
  ]
]

one_reasm : (rx : Rx) (a b : Expired) (r s : Rx) → ExpiresReassemblyAs rx a r → ExpiresReassemblyAs rx b s → (a ≡ b) × (r ≡ s)
one_reasm rx expiry.Done expiry.Done r s p q = (refl, one_reassembly_expiry rx r s p q)
one_reasm rx expiry.Done (expiry.Marked n) r s p q = absurd q
one_reasm rx expiry.Done expiry.Stopped r s p q = absurd (none-some p.trigger (sym q.0 ∙ p.runs))
one_reasm rx (expiry.Marked n) b r s p q = absurd p
one_reasm rx expiry.Stopped expiry.Done r s p q = absurd (none-some q.trigger (sym p.0 ∙ q.runs))
one_reasm rx expiry.Stopped (expiry.Marked n) r s p q = absurd q
one_reasm rx expiry.Stopped expiry.Stopped r s p q = (refl, p.1 ∙ sym q.1)

one_prohibit : (rx : Rx) (a b : Expired) (r s : Rx) → ExpiresProhibitAs rx a r → ExpiresProhibitAs rx b s → (a ≡ b) × (r ≡ s)
one_prohibit rx expiry.Done expiry.Done r s p q = (refl, p.is ∙ sym q.is)
one_prohibit rx expiry.Done (expiry.Marked n) r s p q = absurd q
one_prohibit rx expiry.Done expiry.Stopped r s p q = absurd (false≢true (sym q.0 ∙ p.runs))
one_prohibit rx (expiry.Marked n) b r s p q = absurd p
one_prohibit rx expiry.Stopped expiry.Done r s p q = absurd (false≢true (sym p.0 ∙ q.runs))
one_prohibit rx expiry.Stopped (expiry.Marked n) r s p q = absurd q
one_prohibit rx expiry.Stopped expiry.Stopped r s p q = (refl, p.1 ∙ sym q.1)

pub one_hop_expiry : (timer : Timer) (tx : Tx) (rx : Rx) (a b : Expired) (tx' tx'' : Tx) (rx' rx'' : Rx) → ExpiresHop tx rx timer a tx' rx'
    → ExpiresHop tx rx timer b tx'' rx'' → (a ≡ b) × (tx' ≡ tx'') × (rx' ≡ rx'')
one_hop_expiry Poll tx rx a b tx' tx'' rx' rx'' p q = let same = one_poll tx a b tx' tx'' p.0 q.0 in (same.0, same.1, p.1 ∙ sym q.1)
one_hop_expiry Reasm tx rx a b tx' tx'' rx' rx'' p q = let same = one_reasm rx a b rx' rx'' p.0 q.0 in (same.0, p.1 ∙ sym q.1, same.1)
one_hop_expiry Prohibit tx rx a b tx' tx'' rx' rx'' p q = let same = one_prohibit rx a b rx' rx'' p.0 q.0 in (same.0, p.1 ∙ sym q.1, same.1)

pub one_port_expiry : OnePortExpiry
one_port_expiry old port timer None None m n p q = (refl, p.1 ∙ sym q.1)
one_port_expiry old port timer None (Some b) m n p q = not_closed old port q.side q.entity q.its p.0
one_port_expiry old port timer (Some a) None m n p q = not_closed old port p.side p.entity p.its q.0
one_port_expiry old port timer (Some a) (Some b) m n p q =
    let is_open = one_side old port p.side q.side p.entity q.entity p.its q.its in
    let same = one_hop_expiry timer q.entity.tx q.entity.rx a b p.tx q.tx p.rx q.rx
    (subst (λ (e : Entity). ExpiresHop e.tx e.rx timer a p.tx p.rx) is_open.1 p.expires) q.expires in
    (ap (λ (x : Expired). Some x) same.0, p.is ∙ same_node old p.side q.side is_open.0 p.entity q.entity is_open.1 p.tx q.tx same.1 p.rx q.rx same.2 ∙ sym q.is)
