-- What the air brings to a side of a direct port, and what the transmitter at the other side keeps of it.
use Rattle.std.proofs.Common.{◌≡◌, ◌≢◌, inl, inr, ℕ, ◌<◌, Bool, true, false, List, length, Option, Some, None, refl, sym, ◌∙◌, ap, subst, arith, Contains}
use Rattle.std.proofs.lemmas.Option.{same_Some}
use Rattle.link_base.specs.declared.names.Timer.{Timer}
use Rattle.link_base.specs.declared.names.Timer.TheVariants.{Poll, Reasm, Prohibit}
use Rattle.link_base.specs.declared.names.Way.{Way}
use Rattle.link_base.specs.declared.names.Way.TheVariants.{Ul, Dl}
use Rattle.link_base.specs.declared.rlc_words.Expired.{Expired}
use Rattle.link_base.specs.declared.rlc_words.Expired.TheVariants as expiry
use Rattle.link_base.specs.declared.rlc_words.Tag.{Tag}
use Rattle.rlc_status.specs.declared.status.Status.{Status as StatusPdu}
use Rattle.rlc_model.specs.declared.hop.HopGrant.{HopGrant}
use Rattle.rlc_model.specs.declared.hop.HopGrant.TheVariants as grant
use Rattle.rlc_model.specs.declared.hop.HopHeard.{HopHeard}
use Rattle.rlc_model.specs.declared.hop.HopHeard.TheVariants.{Amd, Status}
use Rattle.rlc_model.specs.declared.hop.Pdu.{Pdu}
use Rattle.rlc_model.specs.declared.receiver.Heard.TheVariants.{Complete}
use Rattle.rlc_model.specs.declared.transmitter.StatusHeard.TheVariants.{Acked}
use Rattle.rlc_model.specs.Hop.{on_air, side_fault, GrantsHop, HearsHop, ExpiresHop}
use Rattle.rlc_model.specs.Retransmission.{RetransmitsLowest, stays, retransmits, Acknowledges, ExpiresPoll}
use Rattle.rlc_model.specs.Rx.{Rx, Done, got}
use Rattle.rlc_model.specs.Sides.{Entity, across, flip, hearer_of}
use Rattle.rlc_model.specs.Tx.{Tx, Kept, kept_at, tx_next}
use Rattle.rlc_law.specs.Hop.{Hop, Reaches, given_at}
use Rattle.rlc_law.specs.Ports.{Port, hop_of, tx_of, rx_of, IsSide}
use Rattle.rlc_law.specs.PortLaws.{HearLeaves}
use Rattle.chain_model.specs.State.{Chain, entity_on}
use Rattle.chain_law.specs.Entities.{RlcFits}
use Rattle.direct_run_law.specs.Foundations.{HopLaws, CallLaws}
use Rattle.direct_run_law.proofs.Given.{given_below}

-- the calls of a transmitter leave as many numbers given
lowest_long : (old new : Tx) (marks : List ℕ) → RetransmitsLowest old marks new → tx_next new ≡ tx_next old
lowest_long old new marks (stays waits none same) = ap (λ (t : Tx). tx_next t) same
lowest_long old new marks (retransmits p) = p.long

pub acked_long : (old new : Tx) (s : StatusPdu) (tags : List Tag) (marks : List ℕ) → Acknowledges old s tags marks new → tx_next new ≡ tx_next old
acked_long old new s tags marks a = by a.mid.poll_owed refl ∙ a.updates.long
  where
    by : (owed : Bool) → a.mid.poll_owed ≡ owed → tx_next new ≡ tx_next a.mid
    by true is = lowest_long a.mid new a.lowest_marks (a.lowest.0 is)
    by false is = ap (λ (t : Tx). tx_next t) (a.lowest.1 is).1

pub granted_long : (tx : Tx) (rx : Rx) (n : ℕ) (answer : HopGrant) (u : Tx) (q : Rx) → GrantsHop tx rx n answer u q → tx_next u ≡ tx_next tx
granted_long tx rx n (grant.Sent true number bytes) u q g = ap (λ (t : Tx). tx_next t) g.3
granted_long tx rx n (grant.Sent false number bytes) u q g = g.1.2.long
granted_long tx rx n grant.Idle u q g = ap (λ (t : Tx). tx_next t) g.1.2
granted_long tx rx n (grant.Small need) u q (inl g) = ap (λ (t : Tx). tx_next t) g.2
granted_long tx rx n (grant.Small need) u q (inr g) = ap (λ (t : Tx). tx_next t) g.1.7

poll_long : (old new : Tx) (marks : List ℕ) → ExpiresPoll old marks new → tx_next new ≡ tx_next old
poll_long old new marks x = lowest_long x.mid new marks x.lowest ∙ ap (λ (t : Tx). tx_next t) x.stopped

pub expired_long : (tx : Tx) (rx : Rx) (timer : Timer) (expired : Expired) (u : Tx) (q : Rx) → ExpiresHop tx rx timer expired u q → tx_next u ≡ tx_next tx
expired_long tx rx Poll expiry.Done u q x = poll_long tx u _ x.0
expired_long tx rx Poll (expiry.Marked n) u q x = poll_long tx u _ x.0
expired_long tx rx Poll expiry.Stopped u q x = ap (λ (t : Tx). tx_next t) x.0.1
expired_long tx rx Reasm expired u q x = ap (λ (t : Tx). tx_next t) x.1
expired_long tx rx Prohibit expired u q x = ap (λ (t : Tx). tx_next t) x.1

-- the sides of a hop
sends_way : (port : Port) (w : Way) → tx_of port (across (hearer_of w)) ≡ (hop_of port w).tx
sends_way port Ul = refl
sends_way port Dl = refl

hears_way : (port : Port) (w : Way) → rx_of port (hearer_of w) ≡ (hop_of port w).rx
hears_way port Ul = refl
hears_way port Dl = refl

sends_back : (port : Port) (w : Way) → tx_of port (hearer_of w) ≡ (hop_of port (flip w)).tx
sends_back port Ul = refl
sends_back port Dl = refl

hears_back : (port : Port) (w : Way) → rx_of port (across (hearer_of w)) ≡ (hop_of port (flip w)).rx
hears_back port Ul = refl
hears_back port Dl = refl

module _ (l : HopLaws) (calls : CallLaws) (c : Chain) (fits : RlcFits c) (ticket : ℕ) (pdu : Pdu) (shown : on_air c.air ticket ≡ Some pdu) (e f : Entity) (here : entity_on c
    (hearer_of pdu.way) pdu.port ≡ Some e)
    (there : entity_on c (across (hearer_of pdu.way)) pdu.port ≡ Some f) (same : f.epoch ≡ e.epoch) (taken : side_fault pdu (Some e.epoch) e.tx e.rx ≡ None) where
  -- the port of both sides
  near : (port : Port) × (fits.ports pdu.port e.epoch ≡ Some port) × IsSide port (hearer_of pdu.way) e.tx e.rx
  near = fits.sides.open_port (hearer_of pdu.way) pdu.port e here

  far : IsSide near.0 (across (hearer_of pdu.way)) f.tx f.rx
  far =
      let x = fits.sides.open_port (across (hearer_of pdu.way)) pdu.port f there in
      subst (λ (p : Port). IsSide p (across (hearer_of pdu.way)) f.tx f.rx) (same_Some x.0 near.0 (sym x.1 ∙ ap (fits.ports pdu.port) same ∙ near.1)) x.2

  reached : (w : Way) → Reaches (hop_of near.0 w)
  reached = fits.fits.reaches pdu.port e.epoch near.0 near.1

  -- what hearing leaves of that port
  leaves : (answer : HopHeard) (tx : Tx) (rx : Rx) → HearsHop e.tx e.rx pdu.bytes answer tx rx → HearLeaves near.0 pdu.way pdu.status pdu.number pdu.bytes answer tx rx
  leaves answer tx rx hears =
      let x = calls.hears c fits ticket pdu shown e here taken answer tx rx hears in
      subst (λ (p : Port). HearLeaves p pdu.way pdu.status pdu.number pdu.bytes answer tx rx) (same_Some x.0 near.0 (sym x.1 ∙ near.1)) x.2

  -- an SDU that is completed is kept by the transmitter at the other side
  pub completes : (number : ℕ) (whole : List ℕ) (tx : Tx) (rx : Rx) → HearsHop e.tx e.rx pdu.bytes (Amd (Complete number whole)) tx rx
      → (k : Kept) × (kept_at f.tx number ≡ Some k) × (k.sdu ≡ whole)
  completes number whole tx rx hears = by pdu.status (leaves (Amd (Complete number whole)) tx rx hears)
    where
      hop : Hop
      hop = hop_of near.0 pdu.way

      its_tx : f.tx ≡ hop.tx
      its_tx = far.its_tx ∙ sends_way near.0 pdu.way

      its_rx : e.rx ≡ hop.rx
      its_rx = near.2.its_rx ∙ hears_way near.0 pdu.way

      before : got e.rx number ≢ Done
      before = (calls.hearing e.tx e.rx pdu.bytes (Amd (Complete number whole)) tx rx hears).1.before

      find : (o : Option Kept) → kept_at hop.tx number ≡ o → number < length hop.given → whole ≡ given_at hop number
          → (k : Kept) × (kept_at f.tx number ≡ Some k) × (k.sdu ≡ whole)
      find None is low its = absurd (before (ap (λ (r : Rx). got r number) its_rx ∙ (l.confirms hop (reached pdu.way) number low is).0))
      find (Some k) is low its = (k, ap (λ (t : Tx). kept_at t number) its_tx ∙ is, l.kept hop (reached pdu.way) number k is ∙ sym its)

      by : (status : Bool) → HearLeaves near.0 pdu.way status pdu.number pdu.bytes (Amd (Complete number whole)) tx rx
          → (k : Kept) × (kept_at f.tx number ≡ Some k) × (k.sdu ≡ whole)
      by true x = absurd x
      by false x =
          let g = x.as_given in
          find (kept_at hop.tx number) refl (subst (λ (n : ℕ). n < length hop.given) (sym g.0) g.1) (g.2 ∙ ap (given_at hop) (sym g.0))

  -- a tag that is told is of an SDU that the receiver at the other side has completed
  pub acked : (tags : List Tag) (marks : List ℕ) (tx : Tx) (rx : Rx) → HearsHop e.tx e.rx pdu.bytes (Status (Acked tags marks)) tx rx → (tag : Tag) → Contains tags tag
      → (n : ℕ) × (k : Kept) × (kept_at e.tx n ≡ Some k) × (tag ≡ k.tag) × (got f.rx n ≡ Done)
  acked tags marks tx rx hears tag among = by pdu.status (leaves (Status (Acked tags marks)) tx rx hears)
    where
      told : (n : ℕ) × (k : Kept) × (kept_at e.tx n ≡ Some k) × (kept_at tx n ≡ None) × (tag ≡ k.tag)
      told = (calls.hearing e.tx e.rx pdu.bytes (Status (Acked tags marks)) tx rx hears).1 tag among

      by : (status : Bool) → HearLeaves near.0 pdu.way status pdu.number pdu.bytes (Status (Acked tags marks)) tx rx
          → (n : ℕ) × (k : Kept) × (kept_at e.tx n ≡ Some k) × (tag ≡ k.tag) × (got f.rx n ≡ Done)
      by false x = absurd x
      by true x =
          let hop : Hop = hop_of x.behind (flip pdu.way) in
          let its_tx : tx ≡ hop.tx = x.moves.here.its_tx ∙ sends_back x.behind pdu.way in
          let its_rx : f.rx ≡ hop.rx = far.its_rx ∙ x.moves.there.its_rx ∙ hears_back x.behind pdu.way in
          let can : Reaches hop = (l.moves_on near.0 (flip pdu.way) _ x.behind x.moves.moves).0 reached (flip pdu.way) in
          let long : tx_next tx ≡ tx_next e.tx = acked_long e.tx tx hears.1 tags marks hears.3 in
          let low : told.0 < length hop.given = omega (arith, given_below e.tx told.0 told.1 told.2, long, (l.in_order hop can).0, ap tx_next its_tx) in
          (told.0, told.1, told.2, told.4, ap (λ (r : Rx). got r told.0) its_rx ∙ (l.confirms hop can told.0 low (ap (λ (t : Tx). kept_at t told.0) (sym its_tx) ∙ told.3)).0)
