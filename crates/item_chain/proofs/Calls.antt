-- Calls of an open side that move its port and no item: a grant, and a timer that runs out.
use mathlib.Core.Path.{fun_ext}
use Rattle.std.proofs.Common.{◌≡◌, ◌⊎◌, inl, inr, ℕ, Bool, true, false, List, [], ◌∷◌, ◌++◌, Option, Some, None, refl, sym, ◌∙◌, ap, subst}
use Rattle.std.specs.Option.{option_and_then}
use Rattle.link_base.specs.declared.names.PortName.{PortName}
use Rattle.link_base.specs.declared.names.Side.{Side}
use Rattle.link_base.specs.declared.names.Timer.{Timer}
use Rattle.link_base.specs.declared.names.Timer.TheVariants.{Poll, Reasm, Prohibit}
use Rattle.link_base.specs.declared.names.Way.{Way}
use Rattle.link_base.specs.declared.names.Way.TheVariants.{Ul, Dl}
use Rattle.link_base.specs.declared.rlc_words.Expired.{Expired}
use Rattle.link_base.specs.declared.rlc_words.Expired.TheVariants as expiry
use Rattle.rlc_model.specs.declared.hop.HopGrant.{HopGrant}
use Rattle.rlc_model.specs.declared.hop.HopGrant.TheVariants as grant
use Rattle.rlc_model.specs.Hop.{sent_from}
use Rattle.rlc_model.specs.Rx.{Rx}
use Rattle.rlc_model.specs.Sides.{Entity, sender_of, way_from, flip}
use Rattle.rlc_model.specs.Tx.{Tx}
use Rattle.rlc_law.specs.Hop.{Happens}
use Rattle.rlc_law.specs.Ports.{Port, hop_of, IsSide}
use Rattle.rlc_law.specs.PortLaws.{about, granting, SendsMade, timing, expiring, ExpiryLeaves}
use Rattle.rlc_law.proofs.Moving.{grant_moves, expire_moves}
use Rattle.script_text.specs.declared.event.Event.{Event}
use Rattle.script_text.specs.declared.reply.Reply.{Reply}
use Rattle.node_model.specs.Names.{is_port, owner}
use Rattle.node_model.specs.State.{PortSide, Node, side_at, entity_of, set_entity}
use Rattle.node_model.specs.Sides.{GrantsSide, ExpiresSide}
use Rattle.chain_model.specs.State.{Chain, node_at, set_node}
use Rattle.chain_model.specs.Lines.{Unless, grant_refusal, Granted, Sends, expire_refusal, Expires}
use Rattle.item_place.specs.Places.{Link}
use Rattle.item_place.specs.HopFits.{HopFits}
use Rattle.item_chain.specs.View.{View, view, is_side, put_at}
use Rattle.item_chain.specs.Stands.{Ghost, Stands, rests, Refines}
use Rattle.item_chain.proofs.Puts.{of_side, of_port, at_same}
use Rattle.item_chain.proofs.Views.{entity_set}
use Rattle.item_chain.proofs.Ports.{own, ports_after, port_moves, port_sends, given_after}
use Rattle.item_chain.proofs.Quiet.{SameSdus, same_fits, grant_quiet, status_quiet, poll_quiet, reassembly_quiet, prohibit_quiet}
use Rattle.item_chain.proofs.Tags.{IsQuiet}
use Rattle.item_chain.proofs.Goings.{stays}

-- a refused line changes nothing
pub unless : (refusal : Option Reply) (old : Chain) (events : List Event) (reply : Reply) (new : Chain) (done : Type 0) → Unless refusal old events reply new done
    → (new ≡ old) ⊎ done
unless None old events reply new done d = inr d
unless (Some r) old events reply new done d = inl d.2

pub way_sends : (w : Way) → way_from (sender_of w) ≡ w
way_sends Ul = refl
way_sends Dl = refl

-- the entity of an open side
pub open_there : (c : Chain) (at : Side) (port : PortName) (side : PortSide) (e : Entity) → side_at (node_at c (owner at port)) port ≡ Some side → side.entity ≡ Some e
    → (view c).entity at port ≡ Some e
open_there c at port side e here is_open = ap (option_and_then entity_of) here ∙ is_open

module _ (g : Ghost) (v : View) (st : Stands g v) (at : Side) (port : PortName) (e : Entity) (is_open : v.entity at port ≡ Some e) where
  abbrev its : Port
  its = (own g v st at port e is_open).0

  old_fits : (w : Way) → HopFits g.spell (hop_of its w) (g.layout.box (Link port w e.epoch))
  old_fits = st.hops port e.epoch its (own g v st at port e is_open).1

  -- an entity that is set to itself
  pub entity_stays : (x : Entity) → x ≡ e → record v { entity = put_at is_side is_port v.entity at port (Some x) } ≡ v
  entity_stays x same = ap (λ (f : Side → PortName → Option Entity). record v { entity = f })
      (fun_ext (λ b. fun_ext (λ q. at_same of_side of_port v.entity at port (Some x) (is_open ∙ ap (λ (y : Entity). Some y) (sym same)) b q)))

  -- a PDU is sent
  pub sent : (n : ℕ) (status : Bool) (number : ℕ) (bytes : List ℕ) (tx : Tx) (rx : Rx) → SendsMade its at n status number bytes tx rx
      → Refines v.tables g (record v {
        entity = put_at is_side is_port v.entity at port (Some (record e { tx = tx; rx = rx }));
        air =
            v.air ++ Some (sent_from port at e.epoch status number bytes) ∷ [];
      })
  sent n status number bytes tx rx s = record {
    ghost = record g { ports = ports_after g v st at port e is_open (about status (way_from at)) (granting status n) tx rx s.behind s.moves };
    goes = rests;
    given = given_after g v st at port e is_open (about status (way_from at)) (granting status n) tx rx s.behind s.moves;
    stands = port_sends g v st at port e is_open (about status (way_from at)) (granting status n) tx rx s.behind s.moves (no_sdu status)
        (same_fits g.spell (hop_of its (about status (way_from at))) (hop_of s.behind (about status (way_from at))) (g.layout.box (Link port (about status (way_from at)) e.epoch))
        (quiet status s.moves.moves.happens) (old_fits (about status (way_from at))))
        status number bytes s.made;
  }
    where
      no_sdu : (status : Bool) → IsQuiet (granting status n)
      no_sdu false = tt
      no_sdu true = tt

      quiet : (status : Bool) → Happens (hop_of its (about status (way_from at))) (granting status n) (hop_of s.behind (about status (way_from at)))
          → SameSdus (hop_of its (about status (way_from at))) (hop_of s.behind (about status (way_from at)))
      quiet false h = grant_quiet (hop_of its (way_from at)) (hop_of s.behind (way_from at)) n h
      quiet true h = status_quiet (hop_of its (flip (way_from at))) (hop_of s.behind (flip (way_from at))) n h

  -- a timer runs out
  runs_out : (timer : Timer) (tx : Tx) (rx : Rx) → (behind : Port) × Rattle.rlc_law.specs.Ports.MovesSide its at (timing timer at) (expiring timer) tx rx behind
      → Refines v.tables g (record v { entity = put_at is_side is_port v.entity at port (Some (record e { tx = tx; rx = rx })) })
  runs_out timer tx rx s = record {
    ghost = record g { ports = ports_after g v st at port e is_open (timing timer at) (expiring timer) tx rx s.0 s.1 };
    goes = rests;
    given = given_after g v st at port e is_open (timing timer at) (expiring timer) tx rx s.0 s.1;
    stands = port_moves g v st at port e is_open (timing timer at) (expiring timer) tx rx s.0 s.1 (no_sdu timer)
        (same_fits g.spell (hop_of its (timing timer at)) (hop_of s.0 (timing timer at)) (g.layout.box (Link port (timing timer at) e.epoch)) (quiet timer s.1.moves.happens)
        (old_fits (timing timer at)));
  }
    where
      no_sdu : (timer : Timer) → IsQuiet (expiring timer)
      no_sdu Poll = tt
      no_sdu Reasm = tt
      no_sdu Prohibit = tt

      quiet : (timer : Timer) → Happens (hop_of its (timing timer at)) (expiring timer) (hop_of s.0 (timing timer at))
          → SameSdus (hop_of its (timing timer at)) (hop_of s.0 (timing timer at))
      quiet Poll h = poll_quiet (hop_of its (way_from at)) (hop_of s.0 (way_from at)) h
      quiet Reasm h = reassembly_quiet (hop_of its (flip (way_from at))) (hop_of s.0 (flip (way_from at))) h
      quiet Prohibit h = prohibit_quiet (hop_of its (flip (way_from at))) (hop_of s.0 (flip (way_from at))) h

  same_entity : (tx : Tx) (rx : Rx) → IsSide its at tx rx → record e { tx = tx; rx = rx } ≡ e
  same_entity tx rx s =
      let was = (own g v st at port e is_open).2 in
      ap (λ (x : Tx). record e { tx = x; rx = rx }) (s.its_tx ∙ sym was.its_tx) ∙ ap (λ (x : Rx). record e { rx = x }) (s.its_rx ∙ sym was.its_rx)

  pub expired : (timer : Timer) (x : Expired) (tx : Tx) (rx : Rx) → ExpiryLeaves its at timer x tx rx
      → Refines v.tables g (record v { entity = put_at is_side is_port v.entity at port (Some (record e { tx = tx; rx = rx })) })
  expired timer expiry.Done tx rx s = runs_out timer tx rx s
  expired timer (expiry.Marked n) tx rx s = runs_out timer tx rx s
  expired timer expiry.Stopped tx rx s = stays v.tables g v _ (entity_stays (record e { tx = tx; rx = rx }) (same_entity tx rx s)) st

module _ (g : Ghost) (old : Chain) (st : Stands g (view old)) (port : PortName) (way : Way) (octets : ℕ) where
  granted : (epoch : ℕ) (answer : HopGrant) (node : Node) (reply : Reply) (new : Chain) → GrantsSide (node_at old (owner (sender_of way) port)) port octets epoch answer node
      → Sends old node port way epoch answer reply new → Refines old.tables g (view new)
  granted epoch (grant.Sent status number bytes) node reply new s x =
      let at = sender_of way in
      let is_open = open_there old at port s.side s.entity s.its.here s.its.is_open in
      let own_port = own g (view old) st at port s.entity is_open in
      let done = sent g (view old) st at port s.entity is_open octets status number bytes s.tx s.rx
      (grant_moves own_port.0 at s.entity.tx s.entity.rx own_port.2 octets (grant.Sent status number bytes) s.tx s.rx s.grants) in
      subst (Refines old.tables g)
      (ap (λ (w : View). record w { air = old.air ++ Some (sent_from port at s.entity.epoch status number bytes) ∷ [] })
      (sym (entity_set old at port s.side s.its.here (record s.entity { tx = s.tx; rx = s.rx })))
      ∙ ap (λ (f : ℕ). view (record (set_node old (set_entity (node_at old (owner at port)) s.side (record s.entity { tx = s.tx; rx = s.rx }))) {
        air =
            old.air ++ Some (sent_from port at f status number bytes) ∷ [];
      })) (sym s.its_epoch)
      ∙ ap (λ (n : Node). view (record (set_node old n) { air = old.air ++ Some (sent_from port at epoch status number bytes) ∷ [] })) (sym s.is)
      ∙ ap view (sym x.1)) done
  granted epoch grant.Idle node reply new s x = stays old.tables g (view old) (view new) (ap view x.1) st
  granted epoch (grant.Small need) node reply new s x = stays old.tables g (view old) (view new) (ap view x.1) st

  pub grant_refines : (events : List Event) (reply : Reply) (new : Chain) → Unless (grant_refusal old port way) old events reply new (Granted old port way octets events reply new)
      → Refines old.tables g (view new)
  grant_refines events reply new does = elim (unless (grant_refusal old port way) old events reply new (Granted old port way octets events reply new) does) [
    | inl same ↦ stays old.tables g (view old) (view new) (ap view same) st
    | inr x ↦ granted x.epoch x.answer x.node reply new x.grants x.sends
  ]

module _ (g : Ghost) (old : Chain) (st : Stands g (view old)) (port : PortName) (at : Side) (timer : Timer) where
  runs : (x : Expired) (node : Node) → ExpiresSide (node_at old (owner at port)) port timer x node → Refines old.tables g (view (set_node old node))
  runs x node s =
      let is_open = open_there old at port s.side s.entity s.its.here s.its.is_open in
      let own_port = own g (view old) st at port s.entity is_open in
      subst (Refines old.tables g) (sym (entity_set old at port s.side s.its.here (record s.entity { tx = s.tx; rx = s.rx })) ∙ ap (λ (n : Node). view (set_node old n)) (sym s.is))
      (expired g (view old) st at port s.entity is_open timer x s.tx s.rx (expire_moves own_port.0 at s.entity.tx s.entity.rx own_port.2 timer x s.tx s.rx s.expires))

  pub expire_refines : (events : List Event) (reply : Reply) (new : Chain) → Unless (expire_refusal old port at) old events reply new (Expires old port at timer events reply new)
      → Refines old.tables g (view new)
  expire_refines events reply new does = elim (unless (expire_refusal old port at) old events reply new (Expires old port at timer events reply new) does) [
    | inl same ↦ stays old.tables g (view old) (view new) (ap view same) st
    | inr x ↦ subst (λ (c : Chain). Refines old.tables g (view c)) (sym x.is) (runs x.expired x.node x.expires)
  ]
