-- The two ends of a direct port, and a step at the node of one.
use Rattle.std.proofs.Common.{◌≡◌, inl, inr, [], map, Some, None, option_and_then, refl, sym, ◌∙◌, ap, subst}
use Rattle.std.specs.List.{AllByRecursion}
use Rattle.std.proofs.lemmas.Option.{none-some, same_Some}
use Rattle.link_base.specs.declared.names.Drb.{Drb}
use Rattle.link_base.specs.declared.names.Key.{Key}
use Rattle.link_base.specs.declared.names.PortName.{PortName}
use Rattle.link_base.specs.declared.names.PortName.TheVariants.{Direct}
use Rattle.link_base.specs.declared.names.Remote.{Remote}
use Rattle.link_base.specs.declared.names.Side.{Side}
use Rattle.link_base.specs.declared.names.Side.TheVariants.{Low, High}
use Rattle.rlc_model.specs.Rx.{Rx}
use Rattle.rlc_model.specs.Sides.{Entity, across, flip, way_from}
use Rattle.rlc_model.specs.Tx.{Tx}
use Rattle.pdcp_model.specs.Sender.{Sender}
use Rattle.pdcp_model.specs.Receiver.{Receiver}
use Rattle.node_model.specs.Names.{key_of, source, sink}
use Rattle.node_model.specs.State.{PortSide, Node, side_at, entity_at, entity_of, outgoing, incoming, set_entity}
use Rattle.node_model.specs.Feeding.{in_key, out_key}
use Rattle.node_model.proofs.Names.{cases_port}
use Rattle.chain_law.proofs.Leaving.{NodeSame, entity_other, entity_set}
use Rattle.direct_run_law.proofs.Carried.{Fits}

-- what an end of a bearer has: the entity's transmitter and receiver, the sender of the key that it sends and the receiving side of the other key
pub record Half : Type 0 where
  pub tx : Tx
  pub rx : Rx
  pub sender : Sender
  pub receiver : Receiver

-- the two keys of a bearer as a side has them: the one that it sends, and the one that it hears
abbrev pub sent : Remote → Drb → Side → Key
sent remote drb side = key_of remote drb (way_from side)

abbrev pub heard : Remote → Drb → Side → Key
heard remote drb side = key_of remote drb (flip (way_from side))

-- a node's end of a bearer, where its side is open with this entity
abbrev pub half : Remote → Drb → Side → Node → Entity → Half
half remote drb side n e = record { tx = e.tx; rx = e.rx; sender = (outgoing n (sent remote drb side)).sender; receiver = (incoming n (heard remote drb side)).receiver }

-- both keys fit, one from each end
abbrev pub Both : Remote → Drb → Side → Half → Half → Type 0
Both remote drb side a b = Fits (sent remote drb side) a.tx b.rx a.sender b.receiver a.receiver × Fits (heard remote drb side) b.tx a.rx b.sender a.receiver b.receiver

-- seen from the other end
pub both_across : (remote : Remote) (drb : Drb) (side : Side) (a b : Half) → Both remote drb side a b → Both remote drb (across side) b a
both_across remote drb Low a b x = (x.1, x.0)
both_across remote drb High a b x = (x.1, x.0)

-- a node attaches nothing, and has only the keys of its ends
pub record IsEnd (n : Node) : Type 0 where
  pub attached : n.attached ≡ []
  pub outs : AllByRecursion (λ k. source k ≡ n.name) (map out_key n.outgoing)
  pub ins : AllByRecursion (λ k. sink k ≡ n.name) (map in_key n.incoming)

pub end_stays : (old new : Node) → NodeSame old new → IsEnd old → IsEnd new
end_stays old new s e = record {
  attached = s.attached ∙ e.attached;
  outs = subst (λ name. AllByRecursion (λ k. source k ≡ name) (map out_key new.outgoing)) (sym s.name) (subst (AllByRecursion (λ k. source k ≡ old.name)) (sym s.outs) e.outs);
  ins = subst (λ name. AllByRecursion (λ k. sink k ≡ name) (map in_key new.incoming)) (sym s.name) (subst (AllByRecursion (λ k. sink k ≡ old.name)) (sym s.ins) e.ins);
}

-- a step at a node: a bearer's side there that is closed stays so, and of one that is open, where both keys fitted with the other end, they do still
pub record Goes (remote : Remote) (drb : Drb) (side : Side) (other : Half) (old new : Node) : Type 0 where
  pub closed : entity_at old (Direct remote drb) ≡ None → entity_at new (Direct remote drb) ≡ None
  pub opens : (e : Entity) → entity_at old (Direct remote drb) ≡ Some e
      → (f : Entity) × (entity_at new (Direct remote drb) ≡ Some f) × (f.epoch ≡ e.epoch) ×
      (Both remote drb side (half remote drb side old e) other → Both remote drb side (half remote drb side new f) other)

pub goes_then : (remote : Remote) (drb : Drb) (side : Side) (other : Half) (x y z : Node) → Goes remote drb side other x y → Goes remote drb side other y z
    → Goes remote drb side other x z
goes_then remote drb side other x y z p q = record {
  closed = λ none. q.closed (p.closed none);
  opens = λ e is.
      let f = p.opens e is in
      let g = q.opens f.0 f.1 in
      (g.0, g.1, g.2 ∙ f.2, λ fits. g.3 (f.3 fits));
}

-- where the entity stays the rows may change
pub goes_rows : (remote : Remote) (drb : Drb) (side : Side) (other : Half) (old new : Node) → entity_at new (Direct remote drb) ≡ entity_at old (Direct remote drb)
    → ((e : Entity) → Both remote drb side (half remote drb side old e) other → Both remote drb side (half remote drb side new e) other) → Goes remote drb side other old new
goes_rows remote drb side other old new same keeps = record { closed = λ none. same ∙ none; opens = λ e is. (e, same ∙ is, refl, keeps e) }

pub goes_nowhere : (remote : Remote) (drb : Drb) (side : Side) (other : Half) (old new : Node) → new ≡ old → Goes remote drb side other old new
goes_nowhere remote drb side other old new is = subst (Goes remote drb side other old) (sym is) (goes_rows remote drb side other old old refl (λ e fits. fits))

-- the entity of a port is set to one of its epoch, and the rows may change
pub goes_entity : (remote : Remote) (drb : Drb) (at : Side) (other : Half) (n : Node) (port : PortName) (side : PortSide) (entity now : Entity) (new : Node)
    → side_at n port ≡ Some side → side.entity ≡ Some entity → now.epoch ≡ entity.epoch
    → ((q : PortName) → entity_at new q ≡ entity_at (set_entity n side now) q) →
    (Direct remote drb ≡ port → Both remote drb at (half remote drb at n entity) other → Both remote drb at (half remote drb at new now) other)
    → ((Direct remote drb ≡ port → ⊥) → (e : Entity) → Both remote drb at (half remote drb at n e) other → Both remote drb at
    (half remote drb at new e) other) → Goes remote drb at other n new
goes_entity remote drb at other n port side entity now new here is_open epoch stands keeps rests = elim (cases_port (Direct remote drb) port) [
  | inr ne ↦ goes_rows remote drb at other n new (stands (Direct remote drb) ∙ entity_other n port (Direct remote drb) side now here ne) (rests ne)
  | inl is ↦
      let was : entity_at n (Direct remote drb) ≡ Some entity = ap (entity_at n) is ∙ ap (option_and_then entity_of) here ∙ is_open in
      record {
        closed = λ none. absurd (none-some entity (sym none ∙ was));
        opens = λ e at_e.
            let same : entity ≡ e = same_Some entity e (sym was ∙ at_e) in (
              now,
              stands (Direct remote drb) ∙ ap (entity_at (set_entity n side now)) is ∙ entity_set n port side now here,
              epoch ∙ ap (λ (x : Entity). x.epoch) same,
              λ fits. keeps is (subst (λ (x : Entity). Both remote drb at (half remote drb at n x) other) (sym same) fits),
            );
      }
]
