-- What the calls of a port of the relay do.
use Rattle.std.specs.Prelude.{◌≡◌, ◌≢◌, ℕ, ◌<◌, true, List, [], ◌∷◌, Option, Some, None, is_some}
use Rattle.rlc_model.specs.Tx.{Tx, Gives, room}
use Rattle.node_model.specs.declared.answers.PullReply.{PullReply}
use Rattle.node_model.specs.declared.answers.PullReply.TheVariants as pulled
use Rattle.node_model.specs.declared.parcel.Parcel.{Parcel}
use Rattle.node_model.specs.Relaying.{parcel_tag}
use Rattle.relay_core.specs.declared.ports.IngressPort.{IngressPort}
use Rattle.relay_core.specs.declared.ports.EgressPort.{EgressPort}

-- of a port nothing but its entity changes, which stays open or closed
pub record ChangesEntity (i : IngressPort) (e : EgressPort) (i' : IngressPort) (e' : EgressPort) : Type 0 where
  pub ingress : i' ≡ record i { rx = i'.rx }
  pub egress : e' ≡ record e { tx = e'.tx }
  pub rx : is_some i'.rx ≡ is_some i.rx
  pub tx : is_some e'.tx ≡ is_some e.tx

-- an SDU can be pulled: the port is open, its queue isn't empty, and its transmitter has room
pub record CanPull (e : EgressPort) : Type 0 where
  pub tx : Tx
  pub is_open : e.tx ≡ Some tx
  pub waits : e.queue.parcels ≢ []
  pub has_room : 0 < room tx

-- the SDU at the front of a queue is given to the transmitter of its port
pub record PullsFront (old : EgressPort) (number : ℕ) (new : EgressPort) : Type 0 where
  pub tx : Tx
  pub is_open : old.tx ≡ Some tx
  pub parcel : Parcel
  pub parcels : List Parcel
  pub waits : old.queue.parcels ≡ parcel ∷ parcels
  pub behind : Tx
  pub gives : Gives tx (parcel_tag parcel) parcel.sdu number behind
  pub is : new ≡ record old { tx = Some behind; queue = record old.queue { parcels = parcels } }

-- a pull at an egress is answered so
abbrev pub PullsAt : EgressPort → PullReply → EgressPort → Type 0
PullsAt old (pulled.Done number) new = PullsFront old number new
PullsAt old pulled.NoPort new = (old.tx ≡ None) × (new ≡ old)
PullsAt old pulled.Empty new = (is_some old.tx ≡ true) × (old.queue.parcels ≡ []) × (new ≡ old)
PullsAt old pulled.Stalled new = (tx : Tx) × (old.tx ≡ Some tx) × (old.queue.parcels ≢ []) × (room tx ≡ 0) × (new ≡ old)
