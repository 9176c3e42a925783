-- What the relay holds of a remote, and what of it is left once it is purged (TS 38.300 clause 16.12.6).
use Rattle.std.specs.Prelude.{◌≡◌, ℕ, ◌+◌, ◌-◌, ◌^◌, min, Bool, ◌&&◌, ◌||◌, List, [], ◌∷◌, length, Option, Some, None, is_some, if◌then◌else◌}
use Rattle.link_base.specs.declared.names.Remote.{Remote}
use Rattle.link_base.specs.declared.names.Goal.TheVariants.{Direct as ToDirect}
use Rattle.bearer_map.specs.Contents.{Contents}
use Rattle.bearer_map.specs.declared.settings.Settings.{Settings}
use Rattle.rlc_model.specs.Rx.{Rx, empty_rx}
use Rattle.rlc_model.specs.Tx.{Tx, unconfirmed, empty_tx}
use Rattle.node_model.specs.Names.{is_of}
use Rattle.node_model.specs.State.{Node}
use Rattle.node_model.specs.Tables.{settings}
use Rattle.node_model.specs.Switching.{leads_to, one_if, node_after}
use Rattle.relay_core.specs.declared.ports.IngressPort.{IngressPort}
use Rattle.relay_core.specs.declared.ports.EgressPort.{EgressPort}

-- nothing is left of a remote: that the relay applies a plan of it to the direct path changes nothing
abbrev pub IsPurged : Contents → Remote → Node → Type 0
IsPurged t remote n = node_after (settings t) remote ToDirect 0 n ≡ n

-- a number as far as it fits an answer of 64 bits
abbrev pub fitting : ℕ → ℕ
fitting n = min n (2 ^ 64 - 1)

-- the slot of an ingress is emptied for the remote
abbrev pub is_emptied : Remote → IngressPort → Bool
is_emptied remote i = is_of remote i.name || leads_to remote i.slot

-- an ingress once the remote is purged
abbrev pub purged_ingress : Remote → IngressPort → IngressPort
purged_ingress remote i = record i { rx = if is_of remote i.name then None else i.rx; slot = if is_emptied remote i then None else i.slot }

-- how many SDUs are dropped there
abbrev pub dropped_in_slot : Remote → IngressPort → ℕ
dropped_in_slot remote i = one_if (is_emptied remote i && is_some i.slot)

-- an egress once the remote is purged
abbrev pub purged_egress : Remote → EgressPort → EgressPort
purged_egress remote e = record e { tx = if is_of remote e.name then None else e.tx; queue = record e.queue { parcels = if is_of remote e.name then [] else e.queue.parcels } }

-- how many SDUs a transmitter has that aren't confirmed, where it is there
abbrev pub unconfirmed_of : Option Tx → ℕ
unconfirmed_of None = 0
unconfirmed_of (Some tx) = unconfirmed tx

-- how many SDUs are dropped there
abbrev pub dropped_in_queue : Remote → EgressPort → ℕ
dropped_in_queue remote e = if is_of remote e.name then length e.queue.parcels + unconfirmed_of e.tx else 0

-- the receiver with which a port of the remote begins that enters the relay; none where the port is not the remote's
abbrev pub entering_rx : Remote → IngressPort → Option Rx
entering_rx remote i = if is_of remote i.name then Some (empty_rx i.size) else None

-- its transmitter
abbrev pub entering_tx : Settings → Remote → IngressPort → Option Tx
entering_tx s remote i = if is_of remote i.name then Some (empty_tx i.size s.poll_pdu s.poll_byte s.max_retx) else None

-- an ingress that takes a receiver, if one is given, in this epoch
abbrev pub opened_ingress : ℕ → Option Rx → IngressPort → IngressPort
opened_ingress epoch None i = i
opened_ingress epoch (Some rx) i = record i { epoch = epoch; rx = Some rx }

-- an egress that takes a transmitter, if one is given
abbrev pub opened_egress : Option Tx → EgressPort → EgressPort
opened_egress None e = e
opened_egress (Some tx) e = record e { tx = Some tx }

-- each item with what is given at its place
abbrev pub each_given : {X Y : Type 0} → (Y → X → X) → List Y → List X → List X
each_given give [] xs = xs
each_given give (y ∷ ys) [] = []
each_given give (y ∷ ys) (x ∷ xs) = give y x ∷ each_given give ys xs
