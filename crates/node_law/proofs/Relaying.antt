-- A push and a pull have one outcome.
use Rattle.std.proofs.Common.{◌≡◌, ◌⊎◌, inl, inr, ℕ, List, [], ◌∷◌, ◌++◌, Some, None, refl, sym, ◌∙◌, ap}
use Rattle.std.proofs.lemmas.Option.{none-some, same_Some}
use Rattle.link_base.specs.declared.names.PortName.{PortName}
use Rattle.link_base.specs.declared.rlc_words.Tag.{Tag}
use Rattle.rlc_model.specs.Sides.{Entity}
use Rattle.rlc_model.specs.Tx.{Tx, tx_next, Gives}
use Rattle.node_model.specs.declared.answers.PushReply.{PushReply}
use Rattle.node_model.specs.declared.answers.PushReply.TheVariants as pushed
use Rattle.node_model.specs.declared.answers.PullReply.{PullReply}
use Rattle.node_model.specs.declared.answers.PullReply.TheVariants as pulled
use Rattle.node_model.specs.declared.parcel.Parcel.{Parcel}
use Rattle.node_model.specs.State.{PortSide, Node, side_at, entity_of, slot_of, queue_of, set_side}
use Rattle.node_model.specs.Sides.{IsOpen}
use Rattle.node_model.specs.Relaying.{push_refusal, Pushes, PushesPort, pull_refusal, parcel_tag, Pulls, PullsPort}
use Rattle.node_law.specs.OneOutcome.{OnePush, OnePull}

-- a port of a node is open as one side with one entity
pub one_side : (n : Node) (port : PortName) (s r : PortSide) (e f : Entity) → IsOpen n port s e → IsOpen n port r f → (s ≡ r) × (e ≡ f)
one_side n port s r e f a b =
    let side : s ≡ r = same_Some s r (sym a.here ∙ b.here) in
    (side, same_Some e f (sym a.is_open ∙ ap entity_of side ∙ b.is_open))

-- a transmitter with one more SDU
abbrev with_sdu : Tx → Tag → List ℕ → Tx
with_sdu t tag sdu = record t { kept = t.kept ++ Some (record { tag = tag; sdu = sdu; flags = []; retx_count = None }) ∷ [] }

-- the same transmitter that is given the same SDU gives it one number, and is left as one
pub one_gives_same : (t u : Tx) → t ≡ u → (tag other : Tag) → tag ≡ other → (sdu body : List ℕ) → sdu ≡ body → (m n : ℕ) (r s : Tx) → Gives t tag sdu m r
    → Gives u other body n s → (m ≡ n) × (r ≡ s)
one_gives_same t u same tag other its sdu body is m n r s a b = (
  a.its_number ∙ ap tx_next same ∙ sym b.its_number,
  a.is ∙ ap (λ (x : Tx). with_sdu x tag sdu) same ∙ ap (λ (x : Tag). with_sdu u x sdu) its ∙ ap (λ (x : List ℕ). with_sdu u other x) is ∙ sym b.is,
)

-- an SDU that is pushed goes to one egress, and leaves one node
one_pushes : (old : Node) (port a b : PortName) (m n : Node) → Pushes old port a m → Pushes old port b n → (a ≡ b) × (m ≡ n)
one_pushes old port a b m n p q =
    let from : p.from ≡ q.from = same_Some p.from q.from (sym p.here ∙ q.here) in
    let parcel : p.parcel ≡ q.parcel = same_Some p.parcel q.parcel (sym p.full ∙ ap slot_of from ∙ q.full) in
    let egress : a ≡ b = p.its_egress ∙ ap (λ (x : Parcel). x.route.egress) parcel ∙ sym q.its_egress in
    let mid : p.mid ≡ q.mid = p.empties ∙ ap (λ (x : PortSide). set_side old (record x { slot = None })) from ∙ sym q.empties in
    let to : p.to ≡ q.to = same_Some p.to q.to (sym p.there ∙ ap (λ (x : Node). side_at x a) mid ∙ ap (λ (x : PortName). side_at q.mid x) egress ∙ q.there) in (
      egress,
      p.is ∙ ap (λ (x : Node). set_side x (record p.to { queue = p.to.queue ++ p.parcel ∷ [] })) mid
          ∙ ap (λ (x : PortSide). set_side q.mid (record x { queue = x.queue ++ p.parcel ∷ [] })) to
          ∙ ap (λ (x : Parcel). set_side q.mid (record q.to { queue = q.to.queue ++ x ∷ [] })) parcel ∙ sym q.is,
    )

-- the two ways in which a push is answered
push_ways : (capacity : ℕ) (old : Node) (port : PortName) (a : PushReply) (m : Node) → PushesPort capacity old port a m
    → ((egress : PortName) × (a ≡ pushed.Done egress) × (push_refusal capacity old (side_at old port) ≡ None) × Pushes old port egress m) ⊎
    ((push_refusal capacity old (side_at old port) ≡ Some a) × (m ≡ old))
push_ways capacity old port (pushed.Done egress) m p = inl (egress, refl, p.0, p.1)
push_ways capacity old port pushed.NoPort m p = inr p
push_ways capacity old port pushed.Nothing m p = inr p
push_ways capacity old port pushed.QueueFull m p = inr p

pub one_push : OnePush
one_push capacity old port a b m n p q = elim (push_ways capacity old port a m p) [
  | inl x ↦ elim (push_ways capacity old port b n q) [
    | inl y ↦ let same = one_pushes old port x.0 y.0 m n x.3 y.3 in (x.1 ∙ ap (λ (e : PortName). pushed.Done e) same.0 ∙ sym y.1, same.1)
    | inr y ↦ absurd (none-some b (sym x.2 ∙ y.0))
  ]
  | inr x ↦ elim (push_ways capacity old port b n q) [
    | inl y ↦ absurd (none-some a (sym y.2 ∙ x.0))
    | inr y ↦ (same_Some a b (sym x.0 ∙ y.0), x.1 ∙ sym y.1)
  ]
]

-- the first SDU and the others
abbrev first_of : Parcel → List Parcel → Parcel
first_of p [] = p
first_of p (q ∷ qs) = q

abbrev others_of : List Parcel → List Parcel
others_of [] = []
others_of (p ∷ ps) = ps

-- an SDU that is pulled gets one number, and leaves one node
one_pulls : (old : Node) (port : PortName) (a b : ℕ) (m n : Node) → Pulls old port a m → Pulls old port b n → (a ≡ b) × (m ≡ n)
one_pulls old port a b m n p q =
    let is_open = one_side old port p.side q.side p.entity q.entity p.its q.its in
    let waiting : p.parcel ∷ p.parcels ≡ q.parcel ∷ q.parcels = sym p.waits ∙ ap queue_of is_open.0 ∙ q.waits in
    let parcel : p.parcel ≡ q.parcel = ap (first_of p.parcel) waiting in
    let parcels : p.parcels ≡ q.parcels = ap others_of waiting in
    let gives : (a ≡ b) × (p.tx ≡ q.tx) = one_gives_same p.entity.tx q.entity.tx (ap (λ (e : Entity). e.tx) is_open.1) (parcel_tag p.parcel) (parcel_tag q.parcel)
    (ap parcel_tag parcel) p.parcel.sdu q.parcel.sdu
    (ap (λ (x : Parcel). x.sdu) parcel) a b p.tx q.tx p.gives q.gives in (
      gives.0,
      p.is ∙ ap (λ (x : PortSide). set_side old (record x { entity = Some (record p.entity { tx = p.tx }); queue = p.parcels })) is_open.0
          ∙ ap (λ (x : Entity). set_side old (record q.side { entity = Some (record x { tx = p.tx }); queue = p.parcels })) is_open.1
          ∙ ap (λ (x : Tx). set_side old (record q.side { entity = Some (record q.entity { tx = x }); queue = p.parcels })) gives.1
          ∙ ap (λ (x : List Parcel). set_side old (record q.side { entity = Some (record q.entity { tx = q.tx }); queue = x })) parcels ∙ sym q.is,
    )

-- the two ways in which a pull is answered
pull_ways : (old : Node) (port : PortName) (a : PullReply) (m : Node) → PullsPort old port a m
    → ((number : ℕ) × (a ≡ pulled.Done number) × (pull_refusal (side_at old port) ≡ None) × Pulls old port number m) ⊎ ((pull_refusal (side_at old port) ≡ Some a) × (m ≡ old))
pull_ways old port (pulled.Done number) m p = inl (number, refl, p.0, p.1)
pull_ways old port pulled.NoPort m p = inr p
pull_ways old port pulled.Empty m p = inr p
pull_ways old port pulled.Stalled m p = inr p

pub one_pull : OnePull
one_pull old port a b m n p q = elim (pull_ways old port a m p) [
  | inl x ↦ elim (pull_ways old port b n q) [
    | inl y ↦ let same = one_pulls old port x.0 y.0 m n x.3 y.3 in (x.1 ∙ ap (λ (k : ℕ). pulled.Done k) same.0 ∙ sym y.1, same.1)
    | inr y ↦ absurd (none-some b (sym x.2 ∙ y.0))
  ]
  | inr x ↦ elim (pull_ways old port b n q) [
    | inl y ↦ absurd (none-some a (sym y.2 ∙ x.0))
    | inr y ↦ (same_Some a b (sym x.0 ∙ y.0), x.1 ∙ sym y.1)
  ]
]
