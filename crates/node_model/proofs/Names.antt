-- Names that pass the tests of names are one, and the two sides of a port are at different nodes.
use Rattle.std.proofs.Common.{◌≡◌, ◌⊎◌, inl, inr, ℕ, Bool, true, false, refl, sym, ◌∙◌, ap}
use Rattle.std.proofs.lemmas.Bool.{cases_Bool, eqb-true, eq-eqb, and_parts, and_from, false≢true, true≢false}
use Rattle.link_base.specs.declared.names.Remote.{Remote}
use Rattle.link_base.specs.declared.names.Side.{Side}
use Rattle.link_base.specs.declared.names.Side.TheVariants.{Low, High}
use Rattle.link_base.specs.declared.names.Key.{Key}
use Rattle.link_base.specs.declared.names.Way.{Way}
use Rattle.link_base.specs.declared.names.Way.TheVariants.{Ul, Dl}
use Rattle.link_base.specs.declared.names.PortName.{PortName}
use Rattle.link_base.specs.declared.names.PortName.TheVariants.{Direct, Pc5, Uu}
use Rattle.node_model.specs.Names.{NodeName, AtRemote, AtRelay, AtGnb, is_remote, is_node, is_port, is_way, is_key, key_of, owner, source, sink}

pub remote_is : (a b : Remote) → is_remote a b ≡ true → a ≡ b
remote_is a b e = ap (λ (n : ℕ). let r : Remote = record { 0 = n } in r) (eqb-true a.0 b.0 e)

pub remote_refl : (a : Remote) → is_remote a a ≡ true
remote_refl a = eq-eqb a.0 a.0 refl

pub node_is : (a b : NodeName) → is_node a b ≡ true → a ≡ b
node_is (AtRemote a) (AtRemote b) e = ap AtRemote (remote_is a b e)
node_is AtRelay AtRelay e = refl
node_is AtGnb AtGnb e = refl
node_is (AtRemote a) AtRelay e = absurd (false≢true e)
node_is (AtRemote a) AtGnb e = absurd (false≢true e)
node_is AtRelay (AtRemote b) e = absurd (false≢true e)
node_is AtRelay AtGnb e = absurd (false≢true e)
node_is AtGnb (AtRemote b) e = absurd (false≢true e)
node_is AtGnb AtRelay e = absurd (false≢true e)

pub node_refl : (a : NodeName) → is_node a a ≡ true
node_refl (AtRemote a) = remote_refl a
node_refl AtRelay = refl
node_refl AtGnb = refl

pub port_is : (a b : PortName) → is_port a b ≡ true → a ≡ b
port_is (Direct r d) (Direct q e) is = let p = and_parts _ _ is in
    ap (λ (n : ℕ). Direct (record { 0 = n }) d) (eqb-true r.0 q.0 p.0) ∙ ap (λ (n : ℕ). Direct q (record { 0 = n })) (eqb-true d.0 e.0 p.1)
port_is (Pc5 r c) (Pc5 q e) is = let p = and_parts _ _ is in
    ap (λ (n : ℕ). Pc5 (record { 0 = n }) c) (eqb-true r.0 q.0 p.0) ∙ ap (λ (n : ℕ). Pc5 q (record { 0 = n })) (eqb-true c.0 e.0 p.1)
port_is (Uu c) (Uu e) is = ap (λ (n : ℕ). Uu (record { 0 = n })) (eqb-true c.0 e.0 is)
port_is (Direct r d) (Pc5 q e) is = absurd (false≢true is)
port_is (Direct r d) (Uu e) is = absurd (false≢true is)
port_is (Pc5 r c) (Direct q e) is = absurd (false≢true is)
port_is (Pc5 r c) (Uu e) is = absurd (false≢true is)
port_is (Uu c) (Direct q e) is = absurd (false≢true is)
port_is (Uu c) (Pc5 q e) is = absurd (false≢true is)

pub port_refl : (a : PortName) → is_port a a ≡ true
port_refl (Direct r d) = and_from _ _ (remote_refl r) (eq-eqb d.0 d.0 refl)
port_refl (Pc5 r c) = and_from _ _ (remote_refl r) (eq-eqb c.0 c.0 refl)
port_refl (Uu c) = eq-eqb c.0 c.0 refl

pub way_is : (a b : Way) → is_way a b ≡ true → a ≡ b
way_is Ul Ul e = refl
way_is Dl Dl e = refl
way_is Ul Dl e = absurd (false≢true e)
way_is Dl Ul e = absurd (false≢true e)

pub way_refl : (a : Way) → is_way a a ≡ true
way_refl Ul = refl
way_refl Dl = refl

pub key_is : (a b : Key) → is_key a b ≡ true → a ≡ b
key_is a b e =
    let first = and_parts _ _ e in
    let rest = and_parts _ _ first.1 in
    ap (λ r. key_of r a.drb a.way) (remote_is a.remote b.remote first.0) ∙ ap (λ (n : ℕ). key_of b.remote (record { 0 = n }) a.way) (eqb-true a.drb.0 b.drb.0 rest.0) ∙ ap (key_of b.remote b.drb) (way_is a.way b.way rest.1)

pub key_refl : (a : Key) → is_key a a ≡ true
key_refl a = and_from _ _ (remote_refl a.remote) (and_from _ _ (eq-eqb a.drb.0 a.drb.0 refl) (way_refl a.way))

-- a test that tells names apart: what passes it is one name, and each name passes with itself
module _ {Name : Type 0} (test : Name → Name → Bool) (is : (a b : Name) → test a b ≡ true → a ≡ b) (itself : (a : Name) → test a a ≡ true) where
  told_apart : (a b : Name) → (a ≡ b) ⊎ (a ≡ b → ⊥)
  told_apart a b = elim (cases_Bool (test a b)) [
    | inl e ↦ inl (is a b e)
    | inr e ↦ inr (λ same. false≢true (sym e ∙ ap (test a) (sym same) ∙ itself a))
  ]

  fails : (a b : Name) → (a ≡ b → ⊥) → test a b ≡ false
  fails a b ne = elim (cases_Bool (test a b)) [
    | inl e ↦ absurd (ne (is a b e))
    | inr e ↦ e
  ]

pub cases_node : (a b : NodeName) → (a ≡ b) ⊎ (a ≡ b → ⊥)
cases_node = told_apart is_node node_is node_refl

pub node_apart : (a b : NodeName) → (a ≡ b → ⊥) → is_node a b ≡ false
node_apart = fails is_node node_is node_refl

pub cases_port : (a b : PortName) → (a ≡ b) ⊎ (a ≡ b → ⊥)
cases_port = told_apart is_port port_is port_refl

pub port_apart : (a b : PortName) → (a ≡ b → ⊥) → is_port a b ≡ false
port_apart = fails is_port port_is port_refl

pub cases_remote : (a b : Remote) → (a ≡ b) ⊎ (a ≡ b → ⊥)
cases_remote = told_apart is_remote remote_is remote_refl

pub remote_apart : (a b : Remote) → (a ≡ b → ⊥) → is_remote a b ≡ false
remote_apart = fails is_remote remote_is remote_refl

pub cases_key : (a b : Key) → (a ≡ b) ⊎ (a ≡ b → ⊥)
cases_key = told_apart is_key key_is key_refl

pub key_apart : (a b : Key) → (a ≡ b → ⊥) → is_key a b ≡ false
key_apart = fails is_key key_is key_refl

-- the two ends of a key are different nodes
pub ends_apart : (key : Key) → source key ≡ sink key → ⊥
ends_apart key e = by key.way e
  where
    by : (w : Way) → source (key_of key.remote key.drb w) ≡ sink (key_of key.remote key.drb w) → ⊥
    by Ul x = true≢false (ap (λ (n : NodeName). is_node n AtGnb) (sym x))
    by Dl x = true≢false (ap (λ (n : NodeName). is_node n AtGnb) x)

-- the two sides of a port are at different nodes
pub owner_side : (a b : Side) (p : PortName) → owner a p ≡ owner b p → a ≡ b
owner_side Low Low p e = refl
owner_side High High p e = refl
owner_side Low High (Direct r d) e = absurd (false≢true (ap (λ (n : NodeName). is_node n AtGnb) e))
owner_side Low High (Pc5 r c) e = absurd (false≢true (ap (λ (n : NodeName). is_node n AtRelay) e))
owner_side Low High (Uu c) e = absurd (true≢false (ap (λ (n : NodeName). is_node n AtRelay) e))
owner_side High Low (Direct r d) e = absurd (true≢false (ap (λ (n : NodeName). is_node n AtGnb) e))
owner_side High Low (Pc5 r c) e = absurd (true≢false (ap (λ (n : NodeName). is_node n AtRelay) e))
owner_side High Low (Uu c) e = absurd (false≢true (ap (λ (n : NodeName). is_node n AtRelay) e))

-- a node has a side of a port, or none
pub cases_owner : (x : NodeName) (p : PortName) → ((side : Side) × (owner side p ≡ x)) ⊎ ((side : Side) → owner side p ≡ x → ⊥)
cases_owner x p = elim (cases_node (owner Low p) x) [
  | inl low ↦ inl (Low, low)
  | inr not_low ↦ elim (cases_node (owner High p) x) [
    | inl high ↦ inl (High, high)
    | inr not_high ↦ inr (neither not_low not_high)
  ]
]
  where
    neither : (owner Low p ≡ x → ⊥) → (owner High p ≡ x → ⊥) → (side : Side) → owner side p ≡ x → ⊥
    neither low high Low = low
    neither low high High = high
