-- The order of ports is strict, and a name is that of one port.
use Rattle.std.proofs.Common.{◌≡◌, ℕ, Bool, true, false, ap, arith, eqb, ltb}
use Rattle.std.proofs.lemmas.Bool.{eqb-true, false≢true, and_parts}
use Rattle.std.proofs.lemmas.Bool.Decides.{nat_tests}
use Rattle.link_base.specs.declared.names.Remote.{Remote}
use Rattle.link_base.specs.declared.names.Drb.{Drb}
use Rattle.link_base.specs.declared.names.Chan.{Chan}
use Rattle.link_base.specs.declared.names.PortName.{PortName}
use Rattle.link_base.specs.declared.names.PortName.TheVariants.{Direct, Pc5, Uu}
use Rattle.node_model.specs.Names.{is_port}
use Rattle.node_ports.specs.Order.{kind_rank, remote_rank, number_rank, first_then, is_before}

then_trans : (a b c : ℕ) (p q r : Bool) → (p ≡ true → q ≡ true → r ≡ true) → first_then a b p ≡ true → first_then b c q ≡ true → first_then a c r ≡ true
then_trans a b c p q r rest x y = grind (arith, nat_tests)

then_self : (a : ℕ) (p : Bool) → p ≡ false → first_then a a p ≡ false
then_self a p f = grind (arith, nat_tests)

less_trans : (a b c : ℕ) → ltb a b ≡ true → ltb b c ≡ true → ltb a c ≡ true
less_trans a b c x y = grind (arith, nat_tests)

less_self : (a : ℕ) → ltb a a ≡ false
less_self a = grind (arith, nat_tests)

pub before_trans : (a b c : PortName) → is_before a b ≡ true → is_before b c ≡ true → is_before a c ≡ true
before_trans a b c x y = then_trans (kind_rank a) (kind_rank b) (kind_rank c) _ _ _
    (then_trans (remote_rank a) (remote_rank b) (remote_rank c) _ _ _ (less_trans (number_rank a) (number_rank b) (number_rank c))) x y

pub before_self : (a : PortName) → is_before a a ≡ false
before_self a = then_self (kind_rank a) _ (then_self (remote_rank a) _ (less_self (number_rank a)))

same_remote : (a b : Remote) → a.0 ≡ b.0 → a ≡ b
same_remote a b e = ap (λ (n : ℕ). let r : Remote = record { 0 = n } in r) e

same_drb : (a b : Drb) → a.0 ≡ b.0 → a ≡ b
same_drb a b e = ap (λ (n : ℕ). let r : Drb = record { 0 = n } in r) e

same_chan : (a b : Chan) → a.0 ≡ b.0 → a ≡ b
same_chan a b e = ap (λ (n : ℕ). let r : Chan = record { 0 = n } in r) e

-- a test that passes tells that two ports are one
pub same_port : (a b : PortName) → is_port a b ≡ true → a ≡ b
same_port (Direct r d) (Direct q e) is =
    let p = and_parts (eqb r.0 q.0) (eqb d.0 e.0) is in
    rw (same_remote r q (eqb-true r.0 q.0 p.0), same_drb d e (eqb-true d.0 e.0 p.1))
same_port (Pc5 r c) (Pc5 q e) is =
    let p = and_parts (eqb r.0 q.0) (eqb c.0 e.0) is in
    rw (same_remote r q (eqb-true r.0 q.0 p.0), same_chan c e (eqb-true c.0 e.0 p.1))
same_port (Uu c) (Uu e) is = rw (same_chan c e (eqb-true c.0 e.0 is))
same_port (Direct r d) (Pc5 q e) is = absurd (false≢true is)
same_port (Direct r d) (Uu e) is = absurd (false≢true is)
same_port (Pc5 r d) (Direct q e) is = absurd (false≢true is)
same_port (Pc5 r d) (Uu e) is = absurd (false≢true is)
same_port (Uu c) (Direct q e) is = absurd (false≢true is)
same_port (Uu c) (Pc5 q e) is = absurd (false≢true is)

pub port_itself : (a : PortName) → is_port a a ≡ true
port_itself (Direct r d) = grind (arith, nat_tests)
port_itself (Pc5 r c) = grind (arith, nat_tests)
port_itself (Uu c) = grind (arith, nat_tests)
