-- What hops were given they keep.
use Rattle.std.proofs.Common.{◌≡◌, ℕ, List, [], ◌∷◌, ◌++◌, refl, sym, ◌∙◌, ap, append-nil, append_assoc}
use Rattle.rlc_law.specs.Hop.{Hop, Event, Happens, gives, sends, makes_status, delivers, acknowledges, expires_poll, expires_reassembly, expires_prohibit}
use Rattle.rlc_law.specs.Ports.{Ports, hop_of}
use Rattle.item_chain.specs.Stands.{KeepGiven}

-- whatever happens to a hop
pub hop_keeps : (old : Hop) (event : Event) (new : Hop) → Happens old event new → (more : List (List ℕ)) × (new.given ≡ old.given ++ more)
hop_keeps old event new (gives {sdu = sdu} number t some few give) = (sdu ∷ [], refl)
hop_keeps old event new (sends m v t s) = ([], sym (append-nil old.given))
hop_keeps old event new (makes_status a s r w) = ([], sym (append-nil old.given))
hop_keeps old event new (delivers answer r among fresh h) = ([], sym (append-nil old.given))
hop_keeps old event new (acknowledges answer x among fresh h) = ([], sym (append-nil old.given))
hop_keeps old event new (expires_poll marks t e) = ([], sym (append-nil old.given))
hop_keeps old event new (expires_reassembly r e) = ([], sym (append-nil old.given))
hop_keeps old event new (expires_prohibit r e) = ([], sym (append-nil old.given))

pub given_same : (ports : Ports) → KeepGiven ports ports
given_same ports name epoch port is = (port, is, λ w. ([], sym (append-nil (hop_of port w).given)))

pub given_on : (a b c : Ports) → KeepGiven a b → KeepGiven b c → KeepGiven a c
given_on a b c first second name epoch port is =
    let x = first name epoch port is in
    let y = second name epoch x.0 x.1 in
    (y.0, y.1, λ w. ((x.2 w).0 ++ (y.2 w).0, (y.2 w).1 ∙ ap (λ l. l ++ (y.2 w).0) (x.2 w).1 ∙ append_assoc (hop_of port w).given (x.2 w).0 (y.2 w).0))
