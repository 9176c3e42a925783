-- A list is handed up.
use Rattle.std.proofs.Common.{ℕ, ◌<◌, List, [], ◌∷◌, ◌++◌, refl, sym, subst, arith}
use Rattle.std.specs.List.{All}
use Rattle.std.proofs.lemmas.List.Elements.{All-tail}
use Rattle.link_base.specs.declared.names.SnSize.{SnSize}
use Rattle.link_base.specs.SequenceNumbers.{modulus}
use Rattle.pdcp_model.specs.Receiver.{Receiver, new_receiver}
use Rattle.pdcp_model.specs.HandUp.{Hearing, HasHeard, handed_by}
use Rattle.pdcp_law.specs.HandUps.{SomeHandUp}
use Rattle.pdcp_law.proofs.Outcome.{some_hearing}
use Rattle.pdcp_law.proofs.Holding.{holds_all, hand_up}

-- a receiving side can hear any data PDUs whose SNs are of its size
some_receiver : (size : SnSize) (first : ℕ) (hs : List Hearing) → All (λ (h : Hearing). h.sn < modulus size) hs → (sdus : List (List ℕ)) × (r : Receiver) × HasHeard size first hs sdus r
some_receiver size first [] small = ([], new_receiver size first, (refl, refl))
some_receiver size first (h ∷ hs) small =
    let before = some_receiver size first hs (All-tail (λ (h : Hearing). h.sn < modulus size) h hs small) in
    let all = holds_all size first hs before.0 before.1 before.2 in
    let sn : h.sn < modulus before.1.size = subst (λ (z : SnSize). h.sn < modulus z) (sym all.holds.size_is) (small 0 h (omega arith)) in
    let step = some_hearing before.1 h.sn h.sdu sn in
    (before.0 ++ handed_by step.0, step.1, (before.1, before.0, before.2, step.0, step.2, refl))

-- and hands a list up
pub some_hand_up : SomeHandUp
some_hand_up size first hs small =
    let side = some_receiver size first hs small in
    (side.0, hand_up size first hs side.0 side.1 (holds_all size first hs side.0 side.1 side.2))
