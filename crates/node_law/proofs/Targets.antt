-- Where an SDU leads, and what an end makes of a PDCP PDU, has one answer.
use Rattle.std.proofs.Common.{◌≡◌, inl, inr, ℕ, Bool, true, false, List, sym, ◌∙◌, ap, subst}
use Rattle.std.specs.declared.result.Result.{Result}
use Rattle.std.specs.declared.result.Result.TheVariants.{Ok, Err}
use Rattle.std.proofs.lemmas.Bool.{false≢true}
use Rattle.std.proofs.lemmas.Option.{same_Some}
use Rattle.link_base.specs.declared.discard.Discard.{Discard}
use Rattle.link_base.specs.declared.names.Key.{Key}
use Rattle.link_base.specs.declared.names.LocalId.{LocalId}
use Rattle.link_base.specs.declared.names.PortName.{PortName}
use Rattle.link_base.specs.declared.names.PortName.TheVariants.{Direct, Pc5, Uu}
use Rattle.link_base.specs.declared.names.Side.{Side}
use Rattle.link_base.specs.declared.names.Side.TheVariants.{Low, High}
use Rattle.srap_header.specs.declared.pdu.SrapFault.{SrapFault}
use Rattle.srap_header.specs.Srap.{Srap}
use Rattle.srap_header.specs.Laws.{OneReading as OneSrap, NoFaultWhereRead as NoSrapFault}
use Rattle.bearer_map.specs.declared.routes.Route.{Route}
use Rattle.bearer_map.specs.declared.routes.RouteFault.{RouteFault}
use Rattle.bearer_map.specs.Contents.{Contents, map_rank}
use Rattle.bearer_map.specs.Ids.{AreIds}
use Rattle.bearer_map.specs.Order.{IsAscending}
use Rattle.bearer_map.specs.Routes.{UpRoute, DownRoute, GnbRoute, RemoteRoute}
use Rattle.bearer_map.specs.Laws.{OneUpRoute, OneDownRoute, OneGnbRoute, OneRemoteRoute}
use Rattle.node_model.specs.State.{Node}
use Rattle.node_model.specs.Routing.{Target, ToPdcp, Onward, srap_discard, route_discard, EndsHere, GoesOn, LeadsByHeader, LeadsUnderSrap}
use Rattle.node_law.specs.OneOutcome.{OneTarget}

-- an answer is no fault
abbrev is_ok : {A B : Type 0} → Result A B → Bool
is_ok (Ok x) = true
is_ok (Err e) = false

-- what it is, or this
abbrev ok_or : {A B : Type 0} → A → Result A B → A
ok_or d (Ok x) = x
ok_or d (Err e) = d

abbrev err_or : {A B : Type 0} → B → Result A B → B
err_or d (Ok x) = d
err_or d (Err e) = e

-- one can't be both
no_both : {A B C : Type 0} (x : A) (e : B) → Ok x ≡ Err e → C
no_both x e same = absurd (false≢true (sym (ap is_ok same)))

-- where a route has one answer, it ends at one key
one_end : (Routes : Result Key RouteFault → Type 0) → ((a b : Result Key RouteFault) → Routes a → Routes b → a ≡ b) → (pdu : List ℕ) (a b : Result Target Discard)
    → EndsHere Routes pdu a → EndsHere Routes pdu b → a ≡ b
one_end Routes one pdu (Ok (ToPdcp key body)) (Ok (ToPdcp key' body')) p q =
    ap (λ (k : Key). Ok (ToPdcp k body)) (ap (ok_or key) (one (Ok key) (Ok key') p.0 q.0)) ∙ ap (λ (x : List ℕ). Ok (ToPdcp key' x)) (p.1 ∙ sym q.1)
one_end Routes one pdu (Ok (ToPdcp key body)) (Ok (Onward route)) p q = absurd q
one_end Routes one pdu (Ok (ToPdcp key body)) (Err d) p q = no_both key q.0 (one (Ok key) (Err q.0) p.0 q.1)
one_end Routes one pdu (Ok (Onward route)) b p q = absurd p
one_end Routes one pdu (Err d) (Ok (ToPdcp key body)) p q = no_both key p.0 (one (Ok key) (Err p.0) q.0 p.1)
one_end Routes one pdu (Err d) (Ok (Onward route)) p q = absurd q
one_end Routes one pdu (Err d) (Err d') p q = ap (λ (x : Discard). Err x) (p.2 ∙ ap route_discard (ap (err_or p.0) (one (Err p.0) (Err q.0) p.1 q.1)) ∙ sym q.2)

-- and goes on by one route
one_way_on : (Routes : Result Route RouteFault → Type 0) → ((a b : Result Route RouteFault) → Routes a → Routes b → a ≡ b) → (a b : Result Target Discard)
    → GoesOn Routes a → GoesOn Routes b → a ≡ b
one_way_on Routes one (Ok (Onward route)) (Ok (Onward route')) p q = ap (λ (x : Route). Ok (Onward x)) (ap (ok_or route) (one (Ok route) (Ok route') p q))
one_way_on Routes one (Ok (Onward route)) (Ok (ToPdcp key body)) p q = absurd q
one_way_on Routes one (Ok (Onward route)) (Err d) p q = no_both route q.0 (one (Ok route) (Err q.0) p q.1)
one_way_on Routes one (Ok (ToPdcp key body)) b p q = absurd p
one_way_on Routes one (Err d) (Ok (Onward route)) p q = no_both route p.0 (one (Ok route) (Err p.0) q p.1)
one_way_on Routes one (Err d) (Ok (ToPdcp key body)) p q = absurd q
one_way_on Routes one (Err d) (Err d') p q = ap (λ (x : Discard). Err x) (p.2 ∙ ap route_discard (ap (err_or p.0) (one (Err p.0) (Err q.0) p.1 q.1)) ∙ sym q.2)

-- routes have one answer, and octets one reading
module _ (up : OneUpRoute) (down : OneDownRoute) (gnb : OneGnbRoute) (own : OneRemoteRoute) (one_srap : OneSrap) (no_fault : NoSrapFault) (t : Contents) (n : Node)
    (rows : IsAscending map_rank t.maps) (ids : AreIds n.attached) where
  -- so a header leads to one place
  by_header : (at : Side) (port : PortName) (v : Srap) (a b : Result Target Discard) → LeadsByHeader t n at port v a → LeadsByHeader t n at port v b → a ≡ b
  by_header Low (Pc5 remote chan) v a b p q =
      let same : p.0 ≡ q.0 = same_Some p.0 q.0 (sym p.1 ∙ q.1) in
      one_end (RemoteRoute t.maps q.0.0 remote chan v.ue v.bearer) (λ x y f g. own t.maps q.0.0 remote chan v.ue v.bearer x y rows f g) v.body a b
      (subst (λ (x : LocalId). EndsHere (RemoteRoute t.maps x.0 remote chan v.ue v.bearer) v.body a) same p.2) q.2
  by_header High (Pc5 remote chan) v a b p q = one_way_on (UpRoute t.maps n.attached remote chan v.ue v.bearer)
      (λ x y f g. up t.maps n.attached remote chan v.ue v.bearer x y rows ids f g) a b p q
  by_header Low (Uu chan) v a b p q = one_way_on (DownRoute t.maps n.attached chan v.ue v.bearer) (λ x y f g. down t.maps n.attached chan v.ue v.bearer x y rows ids f g) a b p q
  by_header High (Uu chan) v a b p q = one_end (GnbRoute t.maps n.attached chan v.ue v.bearer)
      (λ x y f g. gnb t.maps n.attached chan v.ue v.bearer x y rows ids f g) v.body a b p q
  by_header at (Direct remote drb) v a b p q = absurd p

  -- so do octets
  under_srap : (at : Side) (port : PortName) (sdu : List ℕ) (a b : Result Target Discard) → LeadsUnderSrap t n at port sdu a → LeadsUnderSrap t n at port sdu b → a ≡ b
  under_srap at port sdu a b (inl p) (inl q) = by_header at port q.0 a b (subst (λ (v : Srap). LeadsByHeader t n at port v a) (one_srap p.0 q.0 sdu p.1 q.1) p.2) q.2
  under_srap at port sdu a b (inl p) (inr q) = absurd (no_fault p.0 sdu q.0 p.1 q.1)
  under_srap at port sdu a b (inr p) (inl q) = absurd (no_fault q.0 sdu p.0 q.1 p.1)
  under_srap at port sdu a b (inr p) (inr q) = p.2 ∙ ap (λ (f : SrapFault). Err (srap_discard f)) (same_Some p.0 q.0 (sym p.1 ∙ q.1)) ∙ sym q.2

pub one_target : OneUpRoute → OneDownRoute → OneGnbRoute → OneRemoteRoute → OneSrap → NoSrapFault → OneTarget
one_target up down gnb own one_srap no_fault t n at (Direct remote drb) sdu a b rows ids p q = p ∙ sym q
one_target up down gnb own one_srap no_fault t n at (Pc5 remote chan) sdu a b rows ids p q = under_srap up down gnb own one_srap no_fault t n rows ids at
    (Pc5 remote chan) sdu a b p q
one_target up down gnb own one_srap no_fault t n at (Uu chan) sdu a b rows ids p q = under_srap up down gnb own one_srap no_fault t n rows ids at (Uu chan) sdu a b p q
