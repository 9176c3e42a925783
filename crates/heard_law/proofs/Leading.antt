-- Where an SDU leads depends on what a node attaches alone, in whatever order; so the history tells it.
use Rattle.std.proofs.Common.{◌≡◌, ◌⊎◌, inl, inr, ℕ, zero, suc, Bool, true, List, [], ◌∷◌, filter, Some, Result, Ok, Err, refl, sym, ◌∙◌, ap, subst, arith}
use Rattle.std.specs.List.{Contains}
use Rattle.std.proofs.lemmas.Bool.{cases_Bool, cond-true, cond-false}
use Rattle.link_base.specs.declared.names.Chan.{Chan}
use Rattle.link_base.specs.declared.names.Key.{Key}
use Rattle.link_base.specs.declared.names.PortName.{PortName}
use Rattle.link_base.specs.declared.names.PortName.TheVariants.{Direct, Pc5, Uu}
use Rattle.link_base.specs.declared.names.Remote.{Remote}
use Rattle.link_base.specs.declared.names.Side.{Side}
use Rattle.link_base.specs.declared.names.Side.TheVariants.{Low, High}
use Rattle.link_base.specs.declared.discard.Discard.{Discard}
use Rattle.srap_header.specs.Srap.{Srap}
use Rattle.bearer_map.specs.declared.ids.Attachment.{Attachment}
use Rattle.bearer_map.specs.declared.rows.MapRow.{MapRow}
use Rattle.bearer_map.specs.declared.routes.Route.{Route}
use Rattle.bearer_map.specs.declared.routes.RouteFault.{RouteFault}
use Rattle.bearer_map.specs.declared.routes.RouteFault.TheVariants.{UnknownUe, ForeignUe, UnknownBearer}
use Rattle.bearer_map.specs.Contents.{Contents}
use Rattle.bearer_map.specs.Routes.{UpRoute, FromUu, DownRoute, GnbRoute}
use Rattle.node_model.specs.Names.{is_remote}
use Rattle.node_model.specs.Routing.{Target, ToPdcp, Onward, EndsHere, GoesOn, LeadsByHeader, LeadsUnderSrap, Leads}
use Rattle.node_model.specs.State.{Node, id_in}
use Rattle.node_model.proofs.Names.{remote_refl}
use Rattle.chain_model.specs.State.{node_at}
use Rattle.chain_model.specs.Told.{known}
use Rattle.heard_law.specs.Laws.{NodesLeadAsTold}
use Rattle.heard_law.specs.Telling.{is_attached_to, of_remote}

-- of each remote two lists have the same attachments
abbrev pub Same : List Attachment → List Attachment → Type 0
Same xs ys = (r : Remote) → of_remote r xs ≡ of_remote r ys

-- what a list contains behind one more
one_more : {T : Type 0} (x a : T) (xs : List T) → Contains xs a → Contains (x ∷ xs) a
one_more x a xs (k, low, is) = (suc k, omega (arith, low), is)

first_is : {T : Type 0} (x a : T) (xs : List T) → x ≡ a → Contains (x ∷ xs) a
first_is x a xs is = (zero, omega arith, is)

first_or_later : {T : Type 0} (x a : T) (xs : List T) → Contains (x ∷ xs) a → (x ≡ a) ⊎ Contains xs a
first_or_later x a xs (zero, low, is) = inl is
first_or_later x a xs (suc k, low, is) = inr (k, omega (arith, low), is)

-- what is picked was there, and what was there and passes is picked
picked : {T : Type 0} (test : T → Bool) (xs : List T) (a : T) → test a ≡ true → Contains xs a → Contains (filter test xs) a
picked test [] a passes (k, low, is) = absurd (omega (arith, low))
picked {T} test (x ∷ xs) a passes has = elim (first_or_later x a xs has) [
  | inl is ↦ subst (λ (l : List T). Contains l a) (sym (cond-true (test x) (x ∷ filter test xs) (filter test xs) (ap test is ∙ passes))) (first_is x a (filter test xs) is)
  | inr later ↦
      let found = picked test xs a passes later in
      elim (cases_Bool (test x)) [
        | inl p ↦ subst (λ (l : List T). Contains l a) (sym (cond-true (test x) (x ∷ filter test xs) (filter test xs) p)) (one_more x a (filter test xs) found)
        | inr f ↦ subst (λ (l : List T). Contains l a) (sym (cond-false (test x) (x ∷ filter test xs) (filter test xs) f)) found
      ]
]

was_there : {T : Type 0} (test : T → Bool) (xs : List T) (a : T) → Contains (filter test xs) a → Contains xs a
was_there test [] a has = has
was_there {T} test (x ∷ xs) a has = elim (cases_Bool (test x)) [
  | inl p ↦ elim (first_or_later x a (filter test xs) (subst (λ (l : List T). Contains l a) (cond-true (test x) (x ∷ filter test xs) (filter test xs) p) has)) [
    | inl is ↦ first_is x a xs is
    | inr later ↦ one_more x a xs (was_there test xs a later)
  ]
  | inr f ↦ one_more x a xs (was_there test xs a (subst (λ (l : List T). Contains l a) (cond-false (test x) (x ∷ filter test xs) (filter test xs) f) has))
]

same_has : (xs ys : List Attachment) → Same xs ys → (a : Attachment) → Contains xs a → Contains ys a
same_has xs ys same a has = was_there (is_attached_to a.remote) ys a (subst (λ (l : List Attachment). Contains l a) (same a.remote) (picked (is_attached_to a.remote) xs a (remote_refl a.remote) has))

-- the identity of a remote is the first of its own attachments
pub own_id : (r : Remote) (xs : List Attachment) → id_in (of_remote r xs) r ≡ id_in xs r
own_id r [] = refl
own_id r (x ∷ xs) = elim (cases_Bool (is_attached_to r x)) [
  | inl p ↦ ap (λ (l : List Attachment). id_in l r) (cond-true (is_attached_to r x) (x ∷ of_remote r xs) (of_remote r xs) p) ∙ cond-true (is_remote r x.remote) (Some x.id) (id_in (of_remote r xs) r) p
      ∙ sym (cond-true (is_remote r x.remote) (Some x.id) (id_in xs r) p)
  | inr f ↦ ap (λ (l : List Attachment). id_in l r) (cond-false (is_attached_to r x) (x ∷ of_remote r xs) (of_remote r xs) f) ∙ own_id r xs ∙ sym (cond-false (is_remote r x.remote) (Some x.id) (id_in xs r) f)
]

module _ (xs ys : List Attachment) (there : (a : Attachment) → Contains xs a → Contains ys a) (back : (a : Attachment) → Contains ys a → Contains xs a) where
  up_same : (maps : List MapRow) (remote : Remote) (chan : Chan) (ue bearer : ℕ) (result : Result Route RouteFault) → UpRoute maps xs remote chan ue bearer result
      → UpRoute maps ys remote chan ue bearer result
  up_same maps remote chan ue bearer (Ok route) (has, row, maps_it, its, is) = (there _ has, row, maps_it, its, is)
  up_same maps remote chan ue bearer (Err UnknownUe) none = λ other has. none other (back _ has)
  up_same maps remote chan ue bearer (Err ForeignUe) (other, has, ne) = (other, there _ has, ne)
  up_same maps remote chan ue bearer (Err UnknownBearer) (has, none) = (there _ has, none)

  from_same : {A : Type 0} (gives : MapRow → A) (maps : List MapRow) (chan : Chan) (ue bearer : ℕ) (result : Result A RouteFault) → FromUu gives maps xs chan ue bearer result
      → FromUu gives maps ys chan ue bearer result
  from_same gives maps chan ue bearer (Ok x) (remote, has, row, maps_it, its, is) = (remote, there _ has, row, maps_it, its, is)
  from_same gives maps chan ue bearer (Err UnknownUe) none = λ remote has. none remote (back _ has)
  from_same gives maps chan ue bearer (Err ForeignUe) f = f
  from_same gives maps chan ue bearer (Err UnknownBearer) (remote, has, none) = (remote, there _ has, none)

on_same : (P Q : Result Route RouteFault → Type 0) → ((result : Result Route RouteFault) → P result → Q result) → (target : Result Target Discard) → GoesOn P target
    → GoesOn Q target
on_same P Q gives (Ok (ToPdcp key body)) g = g
on_same P Q gives (Ok (Onward route)) g = gives (Ok route) g
on_same P Q gives (Err discard) (fault, is, says) = (fault, gives (Err fault) is, says)

ends_same : (P Q : Result Key RouteFault → Type 0) → ((result : Result Key RouteFault) → P result → Q result) → (pdu : List ℕ) (target : Result Target Discard)
    → EndsHere P pdu target → EndsHere Q pdu target
ends_same P Q gives pdu (Ok (ToPdcp key body)) (is, same) = (gives (Ok key) is, same)
ends_same P Q gives pdu (Ok (Onward route)) g = g
ends_same P Q gives pdu (Err discard) (fault, is, says) = (fault, gives (Err fault) is, says)

module _ (t : Contents) (n m : Node) (same : Same n.attached m.attached) where
  there : (a : Attachment) → Contains n.attached a → Contains m.attached a
  there = same_has n.attached m.attached same

  back : (a : Attachment) → Contains m.attached a → Contains n.attached a
  back = same_has m.attached n.attached (λ r. sym (same r))

  header_same : (at : Side) (port : PortName) (v : Srap) (target : Result Target Discard) → LeadsByHeader t n at port v target → LeadsByHeader t m at port v target
  header_same Low (Pc5 remote chan) v target (own, its, l) = (own, sym (own_id remote m.attached) ∙ ap (λ (xs : List Attachment). id_in xs remote) (sym (same remote)) ∙ own_id remote n.attached ∙ its, l)
  header_same High (Pc5 remote chan) v target l = on_same (UpRoute t.maps n.attached remote chan v.ue v.bearer) (UpRoute t.maps m.attached remote chan v.ue v.bearer) (up_same n.attached m.attached there back t.maps remote chan v.ue v.bearer) target l
  header_same Low (Uu chan) v target l = on_same (DownRoute t.maps n.attached chan v.ue v.bearer) (DownRoute t.maps m.attached chan v.ue v.bearer) (λ result. from_same n.attached m.attached there back _ t.maps chan v.ue v.bearer result) target l
  header_same High (Uu chan) v target l = ends_same (GnbRoute t.maps n.attached chan v.ue v.bearer) (GnbRoute t.maps m.attached chan v.ue v.bearer) (λ result. from_same n.attached m.attached there back _ t.maps chan v.ue v.bearer result) v.body target l
  header_same Low (Direct remote drb) v target l = absurd l
  header_same High (Direct remote drb) v target l = absurd l

  srap_same : (at : Side) (port : PortName) (sdu : List ℕ) (target : Result Target Discard) → LeadsUnderSrap t n at port sdu target → LeadsUnderSrap t m at port sdu target
  srap_same at port sdu target (inl (v, reads, leads)) = inl (v, reads, header_same at port v target leads)
  srap_same at port sdu target (inr x) = inr x

  pub leads_same : (at : Side) (port : PortName) (sdu : List ℕ) (target : Result Target Discard) → Leads t n at port sdu target → Leads t m at port sdu target
  leads_same at (Direct remote drb) sdu target l = l
  leads_same at (Pc5 remote chan) sdu target l = srap_same at (Pc5 remote chan) sdu target l
  leads_same at (Uu chan) sdu target l = srap_same at (Uu chan) sdu target l

pub nodes_lead_as_told : NodesLeadAsTold
nodes_lead_as_told h c told name has at port sdu target =
    let n = node_at c name in
    let m = known c.tables name h in (
      leads_same c.tables n m (told.attached name has) at port sdu target,
      leads_same c.tables m n (λ r. sym (told.attached name has r)) at port sdu target,
    )
