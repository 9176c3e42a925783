-- Where an SDU leads at a node that attaches nothing.
use Rattle.std.proofs.Common.{◌≡◌, inl, inr, ℕ, Bool, true, false, List, [], Result, Ok, Err, refl, sym, ◌∙◌, ap, subst, arith, Contains}
use Rattle.std.proofs.lemmas.Bool.{true≢false}
use Rattle.std.proofs.lemmas.Option.{none-some}
use Rattle.link_base.specs.declared.names.Drb.{Drb}
use Rattle.link_base.specs.declared.names.Key.{Key}
use Rattle.link_base.specs.declared.names.PortName.{PortName}
use Rattle.link_base.specs.declared.names.PortName.TheVariants.{Direct, Pc5, Uu}
use Rattle.link_base.specs.declared.names.Remote.{Remote}
use Rattle.link_base.specs.declared.names.Side.{Side}
use Rattle.link_base.specs.declared.names.Side.TheVariants.{Low, High}
use Rattle.link_base.specs.declared.discard.Discard.{Discard}
use Rattle.bearer_map.specs.Contents.{Contents}
use Rattle.bearer_map.specs.declared.ids.Attachment.{Attachment}
use Rattle.bearer_map.specs.Ids.{attachment}
use Rattle.node_model.specs.Routing.{Target, ToPdcp, Leads, LeadsByHeader, LeadsUnderSrap}
use Rattle.node_model.specs.State.{Node, id_in}
use Rattle.srap_header.specs.Srap.{Srap}
use Rattle.direct_run_law.proofs.Ends.{heard}

abbrev key_in : Result Target Discard → Key → Key
key_in (Ok (ToPdcp key body)) other = key
key_in target other = other

abbrev body_in : Result Target Discard → List ℕ
body_in (Ok (ToPdcp key body)) = body
body_in target = []

abbrev is_target : Result Target Discard → Bool
is_target (Ok target) = true
is_target (Err discard) = false

-- it leads to a bearer over the bearer's direct port alone, and as it is
pub record LeadsDirect (at : Side) (port : PortName) (sdu : List ℕ) (key : Key) (body : List ℕ) : Type 0 where
  pub remote : Remote
  pub drb : Drb
  pub direct : port ≡ Direct remote drb
  pub its_key : key ≡ heard remote drb at
  pub its_body : body ≡ sdu

module _ (t : Contents) (n : Node) (none : n.attached ≡ []) (sdu : List ℕ) (key : Key) (body : List ℕ) where
  by_header : (at : Side) (port : PortName) (v : Srap) → LeadsByHeader t n at port v (Ok (ToPdcp key body)) → LeadsDirect at port sdu key body
  by_header Low (Pc5 remote chan) v l = absurd (none-some l.0 (sym (ap (λ (a : List Attachment). id_in a remote) none) ∙ l.1))
  by_header High (Pc5 remote chan) v l = absurd l
  by_header Low (Uu chan) v l = absurd l
  by_header High (Uu chan) v l = absurd (nobody (subst (λ (a : List Attachment). Contains a (attachment l.0.0 (record { 0 = v.ue }))) none l.0.1))
    where
      nobody : {x : Attachment} → Contains [] x → ⊥
      nobody m = omega (arith, m.1)
  by_header Low (Direct remote drb) v l = absurd l
  by_header High (Direct remote drb) v l = absurd l

  under_srap : (at : Side) (port : PortName) → LeadsUnderSrap t n at port sdu (Ok (ToPdcp key body)) → LeadsDirect at port sdu key body
  under_srap at port (inl (v, reads, leads)) = by_header at port v leads
  under_srap at port (inr (fault, is, says)) = absurd (true≢false (ap is_target says))

  pub leads_direct : (at : Side) (port : PortName) → Leads t n at port sdu (Ok (ToPdcp key body)) → LeadsDirect at port sdu key body
  leads_direct at (Direct remote drb) is = record { remote = remote; drb = drb; direct = refl; its_key = ap (λ r. key_in r key) is; its_body = ap body_in is }
  leads_direct at (Pc5 remote chan) l = under_srap at (Pc5 remote chan) l
  leads_direct at (Uu chan) l = under_srap at (Uu chan) l
