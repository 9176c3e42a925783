-- What the bearer at a place hears is what the node hears for its key.
use Rattle.std.proofs.Common.{◌≡◌, ℕ, List, get_or, set, inl, inr, refl, sym, ◌∙◌, ap, subst}
use Rattle.std.proofs.lemmas.List.{set-get_or}
use Rattle.link_base.specs.declared.names.Key.{Key}
use Rattle.link_base.specs.declared.names.Way.{Way}
use Rattle.link_base.specs.declared.names.Way.TheVariants.{Ul, Dl}
use Rattle.pdcp_pdu.specs.Pdcp.{Sdu, Report, IsPdcp, IsPdcpFault}
use Rattle.pdcp_model.specs.Sender.{Sender, confirmed, hears_report, IsBeyond}
use Rattle.pdcp_model.specs.Receiver.{Receiver, Hears}
use Rattle.rlc_model.specs.Sides.{flip}
use Rattle.node_model.specs.declared.answers.NodeHeard.{NodeHeard}
use Rattle.node_model.specs.declared.answers.NodeHeard.TheVariants as answers
use Rattle.node_model.specs.Names.{back}
use Rattle.node_model.specs.State.{Outgoing, Incoming, outgoing, incoming}
use Rattle.node_model.specs.Ends.{HearsPdcp}
use Rattle.node_model.specs.Ends.HearsPdcp.{data_pdu as to_receiver, report as to_sender, neither as to_none}
use Rattle.node_bearers.specs.declared.bearer.Bearer.{Bearer}
use Rattle.node_bearers.specs.Bearer.{bearer_key}
use Rattle.node_bearers.specs.Hearing.{HearsAt}
use Rattle.node_bearers.specs.Hearing.HearsAt.{data_pdu, report, neither}
use Rattle.node_bearers.specs.Order.{IsInOrder, IsAt, IsOf}
use Rattle.node_bearers.specs.Table.{node_with}
use Rattle.node_bearers.proofs.Table.{sent, received, sets_sent, sets_received}

flip_twice : (way : Way) → flip (flip way) ≡ way
flip_twice Ul = refl
flip_twice Dl = refl

-- what is received at a place goes the other way of what is sent there
pub back_at : (key : Key) (sends : Way) (rows : List Bearer) (place : ℕ) → IsAt (IsOf (flip sends) key) rows place → IsAt (IsOf sends (back key)) rows place
back_at key sends rows place at = (at.0, λ d. ap back (at.1 d) ∙ ap (λ (w : Way). bearer_key w (get_or rows place d)) (flip_twice sends))

module _ (key : Key) (sends : Way) (b : Bearer) (rows : List Bearer) (place : ℕ) (order : IsInOrder rows) (here : b ≡ get_or rows place b) (at : IsAt (IsOf (flip sends) key) rows place) where
  -- the bearer as it is
  same : (new : Bearer) → new ≡ b → node_with sends (set rows place new) ≡ node_with sends rows
  same new is = ap (λ (x : Bearer). node_with sends (set rows place x)) (is ∙ here) ∙ ap (λ (rs : List Bearer). node_with sends rs) (set-get_or rows place b)

  rx_is : (incoming (node_with sends rows) key).receiver ≡ b.rx
  rx_is = ap (λ (i : Incoming). i.receiver) (received key sends b rows place order here at)

  tx_is : (outgoing (node_with sends rows) (back key)).sender ≡ b.tx
  tx_is = ap (λ (o : Outgoing). o.sender) (sent (back key) sends b rows place order here (back_at key sends rows place at))

  pub hears_pdcp : (pdu : List ℕ) (answer : NodeHeard) (new : Bearer) → HearsAt b key pdu answer new → HearsPdcp (node_with sends rows) key pdu answer (node_with sends (set rows place new))
  hears_pdcp pdu answer new (data_pdu sn sdu heard rx is heard_is says new_is) =
      to_receiver sn sdu (subst (λ (r : Receiver). IsPdcp r.size (Sdu sn sdu) pdu) (sym rx_is) is) (record {
        heard = heard;
        receiver = rx;
        hears = subst (λ (r : Receiver). Hears r sn sdu heard rx) (sym rx_is) heard_is;
        says = says;
        is = ap (λ (x : Bearer). node_with sends (set rows place x)) new_is
            ∙ sets_received key sends b rows place order here (record b { rx = rx }) (λ i. record i { receiver = rx }) at refl refl refl;
      })
  hears_pdcp pdu answer new (report fmc map is (inl taken)) =
      to_sender fmc map (subst (λ (r : Receiver). IsPdcp r.size (Report fmc map) pdu) (sym rx_is) is)
      (inl (
        subst (λ (s : Sender). IsBeyond s fmc map → ⊥) (sym tx_is) taken.0,
        taken.1 ∙ ap (λ (s : Sender). answers.Report (back key) (confirmed s)) (sym tx_is),
        ap (λ (x : Bearer). node_with sends (set rows place x)) taken.2
            ∙ sets_sent (back key) sends b rows place order here (record b { tx = hears_report b.tx fmc map }) (λ o. record o { sender = hears_report o.sender fmc map }) (back_at key sends rows place at) refl refl refl,
      ))
  hears_pdcp pdu answer new (report fmc map is (inr beyond)) =
      to_sender fmc map (subst (λ (r : Receiver). IsPdcp r.size (Report fmc map) pdu) (sym rx_is) is)
      (inr (subst (λ (s : Sender). IsBeyond s fmc map) (sym tx_is) beyond.0, beyond.1, same new beyond.2))
  hears_pdcp pdu answer new (neither fault is says new_is) =
      to_none fault (subst (λ (r : Receiver). IsPdcpFault r.size pdu fault) (sym rx_is) is) says (same new new_is)

-- and it is still the same bearer
pub name_stays : (b : Bearer) (key : Key) (pdu : List ℕ) (answer : NodeHeard) (new : Bearer) → HearsAt b key pdu answer new → (new.remote ≡ b.remote) × (new.drb ≡ b.drb)
name_stays b key pdu answer new (data_pdu sn sdu heard rx is heard_is says new_is) = (ap (λ (x : Bearer). x.remote) new_is, ap (λ (x : Bearer). x.drb) new_is)
name_stays b key pdu answer new (report fmc map is (inl taken)) = (ap (λ (x : Bearer). x.remote) taken.2, ap (λ (x : Bearer). x.drb) taken.2)
name_stays b key pdu answer new (report fmc map is (inr beyond)) = (ap (λ (x : Bearer). x.remote) beyond.2, ap (λ (x : Bearer). x.drb) beyond.2)
name_stays b key pdu answer new (neither fault is says new_is) = (ap (λ (x : Bearer). x.remote) new_is, ap (λ (x : Bearer). x.drb) new_is)
