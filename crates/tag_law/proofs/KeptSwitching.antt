-- A node that applies a plan keeps at its direct ports what its senders have given, since those of the plan's remote wait.
use Rattle.std.proofs.Common.{◌≡◌, ◌⊎◌, inl, inr, ℕ, ◌+◌, ◌<◌, ◌≤◌, Bool, true, false, cond, length, Option, Some, None, unwrap_or, option_map, option_and_then, refl}
use Rattle.std.proofs.Common.{sym, ◌∙◌, ap, subst, arith}
use Rattle.std.proofs.lemmas.Bool.{cases_Bool, cond-true, cond-false, true≢false, false≢true}
use Rattle.std.proofs.lemmas.Option.{none-some}
use Rattle.link_base.specs.declared.names.Drb.{Drb}
use Rattle.link_base.specs.declared.names.Goal.{Goal}
use Rattle.link_base.specs.declared.names.Goal.TheVariants.{Direct as ToDirect, Relay as ToRelay}
use Rattle.link_base.specs.declared.names.Key.{Key}
use Rattle.link_base.specs.declared.names.PortName.TheVariants.{Direct}
use Rattle.link_base.specs.declared.names.Remote.{Remote}
use Rattle.bearer_map.specs.declared.settings.Settings.{Settings}
use Rattle.pdcp_model.specs.Sender.{Sender, begins_wait, kept_at}
use Rattle.rlc_model.specs.Sides.{Entity}
use Rattle.node_model.specs.Names.{is_key, is_of, is_port, is_remote}
use Rattle.node_model.specs.Opening.{attachments, new_entity}
use Rattle.node_model.specs.State.{PortSide, Node, Outgoing, entity_of, side_at, entity_at, no_outgoing, outgoing, outgoing_at}
use Rattle.node_model.specs.Switching.{node_after, outgoing_after, side_after}
use Rattle.node_model.specs.Tables.{is_open_on}
use Rattle.node_model.proofs.Finding.{find_map, find_same}
use Rattle.node_model.proofs.Names.{remote_is, remote_refl}
use Rattle.chain_model.proofs.Lookups.{outgoing_key}
use Rattle.chain_law.proofs.Nodes.{side_name}
use Rattle.carried_law.proofs.Switching.{applied_side}
use Rattle.heard_law.proofs.Attached.{of_switched}
use Rattle.heard_law.specs.Telling.{of_remote}
use Rattle.tag_law.specs.Laws.{KeepsCount}
use Rattle.tag_law.proofs.Kept.{NodeKept}

-- a direct port that is open is one on the direct path
on_direct : (goal : Goal) (remote : Remote) (drb : Drb) → is_open_on goal (Direct remote drb) ≡ true → goal ≡ ToDirect
on_direct ToDirect remote drb is = refl
on_direct (ToRelay id) remote drb is = absurd (false≢true is)

module _ (s : Settings) (remote : Remote) (goal : Goal) (epoch : ℕ) (n : Node) where
  -- the remote's own direct ports are open on the direct path alone
  own_direct : (r : Remote) (drb : Drb) (e : Entity) → is_remote remote r ≡ true → entity_at (node_after s remote goal epoch n) (Direct r drb) ≡ Some e → goal ≡ ToDirect
  own_direct r drb e own is = by (side_at n (Direct r drb)) refl
    where
      now : entity_at (node_after s remote goal epoch n) (Direct r drb) ≡ option_and_then entity_of (option_map (side_after s remote goal epoch) (side_at n (Direct r drb)))
      now = ap (option_and_then entity_of) (find_map (side_after s remote goal epoch) (λ (x : PortSide). is_port (Direct r drb) x.name) n.ports)

      open_is : (b : Bool) (x : Entity) → cond b (Some x) None ≡ Some e → b ≡ true
      open_is true x e_is = refl
      open_is false x e_is = absurd (none-some e e_is)

      by : (o : Option PortSide) → side_at n (Direct r drb) ≡ o → goal ≡ ToDirect
      by None at = absurd (none-some e (sym (ap (λ (o : Option PortSide). option_and_then entity_of (option_map (side_after s remote goal epoch) o)) at) ∙ sym now ∙ is))
      by (Some x) at =
          let name : Direct r drb ≡ x.name = side_name n (Direct r drb) x at in
          let its : cond (is_of remote x.name) (cond (is_open_on goal x.name) (Some (new_entity s x.size epoch)) None) x.entity ≡ Some e
          = sym (ap (λ (o : Option PortSide). option_and_then entity_of (option_map (side_after s remote goal epoch) o)) at) ∙ sym now ∙ is in
          on_direct goal r drb (ap (is_open_on goal) name ∙ open_is (is_open_on goal x.name) (new_entity s x.size epoch)
          (sym (cond-true (is_of remote x.name) _ x.entity (ap (is_of remote) (sym name) ∙ own)) ∙ its))

  -- the sending end of a key
  after_key : (o : Outgoing) → (outgoing_after remote o).key ≡ o.key
  after_key o = by (is_remote remote o.key.remote)
    where
      by : (b : Bool) → (cond b (record o { sender = begins_wait o.sender }) o).key ≡ o.key
      by true = refl
      by false = refl

  after_out : (key : Key) → outgoing_at (node_after s remote goal epoch n) key ≡ option_map (outgoing_after remote) (outgoing_at n key)
  after_out key = find_map (outgoing_after remote) (λ (o : Outgoing). is_key key o.key) n.outgoing
      ∙ ap (option_map (outgoing_after remote)) (find_same (λ (o : Outgoing). is_key key (outgoing_after remote o).key) (λ (o : Outgoing). is_key key o.key)
      (λ o. ap (is_key key) (after_key o)) n.outgoing)

  sender_after : (key : Key) → (outgoing (node_after s remote goal epoch n) key).sender
      ≡ (unwrap_or (option_map (outgoing_after remote) (outgoing_at n key)) (no_outgoing key)).sender
  sender_after key = ap (λ (o : Option Outgoing). (unwrap_or o (no_outgoing key)).sender) (after_out key)

  -- its place and its SDUs stay
  place_after : (key : Key) → (outgoing n key).sender.place ≤ length (outgoing n key).sender.kept
      → (outgoing (node_after s remote goal epoch n) key).sender.place ≤ length (outgoing (node_after s remote goal epoch n) key).sender.kept
  place_after key within = subst (λ (x : Sender). x.place ≤ length x.kept) (sym (sender_after key)) (by (outgoing_at n key) within)
    where
      either : (o : Outgoing) (b : Bool) → o.sender.place ≤ length o.sender.kept
          → (cond b (record o { sender = begins_wait o.sender }) o).sender.place ≤ length (cond b (record o { sender = begins_wait o.sender }) o).sender.kept
      either o true le = le
      either o false le = le

      by : (o : Option Outgoing) → (unwrap_or o (no_outgoing key)).sender.place ≤ length (unwrap_or o (no_outgoing key)).sender.kept
          → (unwrap_or (option_map (outgoing_after remote) o) (no_outgoing key)).sender.place
          ≤ length (unwrap_or (option_map (outgoing_after remote) o) (no_outgoing key)).sender.kept
      by None le = le
      by (Some o) le = either o (is_remote remote o.key.remote) le

  -- one that doesn't wait and has given something is of another remote, and as before
  idle_after : (key : Key) (i : ℕ) → (outgoing (node_after s remote goal epoch n) key).sender.waits ≡ false → i < (outgoing (node_after s remote goal epoch n) key).sender.place
      → (is_remote remote key.remote ≡ false) × ((outgoing (node_after s remote goal epoch n) key).sender ≡ (outgoing n key).sender)
  idle_after key i idle low = by (outgoing_at n key) refl
    where
      is_idle : (o : Option Outgoing) → outgoing_at n key ≡ o → (unwrap_or (option_map (outgoing_after remote) o) (no_outgoing key)).sender.waits ≡ false
      is_idle o at = sym (ap (λ (x : Sender). x.waits) (sender_after key
          ∙ ap (λ (o : Option Outgoing). (unwrap_or (option_map (outgoing_after remote) o) (no_outgoing key)).sender) at)) ∙ idle

      waits : (o : Outgoing) (b : Bool) → (cond b (record o { sender = begins_wait o.sender }) o).sender.waits ≡ false → b ≡ true → ⊥
      waits o true idle is = true≢false idle
      waits o false idle is = false≢true is

      by : (o : Option Outgoing) → outgoing_at n key ≡ o
          → (is_remote remote key.remote ≡ false) × ((outgoing (node_after s remote goal epoch n) key).sender ≡ (outgoing n key).sender)
      by None at = absurd (omega (
        arith,
        subst (λ (x : Sender). i < x.place) (sender_after key
            ∙ ap (λ (o : Option Outgoing). (unwrap_or (option_map (outgoing_after remote) o) (no_outgoing key)).sender) at) low,
      ))
      by (Some o) at = elim (cases_Bool (is_remote remote o.key.remote)) [
        | inl own ↦ absurd (waits o (is_remote remote o.key.remote) (is_idle (Some o) at) own)
        | inr other ↦
            let its : o.key ≡ key = ap (λ (x : Option Outgoing). (unwrap_or x (no_outgoing key)).key) (sym at) ∙ outgoing_key n key in (
              ap (λ (k : Key). is_remote remote k.remote) (sym its) ∙ other,
              sender_after key ∙ ap (λ (o : Option Outgoing). (unwrap_or (option_map (outgoing_after remote) o) (no_outgoing key)).sender) at
                  ∙ ap (λ (x : Outgoing). x.sender) (cond-false (is_remote remote o.key.remote) (record o { sender = begins_wait o.sender }) o other)
                  ∙ ap (λ (x : Option Outgoing). (unwrap_or x (no_outgoing key)).sender) (sym at),
            )
      ]

  -- another remote's side stays
  other_side : (r : Remote) (drb : Drb) (e : Entity) → is_remote remote r ≡ false → entity_at (node_after s remote goal epoch n) (Direct r drb) ≡ Some e
      → entity_at n (Direct r drb) ≡ Some e
  other_side r drb e other is = elim (applied_side s remote goal epoch n (Direct r drb) e is) [
    | inl was ↦ was
    | inr opened ↦ absurd (true≢false (sym opened.0 ∙ other))
  ]

  pub after_kept : NodeKept n → NodeKept (node_after s remote goal epoch n)
  after_kept has = record {
    direct = λ r drb e is. of_switched r remote goal n.attached ∙ elim (cases_Bool (is_remote remote r)) [
      | inl own ↦
          let same : is_remote r remote ≡ true = ap (is_remote r) (remote_is remote r own) ∙ remote_refl r in
          cond-true (is_remote r remote) (attachments r goal) (of_remote r n.attached) same ∙ ap (attachments r) (own_direct r drb e own is)
      | inr other ↦
          let apart : is_remote r remote ≡ false = not_same r other (cases_Bool (is_remote r remote)) in
          cond-false (is_remote r remote) (attachments r goal) (of_remote r n.attached) apart ∙ has.direct r drb e (other_side r drb e other is)
    ];
    places = λ key. place_after key (has.places key);
    kept = λ key e is idle i sdu low here.
        let same = idle_after key i idle low in
        subst (λ (x : Sender). KeepsCount e.tx key (x.first + i)) (sym same.1)
        (has.kept key e (other_side key.remote key.drb e same.0 is) (ap (λ (x : Sender). x.waits) (sym same.1) ∙ idle) i sdu
        (subst (λ (x : Sender). i < x.place) same.1 low) (ap (λ (x : Sender). kept_at x i) (sym same.1) ∙ here));
  }
    where
      not_same : (r : Remote) → is_remote remote r ≡ false → (is_remote r remote ≡ true) ⊎ (is_remote r remote ≡ false) → is_remote r remote ≡ false
      not_same r other (inl same) = absurd (true≢false (sym (ap (is_remote remote) (remote_is r remote same) ∙ remote_refl remote) ∙ other))
      not_same r other (inr apart) = apart
