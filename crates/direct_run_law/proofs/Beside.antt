-- What a PDU that is heard at a node leaves as it is: its ports but for the entity called, and the ends of other bearers.
use Rattle.std.proofs.Common.{◌≡◌, inl, inr, ℕ, List, [], Option, Some, unwrap_or, Result, Ok, Err, refl, sym, ◌∙◌, ap, subst, arith, Contains}
use Rattle.link_base.specs.declared.names.Drb.{Drb}
use Rattle.link_base.specs.declared.names.Key.{Key}
use Rattle.link_base.specs.declared.names.PortName.{PortName}
use Rattle.link_base.specs.declared.names.PortName.TheVariants.{Direct, Pc5, Uu}
use Rattle.link_base.specs.declared.names.Remote.{Remote}
use Rattle.link_base.specs.declared.names.Side.{Side}
use Rattle.link_base.specs.declared.rlc_words.Tag.{Tag}
use Rattle.link_base.specs.declared.discard.Discard.{Discard}
use Rattle.bearer_map.specs.Contents.{Contents}
use Rattle.rlc_model.specs.declared.hop.HopHeard.{HopHeard}
use Rattle.rlc_model.specs.declared.hop.HopHeard.TheVariants.{Amd, Status, BadAmd, BadStatus}
use Rattle.rlc_model.specs.declared.receiver.Heard.TheVariants.{Complete, Stored, Repeat, Outside, Conflict}
use Rattle.rlc_model.specs.declared.transmitter.StatusHeard.TheVariants.{Acked, Old, Beyond}
use Rattle.rlc_model.specs.Sides.{Entity}
use Rattle.pdcp_model.specs.Sender.{Sender, hears_report}
use Rattle.pdcp_model.specs.Receiver.{Receiver}
use Rattle.node_model.specs.declared.answers.NodeHeard.{NodeHeard}
use Rattle.node_model.specs.Ends.{HearsPdcp, data_pdu, report, neither, confirm_tags}
use Rattle.node_model.specs.Hearing.{Passes, Follows}
use Rattle.node_model.specs.Names.{back}
use Rattle.node_model.specs.Routing.{Target, ToPdcp, Onward, Leads}
use Rattle.node_model.specs.State.{PortSide, Outgoing, Incoming, Node, outgoing, incoming, no_incoming}
use Rattle.chain_model.proofs.Lookups.{incoming_key, outgoing_key, in_others}
use Rattle.chain_law.proofs.Leaving.{confirm_each, out_kept}
use Rattle.book_law.specs.Honest.{HasCount}
use Rattle.direct_run_law.proofs.Carried.{Fits, fits_still, grows_itself, tags_themselves, none_itself}
use Rattle.direct_run_law.proofs.Ends.{Half, sent, heard, half, Both}
use Rattle.direct_run_law.proofs.Confirming.{tags_keep}
use Rattle.direct_run_law.proofs.Leading.{leads_direct}

-- another bearer's end
module _
    (t : Contents) (n1 : Node) (none : n1.attached ≡ []) (remote : Remote) (drb : Drb) (side : Side) (e : Entity) (o : Half) (port : PortName)
    (apart : Direct remote drb ≡ port → ⊥) where
  abbrev S : Key
  S = sent remote drb side

  abbrev H : Key
  H = heard remote drb side

  abbrev Keeps : Node → Type 0
  Keeps new = Both remote drb side (half remote drb side n1 e) o → Both remote drb side (half remote drb side new e) o

  still : (new : Node) → new ≡ n1 → Keeps new
  still new is fits = subst (λ (m : Node). Both remote drb side (half remote drb side m e) o) (sym is) fits

  rows : (new : Node) → (outgoing new S).sender ≡ (outgoing n1 S).sender → (incoming new H).receiver ≡ (incoming n1 H).receiver → Keeps new
  rows new out in' fits = (
    subst (λ (s : Sender). Fits S e.tx o.rx s o.receiver (incoming new H).receiver) (sym out)
        (subst (λ (r : Receiver). Fits S e.tx o.rx (outgoing n1 S).sender o.receiver r) (sym in') fits.0),
    subst (λ (r : Receiver). Fits H o.tx e.rx o.sender r o.receiver) (sym in') fits.1,
  )

  -- a key of another port
  other_key : (key other : Key) → port ≡ Direct other.remote other.drb → (key.remote ≡ remote) × (key.drb ≡ drb) → other ≡ key → ⊥
  other_key key other is its same = apart (ap (λ (r : Remote). Direct r drb) (sym its.0) ∙ ap (λ (d : Drb). Direct key.remote d) (sym its.1) ∙ ap
      (λ (k : Key). Direct k.remote k.drb) (sym same) ∙ sym is)

  hears_other : (key : Key) (body : List ℕ) (answer : NodeHeard) (new : Node) → port ≡ Direct key.remote key.drb → HearsPdcp n1 key body answer new → Keeps new
  hears_other key body answer new at (data_pdu sn sdu reads h) = rows new (ap (λ (m : Node). (outgoing m S).sender) h.is)
      (ap (λ (m : Node). (incoming m H).receiver) h.is ∙ ap (λ (y : Option Incoming). (unwrap_or y (no_incoming H)).receiver)
      (in_others n1 (record (incoming n1 key) { receiver = h.receiver }) H (λ same. other_key H key at (refl, refl) (sym (incoming_key n1 key) ∙ same))))
  hears_other key body answer new at (report fmc bits reads (inl (within, says, is))) = rows new
      (ap (λ (m : Node). (outgoing m S).sender) is ∙ ap (λ (y : Outgoing). y.sender)
      (out_kept n1 (record (outgoing n1 (back key)) { sender = hears_report (outgoing n1 (back key)).sender fmc bits }) S
      (λ same. other_key S (back key) at (refl, refl) (sym (outgoing_key n1 (back key)) ∙ same))))
      (ap (λ (m : Node). (incoming m H).receiver) is)
  hears_other key body answer new at (report fmc bits reads (inr (beyond, says, is))) = still new is
  hears_other key body answer new at (neither fault is says same) = still new same

  passes_other : (at : Side) (here : PortSide) → here.name ≡ port → (sdu : List ℕ) (target : Result Target Discard) (answer : NodeHeard) (new : Node)
      → Leads t n1 at here.name sdu target → Passes n1 here sdu target answer new → Keeps new
  passes_other at here named sdu (Ok (ToPdcp key body)) answer new leads p =
      let l = leads_direct t n1 none sdu key body at here.name leads in
      hears_other key body answer new (sym named ∙ l.direct ∙ ap (λ (k : Key). Direct k.remote k.drb) (sym l.its_key)) p
  passes_other at here named sdu (Ok (Onward route)) answer new leads p = rows new (ap (λ (m : Node). (outgoing m S).sender) p.1) (ap (λ (m : Node). (incoming m H).receiver) p.1)
  passes_other at here named sdu (Err discard) answer new leads p = still new p.1

  confirms_other : (q : PortName) (tags : List Tag) (new : Node)
      → ((r : Remote) (d : Drb) → q ≡ Direct r d → (tag : Tag) → Contains tags tag → (count : ℕ) → tag.count ≡ Some count → tag.key ≡ S → HasCount o.receiver count)
      → new ≡ confirm_tags n1 q tags → Keeps new
  confirms_other (Direct r d) tags new had is fits =
      let all = tags_keep o.receiver S tags n1 (λ tag among key count its. had r d refl tag among count its key) in
      let now : (incoming (confirm_each n1 tags) H).receiver ≡ (incoming n1 H).receiver = ap
      (λ (rows : List Incoming). (incoming (record n1 { incoming = rows }) H).receiver) all.incoming in
      subst (λ (m : Node). Both remote drb side (half remote drb side m e) o) (sym is) (
        subst (λ (y : Receiver). Fits S e.tx o.rx (outgoing (confirm_each n1 tags) S).sender o.receiver y) (sym now)
            (fits_still S o.receiver (outgoing n1 S).sender _ _ _ all.sends (grows_itself (incoming n1 H).receiver) e.tx e.tx o.rx o.rx (tags_themselves e.tx) (omega arith)
            (none_itself o.rx) fits.0),
        subst (λ (y : Receiver). Fits H o.tx e.rx o.sender y o.receiver) (sym now) fits.1,
      )
  confirms_other (Pc5 r chan) tags new had is fits = still new is fits
  confirms_other (Uu chan) tags new had is fits = still new is fits

  pub follows_other : (at : Side) (here : PortSide) → here.name ≡ port → (hop : HopHeard) (answer : NodeHeard) (new : Node)
      → ((tags : List Tag) (marks : List ℕ) → hop ≡ Status (Acked tags marks) → (r : Remote) (d : Drb) → port ≡ Direct r d → (tag : Tag) → Contains tags tag →
      (count : ℕ) → tag.count ≡ Some count → tag.key ≡ S → HasCount o.receiver count)
      → Follows t n1 at here hop answer new → Keeps new
  follows_other at here named (Amd (Complete number whole)) answer new had (target, leads, passes) = passes_other at here named whole target answer new leads passes
  follows_other at here named (Status (Acked tags marks)) answer new had (says, is) = confirms_other here.name tags new (λ r d q. had tags marks refl r d (sym named ∙ q)) is
  follows_other at here named (Amd Stored) answer new had (says, is) = still new is
  follows_other at here named (Amd Repeat) answer new had (says, is) = still new is
  follows_other at here named (Amd Outside) answer new had (says, is) = still new is
  follows_other at here named (Amd Conflict) answer new had (says, is) = still new is
  follows_other at here named (Status (Old ack next)) answer new had (says, is) = still new is
  follows_other at here named (Status (Beyond ack top)) answer new had (says, is) = still new is
  follows_other at here named (BadAmd fault) answer new had (says, is) = still new is
  follows_other at here named (BadStatus fault) answer new had (says, is) = still new is
