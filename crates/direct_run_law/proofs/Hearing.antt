-- A PDU is heard at an end of a direct port: what follows there keeps both keys.
use Rattle.std.proofs.Common.{◌≡◌, ◌⊎◌, inl, inr, ℕ, ◌+◌, ◌%◌, ◌≤◌, Bool, true, false, List, fold, Option, Some, None, unwrap_or, Result, Ok, refl, sym, ◌∙◌, ap, subst, arith, Contains}
use Rattle.std.proofs.lemmas.Bool.{true≢false}
use Rattle.std.proofs.lemmas.Option.{none-some, same_Some}
use Rattle.link_base.specs.declared.names.Drb.{Drb}
use Rattle.link_base.specs.declared.names.Key.{Key}
use Rattle.link_base.specs.declared.names.PortName.{PortName}
use Rattle.link_base.specs.declared.names.PortName.TheVariants.{Direct}
use Rattle.link_base.specs.declared.names.Remote.{Remote}
use Rattle.link_base.specs.declared.names.Side.{Side}
use Rattle.link_base.specs.declared.names.Side.TheVariants.{Low, High}
use Rattle.link_base.specs.declared.rlc_words.Tag.{Tag}
use Rattle.link_base.specs.declared.discard.Discard.{Discard}
use Rattle.link_base.specs.SequenceNumbers.{modulus}
use Rattle.bearer_map.specs.Contents.{Contents}
use Rattle.bearer_map.specs.declared.rows.BearerRow.{BearerRow}
use Rattle.rlc_model.specs.declared.hop.HopHeard.{HopHeard}
use Rattle.rlc_model.specs.declared.hop.HopHeard.TheVariants.{Amd, Status, BadAmd, BadStatus}
use Rattle.rlc_model.specs.declared.receiver.Heard.TheVariants.{Complete, Stored, Repeat, Outside, Conflict}
use Rattle.rlc_model.specs.declared.transmitter.StatusHeard.TheVariants.{Acked, Old, Beyond}
use Rattle.rlc_model.specs.Hop.{HearsHop}
use Rattle.rlc_model.specs.Rx.{Rx, Done, got}
use Rattle.rlc_model.specs.Sides.{Entity}
use Rattle.rlc_model.specs.Tx.{Tx, Kept, kept_at as rlc_kept_at, tx_next}
use Rattle.pdcp_pdu.specs.Pdcp.{Pdcp, Sdu, Report, IsPdcp}
use Rattle.pdcp_model.specs.Sender.{Sender, is_reported, hears_report}
use Rattle.pdcp_model.specs.Receiver.{Receiver}
use Rattle.node_model.specs.declared.answers.NodeHeard.{NodeHeard}
use Rattle.node_model.specs.Ends.{HearsSdu, HearsReport, HearsPdcp, data_pdu, report, neither, confirm_tags, confirm_count}
use Rattle.node_model.specs.Hearing.{Passes, Follows}
use Rattle.node_model.specs.Names.{back}
use Rattle.node_model.specs.Routing.{Target, ToPdcp, Leads}
use Rattle.node_model.specs.State.{PortSide, Incoming, Node, outgoing, incoming, incoming_at, set_entity, no_incoming}
use Rattle.chain_model.proofs.Lookups.{incoming_key, in_own}
use Rattle.chain_law.specs.Calls.{KeepsTags, CompletesNone, CompletesOne}
use Rattle.book_law.specs.Honest.{HasCount}
use Rattle.direct_run_law.specs.Foundations.{CallLaws, BookLaws, PdcpLaws}
use Rattle.direct_run_law.proofs.Carried.{Waits, Carries, CarriesData, CarriesReport, data_pdu_of, report as carried_report, Fits, SenderKeeps, Grows, fits_still, keeps_itself, grows_itself, tags_themselves, none_itself}
use Rattle.direct_run_law.proofs.Given.{GrowsBy, fits_hears, fits_reports}
use Rattle.direct_run_law.proofs.Ends.{Half, sent, heard, half, Both}
use Rattle.direct_run_law.proofs.Hops.{acked_long}
use Rattle.direct_run_law.proofs.Pdcp.{IsBooked, report_read, report_no_data, waits_spelt, waits_read, hears_grows}
use Rattle.direct_run_law.proofs.Confirming.{tags_keep, report_keeps, out_keeps}

abbrev is_sdu : Pdcp → Bool
is_sdu (Sdu sn sdu) = true
is_sdu (Report fmc bits) = false

-- the key heard at a side is the other way of the one sent there
pub back_heard : (remote : Remote) (drb : Drb) (side : Side) → back (heard remote drb side) ≡ sent remote drb side
back_heard remote drb Low = refl
back_heard remote drb High = refl

-- a target that is known
abbrev target_key : Result Target Discard → Key → Key
target_key (Ok (ToPdcp key body)) other = key
target_key target other = other

module _
    (calls : CallLaws) (books : BookLaws) (pdus : PdcpLaws) (t : Contents) (n : Node) (remote : Remote) (drb : Drb) (at : Side) (e : Entity) (o : Half) (bytes : List ℕ)
    (row : BearerRow)
    (completes : (number : ℕ) (whole : List ℕ) (tx : Tx) (rx : Rx) → HearsHop e.tx e.rx bytes (Amd (Complete number whole)) tx rx → (k : Kept) ×
    (rlc_kept_at o.tx number ≡ Some k) × (k.sdu ≡ whole))
    (acked : (tags : List Tag) (marks : List ℕ) (tx : Tx) (rx : Rx) → HearsHop e.tx e.rx bytes (Status (Acked tags marks)) tx rx → (tag : Tag) → Contains tags tag → (i : ℕ) ×
    (k : Kept) × (rlc_kept_at e.tx i ≡ Some k) × (tag ≡ k.tag) × (got o.rx i ≡ Done))
    (booked : IsBooked row (heard remote drb at) o.sender (incoming n (heard remote drb at)).receiver) (there : (i : Incoming) × (incoming_at n (heard remote drb at) ≡ Some i))
    (fits : Both remote drb at (half remote drb at n e) o) where
  abbrev S : Key
  S = sent remote drb at

  abbrev H : Key
  H = heard remote drb at

  abbrev s : Sender
  s = (outgoing n S).sender

  abbrev r : Receiver
  r = (incoming n H).receiver

  -- what is heard as completed is carried, and not heard before
  pub carried : (number : ℕ) (whole : List ℕ) (tx : Tx) (rx : Rx) → HearsHop e.tx e.rx bytes (Amd (Complete number whole)) tx rx
      → ((k : Kept) × (rlc_kept_at o.tx number ≡ Some k) × (m : ℕ) × CarriesData H (got e.rx number ≡ Done) o.sender r k.tag k.sdu m × Waits o.sender r m whole) ⊎
      ((k : Kept) × (rlc_kept_at o.tx number ≡ Some k) × CarriesReport o.receiver k.tag whole)
  carried number whole tx rx hears = by (fits.1.carries number x.0 x.1)
    where
      x : (k : Kept) × (rlc_kept_at o.tx number ≡ Some k) × (k.sdu ≡ whole)
      x = completes number whole tx rx hears

      one : CompletesOne e.rx number rx
      one = (calls.hearing e.tx e.rx bytes (Amd (Complete number whole)) tx rx hears).1

      by : Carries H (got e.rx number ≡ Done) o.sender r o.receiver x.0.tag x.0.sdu
          → ((k : Kept) × (rlc_kept_at o.tx number ≡ Some k) × (m : ℕ) × CarriesData H (got e.rx number ≡ Done) o.sender r k.tag k.sdu m × Waits o.sender r m whole) ⊎
          ((k : Kept) × (rlc_kept_at o.tx number ≡ Some k) × CarriesReport o.receiver k.tag whole)
      by (data_pdu_of m d) = inl (x.0, x.1, m, d, subst (Waits o.sender r m) x.2 (d.waits one.before))
      by (carried_report y) = inr (x.0, x.1, subst (CarriesReport o.receiver x.0.tag) x.2 y)

  -- so each COUNT of a tag is had at the other end
  pub tag_had : (tags : List Tag) (marks : List ℕ) (tx : Tx) (rx : Rx) → HearsHop e.tx e.rx bytes (Status (Acked tags marks)) tx rx → (tag : Tag) → Contains tags tag
      → (count : ℕ) → tag.count ≡ Some count → (tag.key ≡ S) × HasCount o.receiver count
  tag_had tags marks tx rx hears tag among count its = by (fits.0.carries x.0 x.1 x.2)
    where
      x : (i : ℕ) × (k : Kept) × (rlc_kept_at e.tx i ≡ Some k) × (tag ≡ k.tag) × (got o.rx i ≡ Done)
      x = acked tags marks tx rx hears tag among

      by : Carries S (got o.rx x.0 ≡ Done) s o.receiver r x.1.tag x.1.sdu → (tag.key ≡ S) × HasCount o.receiver count
      by (data_pdu_of m d) = (
        ap (λ (y : Tag). y.key) x.3 ∙ d.its_key,
        subst (HasCount o.receiver) (same_Some (s.first + m) count (sym d.its_count ∙ ap (λ (y : Tag). y.count) (sym x.3) ∙ its)) (d.heard x.4),
      )
      by (carried_report y) = absurd (none-some count (sym y.no_count ∙ ap (λ (y : Tag). y.count) (sym x.3) ∙ its))

  -- a report that is heard tells of no COUNT that isn't had at the other end
  pub report_had : (number : ℕ) (whole : List ℕ) (tx : Tx) (rx : Rx) → HearsHop e.tx e.rx bytes (Amd (Complete number whole)) tx rx → (fmc : ℕ) (bits : List ℕ)
      → IsPdcp r.size (Report fmc bits) whole
      → (k : Kept) × (rlc_kept_at o.tx number ≡ Some k) × (k.tag.count ≡ None) ×
      ((count : ℕ) → o.receiver.first ≤ count → is_reported fmc bits count ≡ true → HasCount o.receiver count)
  report_had number whole tx rx hears fmc bits reads = elim (carried number whole tx rx hears) [
    | inl x ↦
        let spelt = waits_spelt books pdus row H o.sender r booked fits.1.size fits.1.first x.2 whole x.4 in
        absurd (true≢false (ap is_sdu (pdus.reading r.size (Sdu ((o.sender.first + x.2) % modulus o.sender.size) spelt.0) (Report fmc bits) whole spelt.2 reads)))
    | inr x ↦
        let y = x.2 in
        let same = report_read o.receiver.size r.size y.fmc fmc y.bits bits (subst (IsPdcp r.size (Report fmc bits)) y.spelt reads) in (
          x.0,
          x.1,
          y.no_count,
          λ count low says. y.had count low
              (ap (λ (f : ℕ). is_reported f y.bits count) (sym same.0) ∙ ap (λ (b : List ℕ). is_reported fmc b count) (sym same.1) ∙ says),
        )
  ]

  -- the entity of the side is called, and its node follows
  module _ (side : PortSide) (tx : Tx) (rx : Rx) where
    abbrev behind : Entity
    behind = record e { tx = tx; rx = rx }

    abbrev n1 : Node
    n1 = set_entity n side behind

    abbrev Keeps : Node → Type 0
    Keeps new = Both remote drb at (half remote drb at new behind) o

    -- a call that completes nothing
    quiet : (new : Node) → new ≡ n1 → tx ≡ e.tx → CompletesNone e.rx rx → Keeps new
    quiet new is same none = subst Keeps (sym is) (
      fits_still S o.receiver s s r r (keeps_itself o.receiver s) (grows_itself r) e.tx tx o.rx o.rx (subst (KeepsTags e.tx) (sym same) (tags_themselves e.tx))
          (omega (arith, ap (λ (u : Tx). tx_next u) same)) (none_itself o.rx) fits.0,
      fits_still H r o.sender o.sender o.receiver o.receiver (keeps_itself r o.sender) (grows_itself o.receiver) o.tx o.tx e.rx rx (tags_themselves o.tx)
          (omega arith) none fits.1,
    )

    -- an SDU is completed
    passes_own : (number : ℕ) (whole : List ℕ) (answer : NodeHeard) (new : Node) → HearsHop e.tx e.rx bytes (Amd (Complete number whole)) tx rx → HearsPdcp n1 H whole answer new
        → Keeps new
    passes_own number whole answer new hears p = by p
      where
        kept : (tx ≡ e.tx) × CompletesOne e.rx number rx
        kept = calls.hearing e.tx e.rx bytes (Amd (Complete number whole)) tx rx hears

        near : (t : Sender) (q : Receiver) → SenderKeeps o.receiver s t → Grows r q → Fits S tx o.rx t o.receiver q
        near t q keeps grows = fits_still S o.receiver s t r q keeps grows e.tx tx o.rx o.rx (subst (KeepsTags e.tx) (sym kept.0) (tags_themselves e.tx))
            (omega (arith, ap (λ (u : Tx). tx_next u) kept.0)) (none_itself o.rx) fits.0

        data_heard : (sn : ℕ) (sdu : List ℕ) → IsPdcp r.size (Sdu sn sdu) whole → HearsSdu n1 H sn sdu answer new → Keeps new
        data_heard sn sdu reads h = elim (carried number whole tx rx hears) [
          | inr x ↦ absurd (report_no_data o.receiver.size r.size x.2.fmc sn x.2.bits sdu (subst (IsPdcp r.size (Sdu sn sdu)) x.2.spelt reads))
          | inl x ↦
              let read = waits_read books pdus row H o.sender r booked fits.1.size fits.1.first x.2 whole x.4 sn sdu reads in
              let grows : GrowsBy o.sender r (o.sender.first + x.2) h.receiver = hears_grows books pdus row H o.sender r booked fits.1.size fits.1.first x.2 whole x.4 sn sdu h.heard h.receiver read.0 h.hears in
              let now : (incoming new H).receiver ≡ h.receiver = ap (λ (m : Node). (incoming m H).receiver) h.is
              ∙ ap (λ (y : Option Incoming). (unwrap_or y (no_incoming H)).receiver)
              (in_own n1 (record (incoming n1 H) { receiver = h.receiver }) there.0 H (incoming_key n1 H) there.1) in
              let sends : (outgoing new S).sender ≡ s = ap (λ (m : Node). (outgoing m S).sender) h.is in (
                subst (λ (y : Sender). Fits S tx o.rx y o.receiver (incoming new H).receiver) (sym sends)
                    (subst (λ (y : Receiver). Fits S tx o.rx s o.receiver y) (sym now) (near s h.receiver (keeps_itself o.receiver s) grows.grows)),
                subst (λ (y : Receiver). Fits H o.tx rx o.sender y o.receiver) (sym now)
                    (fits_hears H o.tx e.rx o.sender r o.receiver fits.1 number x.0 rx h.receiver x.1 kept.1 x.2 x.3.below x.3.its_count grows),
              )
        ]

        far : (k : Kept) → rlc_kept_at o.tx number ≡ Some k → k.tag.count ≡ None → Fits H o.tx rx o.sender r o.receiver
        far k is none = fits_reports H o.tx e.rx o.sender r o.receiver fits.1 number k rx is kept.1 none

        report_heard : (fmc : ℕ) (bits : List ℕ) → IsPdcp r.size (Report fmc bits) whole → HearsReport n1 S fmc bits answer new → Keeps new
        report_heard fmc bits reads (inl (within, says, is)) =
            let x = report_had number whole tx rx hears fmc bits reads in
            let keeps = report_keeps o.receiver s fmc bits fits.0.goes (λ m tells. x.3 (s.first + m) (omega (arith, fits.0.first)) tells) in
            subst Keeps (sym is) (near _ r (out_keeps o.receiver n1 S (hears_report s fmc bits) keeps) (grows_itself r), far x.0 x.1 x.2)
        report_heard fmc bits reads (inr (beyond, says, is)) =
            let x = report_had number whole tx rx hears fmc bits reads in
            subst Keeps (sym is) (near s r (keeps_itself o.receiver s) (grows_itself r), far x.0 x.1 x.2)

        by : HearsPdcp n1 H whole answer new → Keeps new
        by (data_pdu sn sdu reads h) = data_heard sn sdu reads h
        by (report fmc bits reads h) = report_heard fmc bits reads (subst (λ (k : Key). HearsReport n1 k fmc bits answer new) (back_heard remote drb at) h)
        by (neither fault is says same) = elim (carried number whole tx rx hears) [
          | inl x ↦
              let spelt = waits_spelt books pdus row H o.sender r booked fits.1.size fits.1.first x.2 whole x.4 in
              absurd (pdus.no_fault r.size (Sdu ((o.sender.first + x.2) % modulus o.sender.size) spelt.0) whole fault spelt.2 is)
          | inr x ↦ subst Keeps (sym same) (near s r (keeps_itself o.receiver s) (grows_itself r), far x.0 x.1 x.2.no_count)
        ]

    -- SDUs are acknowledged
    acks_own : (tags : List Tag) (marks : List ℕ) (new : Node) → HearsHop e.tx e.rx bytes (Status (Acked tags marks)) tx rx
        → new ≡ fold (λ node (tag : Tag). confirm_count node tag.key tag.count) n1 tags → Keeps new
    acks_own tags marks new hears is =
        let kept = calls.hearing e.tx e.rx bytes (Status (Acked tags marks)) tx rx hears in
        let all = tags_keep o.receiver S tags n1 (λ tag among its count counts. (tag_had tags marks tx rx hears tag among count counts).1) in
        let now : (incoming (fold (λ node (tag : Tag). confirm_count node tag.key tag.count) n1 tags) H).receiver ≡ r = ap
        (λ (rows : List Incoming). (incoming (record n1 { incoming = rows }) H).receiver) all.incoming in
        subst Keeps (sym is) (
          subst (λ (y : Receiver). Fits S tx o.rx (outgoing (fold (λ node (tag : Tag). confirm_count node tag.key tag.count) n1 tags) S).sender o.receiver y) (sym now)
              (fits_still S o.receiver s _ r r all.sends (grows_itself r) e.tx tx o.rx o.rx kept.0 (omega (arith, acked_long e.tx tx hears.1 tags marks hears.3))
              (none_itself o.rx) fits.0),
          subst (λ (y : Receiver). Fits H o.tx rx o.sender y o.receiver) (sym now)
              (fits_still H r o.sender o.sender o.receiver o.receiver (keeps_itself r o.sender) (grows_itself o.receiver) o.tx o.tx e.rx rx (tags_themselves o.tx) (omega arith)
              (subst (CompletesNone e.rx) (sym kept.2) (none_itself e.rx)) fits.1),
        )

    -- what is heard at the bearer's own port
    pub follows_own : (hop : HopHeard) (answer : NodeHeard) (new : Node) (here : PortSide) → here.name ≡ Direct remote drb → HearsHop e.tx e.rx bytes hop tx rx
        → Follows t n1 at here hop answer new → Keeps new
    follows_own (Amd (Complete number whole)) answer new here named hears (target, leads, passes) =
        let is : target ≡ Ok (ToPdcp H whole) = subst (λ (p : PortName). Leads t n1 at p whole target) named leads in
        passes_own number whole answer new hears (subst (λ (x : Result Target Discard). Passes n1 here whole x answer new) is passes)
    follows_own (Status (Acked tags marks)) answer new here named hears (says, is) = acks_own tags marks new hears (is ∙ ap (λ (p : PortName). confirm_tags n1 p tags) named)
    follows_own (Amd Stored) answer new here named hears (says, is) = let kept = calls.hearing e.tx e.rx bytes (Amd Stored) tx rx hears in quiet new is kept.0 kept.1
    follows_own (Amd Repeat) answer new here named hears (says, is) = let kept = calls.hearing e.tx e.rx bytes (Amd Repeat) tx rx hears in quiet new is kept.0 kept.1
    follows_own (Amd Outside) answer new here named hears (says, is) = let kept = calls.hearing e.tx e.rx bytes (Amd Outside) tx rx hears in quiet new is kept.0 kept.1
    follows_own (Amd Conflict) answer new here named hears (says, is) = let kept = calls.hearing e.tx e.rx bytes (Amd Conflict) tx rx hears in quiet new is kept.0 kept.1
    follows_own (Status (Old ack next)) answer new here named hears (says, is) = let kept = calls.hearing e.tx e.rx bytes
        (Status (Old ack next)) tx rx hears in quiet new is kept.0 kept.1
    follows_own (Status (Beyond ack top)) answer new here named hears (says, is) = let kept = calls.hearing e.tx e.rx bytes
        (Status (Beyond ack top)) tx rx hears in quiet new is kept.0 kept.1
    follows_own (BadAmd fault) answer new here named hears (says, is) = let kept = calls.hearing e.tx e.rx bytes (BadAmd fault) tx rx hears in quiet new is kept.0 kept.1
    follows_own (BadStatus fault) answer new here named hears (says, is) = let kept = calls.hearing e.tx e.rx bytes (BadStatus fault) tx rx hears in quiet new is kept.0 kept.1
