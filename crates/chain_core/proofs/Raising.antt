-- Which confirmed numbers a line may raise: those of one key alone.
use Rattle.std.proofs.Common.{◌≡◌, inl, inr, ℕ, suc, true, List, [], ◌∷◌, fold, Option, Some, None, unwrap_or, Ok, Err, refl, sym, ◌∙◌, ap, subst}
use Rattle.std.specs.List.{AllByRecursion}
use Rattle.std.specs.Prelude.{option_and_then, Result}
use Rattle.std.proofs.lemmas.Bool.{true≢false}
use Rattle.link_base.specs.declared.discard.Discard.{Discard}
use Rattle.link_base.specs.declared.names.Drb.{Drb}
use Rattle.link_base.specs.declared.names.Key.{Key}
use Rattle.link_base.specs.declared.names.PortName.{PortName}
use Rattle.link_base.specs.declared.names.PortName.TheVariants.{Direct, Pc5, Uu}
use Rattle.link_base.specs.declared.names.Remote.{Remote}
use Rattle.link_base.specs.declared.names.Side.{Side}
use Rattle.link_base.specs.declared.names.Side.TheVariants.{Low, High}
use Rattle.link_base.specs.declared.rlc_words.Tag.{Tag}
use Rattle.srap_header.specs.Srap.{Srap}
use Rattle.bearer_map.specs.Contents.{Contents}
use Rattle.bearer_map.specs.Routes.{UpRoute, DownRoute}
use Rattle.bearer_map.specs.declared.routes.Route.{Route}
use Rattle.bearer_map.specs.declared.routes.RouteFault.{RouteFault}
use Rattle.rlc_model.specs.declared.hop.HopHeard.{HopHeard}
use Rattle.rlc_model.specs.declared.hop.HopHeard.TheVariants as hop
use Rattle.rlc_model.specs.declared.hop.Pdu.{Pdu}
use Rattle.rlc_model.specs.declared.receiver.Heard.TheVariants as heard
use Rattle.rlc_model.specs.declared.transmitter.StatusHeard.TheVariants as told
use Rattle.rlc_model.specs.Hop.{HearsHop}
use Rattle.rlc_model.specs.Retransmission.{confirmed_tags}
use Rattle.rlc_model.specs.Sides.{Entity, flip, way_from}
use Rattle.rlc_model.specs.Tx.{Tx, Kept, at, kept_at}
use Rattle.rlc_model.specs.Rx.{Rx}
use Rattle.pdcp_model.specs.declared.answers.PdcpHeard.{PdcpHeard}
use Rattle.pdcp_model.specs.declared.answers.PdcpHeard.TheVariants as pdcp
use Rattle.pdcp_model.specs.Sender.{confirmed}
use Rattle.node_model.specs.declared.answers.NodeHeard.{NodeHeard}
use Rattle.node_model.specs.declared.answers.NodeHeard.TheVariants as answers
use Rattle.node_model.specs.Names.{AtRemote, owner, source, key_of, back}
use Rattle.node_model.specs.State.{PortSide, Node, Outgoing, no_outgoing, entity_of, entity_at, side_at, set_entity, outgoing}
use Rattle.node_model.specs.Ends.{HearsPdcp, heard_as, confirm_count, confirm_tags}
use Rattle.node_model.specs.Hearing.{HearsPdu, HearsSide, HearsUnless, Follows, Passes, hear_refusal}
use Rattle.node_model.specs.Routing.{Target, ToPdcp, Onward, GoesOn, Leads, LeadsByHeader}
use Rattle.node_model.proofs.ByName.{sides_set}
use Rattle.chain_model.specs.Lines.{is_handed_over}
use Rattle.chain_model.proofs.Lookups.{outgoing_key, out_others}
use Rattle.direct_run_law.specs.Own.{IsOwnTag}
use Rattle.chain_core.specs.Confirming.{key_sent}
use Rattle.chain_core.proofs.Hearing.{refused_still}

-- the confirmed number of a key at a node
abbrev pub number_at : Node → Key → ℕ
number_at n k = confirmed (outgoing n k).sender

-- the node has its name, and the confirmed numbers of all keys but this one
pub record KeepsNumbers (old : Node) (key : Option Key) (new : Node) : Type 0 where
  pub name : new.name ≡ old.name
  pub others : (k : Key) → (key ≡ Some k → ⊥) → number_at new k ≡ number_at old k

pub keeps_all : (n : Node) (key : Option Key) (new : Node) → new ≡ n → KeepsNumbers n key new
keeps_all n key new same = record { name = ap (λ (m : Node). m.name) same; others = λ k ne. ap (λ (m : Node). number_at m k) same }

keeps_then : (a : Node) (key : Option Key) (b c : Node) → KeepsNumbers a key b → KeepsNumbers b key c → KeepsNumbers a key c
keeps_then a key b c first second = record { name = second.name ∙ first.name; others = λ k ne. second.others k ne ∙ first.others k ne }

-- RLC confirms SDUs of one key
count_keeps : (n : Node) (its key : Key) (count : Option ℕ) → ((c : ℕ) → count ≡ Some c → its ≡ key) → KeepsNumbers n (Some key) (confirm_count n its count)
count_keeps n its key None own = keeps_all n (Some key) n refl
count_keeps n its key (Some count) own = record {
  name = refl;
  others = λ k ne. ap (λ (x : Option Outgoing). confirmed (unwrap_or x (no_outgoing k)).sender)
      (out_others n _ k (λ is. ne (ap (λ (k : Key). Some k) (sym (own count refl) ∙ sym (outgoing_key n its) ∙ is))));
}

tags_keep : (tags : List Tag) (n : Node) (key : Key) → AllByRecursion (IsOwnTag key) tags → KeepsNumbers n (Some key) (fold (λ node (tag : Tag). confirm_count node tag.key tag.count) n tags)
tags_keep [] n key own = keeps_all n (Some key) n refl
tags_keep (tag ∷ tags) n key own =
    keeps_then n (Some key) (confirm_count n tag.key tag.count) (fold (λ node (tag : Tag). confirm_count node tag.key tag.count) n (tag ∷ tags))
    (count_keeps n tag.key key tag.count own.0) (tags_keep tags (confirm_count n tag.key tag.count) key own.1)

-- the key whose confirmed number a PDU may raise that came over this port and was answered so
abbrev pub may_raise : Side → PortName → NodeHeard → Option Key
may_raise side port (answers.Report key number) = Some key
may_raise side port answer = key_sent side port

-- a report's answer tells the number before it of a key that is sent from the node with this side of the port
abbrev pub TellsNumber : Side → PortName → Node → NodeHeard → Type 0
TellsNumber side port n (answers.Report key number) = (number ≡ number_at n key) × (source key ≡ owner side port)
TellsNumber side port n answer = Unit {0}

-- a PDU that was answered so raised no confirmed number but of that key
pub record Confirms (side : Side) (port : PortName) (old : Node) (answer : NodeHeard) (new : Node) : Type 0 where
  pub keeps : KeepsNumbers old (may_raise side port answer) new
  pub tells : TellsNumber side port old answer

module _ (side : Side) (port : PortName) (n : Node) where
  -- an answer that is no report
  plain : (answer other : NodeHeard) → answer ≡ other → may_raise side port other ≡ key_sent side port → TellsNumber side port n other → (new : Node) → KeepsNumbers n (key_sent side port) new
      → Confirms side port n answer new
  plain answer other is raises tells new keeps = record {
    keeps = subst (λ (x : NodeHeard). KeepsNumbers n (may_raise side port x) new) (sym is) (subst (λ (k : Option Key). KeepsNumbers n k new) (sym raises) keeps);
    tells = subst (λ (x : NodeHeard). TellsNumber side port n x) (sym is) tells;
  }

  -- a data PDU confirms nothing
  sdu_confirms : (key : Key) (heard : PdcpHeard) (answer : NodeHeard) → answer ≡ heard_as key heard → (new : Node) → KeepsNumbers n (key_sent side port) new → Confirms side port n answer new
  sdu_confirms key (pdcp.Up sdus) answer is new keeps = plain answer (answers.Up key sdus) is refl tt new keeps
  sdu_confirms key pdcp.Stored answer is new keeps = plain answer answers.Waiting is refl tt new keeps
  sdu_confirms key pdcp.Old answer is new keeps = plain answer answers.Old is refl tt new keeps
  sdu_confirms key pdcp.Repeat answer is new keeps = plain answer answers.Twice is refl tt new keeps
  sdu_confirms key pdcp.BeforeStart answer is new keeps = plain answer answers.NoCount is refl tt new keeps
  sdu_confirms key pdcp.PastEnd answer is new keeps = plain answer answers.NoCount is refl tt new keeps

  -- a status report may confirm SDUs of the bearer's other way
  pdcp_confirms : (key : Key) → source (back key) ≡ owner side port → (pdu : List ℕ) (answer : NodeHeard) (new : Node) → HearsPdcp n key pdu answer new → Confirms side port n answer new
  pdcp_confirms key here pdu answer new (HearsPdcp.data_pdu sn sdu is h) =
      sdu_confirms key h.heard answer h.says new (record { name = ap (λ (m : Node). m.name) h.is; others = λ k ne. ap (λ (m : Node). number_at m k) h.is })
  pdcp_confirms key here pdu answer new (HearsPdcp.report fmc map is (inl h)) = record {
    keeps = subst (λ (x : NodeHeard). KeepsNumbers n (may_raise side port x) new) (sym h.1) (record {
      name = ap (λ (m : Node). m.name) h.2;
      others = λ k ne. ap (λ (m : Node). number_at m k) h.2 ∙ ap (λ (x : Option Outgoing). confirmed (unwrap_or x (no_outgoing k)).sender)
          (out_others n _ k (λ is. ne (ap (λ (k : Key). Some k) (sym (outgoing_key n (back key)) ∙ is))));
    });
    tells = subst (λ (x : NodeHeard). TellsNumber side port n x) (sym h.1) (refl, here);
  }
  pdcp_confirms key here pdu answer new (HearsPdcp.report fmc map is (inr h)) = plain answer (answers.Discard _) h.1 refl tt new (keeps_all n (key_sent side port) new h.2)
  pdcp_confirms key here pdu answer new (HearsPdcp.neither fault is says same) = plain answer (answers.Discard _) says refl tt new (keeps_all n (key_sent side port) new same)

-- where an SDU leads that came over a port, the bearer's other way is sent from there
abbrev FromHere : Side → PortName → Result Target Discard → Type 0
FromHere side port (Ok (ToPdcp key pdu)) = source (back key) ≡ owner side port
FromHere side port target = Unit {0}

sent_direct : (side : Side) (remote : Remote) (drb : Drb) → source (back (key_of remote drb (flip (way_from side)))) ≡ owner side (Direct remote drb)
sent_direct Low remote drb = refl
sent_direct High remote drb = refl

-- a route over the relay ends at no bearer
onward_here : (Routes : Result Route RouteFault → Type 0) (side : Side) (port : PortName) (target : Result Target Discard) → GoesOn Routes target → FromHere side port target
onward_here Routes side port (Ok (ToPdcp key pdu)) goes = absurd goes
onward_here Routes side port (Ok (Onward route)) goes = tt
onward_here Routes side port (Err discard) goes = tt

header_here : (t : Contents) (n : Node) (side : Side) (port : PortName) (v : Srap) (target : Result Target Discard) → LeadsByHeader t n side port v target → FromHere side port target
header_here t n Low (Pc5 remote chan) v (Ok (ToPdcp key pdu)) (own, id, ((ue, row, maps, over, is), body)) =
    ap (λ (k : Key). source (back k)) is ∙ ap (λ (r : Remote). AtRemote r) maps.of_remote
header_here t n Low (Pc5 remote chan) v (Ok (Onward route)) (own, id, ends) = tt
header_here t n Low (Pc5 remote chan) v (Err discard) leads = tt
header_here t n High (Pc5 remote chan) v target leads = onward_here (UpRoute t.maps n.attached remote chan v.ue v.bearer) High (Pc5 remote chan) target leads
header_here t n Low (Uu chan) v target leads = onward_here (DownRoute t.maps n.attached chan v.ue v.bearer) Low (Uu chan) target leads
header_here t n High (Uu chan) v (Ok (ToPdcp key pdu)) ((remote, attached, row, maps, over, is), body) = ap (λ (k : Key). source (back k)) is
header_here t n High (Uu chan) v (Ok (Onward route)) leads = tt
header_here t n High (Uu chan) v (Err discard) leads = tt
header_here t n side (Direct remote drb) v target leads = absurd leads

leads_here : (t : Contents) (n : Node) (side : Side) (port : PortName) (sdu : List ℕ) (target : Result Target Discard) → Leads t n side port sdu target → FromHere side port target
leads_here t n side (Direct remote drb) sdu target leads = subst (FromHere side (Direct remote drb)) (sym leads) (sent_direct side remote drb)
leads_here t n side (Pc5 remote chan) sdu target (inl leads) = header_here t n side (Pc5 remote chan) leads.0 target leads.2
leads_here t n side (Pc5 remote chan) sdu target (inr none) = subst (FromHere side (Pc5 remote chan)) (sym none.2) tt
leads_here t n side (Uu chan) sdu target (inl leads) = header_here t n side (Uu chan) leads.0 target leads.2
leads_here t n side (Uu chan) sdu target (inr none) = subst (FromHere side (Uu chan)) (sym none.2) tt

-- the tags that a STATUS PDU confirms on a direct port are those of the port's own key
abbrev OwnTags : Side → PortName → HopHeard → Type 0
OwnTags side (Direct remote drb) (hop.Status (told.Acked tags marks)) = AllByRecursion (IsOwnTag (key_of remote drb (way_from side))) tags
OwnTags side port h = Unit {0}

-- what RLC confirms
acks_keep : (side : Side) (port : PortName) (n : Node) (tags : List Tag) (marks : List ℕ) → OwnTags side port (hop.Status (told.Acked tags marks)) → KeepsNumbers n (key_sent side port) (confirm_tags n port tags)
acks_keep side (Direct remote drb) n tags marks own = tags_keep tags n (key_of remote drb (way_from side)) own
acks_keep side (Pc5 remote chan) n tags marks own = keeps_all n None n refl
acks_keep side (Uu chan) n tags marks own = keeps_all n None n refl

-- what a node does with the answer of the entity of a port
module _ (t : Contents) (n : Node) (at_end : Side) (port : PortName) (side : PortSide) (is : side.name ≡ port) where
  passes_confirm : (sdu : List ℕ) (target : Result Target Discard) (answer : NodeHeard) (new : Node) → Leads t n at_end side.name sdu target → Passes n side sdu target answer new
      → Confirms at_end port n answer new
  passes_confirm sdu (Ok (ToPdcp key pdu)) answer new leads passes =
      pdcp_confirms at_end port n key (leads_here t n at_end port sdu (Ok (ToPdcp key pdu)) (subst (λ (p : PortName). Leads t n at_end p sdu (Ok (ToPdcp key pdu))) is leads)) pdu answer new passes
  passes_confirm sdu (Ok (Onward route)) answer new leads passes =
      plain at_end port n answer (answers.Slot route.egress) passes.0 refl tt new
      (record { name = ap (λ (m : Node). m.name) passes.1; others = λ k ne. ap (λ (m : Node). number_at m k) passes.1 })
  passes_confirm sdu (Err discard) answer new leads passes = plain at_end port n answer (answers.Discard discard) passes.0 refl tt new (keeps_all n (key_sent at_end port) new passes.1)

  unchanged_by : (h : HopHeard) (answer : NodeHeard) (new : Node) → (answer ≡ answers.Hop h) × (new ≡ n) → Confirms at_end port n answer new
  unchanged_by h answer new f = plain at_end port n answer (answers.Hop h) f.0 refl tt new (keeps_all n (key_sent at_end port) new f.1)

  follows_confirm : (h : HopHeard) (answer : NodeHeard) (new : Node) → OwnTags at_end port h → Follows t n at_end side h answer new → Confirms at_end port n answer new
  follows_confirm (hop.Amd (heard.Complete num sdu)) answer new own f = passes_confirm sdu f.0 answer new f.1 f.2
  follows_confirm (hop.Status (told.Acked tags marks)) answer new own f =
      plain at_end port n answer (answers.Hop (hop.Status (told.Acked tags marks))) f.0 refl tt new
      (subst (λ (m : Node). KeepsNumbers n (key_sent at_end port) m) (sym (f.1 ∙ ap (λ (p : PortName). confirm_tags n p tags) is)) (acks_keep at_end port n tags marks own))
  follows_confirm (hop.Amd heard.Stored) answer new own f = unchanged_by (hop.Amd heard.Stored) answer new f
  follows_confirm (hop.Amd heard.Repeat) answer new own f = unchanged_by (hop.Amd heard.Repeat) answer new f
  follows_confirm (hop.Amd heard.Outside) answer new own f = unchanged_by (hop.Amd heard.Outside) answer new f
  follows_confirm (hop.Amd heard.Conflict) answer new own f = unchanged_by (hop.Amd heard.Conflict) answer new f
  follows_confirm (hop.Status (told.Old ack next)) answer new own f = unchanged_by (hop.Status (told.Old ack next)) answer new f
  follows_confirm (hop.Status (told.Beyond ack sent)) answer new own f = unchanged_by (hop.Status (told.Beyond ack sent)) answer new f
  follows_confirm (hop.BadAmd fault) answer new own f = unchanged_by (hop.BadAmd fault) answer new f
  follows_confirm (hop.BadStatus fault) answer new own f = unchanged_by (hop.BadStatus fault) answer new f

-- tags that are told are those of SDUs that were kept
told_own : (P : Tag → Type 0) (olds news : List (Option Kept)) → ((n : ℕ) (k : Kept) → at olds n ≡ Some k → P k.tag) → AllByRecursion P (confirmed_tags olds news)
told_own P [] news own = tt
told_own P (o ∷ olds) [] own = tt
told_own P (None ∷ olds) (x ∷ news) own = told_own P olds news (λ n k e. own (suc n) k e)
told_own P (Some k ∷ olds) (None ∷ news) own = (own 0 k refl, told_own P olds news (λ n k e. own (suc n) k e))
told_own P (Some k ∷ olds) (Some x ∷ news) own = told_own P olds news (λ n k e. own (suc n) k e)

-- the transmitter of an open direct port keeps data PDUs of that key alone which its side sends
abbrev pub KeepsOwnTags : Node → Side → PortName → Type 0
KeepsOwnTags n side (Direct remote drb) = (e : Entity) → entity_at n (Direct remote drb) ≡ Some e → (num : ℕ) (k : Kept) → kept_at e.tx num ≡ Some k → IsOwnTag (key_of remote drb (way_from side)) k.tag
KeepsOwnTags n side port = Unit {0}

-- a PDU that is handed over raises no confirmed number but of the key that its answer tells, or that its port sends
module _ (t : Contents) (n : Node) (side : Side) (pdu : Pdu) (own : KeepsOwnTags n side pdu.port) (answer : NodeHeard) (new : Node) where
  tags_are_own : (port : PortName) (e : Entity) → entity_at n port ≡ Some e → KeepsOwnTags n side port → (h : HopHeard) (tx : Tx) (rx : Rx) → HearsHop e.tx e.rx pdu.bytes h tx rx → OwnTags side port h
  tags_are_own (Direct remote drb) e is own (hop.Status (told.Acked tags marks)) tx rx hears =
      subst (λ (l : List Tag). AllByRecursion (IsOwnTag (key_of remote drb (way_from side))) l) (sym hears.3.its_tags)
      (told_own (IsOwnTag (key_of remote drb (way_from side))) e.tx.kept tx.kept (own e is))
  tags_are_own (Direct remote drb) e is own (hop.Status (told.Old ack next)) tx rx hears = tt
  tags_are_own (Direct remote drb) e is own (hop.Status (told.Beyond ack sent)) tx rx hears = tt
  tags_are_own (Direct remote drb) e is own (hop.Amd h) tx rx hears = tt
  tags_are_own (Direct remote drb) e is own (hop.BadAmd fault) tx rx hears = tt
  tags_are_own (Direct remote drb) e is own (hop.BadStatus fault) tx rx hears = tt
  tags_are_own (Pc5 remote chan) e is own h tx rx hears = tt
  tags_are_own (Uu chan) e is own h tx rx hears = tt

  pub side_confirms : HearsSide t n side pdu.port pdu.bytes answer new → Confirms side pdu.port n answer new
  side_confirms s =
      let mid = set_entity n s.side s.behind in
      let is : entity_at n pdu.port ≡ Some s.entity = ap (λ (x : Option PortSide). option_and_then entity_of x) s.its.here ∙ s.its.is_open in
      let c = follows_confirm t mid side pdu.port (record s.side { entity = Some s.behind }) (sides_set.named n.ports pdu.port s.side s.its.here) s.hop answer new
      (tags_are_own pdu.port s.entity is own s.hop s.tx s.rx s.hears) s.follows in
      record { keeps = record { name = c.keeps.name; others = c.keeps.others }; tells = tells_there answer c.tells }
    where
      tells_there : (x : NodeHeard) → TellsNumber side pdu.port (set_entity n s.side s.behind) x → TellsNumber side pdu.port n x
      tells_there (answers.Report key number) told = told
      tells_there answers.NoPort told = tt
      tells_there (answers.Air fault) told = tt
      tells_there answers.Held told = tt
      tells_there (answers.Slot egress) told = tt
      tells_there (answers.Up key sdus) told = tt
      tells_there answers.Waiting told = tt
      tells_there answers.Old told = tt
      tells_there answers.Twice told = tt
      tells_there answers.NoCount told = tt
      tells_there (answers.Discard name) told = tt
      tells_there (answers.Hop h) told = tt

  pub pdu_confirms : is_handed_over answer ≡ true → HearsPdu t n side pdu answer new → Confirms side pdu.port n answer new
  pdu_confirms handed hears = by (hear_refusal pdu (side_at n pdu.port)) refl hears
    where
      by : (refusal : Option NodeHeard) → hear_refusal pdu (side_at n pdu.port) ≡ refusal → HearsUnless refusal t n side pdu answer new → Confirms side pdu.port n answer new
      by (Some refusal) is h = absurd (true≢false (sym handed ∙ ap is_handed_over h.0 ∙ refused_still pdu (side_at n pdu.port) refusal is))
      by None is h = side_confirms h
