-- What a node answers to a PDU that came to it: whether the PDU was handed over, and that each answer has its words.
use Rattle.std.proofs.Common.{◌≡◌, inl, inr, ℕ, Bool, true, false, not, ◌&&◌, if◌then◌else◌, List, Option, Some, None, is_some, Ok, Err, refl, sym, ◌∙◌, subst}
use Rattle.std.proofs.lemmas.Bool.{true≢false}
use Rattle.link_base.specs.declared.names.Key.{Key}
use Rattle.link_base.specs.declared.names.Side.{Side}
use Rattle.bearer_map.specs.Contents.{Contents, nothing}
use Rattle.rlc_model.specs.declared.hop.AirFault.{AirFault}
use Rattle.rlc_model.specs.declared.hop.HopHeard.{HopHeard}
use Rattle.rlc_model.specs.declared.hop.HopHeard.TheVariants as hop
use Rattle.rlc_model.specs.declared.hop.Pdu.{Pdu}
use Rattle.rlc_model.specs.declared.receiver.Heard.TheVariants as heard
use Rattle.rlc_model.specs.declared.transmitter.StatusHeard.TheVariants as told
use Rattle.pdcp_model.specs.declared.answers.PdcpHeard.{PdcpHeard}
use Rattle.pdcp_model.specs.declared.answers.PdcpHeard.TheVariants as pdcp
use Rattle.node_model.specs.declared.answers.NodeHeard.{NodeHeard}
use Rattle.node_model.specs.declared.answers.NodeHeard.TheVariants as answers
use Rattle.node_model.specs.State.{Node, PortSide, side_at, set_entity}
use Rattle.node_model.specs.Ends.{HearsPdcp, heard_as}
use Rattle.node_model.specs.Hearing.{HearsPdu, HearsSide, HearsUnless, Follows, hear_refusal, side_refusal, entity_fault}
use Rattle.node_model.specs.Routing.{ToPdcp, Onward}
use Rattle.chain_model.specs.Lines.{is_handed_over}
use Rattle.chain_core.specs.Told.{IsTold}

-- tables that a node which hears doesn't read
abbrev pub no_contents : Contents
no_contents = nothing

-- the answer has its words, and the PDU was handed over
abbrev IsHeard : NodeHeard → Type 0
IsHeard answer = IsTold answer × (is_handed_over answer ≡ true)

receiver_heard : (key : Key) (heard : PdcpHeard) → IsHeard (heard_as key heard)
receiver_heard key (pdcp.Up sdus) = (tt, refl)
receiver_heard key pdcp.Stored = (tt, refl)
receiver_heard key pdcp.Old = (tt, refl)
receiver_heard key pdcp.Repeat = (tt, refl)
receiver_heard key pdcp.BeforeStart = (tt, refl)
receiver_heard key pdcp.PastEnd = (tt, refl)

pdcp_heard : (old : Node) (key : Key) (pdu : List ℕ) (answer : NodeHeard) (new : Node) → HearsPdcp old key pdu answer new → IsHeard answer
pdcp_heard old key pdu answer new (HearsPdcp.data_pdu sn sdu is h) = subst IsHeard (sym h.says) (receiver_heard key h.heard)
pdcp_heard old key pdu answer new (HearsPdcp.report fmc map is (inl h)) = subst IsHeard (sym h.1) (tt, refl)
pdcp_heard old key pdu answer new (HearsPdcp.report fmc map is (inr h)) = subst IsHeard (sym h.1) (tt, refl)
pdcp_heard old key pdu answer new (HearsPdcp.neither fault is says same) = subst IsHeard (sym says) (tt, refl)

follows_heard : (t : Contents) (old : Node) (at : Side) (side : PortSide) (h : HopHeard) (answer : NodeHeard) (new : Node) → Follows t old at side h answer new → IsHeard answer
follows_heard t old at side (hop.Amd (heard.Complete number sdu)) answer new (Ok (ToPdcp key pdu), leads, passes) = pdcp_heard old key pdu answer new passes
follows_heard t old at side (hop.Amd (heard.Complete number sdu)) answer new (Ok (Onward route), leads, passes) = subst IsHeard (sym passes.0) (tt, refl)
follows_heard t old at side (hop.Amd (heard.Complete number sdu)) answer new (Err discard, leads, passes) = subst IsHeard (sym passes.0) (tt, refl)
follows_heard t old at side (hop.Amd heard.Stored) answer new f = subst IsHeard (sym f.0) (tt, refl)
follows_heard t old at side (hop.Amd heard.Repeat) answer new f = subst IsHeard (sym f.0) (tt, refl)
follows_heard t old at side (hop.Amd heard.Outside) answer new f = subst IsHeard (sym f.0) (tt, refl)
follows_heard t old at side (hop.Amd heard.Conflict) answer new f = subst IsHeard (sym f.0) (tt, refl)
follows_heard t old at side (hop.Status (told.Acked tags marks)) answer new f = subst IsHeard (sym f.0) (tt, refl)
follows_heard t old at side (hop.Status (told.Old ack next)) answer new f = subst IsHeard (sym f.0) (tt, refl)
follows_heard t old at side (hop.Status (told.Beyond ack sent)) answer new f = subst IsHeard (sym f.0) (tt, refl)
follows_heard t old at side (hop.BadAmd fault) answer new f = subst IsHeard (sym f.0) (tt, refl)
follows_heard t old at side (hop.BadStatus fault) answer new f = subst IsHeard (sym f.0) (tt, refl)

-- a PDU that is refused is answered in words
abbrev RefusesInWords : Option NodeHeard → Type 0
RefusesInWords None = Unit {0}
RefusesInWords (Some refusal) = IsTold refusal × (is_handed_over refusal ≡ false)

refused_told : (pdu : Pdu) (side : Option PortSide) → RefusesInWords (hear_refusal pdu side)
refused_told pdu None = (tt, refl)
refused_told pdu (Some side) = at_side (entity_fault pdu side.entity)
  where
    held : (b : Bool) → RefusesInWords (if b then Some answers.Held else None)
    held true = (tt, refl)
    held false = tt

    at_side : (fault : Option AirFault) → RefusesInWords (side_refusal pdu side fault)
    at_side (Some fault) = (tt, refl)
    at_side None = held (is_some side.slot && not pdu.status)

module _ (t : Contents) (old : Node) (at : Side) (pdu : Pdu) (answer : NodeHeard) (new : Node) where
  side_heard : HearsSide t old at pdu.port pdu.bytes answer new → IsHeard answer
  side_heard h = follows_heard t (set_entity old h.side h.behind) at (record h.side { entity = Some h.behind }) h.hop answer new h.follows

  -- a PDU that isn't handed over leaves the node as it was
  pub hears_still : HearsPdu t old at pdu answer new → is_handed_over answer ≡ false → new ≡ old
  hears_still hears refused = by (hear_refusal pdu (side_at old pdu.port)) hears
    where
      by : (refusal : Option NodeHeard) → HearsUnless refusal t old at pdu answer new → new ≡ old
      by (Some refusal) h = h.1
      by None h = absurd (true≢false (sym (side_heard h).1 ∙ refused))

  -- each answer has its words
  pub hears_told : HearsPdu t old at pdu answer new → IsTold answer
  hears_told hears = by (hear_refusal pdu (side_at old pdu.port)) refl hears
    where
      by : (refusal : Option NodeHeard) → hear_refusal pdu (side_at old pdu.port) ≡ refusal → HearsUnless refusal t old at pdu answer new → IsTold answer
      by (Some refusal) is h = subst IsTold (sym h.0) (subst RefusesInWords is (refused_told pdu (side_at old pdu.port))).0
      by None is h = (side_heard h).0

-- and isn't handed over
pub refused_still : (pdu : Pdu) (side : Option PortSide) (refusal : NodeHeard) → hear_refusal pdu side ≡ Some refusal → is_handed_over refusal ≡ false
refused_still pdu side refusal is = (subst RefusesInWords is (refused_told pdu side)).1
