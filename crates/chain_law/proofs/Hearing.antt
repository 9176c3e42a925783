-- A node hears a PDU: the lines deliver and repeat keep what holds of a chain.
use Rattle.std.proofs.Common.{◌≡◌, ◌⊎◌, inl, inr, ℕ, zero, suc, ◌+◌, ◌==◌, Bool, true, false, cond, not, List, [], ◌∷◌, length, get_or, fold, Option, Some, None, Ok, Err, Result, option_and_then, refl, sym, ◌∙◌, ap, subst, arith}
use Rattle.std.proofs.lemmas.Bool.{cases_Bool, cond-true, cond-false, eqb-true, true≢false, false≢true}
use Rattle.std.proofs.lemmas.Option.{none-some, same_Some}
use Rattle.link_base.specs.declared.discard.Discard.{Discard}
use Rattle.link_base.specs.declared.names.Key.{Key}
use Rattle.link_base.specs.declared.names.PortName.{PortName}
use Rattle.link_base.specs.declared.names.PortName.TheVariants.{Direct, Pc5, Uu}
use Rattle.link_base.specs.declared.names.Side.{Side}
use Rattle.link_base.specs.declared.names.SnSize.{SnSize}
use Rattle.link_base.specs.declared.names.Way.{Way}
use Rattle.link_base.specs.declared.names.Way.TheVariants.{Ul, Dl}
use Rattle.link_base.specs.declared.rlc_words.Tag.{Tag}
use Rattle.bearer_map.specs.Contents.{Contents}
use Rattle.rlc_model.specs.declared.hop.AirFault.{AirFault}
use Rattle.rlc_model.specs.declared.hop.AirFault.TheVariants.{Gone, Stale}
use Rattle.rlc_model.specs.declared.hop.HopHeard.{HopHeard}
use Rattle.rlc_model.specs.declared.hop.HopHeard.TheVariants.{Amd, Status, BadAmd, BadStatus}
use Rattle.rlc_model.specs.declared.hop.Pdu.{Pdu}
use Rattle.rlc_model.specs.declared.receiver.Heard.TheVariants.{Stored, Complete, Repeat, Outside, Conflict}
use Rattle.rlc_model.specs.declared.transmitter.StatusHeard.TheVariants.{Acked, Old, Beyond}
use Rattle.rlc_model.specs.Air.{is_stale}
use Rattle.rlc_model.specs.Heard.{Data}
use Rattle.rlc_model.specs.Hop.{on_air, air_fault, side_fault}
use Rattle.rlc_model.specs.Rx.{Rx, rx_next}
use Rattle.rlc_model.specs.Sides.{Entity, hearer_of, flip}
use Rattle.rlc_model.specs.Tx.{Tx, tx_next_ack}
use Rattle.rlc_law.specs.Hop.{Event, Deliver, DeliverStatus}
use Rattle.rlc_law.specs.Ports.{Port, hop_of, ReachesPort, SpellsData, MovesSide}
use Rattle.rlc_law.specs.Sides.{HasSize}
use Rattle.rlc_law.specs.PortLaws.{HearLeaves}
use Rattle.pdcp_model.specs.declared.answers.PdcpHeard.{PdcpHeard}
use Rattle.pdcp_model.specs.declared.answers.PdcpHeard.TheVariants as pdcp
use Rattle.pdcp_model.specs.Sender.{Sender, still_kept, confirms, goes_on as goes_on_sending, hears_report, is_reported}
use Rattle.script_text.specs.declared.event.Event.{Event as Told}
use Rattle.script_text.specs.declared.reply.Reply.{Reply}
use Rattle.node_model.specs.declared.answers.NodeHeard.{NodeHeard}
use Rattle.node_model.specs.Names.{is_way, owner, back}
use Rattle.node_model.specs.State.{PortSide, Node, side_at, entity_of, set_side, set_entity, outgoing, incoming}
use Rattle.node_model.specs.Ends.{heard_as, HearsPdcp, data_pdu, report, neither, HearsReport, confirm_count, confirm_tags}
use Rattle.node_model.specs.Routing.{Target, ToPdcp, Onward}
use Rattle.node_model.specs.Hearing.{entity_fault, side_refusal, hear_refusal, Passes, Follows, HearsSide, HearsUnless, HearsPdu}
use Rattle.chain_model.specs.State.{Chain, node_at, set_node}
use Rattle.chain_model.specs.Lines.{hearer, is_handed_over, Comes, Delivers}
use Rattle.chain_model.specs.Sizes.{port_size}
use Rattle.chain_law.specs.Entities.{IsSdu, IsHeardWell}
use Rattle.node_model.proofs.Finding.{each_replaced}
use Rattle.chain_law.proofs.Counting.{is_grant, moves_heard, delivery_heard, delivery_other}
use Rattle.chain_law.specs.Foundations.{RlcLaws}
use Rattle.chain_law.proofs.Stands.{View, Limits, Logs, Implies, Stands, stands_implied, put, put_here, window, put_changes, node_stands, stands_moved, all_seen, no_rest}
use Rattle.chain_law.proofs.Nodes.{NodeFits, SenderFits, outgoing_fits, side_fits, called_fits, fits_side, side_set, Goes, goes_nowhere, goes_on, goes_outgoing, goes_incoming, goes_changed}
use Rattle.chain_law.proofs.Chains.{Holds, holds_implied, view, node_fits, node_name, node_there, put_own, set_stands, goes_set}

-- a data PDU that a port has made has this number, and its octets are those of the PDU
pub record IsMade (t : Contents) (pdu : Pdu) (made : Data) : Type 0 where
  pub number : made.number ≡ pdu.number
  pub port : Port
  pub reaches : ReachesPort port
  pub size : HasSize (port_size t pdu.port) port
  pub spells : SpellsData (hop_of port pdu.way) made pdu.bytes

-- once a data PDU was heard it is said of what its hop heard with it, and of what all others heard as before
pub record Takes (t : Contents) (pdu : Pdu) (q r : Logs) : Type 0 where
  pub this : (made : Data) → IsMade t pdu made → (heard : List Data) → q pdu.port pdu.epoch pdu.way heard → r pdu.port pdu.epoch pdu.way (made ∷ heard)
  pub other : (name : PortName) (epoch : ℕ) (way : Way) (heard : List Data) → ((name ≡ pdu.port) × (epoch ≡ pdu.epoch) × (way ≡ pdu.way) → ⊥) → q name epoch way heard
      → r name epoch way heard

-- once a PDU came to its node: where the side takes it and it is a data PDU, so; else as before
pub record Into (q : Logs) (t : Contents) (found : Option PortSide) (pdu : Pdu) (r : Logs) : Type 0 where
  pub taken : hear_refusal pdu found ≡ None → pdu.status ≡ false → Takes t pdu q r
  pub kept : (hear_refusal pdu found ≡ None → pdu.status ≡ false → ⊥) → Implies q r

-- the same of what a ticket stands for
abbrev pub IntoAir : Logs → Chain → Option Pdu → Logs → Type 0
IntoAir q c None r = Implies q r
IntoAir q c (Some pdu) r = Into q c.tables (side_at (hearer pdu c) pdu.port) pdu r

-- one hop of a port moves, no data PDU is sent, and of what was heard it is said so
record Moving (q r : Logs) (port : Port) (name : PortName) (epoch : ℕ) (side : Side) (tx : Tx) (rx : Rx) : Type 0 where
  way : Way
  event : Event
  behind : Port
  none_sent : is_grant event ≡ false
  moves : MovesSide port side way event tx rx behind
  here_so : (w : Way) → q name epoch w (hop_of port w).heard → r name epoch w (hop_of behind w).heard
  else_so : (p : PortName) (e : ℕ) (w : Way) (heard : List Data) → ((p ≡ name) × (e ≡ epoch) → ⊥) → q p e w heard → r p e w heard

one_or_other : (w way : Way) → (w ≡ way) ⊎ (w ≡ flip way)
one_or_other Ul Ul = inl refl
one_or_other Ul Dl = inr refl
one_or_other Dl Ul = inr refl
one_or_other Dl Dl = inl refl

-- the other way is another one
other_way : (way : Way) → flip way ≡ way → ⊥
other_way Ul e = false≢true (ap (is_way Ul) e)
other_way Dl e = false≢true (ap (is_way Dl) e)

-- what hearing a PDU leaves is a move of one hop
module _ {q r : Logs} (t : Contents) (pdu : Pdu) (port : Port) (reaches : ReachesPort port) (size : HasSize (port_size t pdu.port) port) (found : Option PortSide)
    (none : hear_refusal pdu found ≡ None) (into : Into q t found pdu r) where
  leaves_moved : (status : Bool) → pdu.status ≡ status → (answer : HopHeard) (tx : Tx) (rx : Rx) → HearLeaves port pdu.way status pdu.number pdu.bytes answer tx rx
      → Moving q r port pdu.port pdu.epoch (hearer_of pdu.way) tx rx
  leaves_moved false is (Amd answer) tx rx y = record {
    way = pdu.way;
    event = Deliver y.heard;
    behind = y.behind;
    none_sent = refl;
    moves = y.moves;
    here_so = λ w so. elim (one_or_other w pdu.way) [
      | inl same ↦ subst (λ (w : Way). r pdu.port pdu.epoch w (hop_of y.behind w).heard) (sym same)
          (subst (r pdu.port pdu.epoch pdu.way) (sym (delivery_heard pdu.way y.moves.moves))
          (takes.this y.heard (record { number = y.its_number; port = port; reaches = reaches; size = size; spells = y.spells }) (hop_of port pdu.way).heard
          (subst (λ (w : Way). q pdu.port pdu.epoch w (hop_of port w).heard) same so)))
      | inr not_same ↦ subst (λ (w : Way). r pdu.port pdu.epoch w (hop_of y.behind w).heard) (sym not_same)
          (subst (r pdu.port pdu.epoch (flip pdu.way)) (sym (delivery_other pdu.way y.moves.moves))
          (takes.other pdu.port pdu.epoch (flip pdu.way) _ (λ one. other_way pdu.way one.2)
          (subst (λ (w : Way). q pdu.port pdu.epoch w (hop_of port w).heard) not_same so)))
    ];
    else_so = λ p e w heard ne so. takes.other p e w heard (λ one. ne (one.0, one.1)) so;
  }
    where
      takes : Takes t pdu q r
      takes = into.taken none is
  leaves_moved true is (Status answer) tx rx y = record {
    way = flip pdu.way;
    event = DeliverStatus y.heard;
    behind = y.behind;
    none_sent = refl;
    moves = y.moves;
    here_so = λ w so. subst (r pdu.port pdu.epoch w) (sym (moves_heard (flip pdu.way) y.moves.moves refl w)) (kept pdu.port pdu.epoch w _ so);
    else_so = λ p e w heard ne so. kept p e w heard so;
  }
    where
      kept : Implies q r
      kept = into.kept (λ none no_status. true≢false (sym is ∙ no_status))
  leaves_moved status is answer tx rx y = absurd y

-- and it is answered as it should be
pub leaves_well : (l : RlcLaws) (port : Port) (way : Way) (status : Bool) (number : ℕ) (bytes : List ℕ) (answer : HopHeard) (tx : Tx) (rx : Rx) → ReachesPort port
    → HearLeaves port way status number bytes answer tx rx → IsHeardWell number answer
leaves_well l port way false number bytes (Amd Stored) tx rx r y = tt
leaves_well l port way false number bytes (Amd Repeat) tx rx r y = tt
leaves_well l port way false number bytes (Amd Outside) tx rx r y = y.as_given
leaves_well l port way false number bytes (Amd Conflict) tx rx r y = y.as_given
leaves_well l port way false number bytes (Amd (Complete own sdu)) tx rx r y =
    let given = (l.in_order (hop_of port way) (r way)).1 number y.as_given.1 in
    (y.as_given.0, record { some = omega (arith, given.0, ap length y.as_given.2); most = omega (arith, given.1, ap length y.as_given.2) })
leaves_well l port way true number bytes (Status (Acked tags marks)) tx rx r y = tt
leaves_well l port way true number bytes (Status (Old ack next)) tx rx r y = tt
leaves_well l port way true number bytes (Status (Beyond ack sent)) tx rx r y = y.of_sent
leaves_well l port way status number bytes answer tx rx r y = absurd y

-- what is kept once COUNTs are confirmed was kept
still_there : (test : ℕ → Bool) (count : ℕ) (kept : List (Option (List ℕ))) (n : ℕ) (sdu : List ℕ) → get_or (still_kept test count kept) n None ≡ Some sdu
    → get_or kept n None ≡ Some sdu
still_there test count [] n sdu e = e
still_there test count (x ∷ xs) zero sdu e = by (test count) e
  where
    by : (b : Bool) → cond b None x ≡ Some sdu → x ≡ Some sdu
    by true e = absurd (none-some sdu e)
    by false e = e
still_there test count (x ∷ xs) (suc n) sdu e = still_there test (count + 1) xs n sdu e

confirms_fits : (s : Sender) (test : ℕ → Bool) → SenderFits s → SenderFits (confirms s test)
confirms_fits s test fits n sdu e = fits n sdu (still_there test s.first s.kept n sdu e)

going_fits : (s : Sender) → SenderFits s → SenderFits (goes_on_sending s)
going_fits s fits = by s.waits
  where
    by : (b : Bool) → SenderFits (cond b (record s { waits = false; place = Rattle.pdcp_model.specs.Sender.confirmed s }) s)
    by true = fits
    by false = fits

-- PDCP hears a PDU
reports_go : (old : Node) (key : Key) (fmc : ℕ) (map : List ℕ) (answer : NodeHeard) (new : Node) → NodeFits old → HearsReport old key fmc map answer new → Goes old new
reports_go old key fmc map answer new fits (inl taken) = subst (Goes old) (sym taken.2)
    (goes_outgoing old (record (outgoing old key) { sender = hears_report (outgoing old key).sender fmc map }) fits
    (going_fits (confirms (outgoing old key).sender (is_reported fmc map)) (confirms_fits (outgoing old key).sender (is_reported fmc map) (outgoing_fits old key fits))))
reports_go old key fmc map answer new fits (inr beyond) = goes_nowhere old new fits beyond.2

pdcp_goes : (old : Node) (key : Key) (pdu : List ℕ) (answer : NodeHeard) (new : Node) → NodeFits old → HearsPdcp old key pdu answer new → Goes old new
pdcp_goes old key pdu answer new fits (data_pdu sn sdu is h) = subst (Goes old) (sym h.is) (goes_incoming old (record (incoming old key) { receiver = h.receiver }) fits)
pdcp_goes old key pdu answer new fits (report fmc map is h) = reports_go old (back key) fmc map answer new fits h
pdcp_goes old key pdu answer new fits (neither fault is says same) = goes_nowhere old new fits same

-- what is confirmed is confirmed for PDCP
count_goes : (n : Node) (key : Key) (count : Option ℕ) → NodeFits n → Goes n (confirm_count n key count)
count_goes n key None fits = goes_nowhere n n fits refl
count_goes n key (Some count) fits = goes_outgoing n _ fits (confirms_fits (outgoing n key).sender _ (outgoing_fits n key fits))

tags_go : (n : Node) (tags : List Tag) → NodeFits n → Goes n (fold (λ node (tag : Tag). confirm_count node tag.key tag.count) n tags)
tags_go n [] fits = goes_nowhere n n fits refl
tags_go n (tag ∷ tags) fits = let first = count_goes n tag.key tag.count fits in goes_on first (tags_go (confirm_count n tag.key tag.count) tags first.fits)

confirm_goes : (n : Node) (port : PortName) (tags : List Tag) → NodeFits n → Goes n (confirm_tags n port tags)
confirm_goes n (Direct remote drb) tags fits = tags_go n tags fits
confirm_goes n (Pc5 remote chan) tags fits = goes_nowhere n n fits refl
confirm_goes n (Uu chan) tags fits = goes_nowhere n n fits refl

-- what follows the answer of the entity
module _ (t : Contents) (old : Node) (at : Side) (side : PortSide) (fits : NodeFits old) (port : PortName) (here : side_at old port ≡ Some side) (number : ℕ) where
  passes_go : (sdu : List ℕ) (target : Result Target Discard) (answer : NodeHeard) (new : Node) → IsSdu sdu → Passes old side sdu target answer new → Goes old new
  passes_go sdu (Ok (ToPdcp key pdu)) answer new is p = pdcp_goes old key pdu answer new fits p
  passes_go sdu (Ok (Onward route)) answer new is p = subst (Goes old) (sym p.1)
      (goes_changed old port side (record side { slot = Some (record { from = side.name; route = route; sdu = sdu }) }) fits here refl refl
      (record { slot = λ parcel e. subst (λ (x : _). IsSdu x.sdu) (same_Some _ parcel e) is; queue = (side_fits old port side fits here).queue }))
  passes_go sdu (Err discard) answer new is p = goes_nowhere old new fits p.1

  follows_go : (hop : HopHeard) (answer : NodeHeard) (new : Node) → IsHeardWell number hop → Follows t old at side hop answer new → Goes old new
  follows_go (Amd (Complete own sdu)) answer new well f = passes_go sdu f.0 answer new well.1 f.2
  follows_go (Status (Acked tags marks)) answer new well f = subst (Goes old) (sym f.1) (confirm_goes old side.name tags fits)
  follows_go (Amd Stored) answer new well f = goes_nowhere old new fits f.1
  follows_go (Amd Repeat) answer new well f = goes_nowhere old new fits f.1
  follows_go (Amd Outside) answer new well f = goes_nowhere old new fits f.1
  follows_go (Amd Conflict) answer new well f = goes_nowhere old new fits f.1
  follows_go (Status (Old ack next)) answer new well f = goes_nowhere old new fits f.1
  follows_go (Status (Beyond ack sent)) answer new well f = goes_nowhere old new fits f.1
  follows_go (BadAmd fault) answer new well f = goes_nowhere old new fits f.1
  follows_go (BadStatus fault) answer new well f = goes_nowhere old new fits f.1

-- a node keeps its name, whatever it hears
module _ (old : Node) where
  pdcp_name : (key : Key) (pdu : List ℕ) (answer : NodeHeard) (new : Node) → HearsPdcp old key pdu answer new → new.name ≡ old.name
  pdcp_name key pdu answer new (data_pdu sn sdu is h) = ap (λ (n : Node). n.name) h.is
  pdcp_name key pdu answer new (report fmc map is (inl taken)) = ap (λ (n : Node). n.name) taken.2
  pdcp_name key pdu answer new (report fmc map is (inr beyond)) = ap (λ (n : Node). n.name) beyond.2
  pdcp_name key pdu answer new (neither fault is says same) = ap (λ (n : Node). n.name) same

  passes_name : (side : PortSide) (sdu : List ℕ) (target : Result Target Discard) (answer : NodeHeard) (new : Node) → Passes old side sdu target answer new → new.name ≡ old.name
  passes_name side sdu (Ok (ToPdcp key pdu)) answer new p = pdcp_name key pdu answer new p
  passes_name side sdu (Ok (Onward route)) answer new p = ap (λ (n : Node). n.name) p.1
  passes_name side sdu (Err discard) answer new p = ap (λ (n : Node). n.name) p.1

count_name : (n : Node) (key : Key) (count : Option ℕ) → (confirm_count n key count).name ≡ n.name
count_name n key None = refl
count_name n key (Some count) = refl

tags_name : (n : Node) (tags : List Tag) → (fold (λ node (tag : Tag). confirm_count node tag.key tag.count) n tags).name ≡ n.name
tags_name n [] = refl
tags_name n (tag ∷ tags) = tags_name (confirm_count n tag.key tag.count) tags ∙ count_name n tag.key tag.count

confirm_name : (n : Node) (port : PortName) (tags : List Tag) → (confirm_tags n port tags).name ≡ n.name
confirm_name n (Direct remote drb) tags = tags_name n tags
confirm_name n (Pc5 remote chan) tags = refl
confirm_name n (Uu chan) tags = refl

follows_name : (t : Contents) (old : Node) (at : Side) (side : PortSide) (hop : HopHeard) (answer : NodeHeard) (new : Node) → Follows t old at side hop answer new
    → new.name ≡ old.name
follows_name t old at side (Amd (Complete own sdu)) answer new f = passes_name old side sdu f.0 answer new f.2
follows_name t old at side (Status (Acked tags marks)) answer new f = ap (λ (n : Node). n.name) f.1 ∙ confirm_name old side.name tags
follows_name t old at side hop answer new f = ap (λ (n : Node). n.name) f.1

pub hears_name : (t : Contents) (old : Node) (at : Side) (pdu : Pdu) (answer : NodeHeard) (new : Node) → HearsPdu t old at pdu answer new → new.name ≡ old.name
hears_name t old at pdu answer new = by (hear_refusal pdu (side_at old pdu.port))
  where
    by : (refusal : Option NodeHeard) → HearsUnless refusal t old at pdu answer new → new.name ≡ old.name
    by (Some refusal) x = ap (λ (n : Node). n.name) x.1
    by None h = follows_name t (set_entity old h.side h.behind) at (record h.side { entity = Some h.behind }) h.hop answer new h.follows

-- a PDU that isn't refused comes to a side that is open, and the air hands it over
pub no_fault : (pdu : Pdu) (found : Option PortSide) (side : PortSide) (entity : Entity) → hear_refusal pdu found ≡ None → found ≡ Some side → side.entity ≡ Some entity
    → side_fault pdu (Some entity.epoch) entity.tx entity.rx ≡ None
no_fault pdu found side entity none here is_open = ap (entity_fault pdu) (sym is_open) ∙ by (entity_fault pdu side.entity) (ap (hear_refusal pdu) (sym here) ∙ none)
  where
    by : (fault : Option AirFault) → side_refusal pdu side fault ≡ None → fault ≡ None
    by None e = refl
    by (Some fault) e = absurd (none-some _ (sym e))

-- a PDU that an open side takes is of its epoch
its_epoch : (size : SnSize) (pdu : Pdu) (epoch next : ℕ) → air_fault size pdu (Some epoch) next ≡ None → pdu.epoch ≡ epoch
its_epoch size pdu epoch next = by (epoch == pdu.epoch) refl
  where
    by : (b : Bool) → (epoch == pdu.epoch) ≡ b → cond (not b) (Some Gone) (cond (is_stale size pdu.status pdu.number next) (Some (Stale pdu.number next)) None) ≡ None
        → pdu.epoch ≡ epoch
    by true is none = sym (eqb-true epoch pdu.epoch is)
    by false is none = absurd (none-some Gone (sym none))

pub side_epoch_is : (pdu : Pdu) (epoch : ℕ) (tx : Tx) (rx : Rx) → side_fault pdu (Some epoch) tx rx ≡ None → pdu.epoch ≡ epoch
side_epoch_is pdu epoch tx rx none = elim (cases_Bool pdu.status) [
  | inl status ↦ its_epoch tx.size pdu epoch (tx_next_ack tx) (sym (cond-true pdu.status (air_fault tx.size pdu (Some epoch) (tx_next_ack tx))
      (air_fault rx.size pdu (Some epoch) (rx_next rx)) status) ∙ none)
  | inr no_status ↦ its_epoch rx.size pdu epoch (rx_next rx) (sym (cond-false pdu.status (air_fault tx.size pdu (Some epoch) (tx_next_ack tx))
      (air_fault rx.size pdu (Some epoch) (rx_next rx)) no_status) ∙ none)
]

-- a side that hears a PDU takes it over
handed_pdcp : (key : Key) (heard : PdcpHeard) → is_handed_over (heard_as key heard) ≡ true
handed_pdcp key (pdcp.Up sdus) = refl
handed_pdcp key pdcp.Stored = refl
handed_pdcp key pdcp.Old = refl
handed_pdcp key pdcp.Repeat = refl
handed_pdcp key pdcp.BeforeStart = refl
handed_pdcp key pdcp.PastEnd = refl

module _ (t : Contents) (at : Side) where
  pdcp_handed : (old : Node) (key : Key) (pdu : List ℕ) (answer : NodeHeard) (new : Node) → HearsPdcp old key pdu answer new → is_handed_over answer ≡ true
  pdcp_handed old key pdu answer new (data_pdu sn sdu is h) = ap is_handed_over h.says ∙ handed_pdcp key h.heard
  pdcp_handed old key pdu answer new (report fmc bits is (inl taken)) = ap is_handed_over taken.1
  pdcp_handed old key pdu answer new (report fmc bits is (inr beyond)) = ap is_handed_over beyond.1
  pdcp_handed old key pdu answer new (neither fault is tells same) = ap is_handed_over tells

  passes_handed : (old : Node) (side : PortSide) (sdu : List ℕ) (target : Result Target Discard) (answer : NodeHeard) (new : Node) → Passes old side sdu target answer new
      → is_handed_over answer ≡ true
  passes_handed old side sdu (Ok (ToPdcp key pdu)) answer new p = pdcp_handed old key pdu answer new p
  passes_handed old side sdu (Ok (Onward route)) answer new p = ap is_handed_over p.0
  passes_handed old side sdu (Err discard) answer new p = ap is_handed_over p.0

  pub follows_handed : (old : Node) (side : PortSide) (heard : HopHeard) (answer : NodeHeard) (new : Node) → Follows t old at side heard answer new → is_handed_over answer ≡ true
  follows_handed old side (Amd (Complete number sdu)) answer new f = passes_handed old side sdu f.0 answer new f.2
  follows_handed old side (Status (Acked tags marks)) answer new f = ap is_handed_over f.0
  follows_handed old side (Amd Stored) answer new f = ap is_handed_over f.0
  follows_handed old side (Amd Repeat) answer new f = ap is_handed_over f.0
  follows_handed old side (Amd Outside) answer new f = ap is_handed_over f.0
  follows_handed old side (Amd Conflict) answer new f = ap is_handed_over f.0
  follows_handed old side (Status (Old ack next)) answer new f = ap is_handed_over f.0
  follows_handed old side (Status (Beyond ack sent)) answer new f = ap is_handed_over f.0
  follows_handed old side (BadAmd fault) answer new f = ap is_handed_over f.0
  follows_handed old side (BadStatus fault) answer new f = ap is_handed_over f.0

-- a node once it heard a PDU: its SDUs fit and its name stays; either nothing changed and nothing was heard, or it has the PDU's port
pub record HearsOn (q r : Logs) (old : Node) (port : PortName) (new : Node) : Type 0 where
  pub fits : NodeFits new
  pub name : new.name ≡ old.name
  pub there : ((new ≡ old) × Implies q r) ⊎ ((s : PortSide) × (side_at old port ≡ Some s))

module _ (l : RlcLaws) {q r : Logs} (t : Contents) {limit : Limits} {air : List (Option Pdu)} (v : View) (sees : PortName → Bool) (rest : PortName → Option PortSide)
    (ticket : ℕ) (pdu : Pdu)
    (on : on_air air ticket ≡ Some pdu) (seen : sees pdu.port ≡ true) where
  side_hears : (old new : Node) (answer : NodeHeard) → NodeFits old → hear_refusal pdu (side_at old pdu.port) ≡ None → Into q t (side_at old pdu.port) pdu r
      → HearsSide t old (hearer_of pdu.way) pdu.port pdu.bytes answer new
      → Stands q t (put v (owner (hearer_of pdu.way) pdu.port) (window sees rest old)) limit air
      → Stands r t (put v (owner (hearer_of pdu.way) pdu.port) (window sees rest new)) limit air × HearsOn q r old pdu.port new
  side_hears old new answer fits none into h s =
      (node_stands l v (owner at pdu.port) sees rest goes.moves moved, record { fits = goes.fits; name = goes.name; there = inr (h.side, h.its.here) })
    where
      at : Side
      at = hearer_of pdu.way

      its : put v (owner at pdu.port) (window sees rest old) (owner at pdu.port) pdu.port ≡ Some h.side
      its = put_here v (owner at pdu.port) (window sees rest old) (owner at pdu.port) pdu.port refl ∙ cond-true (sees pdu.port) (side_at old pdu.port) (rest pdu.port) seen
          ∙ h.its.here

      heard : (port : Port) × (s.ports pdu.port h.entity.epoch ≡ Some port) × HearLeaves port pdu.way pdu.status pdu.number pdu.bytes h.hop h.tx h.rx
      heard = l.side_hears _ s.ports s.epochs _ air s.fits s.sides ticket pdu on h.entity (ap (option_and_then entity_of) its ∙ h.its.is_open)
          (no_fault pdu (side_at old pdu.port) h.side h.entity none h.its.here h.its.is_open) h.hop h.tx h.rx h.hears

      well : IsHeardWell pdu.number h.hop
      well = leaves_well l heard.0 pdu.way pdu.status pdu.number pdu.bytes h.hop h.tx h.rx (s.fits.reaches pdu.port h.entity.epoch heard.0 heard.1) heard.2

      now : PortSide
      now = record h.side { entity = Some h.behind }

      mid : Node
      mid = set_side old now

      epoch_is : pdu.epoch ≡ h.entity.epoch
      epoch_is = side_epoch_is pdu h.entity.epoch h.entity.tx h.entity.rx (no_fault pdu (side_at old pdu.port) h.side h.entity none h.its.here h.its.is_open)

      m : Moving q r heard.0 pdu.port h.entity.epoch at h.tx h.rx
      m = subst (λ (e : ℕ). Moving q r heard.0 pdu.port e at h.tx h.rx) epoch_is
          (leaves_moved t pdu heard.0 (s.fits.reaches pdu.port h.entity.epoch heard.0 heard.1) (s.sides.sizes pdu.port h.entity.epoch heard.0 heard.1)
          (side_at old pdu.port) none into
          pdu.status refl h.hop h.tx h.rx heard.2)

      moved : Stands r t (put v (owner at pdu.port) (window sees rest mid)) limit air
      moved = stands_moved l s at pdu.port h.side now h.entity h.tx h.rx its h.its.is_open refl (ap (λ (e : Entity). Some e) h.its_entity)
          (put v (owner at pdu.port) (window sees rest mid))
          (put_changes sees rest old mid v (owner at pdu.port) at pdu.port now refl seen (side_set old pdu.port h.side now h.its.here refl)) heard.0 heard.1 m.way m.event m.behind m.moves m.here_so m.else_so m.none_sent

      goes : Goes mid new
      goes = follows_go t mid at now (fits_side old now fits (called_fits old pdu.port h.side (Some h.behind) fits h.its.here)) pdu.port
          (side_set old pdu.port h.side now h.its.here refl).here pdu.number h.hop answer new well h.follows

  -- a node hears a PDU
  pub hears_stand : (old new : Node) (answer : NodeHeard) → NodeFits old → Into q t (side_at old pdu.port) pdu r → HearsPdu t old (hearer_of pdu.way) pdu answer new
      → Stands q t (put v (owner (hearer_of pdu.way) pdu.port) (window sees rest old)) limit air
      → Stands r t (put v (owner (hearer_of pdu.way) pdu.port) (window sees rest new)) limit air × HearsOn q r old pdu.port new
  hears_stand old new answer fits into h s = by (hear_refusal pdu (side_at old pdu.port)) refl h
    where
      by : (refusal : Option NodeHeard) → hear_refusal pdu (side_at old pdu.port) ≡ refusal → HearsUnless refusal t old (hearer_of pdu.way) pdu answer new
          → Stands r t (put v (owner (hearer_of pdu.way) pdu.port) (window sees rest new)) limit air × HearsOn q r old pdu.port new
      by (Some refusal) is x = (
        subst (λ (n : Node). Stands r t (put v (owner (hearer_of pdu.way) pdu.port) (window sees rest n)) limit air)
            (sym x.1) (stands_implied (into.kept (λ none no_status. none-some refusal (sym none ∙ is))) s),
        record { fits = subst NodeFits (sym x.1) fits; name = ap (λ (n : Node). n.name) x.1; there = inl (x.1, into.kept (λ none no_status. none-some refusal (sym none ∙ is))) },
      )
      by None is x = side_hears old new answer fits is into x s

-- a PDU that a node doesn't take over it hasn't heard
pub not_handed : {q r : Logs} (t : Contents) (n : Node) (pdu : Pdu) (answer : NodeHeard) (new : Node) → Into q t (side_at n pdu.port) pdu r
    → HearsPdu t n (hearer_of pdu.way) pdu answer new
    → is_handed_over answer ≡ false → Implies q r
not_handed {q} {r} t n pdu answer new into = by (hear_refusal pdu (side_at n pdu.port)) refl
  where
    by : (refusal : Option NodeHeard) → hear_refusal pdu (side_at n pdu.port) ≡ refusal → HearsUnless refusal t n (hearer_of pdu.way) pdu answer new
        → is_handed_over answer ≡ false → Implies q r
    by (Some refusal) is x none = into.kept (λ taken no_status. none-some refusal (sym taken ∙ is))
    by None is x none = absurd (false≢true (sym none
        ∙ follows_handed t (hearer_of pdu.way) (set_entity n x.side x.behind) (record x.side { entity = Some x.behind }) x.hop answer new x.follows))

-- a PDU comes to its node
pub comes_hold : (l : RlcLaws) {q r : Logs} (old : Chain) (ticket : ℕ) (pdu : Pdu) (events : List Told) (reply : Reply) (new : Chain) (behind : Chain → Chain)
    → ((c : Chain) → Holds r c → Holds r (behind c)) → on_air old.air ticket ≡ Some pdu
    → Into q old.tables (side_at (hearer pdu old) pdu.port) pdu r → Holds q old → Comes old pdu events reply new behind → Holds r new
comes_hold l {q} {r} old ticket pdu events reply new behind keeps on into h c = subst (Holds r) (sym c.is) (by (is_handed_over c.answer) refl)
  where
    n : Node
    n = node_at old (owner (hearer_of pdu.way) pdu.port)

    heard : Stands r old.tables (put (view old) (owner (hearer_of pdu.way) pdu.port) (side_at c.node)) h.limit old.air × HearsOn q r n pdu.port c.node
    heard = hears_stand l old.tables (view old) all_seen no_rest ticket pdu on refl n c.node c.answer (node_fits old h (owner (hearer_of pdu.way) pdu.port)) into c.hears
        (put_own old.nodes (owner (hearer_of pdu.way) pdu.port) h.stands)

    set : ((c.node ≡ n) × Implies q r) ⊎ ((s : PortSide) × (side_at n pdu.port ≡ Some s)) → Holds r (set_node old c.node)
    set (inl same) = goes_set l old (owner (hearer_of pdu.way) pdu.port) c.node (holds_implied same.1 h)
        (goes_nowhere n c.node (node_fits old h (owner (hearer_of pdu.way) pdu.port)) same.0)
    set (inr there) = record {
      stands = set_stands old (owner (hearer_of pdu.way) pdu.port) c.node n (heard.1.name ∙ node_name old (owner (hearer_of pdu.way) pdu.port))
          (node_there old (owner (hearer_of pdu.way) pdu.port) pdu.port there.0 there.1) heard.0;
      nodes = each_replaced NodeFits _ c.node heard.1.fits old.nodes h.nodes;
      limit = h.limit;
      apart = h.apart;
      fresh = h.fresh;
      tickets = h.tickets;
    }

    by : (b : Bool) → is_handed_over c.answer ≡ b → Holds r (cond b (behind (set_node old c.node)) old)
    by true is = keeps (set_node old c.node) (set heard.1.there)
    by false is = holds_implied (not_handed old.tables n pdu c.answer c.node into c.hears is) h

pub delivers_hold : (l : RlcLaws) {q r : Logs} (old : Chain) (ticket : ℕ) (events : List Told) (reply : Reply) (new : Chain) (behind : Chain → Chain)
    → ((c : Chain) → Holds r c → Holds r (behind c)) → IntoAir q old (on_air old.air ticket) r → Holds q old → Delivers old (on_air old.air ticket) events reply new behind
    → Holds r new
delivers_hold l {q} {r} old ticket events reply new behind keeps into h = by (on_air old.air ticket) refl into
  where
    by : (pdu : Option Pdu) → on_air old.air ticket ≡ pdu → IntoAir q old pdu r → Delivers old pdu events reply new behind → Holds r new
    by None is implied d = subst (Holds r) (sym d.2) (holds_implied implied h)
    by (Some pdu) is into d = comes_hold l old ticket pdu events reply new behind keeps is into h d
