-- What is said of the data PDUs that were sent: they are pieces of one SDU for each number, and each SDU has an origin.
use Rattle.std.proofs.Common.{◌≡◌, inl, inr, ℕ, ◌+◌, ◌-◌, ◌<◌, ◌≤◌, ◌==◌, false, List, [], ◌∷◌, ◌++◌, length, get_or, Option, Some, None, option_and_then, refl, sym, ◌∙◌, ap, arith}
use Rattle.std.specs.List.{AllByRecursion}
use Rattle.std.proofs.lemmas.Bool.{cond-false, ne_eqb}
use Rattle.std.proofs.lemmas.List.{get_or-append-add}
use Rattle.std.proofs.lemmas.Option.{none-some, same_Some}
use Rattle.link_base.specs.declared.names.PortName.{PortName}
use Rattle.link_base.specs.declared.names.Side.{Side}
use Rattle.link_base.specs.declared.names.Side.TheVariants.{Low, High}
use Rattle.link_base.specs.declared.names.Way.{Way}
use Rattle.bearer_map.specs.Contents.{Contents}
use Rattle.rlc_model.specs.declared.hop.Pdu.{Pdu}
use Rattle.rlc_model.specs.Hop.{on_air}
use Rattle.rlc_model.specs.Sides.{Entity, way_from, sender_of}
use Rattle.rlc_model.specs.Tx.{Tx, Kept, kept_at, tx_next}
use Rattle.script_text.specs.declared.line.Line.{Line}
use Rattle.script_text.specs.declared.line.Line.TheVariants.{Grant}
use Rattle.script_text.specs.declared.reply.Reply.{Reply}
use Rattle.script_text.specs.declared.stage.Part.TheVariants.{Running}
use Rattle.script_text.specs.Lines.{part_of}
use Rattle.script_text.specs.History.{Entry}
use Rattle.node_model.specs.Names.{owner}
use Rattle.node_model.specs.State.{PortSide, side_at, entity_of}
use Rattle.chain_model.specs.State.{Chain, node_at, entity_on, opened}
use Rattle.chain_model.specs.Told.{air_entry, side_epoch}
use Rattle.chain_law.proofs.Opened.{side_new}
use Rattle.book_law.specs.Past.{IsDeclaration}
use Rattle.heard_law.proofs.Air.{SendsNone}
use Rattle.carried_law.specs.Pieces.{IsPieceOf}
use Rattle.carried_law.proofs.Keeping.{KeepsSdus}

-- what is said, behind a history, of the SDU that was given to a hop under a number of an epoch
abbrev pub Origins : Type 1
Origins = List Entry → PortName → Way → ℕ → ℕ → List ℕ → Type 0

-- a transmitter was given a number, and keeps no other SDU under it than this one
pub record IsKeptAs (sdu : List ℕ) (n : ℕ) (tx : Tx) : Type 0 where
  pub below : n < tx_next tx
  pub same : (k : Kept) → kept_at tx n ≡ Some k → k.sdu ≡ sdu

pub kept_on : {May : List ℕ → Type 0} {Begins : ℕ → Type 0} (sdu : List ℕ) (n : ℕ) (old new : Tx) → KeepsSdus May Begins old new → IsKeptAs sdu n old → IsKeptAs sdu n new
kept_on sdu n old new keeps is = record {
  below = omega (arith, is.below, keeps.long);
  same = λ k at. elim (keeps.kept n k at) [
    | inl was ↦ was.sdu ∙ is.same was.was was.here
    | inr new ↦ absurd (omega (arith, new.later, is.below))
  ];
}

-- the data PDUs that were sent are pieces of SDUs, no open transmitter keeps another SDU under the number of one, and each is of an epoch to which its side has come. Of
-- each SDU that an open transmitter keeps, and of each that was sent, this is said
pub record AreSent (origins : Origins) (t : Contents) (h : List Entry) (c : Chain) : Type 0 where
  pub sdu_of : PortName → Way → ℕ → ℕ → List ℕ
  pub pieces : (ticket : ℕ) (pdu : Pdu) → air_entry h ticket ≡ Some pdu → pdu.status ≡ false
      → IsPieceOf t (sdu_of pdu.port pdu.way pdu.epoch pdu.number) pdu
  pub kept : (ticket : ℕ) (pdu : Pdu) → air_entry h ticket ≡ Some pdu → pdu.status ≡ false
      → (e : Entity) → entity_on c (sender_of pdu.way) pdu.port ≡ Some e → e.epoch ≡ pdu.epoch → IsKeptAs (sdu_of pdu.port pdu.way pdu.epoch pdu.number) pdu.number e.tx
  pub epochs : (ticket : ℕ) (pdu : Pdu) → air_entry h ticket ≡ Some pdu → pdu.epoch ≤ side_epoch (sender_of pdu.way) pdu.port h
  pub given : (side : Side) (port : PortName) (e : Entity) → entity_on c side port ≡ Some e → (n : ℕ) (k : Kept) → kept_at e.tx n ≡ Some k
      → origins h port (way_from side) e.epoch n k.sdu
  pub origin : (ticket : ℕ) (pdu : Pdu) → air_entry h ticket ≡ Some pdu → pdu.status ≡ false
      → origins h pdu.port pdu.way pdu.epoch pdu.number (sdu_of pdu.port pdu.way pdu.epoch pdu.number)

-- the side that sends in the way in which a side sends
pub sender_from : (side : Side) → sender_of (way_from side) ≡ side
sender_from Low = refl
sender_from High = refl

-- what goes on the air is there
pub last_on_air : (air : List (Option Pdu)) (x : Pdu) → on_air (air ++ Some x ∷ []) (length air + 1) ≡ Some x
last_on_air air x = cond-false (length air + 1 == 0) None (get_or (air ++ Some x ∷ []) (length air + 1 - 1) None) (ne_eqb (length air + 1) 0 (λ e. omega (arith, e)))
    ∙ ap (λ (n : ℕ). get_or (air ++ Some x ∷ []) n None) at ∙ get_or-append-add air (Some x ∷ []) 0 None
  where
    at : length air + 1 - 1 ≡ length air + 0
    at = omega arith

-- a line that declares tables sends none
none_declared : (line : Line) (reply : Reply) → (part_of line ≡ Running → ⊥) → SendsNone line reply
none_declared (Grant port way octets) reply not_running = absurd (not_running refl)
none_declared line reply not_running = λ h ticket before. refl

pub none_shown : (h : List Entry) → AllByRecursion IsDeclaration h → (ticket : ℕ) → air_entry h ticket ≡ None
none_shown [] all ticket = refl
none_shown (e ∷ h) all ticket = none_declared e.line e.reply all.0.part h ticket (air_entry h ticket) ∙ none_shown h all.1 ticket

-- at the start no transmitter keeps an SDU
pub nothing_kept : (t : Contents) (side : Side) (q : PortName) (e : Entity) → entity_on (opened t) side q ≡ Some e → (n : ℕ) (k : Kept) → kept_at e.tx n ≡ Some k → ⊥
nothing_kept t side q e is n k at = by (side_at (node_at (opened t) (owner side q)) q) refl is
  where
    by : (o : Option PortSide) → side_at (node_at (opened t) (owner side q)) q ≡ o → option_and_then entity_of o ≡ Some e → ⊥
    by None here is = none-some e is
    by (Some s) here is = elim (side_new t (owner side q) q s here).entity [
      | inl none ↦ none-some e (sym none ∙ is)
      | inr some ↦ none-some k (ap (λ (x : Entity). kept_at x.tx n) (same_Some _ e (sym some ∙ is)) ∙ at)
    ]

-- where one thing is said another may be
pub sent_implied : (origins others : Origins) → ((h : List Entry) (port : PortName) (way : Way) (epoch n : ℕ) (sdu : List ℕ) → origins h port way epoch n sdu
    → others h port way epoch n sdu)
    → {t : Contents} {h : List Entry} {c : Chain} → AreSent origins t h c → AreSent others t h c
sent_implied origins others gives {h = h} s = record {
  sdu_of = s.sdu_of;
  pieces = s.pieces;
  kept = s.kept;
  epochs = s.epochs;
  given = λ side q e is n k at. gives h q (way_from side) e.epoch n k.sdu (s.given side q e is n k at);
  origin = λ ticket pdu shown data_pdu. gives h pdu.port pdu.way pdu.epoch pdu.number (s.sdu_of pdu.port pdu.way pdu.epoch pdu.number) (s.origin ticket pdu shown data_pdu);
}
