-- Of each COUNT there is one copy, told of the chain's own places.
use Rattle.std.proofs.Common.{◌≡◌, ◌↔◌, ℕ, ◌+◌, ◌-◌, ◌<◌, ◌≤◌, true, List, length, Some, None, refl, sym, ◌∙◌, ap, subst, arith}
use Rattle.std.proofs.lemmas.Bool.{true≢false}
use Rattle.std.proofs.lemmas.Option.{same_Some}
use Rattle.link_base.specs.declared.names.Drb.{Drb}
use Rattle.link_base.specs.declared.names.Key.{Key}
use Rattle.link_base.specs.declared.names.Node.{Node as NodeKind}
use Rattle.link_base.specs.declared.names.PortName.TheVariants.{Direct}
use Rattle.link_base.specs.declared.names.Remote.{Remote}
use Rattle.link_base.specs.declared.names.Way.{Way}
use Rattle.link_base.specs.declared.names.Way.TheVariants.{Ul, Dl}
use Rattle.bearer_map.specs.declared.rows.BearerRow.{BearerRow}
use Rattle.pdcp_model.specs.Sender.{Sender, kept_at, is_reported}
use Rattle.script_text.specs.History.{Entry}
use Rattle.rlc_model.specs.Sides.{hearer_of, sender_of}
use Rattle.node_model.specs.Names.{owner}
use Rattle.node_model.specs.Tables.{first_count}
use Rattle.chain_model.specs.OneCopy.{Spot, IsLive, IsLiveReport, InOneEpoch, IsHeardNow}
use Rattle.chain_model.specs.State.{Chain, sender_at}
use Rattle.chain_model.specs.Told.{epoch_at as told_epoch, kind_of}
use Rattle.item_law.specs.OneCopy.{IsOneEpoch}
use Rattle.item_law.specs.State.{Data, epoch_at, is_heard, source as source_kind, sink as sink_kind}
use Rattle.item_chain.specs.Foundations.{PduLaws}
use Rattle.item_chain.specs.Runs.{Remembers}
use Rattle.item_chain.specs.View.{view}
use Rattle.item_chain.specs.Stands.{row_of, Ghost, Stands}
use Rattle.item_run.specs.OneCopy.{HasOneCopy}
use Rattle.item_run.proofs.Copies.{one_copy}
use Rattle.item_run.proofs.Honest.{its_keys, out_fits, out_is}
use Rattle.item_run.proofs.LiveContents.{DataAt, data_at, report_at}
use Rattle.item_run.proofs.LiveSpots.{StandsAt, one_spot}

-- the ends of a key are of these kinds
source_is : (w : Way) (r : Remote) (d : Drb) → kind_of (owner (sender_of w) (Direct r d)) ≡ source_kind w
source_is Ul r d = refl
source_is Dl r d = refl

sink_is : (w : Way) (r : Remote) (d : Drb) → kind_of (owner (hearer_of w) (Direct r d)) ≡ sink_kind w
sink_is Ul r d = refl
sink_is Dl r d = refl

module _ (l : PduLaws) (g : Ghost) (c : Chain) (st : Stands g (view c)) (past : List Chain) (remembers : Remembers past g) (h : List Entry) (row : BearerRow) (key : Key)
    (the_row : row_of c.tables key.remote key.drb ≡ Some row)
    (told : (m : ℕ) → is_heard g.chain key m ≡ true ↔ IsHeardNow c h row key (first_count row key.way + m))
    (from : (count : ℕ) → IsHeardNow c h row key count → first_count row key.way ≤ count)
    (epochs : (kind : NodeKind) → told_epoch kind key.remote h ≡ epoch_at (g.chain.path key.remote) kind) where
  copies : HasOneCopy g.chain
  copies = one_copy g (view c) st

  -- what is heard has an index behind the first COUNT
  heard_index : (count index : ℕ) → IsHeardNow c h row key count → count ≡ first_count row key.way + index → is_heard g.chain key index ≡ true
  heard_index count index heard is = (told index).1 (subst (IsHeardNow c h row key) is heard)

  -- the bearer's row is the one
  its_index : (count : ℕ) (spot : Spot) (d : DataAt l g c st past remembers key spot count) → count ≡ first_count row key.way + d.index
  its_index count spot d = d.its_count ∙ ap (λ (b : BearerRow). first_count b key.way + d.index) (same_Some d.row row (sym d.its_row ∙ the_row))

  waits_as : (sender_at c key).waits ≡ (g.chain.sender key).waits
  waits_as = ap (λ (s : Sender). s.waits) (out_is g c st key row the_row) ∙ sym (out_fits g c st key row the_row).fits.waits

  pub heard_or_kept : (n : ℕ) → n < length (sender_at c key).kept → kept_at (sender_at c key) n ≡ None → IsHeardNow c h row key (first_count row key.way + n)
  heard_or_kept n lt none =
      let same = out_is g c st key row the_row in
      let fits = out_fits g c st key row the_row in
      let lost = (fits.fits.confirmed n (omega (arith, lt, ap (λ (s : Sender). length s.kept) same))).1 (ap (λ (s : Sender). kept_at s n) (sym same) ∙ none) in
      (told n).0 ((its_keys g c st key).confirmed n lost)

  pub live_one : (spot other : Spot) (count : ℕ) → IsLive past c key spot count → IsLive past c key other count → spot ≡ other
  live_one spot other count x y =
      let a = data_at l g c st past remembers key spot count x in
      let b = data_at l g c st past remembers key other count y in
      let same : b.index ≡ a.index = omega (arith, its_index count spot a, its_index count other b) in
      let number = copies.live_once a.its.number b.its.number a.its.item b.its.item a.index a.sdu b.sdu a.its.live b.its.live a.its.carries
      (b.its.carries ∙ ap (λ (z : ℕ). Data z b.sdu) same) (a.its.its_key ∙ sym b.its.its_key) in
      one_spot g c st spot other a.its.number a.its.stands (subst (StandsAt g c st other) (sym number) b.its.stands)

  pub live_unheard_here : (spot : Spot) (count : ℕ) → IsLive past c key spot count → IsHeardNow c h row key count → ⊥
  live_unheard_here spot count x heard =
      let a = data_at l g c st past remembers key spot count x in
      let unheard = copies.live_unheard a.its.number a.its.item a.index a.sdu a.its.live a.its.carries in
      true≢false (sym (heard_index count a.index heard (its_index count spot a)) ∙ ap (λ (k : Key). is_heard g.chain k a.index) (sym a.its.its_key) ∙ unheard)

  one_epoch : InOneEpoch h key → IsOneEpoch g.chain key
  one_epoch same =
      ap (epoch_at (g.chain.path key.remote)) (sym (source_is key.way key.remote key.drb)) ∙ sym (epochs (kind_of (owner (sender_of key.way) (Direct key.remote key.drb))))
      ∙ same ∙ epochs (kind_of (owner (hearer_of key.way) (Direct key.remote key.drb)))
      ∙ ap (epoch_at (g.chain.path key.remote)) (sink_is key.way key.remote key.drb)

  pub none_waits : (sender_at c key).waits ≡ true → InOneEpoch h key → (spot : Spot) (count : ℕ) → IsLive past c key spot count → ⊥
  none_waits waits same spot count x =
      let a = data_at l g c st past remembers key spot count x in
      copies.none_in_wait a.its.number a.its.item a.index a.sdu (ap (λ (k : Key). (g.chain.sender k).waits) a.its.its_key ∙ sym waits_as ∙ waits)
      (subst (IsOneEpoch g.chain) (sym a.its.its_key) (one_epoch same)) a.its.live a.its.carries

  pub report_names : (sender_at c key).waits ≡ true → (spot : Spot) (fmc : ℕ) (bits : List ℕ) → IsLiveReport past c key spot fmc bits → (count : ℕ)
      → IsHeardNow c h row key count → is_reported fmc bits count ≡ true
  report_names waits spot fmc bits x count heard =
      let a = report_at l g c st past remembers key spot fmc bits x in
      let same : a.row ≡ row = same_Some a.row row (sym a.its_row ∙ the_row) in
      let low = from count heard in
      let m : ℕ = count - first_count row key.way in
      let is : count ≡ first_count row key.way + m = omega (arith, low) in
      let named = copies.names_heard a.its.number a.its.item a.named (ap (λ (k : Key). (g.chain.sender k).waits) a.its.its_key ∙ sym waits_as ∙ waits) a.its.live a.its.carries m
      (ap (λ (k : Key). is_heard g.chain k m) a.its.its_key ∙ heard_index count m heard is) in
      ap (is_reported fmc bits) is ∙ ap (λ (b : BearerRow). is_reported fmc bits (first_count b key.way + m)) (sym same) ∙ sym (a.says m) ∙ named
