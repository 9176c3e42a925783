-- Items that stand for a chain have one copy of each COUNT.
use Rattle.std.proofs.Common.{◌≡◌, ℕ, ◌+◌, List, [], ◌∷◌, length, refl, sym, ◌∙◌, ap, subst, arith}
use Rattle.std.specs.List.{AllByRecursion}
use Rattle.link_base.specs.declared.names.Key.{Key}
use Rattle.bearer_map.specs.Contents.{Contents}
use Rattle.bearer_map.specs.declared.rows.BearerRow.{BearerRow}
use Rattle.pdcp_model.specs.Sender.{Sender, kept_at}
use Rattle.script_text.specs.History.{Entry}
use Rattle.chain_model.specs.Carried.{IsRowOf}
use Rattle.chain_model.specs.Draining.{Moment}
use Rattle.chain_model.specs.State.{Chain, sender_at, receiving_at}
use Rattle.book_law.specs.Honest.{HasCount}
use Rattle.book_law.specs.Past.{Passes, IsDeclaration, AreTables}
use Rattle.item_law.specs.State.{Tables as ItemTables}
use Rattle.item_law.specs.World.{World}
use Rattle.item_law.proofs.laws.OneCopy.{confirms_heard, live_once, live_unheard, none_live_in_wait, reports_name_heard, wait_ends, given_arrives}
use Rattle.item_chain.specs.Foundations.{PduLaws}
use Rattle.item_chain.specs.Runs.{PastsStand, AreRunLines}
use Rattle.item_chain.specs.View.{View, view}
use Rattle.item_chain.specs.Stands.{item_tables, calm, TablesGood, Ghost, Stands}
use Rattle.item_run.specs.Foundations.{BookLaws}
use Rattle.item_run.specs.OneCopy.{HasOneCopy, KeepsUntilHeard, IsOneCopied}
use Rattle.item_run.proofs.AllUp.{row_there}
use Rattle.item_run.proofs.Honest.{its_keys, out, out_fits, out_is, first_in, heard_has}
use Rattle.item_run.proofs.Runs.{history, stands_behind}

pub one_copy : (g : Ghost) (v : View) → Stands g v → HasOneCopy g.chain
one_copy g v st =
    let t : ItemTables = item_tables v.tables in
    let w : World = calm g.chain in
    record {
      heard_or_kept = λ k c is. confirms_heard t w st.reaches k refl c is;
      live_once = λ n m i j c x y one two first second same. live_once t w st.reaches n m i j c x y refl one two first second same;
      live_unheard = λ n i c x live is. live_unheard t w st.reaches n i c x refl live is;
      none_in_wait = λ n i c x waits same live is. none_live_in_wait t w st.reaches n i c x refl waits same live is;
      names_heard = λ n i named waits live is c heard. reports_name_heard t w st.reaches n i named refl waits live is c heard;
      wait_ends = λ k none waits. wait_ends t w st.reaches k (record { clean = refl; no_plan = none; sound = refl }) waits;
      given_arrives = λ k c none waits below. given_arrives t w st.reaches k c (record { clean = refl; no_plan = none; sound = refl }) waits below;
    }

module _ (g : Ghost) (c : Chain) (st : Stands g (view c)) where
  keeps : (row : BearerRow) (key : Key) → IsRowOf c.tables key row → KeepsUntilHeard c key
  keeps row key its n lt none =
      let found = row_there c.tables key row its in
      let fits = out_fits g c st key found.0 found.1 in
      let same : sender_at c key ≡ (out g c st key found.0 found.1).sender = out_is g c st key found.0 found.1 in
      let lost = (fits.fits.confirmed n (omega (arith, lt, ap (λ (s : Sender). length s.kept) same))).1 (ap (λ (s : Sender). kept_at s n) (sym same) ∙ none) in
      subst (λ (first : ℕ). HasCount (receiving_at c key).receiver (first + n)) (sym (first_in g c st key found.0 found.1))
      (heard_has g c st key found.0 found.1 n ((its_keys g c st key).confirmed n lost))

  pub one_copied : IsOneCopied c
  one_copied = record { ghost = g; stands = st; one_copy = one_copy g (view c) st; keeps = keeps }

module _ (books : BookLaws) (pasts : PastsStand) (pdus : PduLaws) (t : Contents) (are : AreTables t) (good : TablesGood t) (declared : List Entry)
    (declare : AllByRecursion IsDeclaration declared) where
  pub copied_behind : (ms : List Moment) (c : Chain) → Passes t ms c → AreRunLines (history books pasts pdus t are good declared declare ms) → IsOneCopied c
  copied_behind ms c passes lines = let stood = stands_behind books pasts pdus t are good declared declare ms c passes lines in one_copied stood.0 c stood.1

  -- before each line
  pub copied_before : (ms : List Moment) (c : Chain) → Passes t ms c → AreRunLines (history books pasts pdus t are good declared declare ms)
      → AllByRecursion (λ (m : Moment). IsOneCopied m.before) ms
  copied_before [] c is lines = tt
  copied_before (m ∷ ms) c (before, goes) (run, lines) = (copied_behind ms m.before before lines, copied_before ms m.before before lines)
