-- A key of a quiet chain has handed up all that was submitted, where its remote has no open plan.
use Rattle.std.proofs.Common.{◌≡◌, ℕ, ◌==◌, ◌&&◌, true, false, List, length, take, Some, None, is_some, refl, sym, ◌∙◌, ap, arith}
use Rattle.std.proofs.Math.Seq.{take-length}
use Rattle.std.proofs.lemmas.Bool.{and_from, and_parts, eq-eqb, true≢false}
use Rattle.link_base.specs.declared.names.Drb.{Drb}
use Rattle.link_base.specs.declared.names.Key.{Key}
use Rattle.link_base.specs.declared.names.Remote.{Remote}
use Rattle.bearer_map.specs.Contents.{Contents}
use Rattle.bearer_map.specs.declared.rows.BearerRow.{BearerRow}
use Rattle.pdcp_model.specs.Sender.{Sender, submitted as accepted_by}
use Rattle.script_text.specs.History.{Entry}
use Rattle.node_model.specs.Names.{is_remote, source}
use Rattle.node_model.specs.Tables.{has_remote}
use Rattle.node_model.proofs.Names.{remote_refl}
use Rattle.chain_model.specs.declared.plan.Plan.{Plan}
use Rattle.chain_model.specs.Book.{submitted, handed}
use Rattle.chain_model.specs.Carried.{IsRowOf}
use Rattle.chain_model.specs.OneCopy.{HasNoPlan}
use Rattle.chain_model.specs.Plans.{is_open}
use Rattle.chain_model.specs.Resting.{is_quiet}
use Rattle.chain_model.specs.State.{Chain, sender_at, receiving_at}
use Rattle.chain_law.proofs.Members.{contained}
use Rattle.book_law.specs.Kept.{KeepsSdus}
use Rattle.book_law.specs.Laws.{HandsUpInOrder}
use Rattle.table_law.specs.Declared.{AreDeclared}
use Rattle.item_law.specs.HandUps.{IsQuiet}
use Rattle.item_law.specs.Live.{Live}
use Rattle.item_law.specs.OneCopy.{IsSettled}
use Rattle.item_law.specs.State.{Item}
use Rattle.item_law.proofs.Inductive.{reaches_inv}
use Rattle.item_law.proofs.laws.Handed.{hands_up_all}
use Rattle.item_law.proofs.laws.LiveItems.{live_now}
use Rattle.item_chain.proofs.OpenedSides.{found_in}
use Rattle.item_chain.specs.View.{view}
use Rattle.item_chain.specs.Stands.{row_of, item_tables, calm, PlanFits, opened as is_opened, closed as is_closed, OutgoingFits, Ghost, Stands}
use Rattle.item_run.proofs.Honest.{hand_ups, out, out_fits, out_is}
use Rattle.item_run.proofs.Quiet.{has_direct, none_on_way, quiet_holds}
use Rattle.item_run.proofs.Resting.{SenderRests, sender_rests}

-- a bearer's row is found
pub row_there : (t : Contents) (key : Key) (row : BearerRow) → IsRowOf t key row → (its : BearerRow) × (row_of t key.remote key.drb ≡ Some its)
row_there t key row is =
    let found = found_in (λ (b : BearerRow). is_remote key.remote b.remote && (key.drb.0 == b.drb.0)) t.bearers row (contained t.bearers row is.among)
    (and_from (is_remote key.remote row.remote) (key.drb.0 == row.drb.0) (ap (is_remote key.remote) is.remote ∙ remote_refl key.remote)
    (eq-eqb key.drb.0 row.drb.0 (ap (λ d. d.0) (sym is.drb)))) in
    (found.0, found.1)

module _ (g : Ghost) (c : Chain) (st : Stands g (view c)) (declared : AreDeclared c.tables) (quiet : is_quiet c ≡ true) (key : Key) (row : BearerRow)
    (its_row : row_of c.tables key.remote key.drb ≡ Some row) (no_plan : (g.chain.path key.remote).plan ≡ None) where
  fits : OutgoingFits c.tables g.chain.sender (source key) key (out g c st key row its_row)
  fits = out_fits g c st key row its_row

  rests : SenderRests (out g c st key row its_row).sender
  rests = sender_rests c quiet (source key) key (out g c st key row its_row) (st.ends.sends key row its_row).1

  nothing_live : (n : ℕ) (i : Item) → i.key ≡ key → Live g.chain n i → ⊥
  nothing_live n i same live =
      let now = live_now (reaches_inv (item_tables c.tables) (calm g.chain) st.reaches) n i refl live in
      none_on_way g c st declared (quiet_holds c quiet) n i live.is (ap (λ (k : Key). (g.chain.path k.remote).plan) same ∙ no_plan) now.now now.moves

  key_quiet : IsQuiet g.chain key
  key_quiet = record {
    items = nothing_live;
    waits = fits.fits.waits ∙ rests.waits;
    given = λ n from lt.
        (fits.fits.confirmed n (omega (arith, lt, fits.fits.long))).1 (rests.gone n (omega (arith, from, fits.fits.place)) (omega (arith, lt, fits.fits.long)));
  }

  settled : IsSettled (calm g.chain) key.remote
  settled = record { clean = refl; no_plan = no_plan; sound = refl }

  -- as many as were accepted were handed up
  handed_all : (receiving_at c key).receiver.handed ≡ accepted_by (sender_at c key)
  handed_all =
      let ups = hand_ups g c st key row its_row in
      let all = hands_up_all (item_tables c.tables) (calm g.chain) st.reaches key ups.up settled key_quiet ups.is in
      omega (arith, ups.long, ap length all, fits.fits.long, ap (λ (s : Sender). length s.kept) (out_is g c st key row its_row))

-- where no plan of a bearer's remote is open, its path has none
pub path_shut : (g : Ghost) (c : Chain) → Stands g (view c) → AreDeclared c.tables → (r : Remote) (d : Drb) (row : BearerRow) → row_of c.tables r d ≡ Some row → HasNoPlan c r
    → (g.chain.path r).plan ≡ None
path_shut g c st declared r d row is none =
    let parts = and_parts (has_remote c.tables r) (is_some (row_of c.tables r d)) (has_direct g c st declared r d row is) in
    let last = st.paths.lasts r parts.0 in
    by last.0 (none last.0 last.1) (st.paths.plans r last.0 last.1)
  where
    by : (p : Plan) → is_open p ≡ false → PlanFits (g.chain.path r) p → (g.chain.path r).plan ≡ None
    by p shut (is_opened still plan epoch) = absurd (true≢false (sym still ∙ shut))
    by p shut (is_closed off plan epoch goal) = plan

-- the history tells the same
pub all_up : (g : Ghost) (c : Chain) → Stands g (view c) → AreDeclared c.tables → is_quiet c ≡ true
    → (h : List Entry) (row : BearerRow) (key : Key) → IsRowOf c.tables key row → HasNoPlan c key.remote → KeepsSdus row key.way (submitted key h) (sender_at c key)
    → (receiving_at c key).receiver.handed ≡ length (handed key h) → HandsUpInOrder h key → handed key h ≡ submitted key h
all_up g c st declared quiet h row key its none keeps_sdus number order =
    let found = row_there c.tables key row its in
    let all = handed_all g c st declared quiet key found.0 found.1 (path_shut g c st declared key.remote key.drb found.0 found.1 none) in
    let same : length (handed key h) ≡ length (submitted key h) = omega (arith, number, all, keeps_sdus.many) in
    order.in_order ∙ ap (λ (n : ℕ). take n (submitted key h)) same ∙ take-length (submitted key h)
