-- Along a run ghosts remember what transmitters kept: each keeps what its hops were given, and an SDU that is kept was given.
use Rattle.std.proofs.Common.{◌≡◌, inl, inr, ℕ, zero, suc, ◌<◌, List, [], ◌∷◌, ◌++◌, length, map, Option, Some, None, refl, sym, ◌∙◌, ap, subst, arith}
use Rattle.std.specs.List.{slice_get, slice_index_or}
use Rattle.std.proofs.lemmas.Option.{none-some}
use Rattle.link_base.specs.declared.names.PortName.{PortName}
use Rattle.link_base.specs.declared.names.Way.{Way}
use Rattle.link_base.specs.declared.names.Way.TheVariants.{Ul, Dl}
use Rattle.bearer_map.specs.Contents.{Contents}
use Rattle.rlc_model.specs.Sides.{Entity, sender_of, way_from}
use Rattle.rlc_model.specs.Tx.{Tx, Kept, kept_at}
use Rattle.rlc_law.specs.Hop.{Hop, Reaches}
use Rattle.rlc_law.specs.Ports.{Port, hop_of}
use Rattle.rlc_law.proofs.Safety.{gives_in_order, keeps_given}
use Rattle.script_text.specs.History.{Entry}
use Rattle.node_model.proofs.Finding.{each_left}
use Rattle.chain_model.specs.Draining.{Moment, entry_of}
use Rattle.chain_model.specs.State.{Chain, entity_on}
use Rattle.chain_law.proofs.Members.{IsIn, contained, contains}
use Rattle.book_law.specs.Past.{Goes, steps, drained, ended, Passes, AreTables}
use Rattle.book_law.proofs.Tables.{tables_stay}
use Rattle.item_chain.specs.Laws.{OpenedChainsStand}
use Rattle.item_chain.specs.Runs.{StepsGoByItemSteps, IsRunLine, AreRunLines, chains, Remembers, IsRemembered, PastsAreRemembered}
use Rattle.item_chain.specs.View.{view}
use Rattle.item_chain.specs.Stands.{TablesGood, KeepGiven, Ghost, Stands}
use Rattle.item_chain.proofs.Given.{given_same}
use Rattle.item_chain.proofs.Runs.{item_line}

sends_back : (w : Way) → way_from (sender_of w) ≡ w
sends_back Ul = refl
sends_back Dl = refl

-- what a ghost's hop was given
abbrev WasGiven : Ghost → PortName → Way → ℕ → ℕ → List ℕ → Type 0
WasGiven g port way epoch number sdu = (its : Port) × (g.ports port epoch ≡ Some its) × (slice_get (hop_of its way).given number ≡ Some sdu)

---- lists

within_kept : (xs : List (Option Kept)) (n : ℕ) (k : Kept) → slice_index_or xs n None ≡ Some k → n < length xs
within_kept [] n k is = absurd (none-some k is)
within_kept (x ∷ xs) zero k is = omega arith
within_kept (x ∷ xs) (suc n) k is = let lt = within_kept xs n k is in omega (arith, lt)

at_index : (xs : List (List ℕ)) (n : ℕ) → n < length xs → slice_get xs n ≡ Some (slice_index_or xs n [])
at_index [] n lt = absurd (omega (arith, lt))
at_index (x ∷ xs) zero lt = refl
at_index (x ∷ xs) (suc n) lt = at_index xs n (omega (arith, lt))

at_front : (xs ys : List (List ℕ)) (n : ℕ) (x : List ℕ) → slice_get xs n ≡ Some x → slice_get (xs ++ ys) n ≡ Some x
at_front [] ys n x is = absurd (none-some x is)
at_front (y ∷ xs) ys zero x is = is
at_front (y ∷ xs) ys (suc n) x is = at_front xs ys n x is

---- ghosts

-- a hop's transmitter keeps what the hop was given
hop_kept : (h : Hop) → Reaches h → (n : ℕ) (k : Kept) → kept_at h.tx n ≡ Some k → slice_get h.given n ≡ Some k.sdu
hop_kept h run n k is =
    let lt : n < length h.given = omega (arith, within_kept h.tx.kept n k is, (gives_in_order h run).0) in
    at_index h.given n lt ∙ ap (λ (x : List ℕ). Some x) (sym (keeps_given h run n k is))

-- so does the transmitter of an open side
now_kept : (g : Ghost) (c : Chain) → Stands g (view c) → (port : PortName) (way : Way) (epoch number : ℕ) (sdu : List ℕ) (e : Entity) → entity_on c (sender_of way) port ≡ Some e
    → e.epoch ≡ epoch → (k : Kept) → kept_at e.tx number ≡ Some k → k.sdu ≡ sdu → WasGiven g port way epoch number sdu
now_kept g c st port way epoch number sdu e is_open its k there is =
    let open_port = st.sides.open_port (sender_of way) port e is_open in
    let h : Hop = hop_of open_port.0 way in
    let tx : h.tx ≡ e.tx = sym (open_port.2.its_tx ∙ ap (λ (w : Way). (hop_of open_port.0 w).tx) (sends_back way)) in (
      open_port.0,
      ap (g.ports port) (sym its) ∙ open_port.1,
      hop_kept h (st.ports.reaches port e.epoch open_port.0 open_port.1 way) number k (ap (λ (t : Tx). kept_at t number) tx ∙ there) ∙ ap (λ (x : List ℕ). Some x) is,
    )

-- a ghost that keeps what another one's hops were given remembers what that one does
still_given : (a b : Ghost) → KeepGiven a.ports b.ports → (port : PortName) (way : Way) (epoch number : ℕ) (sdu : List ℕ) → WasGiven a port way epoch number sdu
    → WasGiven b port way epoch number sdu
still_given a b keep port way epoch number sdu (its, is, given) =
    let x = keep port epoch its is in
    let more = x.2 way in
    (x.0, x.1, ap (λ (xs : List (List ℕ)). slice_get xs number) more.1 ∙ at_front (hop_of its way).given more.0 number sdu given)

-- behind one more line
one_more : (a b : Ghost) (past : List Chain) (c : Chain) → Stands b (view c) → KeepGiven a.ports b.ports → Remembers past a → Remembers (c ∷ past) b
one_more a b past c st keep remembers port way epoch number sdu was = by (contained (c ∷ past) was.chain was.among)
  where
    by : IsIn (c ∷ past) was.chain → WasGiven b port way epoch number sdu
    by (inl this) = now_kept b c st port way epoch number sdu was.entity (ap (λ (d : Chain). entity_on d (sender_of way) port) this ∙ was.its) was.its_epoch was.kept
        was.there was.is
    by (inr earlier) = still_given a b keep port way epoch number sdu (remembers port way epoch number sdu (record {
      chain = was.chain;
      among = contains past was.chain earlier;
      entity = was.entity;
      its = was.its;
      its_epoch = was.its_epoch;
      kept = was.kept;
      there = was.there;
      is = was.is;
    }))

none_before : (g : Ghost) → Remembers [] g
none_before g port way epoch number sdu was = absurd (contained [] was.chain was.among)

module _ (steps_go : StepsGoByItemSteps) (opens : OpenedChainsStand) (t : Contents) (good : TablesGood t) (are : AreTables t) where
  passes_remember : (ms : List Moment) (c : Chain) → Passes t ms c → AreRunLines (map entry_of ms) → IsRemembered (chains ms c) c
  passes_remember [] c is lines =
      let begun = opens t good are in
      let st : Stands begun.0 (view c) = subst (λ (d : Chain). Stands begun.0 (view d)) (sym is) begun.2 in
      record { ghost = begun.0; stands = st; remembers = one_more begun.0 begun.0 [] c st (given_same begun.0.ports) (none_before begun.0) }
  passes_remember (m ∷ ms) c (before, goes) (this, lines) = by goes (passes_remember ms m.before before lines)
    where
      same : c ≡ m.before → IsRemembered (chains ms m.before) m.before → IsRemembered (chains (m ∷ ms) c) c
      same is r =
          let st : Stands r.ghost (view c) = subst (λ (d : Chain). Stands r.ghost (view d)) (sym is) r.stands in
          record { ghost = r.ghost; stands = st; remembers = one_more r.ghost r.ghost (chains ms m.before) c st (given_same r.ghost.ports) r.remembers }

      by : Goes m.before m.entry c → IsRemembered (chains ms m.before) m.before → IsRemembered (chains (m ∷ ms) c) c
      by (steps s) r =
          let more = steps_go r.ghost m.before r.stands m.entry.line m.entry.events m.entry.reply c
          (item_line m.before m.entry.line s.own m.entry.reply s.mid s.does this) s in
          record { ghost = more.ghost; stands = more.stands; remembers = one_more r.ghost more.ghost (chains ms m.before) c more.stands more.given r.remembers }
      by (drained line none is whole) r = same is r
      by (ended line none says is) r = same is r

pub pasts_are_remembered : StepsGoByItemSteps → OpenedChainsStand → PastsAreRemembered
pasts_are_remembered steps_go opens h c past lines good =
    passes_remember steps_go opens past.tables (subst TablesGood (tables_stay past.tables past.moments c past.passes) good) past.are_tables past.moments c past.passes
    (each_left (λ (e : Entry). IsRunLine e.line) (map entry_of past.moments) past.declared (subst AreRunLines past.are lines))
