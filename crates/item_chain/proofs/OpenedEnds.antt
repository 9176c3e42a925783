-- The ends of keys in a chain that tables open.
use Rattle.std.proofs.Common.{◌≡◌, ℕ, ◌==◌, ◌&&◌, Bool, true, false, List, [], find, map, Option, Some, None, option_map, refl, sym, ◌∙◌, ap, subst, arith}
use Rattle.std.specs.Option.{unwrap_or}
use Rattle.std.proofs.lemmas.Bool.{and_parts, eqb-true, false≢true}
use Rattle.std.proofs.lemmas.Option.{none-some, same_Some}
use Rattle.link_base.specs.declared.names.Drb.{Drb}
use Rattle.link_base.specs.declared.names.Key.{Key}
use Rattle.link_base.specs.declared.names.Remote.{Remote}
use Rattle.link_base.specs.declared.names.Way.{Way}
use Rattle.link_base.specs.declared.names.Way.TheVariants.{Ul, Dl}
use Rattle.bearer_map.specs.declared.rows.BearerRow.{BearerRow}
use Rattle.bearer_map.specs.declared.rows.RemoteRow.{RemoteRow}
use Rattle.bearer_map.specs.Contents.{Contents}
use Rattle.node_model.specs.Names.{NodeName, AtRemote, AtRelay, AtGnb, key_of, is_key, is_remote, is_way, source, sink}
use Rattle.node_model.specs.Opening.{new_outgoing, new_incoming, new_remote, bearers_of}
use Rattle.node_model.specs.State.{Incoming, Outgoing, Node, no_node, outgoing_at, incoming_at}
use Rattle.node_model.specs.Tables.{first_count}
use Rattle.node_model.proofs.Finding.{find_passes, find_picked, find_map, find_same}
use Rattle.node_model.proofs.Names.{remote_is, key_is}
use Rattle.chain_model.specs.Carried.{IsRowOf}
use Rattle.chain_model.specs.State.{node_at, opened}
use Rattle.book_law.specs.Past.{AreTables}
use Rattle.book_law.proofs.Opened.{new_ends}
use Rattle.item_law.specs.State.{Path, Plan, Sdu, applied_in, sink as sink_kind}
use Rattle.item_law.specs.State.{Sender as ItemSender}
use Rattle.item_chain.specs.Stands.{row_of, TablesGood, OutgoingFits, IncomingFits, EndsFit}
use Rattle.item_chain.specs.View.{view}
use Rattle.item_chain.proofs.OpenedNodes.{at_gnb, at_relay, at_remote}
use Rattle.item_chain.proofs.Unrouted.{find_among}

-- a sender of items that was given nothing
abbrev pub first_sender : ItemSender
first_sender = record { submitted = []; confirmed = λ c. false; place = 0; waits = false }

module _ (t : Contents) (good : TablesGood t) (are : AreTables t) (path : Remote → Path) (none_open : (r : Remote) → (path r).plan ≡ None) where
  -- the row of a key is found by its names
  abbrev named : Way → Key → BearerRow → Bool
  named w key row = is_key key (key_of row.remote row.drb w)

  test_is : (key : Key) (w : Way) → is_way key.way w ≡ true → (row : BearerRow) → named w key row ≡ (is_remote key.remote row.remote && (key.drb.0 == row.drb.0))
  test_is key w same row = ap (λ (b : Bool). is_remote key.remote row.remote && b) (ap (λ (b : Bool). (key.drb.0 == row.drb.0) && b) same ∙ by (key.drb.0 == row.drb.0))
    where
      by : (b : Bool) → (b && true) ≡ b
      by true = refl
      by false = refl

  found_row : (key : Key) (w : Way) (row : BearerRow) → find (named w key) t.bearers ≡ Some row → (key ≡ key_of row.remote row.drb w) × (row_of t key.remote key.drb ≡ Some row)
  found_row key w row e =
      let passes = find_passes (named w key) t.bearers row e in
      let same = (and_parts _ _ (and_parts _ _ passes).1).1 in (
        key_is key (key_of row.remote row.drb w) passes,
        sym (find_same (named w key) (λ (x : BearerRow). is_remote key.remote x.remote && (key.drb.0 == x.drb.0))
            (test_is key w same) t.bearers) ∙ e,
      )

  found_own : (r : Remote) (key : Key) (w : Way) (row : BearerRow) → find (named w key) (bearers_of t r) ≡ Some row → (find (named w key) t.bearers ≡ Some row)
      × (is_remote r row.remote ≡ true)
  found_own r key w row e = find_picked (λ (x : BearerRow). is_remote r x.remote) (named w key)
      (λ a b p q. ap (is_remote r) (sym (remote_is key.remote a.remote (and_parts _ _ p).0) ∙ remote_is key.remote b.remote (and_parts _ _ q).0)) t.bearers row e

  -- what an end has that is found
  out_found : (key : Key) (w : Way) (rows : List BearerRow) (o : Outgoing) → find (λ (x : Outgoing). is_key key x.key) (map (new_outgoing w) rows) ≡ Some o
      → (row : BearerRow) × (find (named w key) rows ≡ Some row) × (new_outgoing w row ≡ o)
  out_found key w rows o e = go (find (named w key) rows) refl
    where
      go : (x : Option BearerRow) → find (named w key) rows ≡ x → (row : BearerRow) × (find (named w key) rows ≡ Some row) × (new_outgoing w row ≡ o)
      go None is = absurd (none-some o (sym (find_map (new_outgoing w) (λ (x : Outgoing). is_key key x.key) rows ∙ ap (option_map (new_outgoing w)) is) ∙ e))
      go (Some row) is = (
        row,
        is,
        same_Some (new_outgoing w row) o (sym (find_map (new_outgoing w) (λ (x : Outgoing). is_key key x.key) rows ∙ ap (option_map (new_outgoing w)) is)
            ∙ e),
      )

  in_found : (key : Key) (w : Way) (rows : List BearerRow) (o : Incoming) → find (λ (x : Incoming). is_key key x.key) (map (new_incoming w) rows) ≡ Some o
      → (row : BearerRow) × (find (named w key) rows ≡ Some row) × (new_incoming w row ≡ o)
  in_found key w rows o e = go (find (named w key) rows) refl
    where
      go : (x : Option BearerRow) → find (named w key) rows ≡ x → (row : BearerRow) × (find (named w key) rows ≡ Some row) × (new_incoming w row ≡ o)
      go None is = absurd (none-some o (sym (find_map (new_incoming w) (λ (x : Incoming). is_key key x.key) rows ∙ ap (option_map (new_incoming w)) is) ∙ e))
      go (Some row) is = (
        row,
        is,
        same_Some (new_incoming w row) o (sym (find_map (new_incoming w) (λ (x : Incoming). is_key key x.key) rows ∙ ap (option_map (new_incoming w)) is)
            ∙ e),
      )

  abbrev sender : Key → ItemSender
  sender key = first_sender

  abbrev heard : Key → ℕ → Option Sdu
  heard key c = None

  abbrev wanted : Key → Bool
  wanted key = false

  -- a new end fits where it stands
  out_fits : (name : NodeName) (key : Key) (w : Way) (row : BearerRow) → find (named w key) t.bearers ≡ Some row → name ≡ source (key_of row.remote row.drb w)
      → OutgoingFits t sender name key (new_outgoing w row)
  out_fits name key w row e home =
      let f = found_row key w row e in
      record {
        home = home ∙ ap source (sym f.0);
        named = sym f.0;
        row = row;
        its_row = f.1;
        size = refl;
        first = ap (λ (k : Key). first_count row k.way) (sym f.0);
        few = omega (arith, good.firsts key.remote key.drb row f.1 w);
        fits = record {
          long = refl;
          sdus = λ c sdu is. absurd (none-some sdu is);
          confirmed = λ c lt. absurd (omega (arith, lt));
          place = refl;
          waits = refl;
          bodies =
              λ c lt. absurd (omega (arith, lt));
        };
      }

  in_fits : (name : NodeName) (key : Key) (w : Way) (row : BearerRow) → find (named w key) t.bearers ≡ Some row → name ≡ sink (key_of row.remote row.drb w)
      → IncomingFits t path heard wanted name key (new_incoming w row)
  in_fits name key w row e home =
      let f = found_row key w row e in
      record {
        home = home ∙ ap sink (sym f.0);
        named = sym f.0;
        row = row;
        its_row = f.1;
        size = refl;
        first = ap (λ (k : Key). first_count row k.way) (sym f.0);
        fits = record { up = λ c lt. absurd (omega (arith, lt)); stored = λ n. refl; sdus = λ n x sdu is. absurd (none-some x is); stops = refl };
        wants = λ e. absurd (false≢true e);
        ready = λ e. ap (λ (p : Option Plan). applied_in p (sink_kind key.way)) (none_open key.remote);
      }

  outs : (name : NodeName) (key : Key) (o : Outgoing) → outgoing_at (node_at (opened t) name) key ≡ Some o → OutgoingFits t sender name key o
  outs AtRelay key o e = absurd (none-some o (sym (ap (λ (n : Node). outgoing_at n key) (at_relay t)) ∙ e))
  outs AtGnb key o e =
      let x = out_found key Dl t.bearers o (sym (ap (λ (n : Node). outgoing_at n key) (at_gnb t)) ∙ e) in
      subst (OutgoingFits t sender AtGnb key) x.2 (out_fits AtGnb key Dl x.0 x.1 refl)
  outs (AtRemote r) key o e = go (find (λ (row : RemoteRow). is_remote r row.remote) t.remotes) refl (sym (ap (λ (n : Node). outgoing_at n key) (at_remote t r)) ∙ e)
    where
      go : (p : Option RemoteRow) → find (λ (row : RemoteRow). is_remote r row.remote) t.remotes ≡ p
          → outgoing_at (unwrap_or (option_map (new_remote t) p) (no_node (AtRemote r))) key ≡ Some o
          → OutgoingFits t sender (AtRemote r) key o
      go None is e = absurd (none-some o e)
      go (Some own) is e =
          let x = out_found key Ul (bearers_of t own.remote) o e in
          let y = found_own own.remote key Ul x.0 x.1 in
          let same : r ≡ x.0.remote = remote_is r own.remote (find_passes (λ (row : RemoteRow). is_remote r row.remote) t.remotes own is) ∙ remote_is own.remote x.0.remote y.1 in
          subst (OutgoingFits t sender (AtRemote r) key) x.2 (out_fits (AtRemote r) key Ul x.0 y.0 (ap (λ (q : Remote). let name : NodeName = AtRemote q in name) same))

  ins : (name : NodeName) (key : Key) (o : Incoming) → incoming_at (node_at (opened t) name) key ≡ Some o → IncomingFits t path heard wanted name key o
  ins AtRelay key o e = absurd (none-some o (sym (ap (λ (n : Node). incoming_at n key) (at_relay t)) ∙ e))
  ins AtGnb key o e =
      let x = in_found key Ul t.bearers o (sym (ap (λ (n : Node). incoming_at n key) (at_gnb t)) ∙ e) in
      subst (IncomingFits t path heard wanted AtGnb key) x.2 (in_fits AtGnb key Ul x.0 x.1 refl)
  ins (AtRemote r) key o e = go (find (λ (row : RemoteRow). is_remote r row.remote) t.remotes) refl (sym (ap (λ (n : Node). incoming_at n key) (at_remote t r)) ∙ e)
    where
      go : (p : Option RemoteRow) → find (λ (row : RemoteRow). is_remote r row.remote) t.remotes ≡ p
          → incoming_at (unwrap_or (option_map (new_remote t) p) (no_node (AtRemote r))) key ≡ Some o
          → IncomingFits t path heard wanted (AtRemote r) key o
      go None is e = absurd (none-some o e)
      go (Some own) is e =
          let x = in_found key Dl (bearers_of t own.remote) o e in
          let y = found_own own.remote key Dl x.0 x.1 in
          let same : r ≡ x.0.remote = remote_is r own.remote (find_passes (λ (row : RemoteRow). is_remote r row.remote) t.remotes own is) ∙ remote_is own.remote x.0.remote y.1 in
          subst (IncomingFits t path heard wanted (AtRemote r) key) x.2 (in_fits (AtRemote r) key Dl x.0 y.0 (ap (λ (q : Remote). let name : NodeName = AtRemote q in name) same))

  -- each key of the tables has both ends
  its_row : (key : Key) (row : BearerRow) → row_of t key.remote key.drb ≡ Some row → IsRowOf t key row
  its_row key row e =
      let passes = and_parts _ _ (find_passes (λ (x : BearerRow). is_remote key.remote x.remote && (key.drb.0 == x.drb.0)) t.bearers row e) in
      record {
        among = find_among (λ (x : BearerRow). is_remote key.remote x.remote && (key.drb.0 == x.drb.0)) t.bearers row e;
        remote =
            sym (remote_is key.remote row.remote passes.0);
        drb = sym (ap (λ (n : ℕ). let d : Drb = record { 0 = n } in d) (eqb-true key.drb.0 row.drb.0 passes.1));
      }

  pub ends_fit : EndsFit t path sender heard wanted (view (opened t)).outgoing (view (opened t)).incoming
  ends_fit = record {
    outgoings = outs;
    incomings = ins;
    sends = λ key row e. let x = (new_ends t are key row (its_row key row e)).ends.sender in
        (x.row, ap (λ (o : Option Node). outgoing_at (unwrap_or o (no_node (source key))) key) x.its_node ∙ x.its_row);
    receives = λ key row e. let x = (new_ends t are key row (its_row key row e)).ends.receiver in
        (x.row, ap (λ (o : Option Node). incoming_at (unwrap_or o (no_node (sink key))) key) x.its_node ∙ x.its_row);
  }
