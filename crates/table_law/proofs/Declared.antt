-- Rows that passed the tests of their lines are declared as they should be.
use Rattle.std.proofs.Common.{◌≡◌, inl, inr, ℕ, ◌<◌, ◌==◌, true, ◌&&◌, Some, refl, sym, ◌∙◌, ap, arith}
use Rattle.std.specs.List.{list_any}
use Rattle.std.proofs.lemmas.Bool.{and_parts, eqb-true, eq-eqb}
use Rattle.std.proofs.lemmas.List.Elements.{All-from_recursion}
use Rattle.link_base.specs.declared.names.Goal.{Goal}
use Rattle.link_base.specs.declared.names.Goal.TheVariants.{Direct, Relay}
use Rattle.link_base.specs.declared.names.Drb.{Drb}
use Rattle.link_base.specs.declared.names.LocalId.{LocalId}
use Rattle.link_base.specs.declared.names.Remote.{Remote}
use Rattle.bearer_map.specs.declared.ids.Attachment.{Attachment}
use Rattle.bearer_map.specs.declared.rows.BearerRow.{BearerRow}
use Rattle.bearer_map.specs.declared.rows.MapRow.{MapRow}
use Rattle.bearer_map.specs.declared.rows.Pc5Row.{Pc5Row}
use Rattle.bearer_map.specs.declared.rows.RemoteRow.{RemoteRow}
use Rattle.bearer_map.specs.declared.rows.UuRow.{UuRow}
use Rattle.bearer_map.specs.Contents.{Contents, bearer_rank, map_rank, pair, pc5_rank, remote_rank, uu_rank}
use Rattle.bearer_map.specs.Ids.{AreIds, IsAttached, attachment}
use Rattle.bearer_map.specs.Order.{has_row}
use Rattle.node_bearers.specs.Calls.{HasCounts}
use Rattle.node_model.specs.Names.{is_remote}
use Rattle.node_model.specs.Opening.{all_attached, attachments}
use Rattle.node_model.specs.Tables.{has_bearer, has_remote, map_row}
use Rattle.node_model.proofs.Names.{remote_is}
use Rattle.chain_model.specs.Told.{first_goal}
use Rattle.relay_core.specs.Opening.{HasChannels}
use Rattle.chain_law.proofs.Members.{IsIn, contained, in_many, passes_any}
use Rattle.chain_law.proofs.Pairs.{each_then}
use Rattle.chain_law.proofs.Tables.{TablesApart}
use Rattle.table_law.specs.Declared.{AreDeclared, HasName, IsBearer, IsMap, IsPc5, IsUu}
use Rattle.table_law.proofs.Lines.{AreTested, IsBearerRow, IsMapRow, IsNamed, IsPc5Row, IsUuRow}
use Rattle.table_law.proofs.Rows.{all_of, each_in, one_row, only_found, row_of_rank, row_on, same_names, same_pair, within_range}

-- the local identity of a path
abbrev id_on : LocalId → Goal → LocalId
id_on id Direct = id
id_on id (Relay own) = own

-- the attachment of a path
of_path : (q : Remote) (goal : Goal) (r : Remote) (id : ℕ) → IsIn (attachments q goal) (attachment r (record { 0 = id })) → (q ≡ r) × (goal ≡ Relay (record { 0 = id }))
of_path q Direct r id i = absurd i
of_path q (Relay own) r id (inl e) = (ap (λ (a : Attachment). a.remote) e, ap (λ (a : Attachment). Relay a.id) e)
of_path q (Relay own) r id (inr i) = absurd i

module _ (t : Contents) (apart : TablesApart t) where
  -- what is attached at the start is the path of a row
  of_row : (r : Remote) (id : ℕ) → IsAttached (all_attached t) r id → (row : RemoteRow) × IsIn t.remotes row × (row.remote ≡ r) × (row.goal ≡ Relay (record { 0 = id }))
  of_row r id has =
      let m = in_many (λ (row : RemoteRow). attachments row.remote row.goal) t.remotes (attachment r (record { 0 = id })) (contained (all_attached t) _ has) in
      let its = of_path m.0.remote m.0.goal r id m.2 in
      (m.0, m.1, its.0, its.1)

  are_ids : AreIds (all_attached t)
  are_ids = record {
    one_id = λ r id other a b.
        let first = of_row r id a in
        let second = of_row r other b in
        let same = one_row remote_rank t.remotes first.0 second.0 apart.remotes first.1 second.1 (ap (λ (q : Remote). q.0) (first.2 ∙ sym second.2)) in
        let goals : Relay (record { 0 = id }) ≡ Relay (record { 0 = other }) = sym first.3 ∙ ap (λ (row : RemoteRow). row.goal) same ∙ second.3 in
        ap (λ (g : Goal). let i : LocalId = id_on (record { 0 = id }) g in i.0) goals;
    one_remote = λ r q id a b.
        let first = of_row r id a in
        let second = of_row q id b in
        sym first.2 ∙ apart.paths first.0 second.0 (record { 0 = id }) first.1 second.1 first.3 second.3 ∙ second.2;
  }

  are_apart : (r q : Remote) (id : LocalId) → first_goal t r ≡ Relay id → first_goal t q ≡ Relay id → r ≡ q
  are_apart r q id a b =
      let first = row_on t r id a in
      let second = row_on t q id b in
      sym first.2 ∙ apart.paths first.0 second.0 id first.1 second.1 first.3 second.3 ∙ second.2

  module _ (are : AreTested t) where
    -- a remote, a bearer and channels of these names are there
    remote_there : (r : Remote) → has_row remote_rank t.remotes r.0 ≡ true → has_remote t r ≡ true
    remote_there r has =
        let row = row_of_rank remote_rank t.remotes r.0 has in
        passes_any (λ (x : RemoteRow). is_remote r x.remote) t.remotes row.0 row.1 (eq-eqb r.0 row.0.remote.0 (sym row.2))

    bearer_there : (r : Remote) (d : Drb) → d.0 < 256 → has_row bearer_rank t.bearers (pair r.0 d.0) ≡ true → has_bearer t r d ≡ true
    bearer_there r d low has =
        let row = row_of_rank bearer_rank t.bearers (pair r.0 d.0) has in
        let its = within_range 1 32 row.0.drb.0 (each_in (IsBearerRow t) t.bearers row.0 are.bearers row.1).drb in
        let same = same_pair r.0 d.0 row.0.remote.0 row.0.drb.0 low (omega (arith, its.1)) (sym row.2) in
        passes_any (λ (x : BearerRow). is_remote r x.remote && (d.0 == x.drb.0)) t.bearers row.0 row.1 (same_names r.0 d.0 row.0.remote.0 row.0.drb.0 same.0 same.1)

    pc5_there : (row : MapRow) → row.pc5.0 < 256 → has_row pc5_rank t.pc5s (pair row.remote.0 row.pc5.0) ≡ true
        → list_any (λ (p : Pc5Row). is_remote row.remote p.remote && (row.pc5.0 == p.chan.0)) t.pc5s ≡ true
    pc5_there row low has =
        let p = row_of_rank pc5_rank t.pc5s (pair row.remote.0 row.pc5.0) has in
        let its = within_range 1 8 p.0.chan.0 (each_in (IsPc5Row t) t.pc5s p.0 are.pc5s p.1).chan in
        let same = same_pair row.remote.0 row.pc5.0 p.0.remote.0 p.0.chan.0 low (omega (arith, its.1)) (sym p.2) in
        passes_any (λ (p : Pc5Row). is_remote row.remote p.remote && (row.pc5.0 == p.chan.0)) t.pc5s p.0 p.1
        (same_names row.remote.0 row.pc5.0 p.0.remote.0 p.0.chan.0 same.0 same.1)

    uu_there : (row : MapRow) → has_row uu_rank t.uus row.uu.0 ≡ true → list_any (λ (u : UuRow). row.uu.0 == u.chan.0) t.uus ≡ true
    uu_there row has =
        let u = row_of_rank uu_rank t.uus row.uu.0 has in
        passes_any (λ (u : UuRow). row.uu.0 == u.chan.0) t.uus u.0 u.1 (eq-eqb row.uu.0 u.0.chan.0 (sym u.2))

    -- a map row is the only one of its bearer
    only_row : (row : MapRow) → IsIn t.maps row → map_row t row.remote row.drb ≡ Some row
    only_row row i = only_found map_rank (λ (x : MapRow). is_remote row.remote x.remote && (row.drb.0 == x.drb.0)) t.maps row apart.maps i
        (same_names row.remote.0 row.drb.0 row.remote.0 row.drb.0 refl refl)
        (λ y passes.
        let parts = and_parts (is_remote row.remote y.remote) (row.drb.0 == y.drb.0) passes in
        let remote = ap (λ (q : Remote). q.0) (remote_is row.remote y.remote parts.0) in
        let drb = eqb-true row.drb.0 y.drb.0 parts.1 in
        omega (arith, remote, drb))

    is_bearer : (row : BearerRow) → IsBearerRow t row → IsBearer t row
    is_bearer row is = record { remote = remote_there row.remote is.remote; drb = within_range 1 32 row.drb.0 is.drb; counts = is.counts }

    is_pc5 : (row : Pc5Row) → IsPc5Row t row → IsPc5 t row
    is_pc5 row is = record { remote = remote_there row.remote is.remote; chan = within_range 1 8 row.chan.0 is.chan }

    is_map : (row : MapRow) → IsIn t.maps row → IsMap t row
    is_map row i =
        let is = each_in (IsMapRow t) t.maps row are.maps i in
        let drb = within_range 1 32 row.drb.0 is.drb in
        let pc5 = within_range 1 8 row.pc5.0 is.pc5 in
        record {
          only = only_row row i;
          bearer = bearer_there row.remote row.drb (omega (arith, drb.1)) is.its_bearer;
          channels = record { remote = remote_there row.remote is.its_remote; pc5 = pc5_there row (omega (arith, pc5.1)) is.its_pc5; uu = uu_there row is.its_uu };
          drb = drb;
          pc5 = pc5;
          uu = within_range 1 8 row.uu.0 is.uu;
        }

    pub are_declared : AreDeclared t
    are_declared = record {
      remotes_ascend = apart.remotes;
      bearers_ascend = apart.bearers;
      uus_ascend = apart.uus;
      pc5s_ascend = apart.pc5s;
      maps_ascend = apart.maps;
      remotes = each_then IsNamed HasName (λ row is. within_range 1 65535 row.remote.0 is) t.remotes are.remotes;
      bearers = each_then (IsBearerRow t) (IsBearer t) is_bearer t.bearers are.bearers;
      uus = each_then IsUuRow IsUu (λ row is. within_range 1 8 row.chan.0 is) t.uus are.uus;
      pc5s = each_then (IsPc5Row t) (IsPc5 t) is_pc5 t.pc5s are.pc5s;
      maps = all_of (IsMap t) t.maps is_map;
      counts = All-from_recursion HasCounts t.bearers (each_then (IsBearerRow t) HasCounts (λ row is. is.counts) t.bearers are.bearers);
      channels = all_of (HasChannels t) t.maps (λ row i. (is_map row i).channels);
      ids = are_ids;
      paths = are_apart;
    }
