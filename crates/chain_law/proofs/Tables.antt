-- The rows of tables have names apart, and so have the ports of each node.
use Rattle.std.proofs.Common.{◌≡◌, ◌⊎◌, inl, inr, ℕ, Bool, true, false, cond, eqb, not, nat_le, ◌&&◌, ◌||◌, Option, Some, None, Result, Ok, Err, is_some, refl, sym, ◌∙◌, ap, subst, List, map}
use Rattle.std.specs.List.{AllByRecursion}
use Rattle.std.proofs.lemmas.Bool.{cases_Bool, eqb-true, eq-eqb, or_parts, true≢false}
use Rattle.std.proofs.lemmas.Option.{none-some, same_Some}
use Rattle.link_base.specs.declared.names.Goal.{Goal}
use Rattle.link_base.specs.declared.names.Goal.TheVariants.{Direct, Relay}
use Rattle.link_base.specs.declared.names.Key.{Key}
use Rattle.link_base.specs.declared.names.LocalId.{LocalId}
use Rattle.link_base.specs.declared.names.Remote.{Remote}
use Rattle.link_base.specs.declared.names.Way.{Way}
use Rattle.link_base.specs.declared.names.Way.TheVariants.{Ul, Dl}
use Rattle.bearer_map.specs.declared.rows.BearerRow.{BearerRow}
use Rattle.bearer_map.specs.declared.rows.RemoteRow.{RemoteRow}
use Rattle.bearer_map.specs.declared.rows.TableFault.{TableFault}
use Rattle.bearer_map.specs.Contents.{Contents, nothing, pair, name_rank, key_rank, remote_rank, bearer_rank, uu_rank, pc5_rank, map_rank, bearers_of}
use Rattle.bearer_map.specs.Lines.{is_remote, is_drb, is_chan, is_size, sn_size_of, named_key, goes_by, is_taken, goes_to, begins_at, begins_direct, with_first}
use Rattle.bearer_map.specs.Settings.{is_setting, choice_of}
use Rattle.bearer_map.specs.Order.{has_row, in_order, IsAscending}
use Rattle.script_text.specs.declared.line.Line.{Line}
use Rattle.script_text.specs.declared.line.Line.TheVariants.{Set, Remote as RemoteLine, Bearer, Uu, Pc5, Map, Start, Path, Go}
use Rattle.script_text.specs.declared.stage.ScriptStage.{ScriptStage}
use Rattle.script_text.specs.Stages.{sn_bits, table_line, tables_after, kept, entered, after}
use Rattle.chain_model.specs.Runs.{contents}
use Rattle.node_model.proofs.Finding.{each_map}
use Rattle.chain_law.proofs.Members.{IsIn, in_made, in_more, none_passes}
use Rattle.chain_law.proofs.Pairs.{order_keeps, map_keeps, each_then, each_in_order, row_stays, row_mapped}

-- the remote of a bearer's row has a row
abbrev pub IsDeclared : List RemoteRow → BearerRow → Type 0
IsDeclared remotes row = has_row remote_rank remotes row.remote.0 ≡ true

-- no two remotes begin on the relay with one local identity
abbrev pub PathsApart : List RemoteRow → Type 0
PathsApart rows = (a b : RemoteRow) (id : LocalId) → IsIn rows a → IsIn rows b → a.goal ≡ Relay id → b.goal ≡ Relay id → a.remote ≡ b.remote

-- no two rows of a table have one name, each bearer's remote is declared, and the paths at the start share no identity
pub record TablesApart (t : Contents) : Type 0 where
  pub remotes : IsAscending remote_rank t.remotes
  pub bearers : IsAscending bearer_rank t.bearers
  pub pc5s : IsAscending pc5_rank t.pc5s
  pub uus : IsAscending uu_rank t.uus
  pub maps : IsAscending map_rank t.maps
  pub declared : AllByRecursion (IsDeclared t.remotes) t.bearers
  pub paths : PathsApart t.remotes

pub nothing_apart : TablesApart nothing
nothing_apart = record { remotes = tt; bearers = tt; pc5s = tt; uus = tt; maps = tt; declared = tt; paths = λ a b id p q is its. absurd p }

-- what is behind a refusal that doesn't hold
abbrev value : {X F : Type 0} → Result X F → Option X
value (Ok x) = Some x
value (Err fault) = None

module _ {X F : Type 0} where
  same_ok : (x y : X) → ◌≡◌ {A = Result X F} (Ok x) (Ok y) → x ≡ y
  same_ok x y e = same_Some x y (ap value e)

  not_ok : (fault : F) (x : X) → ◌≡◌ {A = Result X F} (Err fault) (Ok x) → ⊥
  not_ok fault x e = none-some x (ap value e)

  past : (b : Bool) (fault : F) (rest : Result X F) (x : X) → cond b (Err fault) rest ≡ Ok x → (b ≡ false) × (rest ≡ Ok x)
  past true fault rest x e = absurd (not_ok fault x e)
  past false fault rest x e = (refl, e)

-- the rows of bearers and remotes keep their names where a first COUNT or a path is set
first_rank : (key : Key) (first : ℕ) (row : BearerRow) → bearer_rank (begins_at key first row) ≡ bearer_rank row
first_rank key first row = by (Rattle.std.specs.Prelude.nat_eq (bearer_rank row) (pair key.remote.0 key.drb.0))
  where
    of_way : (way : Way) → bearer_rank (with_first way first row) ≡ bearer_rank row
    of_way Ul = refl
    of_way Dl = refl

    by : (b : Bool) → bearer_rank (cond b (with_first key.way first row) row) ≡ bearer_rank row
    by true = of_way key.way
    by false = refl

first_declared : (key : Key) (first : ℕ) (remotes : List RemoteRow) (row : BearerRow) → IsDeclared remotes row → IsDeclared remotes (begins_at key first row)
first_declared key first remotes row is = by (Rattle.std.specs.Prelude.nat_eq (bearer_rank row) (pair key.remote.0 key.drb.0))
  where
    of_way : (way : Way) → IsDeclared remotes (with_first way first row)
    of_way Ul = is
    of_way Dl = is

    by : (b : Bool) → IsDeclared remotes (cond b (with_first key.way first row) row)
    by true = of_way key.way
    by false = is

not_not : (b : Bool) → not b ≡ false → b ≡ true
not_not true e = refl
not_not false e = absurd (true≢false e)

path_rank : (remote : Remote) (goal : Goal) (row : RemoteRow) → remote_rank (goes_to remote goal row) ≡ remote_rank row
path_rank remote goal row = by (Rattle.std.specs.Prelude.nat_eq row.remote.0 remote.0)
  where
    by : (b : Bool) → remote_rank (cond b (record row { goal = goal }) row) ≡ remote_rank row
    by true = refl
    by false = refl

-- one more remote begins on its direct path
paths_with : (r : Remote) (rows : List RemoteRow) → PathsApart rows → PathsApart (in_order remote_rank (record { remote = r; goal = Direct }) rows)
paths_with r rows apart a b id p q is its = elim (in_more remote_rank (record { remote = r; goal = Direct }) rows a p) [
  | inl new ↦ absurd (direct_only new is)
  | inr old ↦ elim (in_more remote_rank (record { remote = r; goal = Direct }) rows b q) [
    | inl new ↦ absurd (direct_only new its)
    | inr other ↦ apart a b id old other is its
  ]
]
  where
    direct_only : {x : RemoteRow} → record { remote = r; goal = Direct } ≡ x → x.goal ≡ Relay id → ⊥
    direct_only new is = true≢false (ap begins_direct (ap (λ (row : RemoteRow). row.goal) new ∙ is))

-- a remote is to begin on a path whose identity is not taken
paths_switched : (r : Remote) (goal : Goal) (rows : List RemoteRow) → is_taken goal rows ≡ false → PathsApart rows → PathsApart (map (goes_to r goal) rows)
paths_switched r goal rows free apart a b id p q is its =
    let x = in_made (goes_to r goal) rows a p in
    let y = in_made (goes_to r goal) rows b q in
    ap (λ (row : RemoteRow). row.remote) (sym x.2) ∙ same_remote x.0 ∙ by x.0 y.0 x.1 y.1 (ap (λ (row : RemoteRow). row.goal) x.2 ∙ is)
    (ap (λ (row : RemoteRow). row.goal) y.2 ∙ its) (cases_Bool (eqb x.0.remote.0 r.0)) (cases_Bool (eqb y.0.remote.0 r.0)) ∙ sym (same_remote y.0)
    ∙ ap (λ (row : RemoteRow). row.remote) y.2
  where
    same_remote : (x : RemoteRow) → (goes_to r goal x).remote ≡ x.remote
    same_remote x = either (eqb x.remote.0 r.0)
      where
        either : (b : Bool) → (cond b (record x { goal = goal }) x).remote ≡ x.remote
        either true = refl
        either false = refl

    -- its own path, or that which is set
    set_goal : (x : RemoteRow) → eqb x.remote.0 r.0 ≡ true → (goes_to r goal x).goal ≡ Relay id → goal ≡ Relay id
    set_goal x same is = sym (ap (λ (b : Bool). (cond b (record x { goal = goal }) x).goal) same) ∙ is

    own_goal : (x : RemoteRow) → eqb x.remote.0 r.0 ≡ false → (goes_to r goal x).goal ≡ Relay id → x.goal ≡ Relay id
    own_goal x other is = sym (ap (λ (b : Bool). (cond b (record x { goal = goal }) x).goal) other) ∙ is

    not_both : (x : RemoteRow) → IsIn rows x → goal ≡ Relay id → x.goal ≡ Relay id → ⊥
    not_both x i set own = true≢false (sym (ap (goes_by id.0) own ∙ eq-eqb id.0 id.0 refl)
        ∙ none_passes (λ (row : RemoteRow). goes_by id.0 row.goal) rows x (ap (λ (g : Goal). is_taken g rows) (sym set) ∙ free) i)

    by : (x y : RemoteRow) → IsIn rows x → IsIn rows y → (goes_to r goal x).goal ≡ Relay id → (goes_to r goal y).goal ≡ Relay id
        → (eqb x.remote.0 r.0 ≡ true) ⊎ (eqb x.remote.0 r.0 ≡ false) → (eqb y.remote.0 r.0 ≡ true) ⊎ (eqb y.remote.0 r.0 ≡ false) → x.remote ≡ y.remote
    by x y i j is its (inl same) (inl other) = ap (λ (n : ℕ). let q : Remote = record { 0 = n } in q) (eqb-true x.remote.0 r.0 same ∙ sym (eqb-true y.remote.0 r.0 other))
    by x y i j is its (inl same) (inr other) = absurd (not_both y j (set_goal x same is) (own_goal y other its))
    by x y i j is its (inr other) (inl same) = absurd (not_both x i (set_goal y same its) (own_goal x other is))
    by x y i j is its (inr same) (inr other) = apart x y id i j (own_goal x same is) (own_goal y other its)

-- each line leaves tables whose rows have names apart
line_apart : (t : Contents) (line : Line) (new : Contents) → TablesApart t → table_line t line ≡ Ok new → TablesApart new
line_apart t (Set name setting) new a e =
    let p = past (not (is_setting name setting)) _ _ new e in
    let q = past (is_some (choice_of name t.choices)) _ _ new p.1 in
    subst TablesApart (same_ok _ new q.1) (record { remotes = a.remotes; bearers = a.bearers; pc5s = a.pc5s; uus = a.uus; maps = a.maps; declared = a.declared; paths = a.paths })
line_apart t (RemoteLine r) new a e =
    let p = past _ _ _ new e in let q = past _ _ _ new p.1 in let s = past _ _ _ new q.1 in
    subst TablesApart (same_ok _ new s.1)
    (record {
      remotes = order_keeps remote_rank
          (record { remote = r; goal = Direct }) t.remotes q.0 a.remotes;
      bearers = a.bearers;
      pc5s = a.pc5s;
      uus = a.uus;
      maps = a.maps;
      declared = each_then (IsDeclared t.remotes)
          (IsDeclared (in_order remote_rank (record { remote = r; goal = Direct }) t.remotes))
          (λ row. row_stays remote_rank (record { remote = r; goal = Direct }) t.remotes row.remote.0) t.bearers a.declared;
      paths = paths_with r t.remotes a.paths;
    })
line_apart t (Bearer r d pdcp direct) new a e =
    let p = past (not (is_remote r.0 && is_drb d.0 && is_size (sn_bits pdcp) && is_size (sn_bits direct))) _ _ new e in
    let q = past (has_row bearer_rank t.bearers (pair r.0 d.0)) _ _ new p.1 in
    let s = past (not (has_row remote_rank t.remotes r.0)) _ _ new q.1 in
    let u = past (nat_le 8 (bearers_of r.0 t.bearers)) _ _ new s.1 in
    subst TablesApart (same_ok _ new u.1)
    (record {
      remotes = a.remotes;
      bearers = order_keeps bearer_rank
          (record {
            remote = r;
            drb = d;
            pdcp = sn_size_of (sn_bits pdcp);
            direct = sn_size_of
                (sn_bits direct);
            first_ul = 0;
            first_dl = 0;
          }) t.bearers q.0 a.bearers;
      pc5s = a.pc5s;
      uus = a.uus;
      maps = a.maps;
      declared = each_in_order bearer_rank (IsDeclared t.remotes)
          (record { remote = r; drb = d; pdcp = sn_size_of (sn_bits pdcp); direct = sn_size_of (sn_bits direct); first_ul = 0; first_dl = 0 })
          (not_not (has_row remote_rank t.remotes r.0) s.0) t.bearers a.declared;
      paths = a.paths;
    })
line_apart t (Uu c size) new a e =
    let p = past _ _ _ new e in let q = past _ _ _ new p.1 in
    subst TablesApart (same_ok _ new q.1)
    (record { remotes = a.remotes; bearers = a.bearers; pc5s = a.pc5s; uus = order_keeps uu_rank _ t.uus q.0 a.uus; maps = a.maps; declared = a.declared; paths = a.paths })
line_apart t (Pc5 r c size) new a e =
    let p = past _ _ _ new e in let q = past _ _ _ new p.1 in let s = past _ _ _ new q.1 in
    subst TablesApart (same_ok _ new s.1)
    (record { remotes = a.remotes; bearers = a.bearers; pc5s = order_keeps pc5_rank _ t.pc5s q.0 a.pc5s; uus = a.uus; maps = a.maps; declared = a.declared; paths = a.paths })
line_apart t (Map r d pc5 uu) new a e =
    let p = past (not (is_remote r.0 && is_drb d.0 && is_chan pc5.0 && is_chan uu.0)) _ _ new e in
    let q = past (has_row map_rank t.maps (pair r.0 d.0)) _ _ new p.1 in
    let s = past (not (has_row remote_rank t.remotes r.0 && has_row bearer_rank t.bearers (pair r.0 d.0) && has_row pc5_rank t.pc5s
    (pair r.0 pc5.0) && has_row uu_rank t.uus uu.0)) _ _ new q.1 in
    subst TablesApart (same_ok _ new s.1)
    (record { remotes = a.remotes; bearers = a.bearers; pc5s = a.pc5s; uus = a.uus; maps = order_keeps map_rank _ t.maps q.0 a.maps; declared = a.declared; paths = a.paths })
line_apart t (Start key first) new a e =
    let p = past (not (is_remote key.remote.0 && is_drb key.drb.0 && nat_le first 4294967294)) _ _ new e in
    let q = past (has_row key_rank t.starts (key_rank (named_key key.remote.0 key.drb.0 key.way))) _ _ new p.1 in
    let s = past (not (has_row remote_rank t.remotes key.remote.0 && has_row bearer_rank t.bearers (pair key.remote.0 key.drb.0))) _ _ new q.1 in
    subst TablesApart (same_ok _ new s.1)
    (record {
      remotes = a.remotes;
      bearers = map_keeps bearer_rank (begins_at (named_key key.remote.0 key.drb.0 key.way) first)
          (first_rank (named_key key.remote.0 key.drb.0 key.way) first) t.bearers a.bearers;
      pc5s = a.pc5s;
      uus = a.uus;
      maps = a.maps;
      paths = a.paths;
      declared = each_map (IsDeclared t.remotes)
          (IsDeclared t.remotes) (begins_at (named_key key.remote.0 key.drb.0 key.way) first)
          (λ row. first_declared (named_key key.remote.0 key.drb.0 key.way) first t.remotes row) t.bearers a.declared;
    })
line_apart t (Path r goal) new a e =
    let p = past (not (is_remote r.0)) _ _ new e in
    let q = past (has_row name_rank t.paths r.0 || is_taken goal t.remotes) _ _ new p.1 in
    let s = past (not (has_row remote_rank t.remotes r.0)) _ _ new q.1 in
    subst TablesApart (same_ok _ new s.1)
    (record {
      remotes = map_keeps remote_rank (goes_to r goal) (path_rank r goal) t.remotes a.remotes;
      bearers = a.bearers;
      pc5s = a.pc5s;
      uus = a.uus;
      maps = a.maps;
      paths = paths_switched r goal t.remotes (or_parts (has_row name_rank t.paths r.0) (is_taken goal t.remotes) q.0).1 a.paths;
      declared = each_then
          (IsDeclared t.remotes) (IsDeclared (map (goes_to r goal) t.remotes))
          (λ row is. row_mapped remote_rank (goes_to r goal) (path_rank r goal) t.remotes row.remote.0 ∙ is) t.bearers a.declared;
    })
line_apart t Go new a e = by (Rattle.bearer_map.specs.Lines.is_mapped t.remotes t.bearers t.maps) e
  where
    by : (b : Bool) → cond b (Ok t) (Err Rattle.bearer_map.specs.declared.rows.TableFault.TheVariants.NoMap) ≡ Ok new → TablesApart new
    by true e = subst TablesApart (same_ok t new e) a
    by false e = absurd (not_ok _ new e)
line_apart t line new a e = subst TablesApart (same_ok t new e) a

-- so do the lines of a script
pub stage_apart : (stage : ScriptStage) (line : Line) (new : ScriptStage) → TablesApart (contents stage) → after stage line ≡ Ok new → TablesApart (contents new)
stage_apart stage line new a e = by stage.tables refl
  where
    -- what a stage is made of
    stands : (part : _) (tables : Result (Option Contents) TableFault) → entered part tables ≡ Ok new → (o : Option Contents) × (tables ≡ Ok o) × (new.tables ≡ o)
    stands part (Ok o) is = (o, refl, ap (λ (s : ScriptStage). s.tables) (sym (same_ok _ new is)))
    stands part (Err fault) is = absurd (not_ok _ new is)

    line_gives : (t : Contents) (answer : Result Contents TableFault) → table_line t line ≡ answer → (o : Option Contents) → TablesApart t → kept answer ≡ Ok o
        → TablesApart (Rattle.std.specs.Option.unwrap_or o nothing)
    line_gives t (Ok more) is o apart k = subst (λ (o : Option Contents). TablesApart (Rattle.std.specs.Option.unwrap_or o nothing)) (same_ok (Some more) o k)
        (line_apart t line more apart is)
    line_gives t (Err fault) is o apart k = absurd (not_ok _ o k)

    by : (tables : Option Contents) → stage.tables ≡ tables → TablesApart (contents new)
    by None is =
        let s = stands _ _ (ap (λ (o : Option Contents). entered (Rattle.script_text.specs.Stages.part_after stage.part line) (tables_after o line)) (sym is) ∙ e) in
        subst (λ (o : Option Contents). TablesApart (Rattle.std.specs.Option.unwrap_or o nothing)) (same_ok None s.0 s.1 ∙ sym s.2) nothing_apart
    by (Some t) is =
        let s = stands _ _ (ap (λ (o : Option Contents). entered (Rattle.script_text.specs.Stages.part_after stage.part line) (tables_after o line)) (sym is) ∙ e) in
        subst (λ (o : Option Contents). TablesApart (Rattle.std.specs.Option.unwrap_or o nothing)) (sym s.2)
        (line_gives t (table_line t line) refl s.0 (subst (λ (o : Option Contents). TablesApart (Rattle.std.specs.Option.unwrap_or o nothing)) is a) s.1)

-- the part of a stage behind a line
pub stage_part : (stage : ScriptStage) (line : Line) (new : ScriptStage) → after stage line ≡ Ok new → new.part ≡ Rattle.script_text.specs.Stages.part_after stage.part line
stage_part stage line new e = by (tables_after stage.tables line) e
  where
    by : (tables : Result (Option Contents) TableFault) → entered (Rattle.script_text.specs.Stages.part_after stage.part line) tables ≡ Ok new
        → new.part ≡ Rattle.script_text.specs.Stages.part_after stage.part line
    by (Ok o) is = ap (λ (s : ScriptStage). s.part) (sym (same_ok _ new is))
    by (Err fault) is = absurd (not_ok _ new is)
