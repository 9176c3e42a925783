-- Ends at which nothing has happened.
use Rattle.std.proofs.Common.{◌≡◌, Bool, true, List, [], ◌∷◌, map, Option, Some, None, is_some, inl, inr, refl, sym, ◌∙◌, ap, subst}
use Rattle.std.specs.Prelude.{filter, ◌||◌, ◌&&◌, ◌==◌}
use Rattle.std.specs.List.{list_any, flat_map, AllByRecursion}
use Rattle.std.proofs.lemmas.Bool.{cases_Bool, cond-true, cond-false, or_left, or_right, false≢true}
use Rattle.link_base.specs.declared.names.Drb.{Drb}
use Rattle.link_base.specs.declared.names.Goal.{Goal}
use Rattle.link_base.specs.declared.names.Goal.TheVariants.{Direct as ToDirect, Relay as ToRelay}
use Rattle.link_base.specs.declared.names.Key.{Key}
use Rattle.link_base.specs.declared.names.LocalId.{LocalId}
use Rattle.link_base.specs.declared.names.Remote.{Remote}
use Rattle.link_base.specs.declared.names.Way.{Way}
use Rattle.link_base.specs.declared.names.Way.TheVariants.{Ul, Dl}
use Rattle.bearer_map.specs.declared.rows.RemoteRow.{RemoteRow}
use Rattle.bearer_map.specs.declared.rows.BearerRow.{BearerRow}
use Rattle.bearer_map.specs.declared.rows.MapRow.{MapRow}
use Rattle.bearer_map.specs.declared.rows.Pc5Row.{Pc5Row}
use Rattle.bearer_map.specs.Contents.{Contents}
use Rattle.node_model.specs.Names.{AtRemote, AtGnb, is_key, is_remote, key_of}
use Rattle.node_model.specs.Tables.{settings}
use Rattle.node_model.specs.Feeding.{in_key}
use Rattle.node_model.specs.Opening.{direct_side, pc5_side, uu_side, bearers_of, pc5s_of, new_incoming, attachments, all_attached, new_remote, new_gnb}
use Rattle.node_model.proofs.Finding.{each_append, each_flat, each_made, each_map}
use Rattle.node_model.proofs.Names.{key_refl, remote_is, remote_refl, way_refl}
use Rattle.node_bearers.proofs.Found.{all_map, both_true}
use Rattle.node_end.specs.Opening.{HaveRoutes, IsRoute}
use Rattle.node_end.specs.Ports.{HasSide, IsEnd, IsReceived, is_among}

-- the keys that bearers have in one way
abbrev keys_in : Way → List BearerRow → List Key
keys_in way rows = map in_key (map (new_incoming way) rows)

-- each bearer's key is among those of all
listed_more : (way : Way) (key : Key) (keys : List Key) (rows : List BearerRow) → AllByRecursion (λ (r : BearerRow). is_among keys (key_of r.remote r.drb way) ≡ true) rows
    → AllByRecursion (λ (r : BearerRow). is_among (key ∷ keys) (key_of r.remote r.drb way) ≡ true) rows
listed_more way key keys rows all =
    all_map {P = λ (r : BearerRow). is_among keys (key_of r.remote r.drb way) ≡ true} {Q = λ (r : BearerRow). is_among (key ∷ keys) (key_of r.remote r.drb way) ≡ true}
    (λ r is. or_right (is_key (key_of r.remote r.drb way) key) (is_among keys (key_of r.remote r.drb way)) is) rows all

listed : (way : Way) (rows : List BearerRow) → AllByRecursion (λ (r : BearerRow). is_among (keys_in way rows) (key_of r.remote r.drb way) ≡ true) rows
listed way [] = tt
listed way (row ∷ rows) = (
  or_left (is_key (key_of row.remote row.drb way) (key_of row.remote row.drb way)) (is_among (keys_in way rows) (key_of row.remote row.drb way)) (key_refl (key_of row.remote row.drb way)),
  listed_more way (key_of row.remote row.drb way) (keys_in way rows) rows (listed way rows),
)

-- a bearer of a remote that is declared is among those of the remote
test_key : (way : Way) (remote : Remote) (drb : Drb) (b : BearerRow) → (is_remote remote b.remote && (drb.0 == b.drb.0)) ≡ true → is_key (key_of remote drb way) (key_of b.remote b.drb way) ≡ true
test_key way remote drb b is =
    let both = both_true (is_remote remote b.remote) (drb.0 == b.drb.0) is in
    rw (both.0, both.1, way_refl way) refl

module _ (way : Way) (remote : Remote) (drb : Drb) (p : BearerRow → Bool) (takes : (b : BearerRow) → is_remote remote b.remote ≡ true → p b ≡ true) where
  bearer_among : (rows : List BearerRow) → list_any (λ (b : BearerRow). is_remote remote b.remote && (drb.0 == b.drb.0)) rows ≡ true → is_among (keys_in way (filter p rows)) (key_of remote drb way) ≡ true
  bearer_among [] any = absurd cc
  bearer_among (b ∷ rows) any = elim (cases_Bool (is_remote remote b.remote && (drb.0 == b.drb.0))) [
    | inl here ↦
        let taken = takes b (both_true (is_remote remote b.remote) (drb.0 == b.drb.0) here).0 in
        subst (λ (bs : List BearerRow). is_among (keys_in way bs) (key_of remote drb way) ≡ true) (sym (cond-true (p b) (b ∷ filter p rows) (filter p rows) taken))
        (or_left (is_key (key_of remote drb way) (key_of b.remote b.drb way)) (is_among (keys_in way (filter p rows)) (key_of remote drb way)) (test_key way remote drb b here))
    | inr other ↦
        let later = bearer_among rows (ap (λ x. x || list_any (λ (r : BearerRow). is_remote remote r.remote && (drb.0 == r.drb.0)) rows) (sym other) ∙ any) in
        elim (cases_Bool (p b)) [
          | inl taken ↦
              subst (λ (bs : List BearerRow). is_among (keys_in way bs) (key_of remote drb way) ≡ true) (sym (cond-true (p b) (b ∷ filter p rows) (filter p rows) taken))
              (or_right (is_key (key_of remote drb way) (key_of b.remote b.drb way)) (is_among (keys_in way (filter p rows)) (key_of remote drb way)) later)
          | inr left ↦ subst (λ (bs : List BearerRow). is_among (keys_in way bs) (key_of remote drb way) ≡ true) (sym (cond-false (p b) (b ∷ filter p rows) (filter p rows) left)) later
        ]
  ]

-- all are, of all bearers
module _ (way : Way) (remote : Remote) (drb : Drb) where
  any_among : (rows : List BearerRow) → list_any (λ (b : BearerRow). is_remote remote b.remote && (drb.0 == b.drb.0)) rows ≡ true → is_among (keys_in way rows) (key_of remote drb way) ≡ true
  any_among [] any = absurd cc
  any_among (b ∷ rows) any = elim (cases_Bool (is_remote remote b.remote && (drb.0 == b.drb.0))) [
    | inl here ↦ or_left (is_key (key_of remote drb way) (key_of b.remote b.drb way)) (is_among (keys_in way rows) (key_of remote drb way)) (test_key way remote drb b here)
    | inr other ↦ or_right (is_key (key_of remote drb way) (key_of b.remote b.drb way)) (is_among (keys_in way rows) (key_of remote drb way))
        (any_among rows (ap (λ x. x || list_any (λ (r : BearerRow). is_remote remote r.remote && (drb.0 == r.drb.0)) rows) (sym other) ∙ any))
  ]

-- what a filter leaves passes its test
each_passes : {T : Type 0} (p : T → Bool) (xs : List T) → AllByRecursion (λ x. p x ≡ true) (filter p xs)
each_passes p [] = tt
each_passes p (x ∷ xs) = elim (cases_Bool (p x)) [
  | inl taken ↦ subst (λ ys. AllByRecursion (λ y. p y ≡ true) ys) (sym (cond-true (p x) (x ∷ filter p xs) (filter p xs) taken)) (taken, each_passes p xs)
  | inr left ↦ subst (λ ys. AllByRecursion (λ y. p y ≡ true) ys) (sym (cond-false (p x) (x ∷ filter p xs) (filter p xs) left)) (each_passes p xs)
]

each_filtered : {T : Type 0} (P : T → Type 0) (p : T → Bool) (xs : List T) → AllByRecursion P xs → AllByRecursion P (filter p xs)
each_filtered P p [] all = tt
each_filtered P p (x ∷ xs) all = elim (cases_Bool (p x)) [
  | inl taken ↦ subst (AllByRecursion P) (sym (cond-true (p x) (x ∷ filter p xs) (filter p xs) taken)) (all.0, each_filtered P p xs all.1)
  | inr left ↦ subst (AllByRecursion P) (sym (cond-false (p x) (x ∷ filter p xs) (filter p xs) left)) (each_filtered P p xs all.1)
]

-- the end of a remote
module _ (t : Contents) (row : RemoteRow) (routes : HaveRoutes t) where
  pc5_open : (goal : Goal) (p : Pc5Row) → is_remote row.remote p.remote ≡ true → HasSide (AtRemote row.remote) (attachments row.remote goal) (keys_in Dl (bearers_of t row.remote)) (pc5_side (settings t) goal p)
  pc5_open ToDirect p its = (ap (λ (r : Remote). AtRemote r) (remote_is row.remote p.remote its), λ open_. absurd (false≢true open_))
  pc5_open (ToRelay id) p its =
      let same = remote_is row.remote p.remote its in (
        ap (λ (r : Remote). AtRemote r) same,
        λ open_. ap (λ (o : Option LocalId). is_some o) (cond-true (is_remote p.remote row.remote) (Some id) None (ap (λ (r : Remote). is_remote r row.remote) (sym same) ∙ remote_refl row.remote)),
      )

  pub remote_end : IsEnd t (new_remote t row)
  remote_end =
      let name = AtRemote row.remote in
      let ids = attachments row.remote row.goal in
      let keys = keys_in Dl (bearers_of t row.remote) in
      record {
        ports = each_append (HasSide name ids keys) (map (direct_side (settings t) row.goal) (bearers_of t row.remote)) (map (pc5_side (settings t) row.goal) (pc5s_of t row.remote))
            (each_map (HasSide name ids keys) (λ (b : BearerRow). is_among keys (key_of b.remote b.drb Dl) ≡ true) (direct_side (settings t) row.goal) (λ b is. is) (bearers_of t row.remote) (listed Dl (bearers_of t row.remote)))
            (each_map (HasSide name ids keys) (λ (p : Pc5Row). is_remote row.remote p.remote ≡ true) (pc5_side (settings t) row.goal) (pc5_open row.goal) (pc5s_of t row.remote)
            (each_passes (λ (p : Pc5Row). is_remote row.remote p.remote) t.pc5s));
        received = all_map {P = IsRoute t} {Q = IsReceived name keys} (λ (m : MapRow) route. λ (same : m.remote ≡ row.remote).
            bearer_among Dl m.remote m.drb (λ (b : BearerRow). is_remote row.remote b.remote) (λ b is. ap (λ (r : Remote). is_remote r b.remote) (sym same) ∙ is) t.bearers route.bearer) t.maps routes;
        routes = routes;
      }

-- the end of the gNB
module _ (t : Contents) (routes : HaveRoutes t) where
  pub gnb_end : IsEnd t (new_gnb t)
  gnb_end =
      let ids = all_attached t in
      let keys = keys_in Ul t.bearers in
      record {
        ports = each_append (HasSide AtGnb ids keys) (flat_map (λ (row : RemoteRow). map (direct_side (settings t) row.goal) (bearers_of t row.remote)) t.remotes) (map (uu_side (settings t)) t.uus)
            (each_flat (HasSide AtGnb ids keys) (λ (row : RemoteRow). map (direct_side (settings t) row.goal) (bearers_of t row.remote))
            (λ row. each_map (HasSide AtGnb ids keys) (λ (b : BearerRow). is_among keys (key_of b.remote b.drb Ul) ≡ true) (direct_side (settings t) row.goal) (λ b is. is) (bearers_of t row.remote)
            (each_filtered (λ (b : BearerRow). is_among keys (key_of b.remote b.drb Ul) ≡ true) (λ (b : BearerRow). is_remote row.remote b.remote) t.bearers (listed Ul t.bearers))) t.remotes)
            (each_made (HasSide AtGnb ids keys) (uu_side (settings t)) (λ u. refl) t.uus);
        received = all_map {P = IsRoute t} {Q = IsReceived AtGnb keys} (λ (m : MapRow) route. any_among Ul m.remote m.drb t.bearers route.bearer) t.maps routes;
        routes = routes;
      }
