-- The bearers of an end by place and by key.
use Rattle.std.proofs.Common.{◌≡◌, ◌≢◌, ◌⊎◌, inl, inr, ℕ, zero, suc, ◌+◌, ◌*◌, ◌<◌, Bool, true, false, List, [], ◌∷◌, length, map, get_or, set, Option, Some, None, refl, sym, ◌∙◌, ap, subst, eq-eqb, arith}
use Rattle.std.specs.Prelude.{find, slice_get, IfSome, ◌==◌, ◌&&◌, unwrap_or}
use Rattle.std.specs.List.{AllByRecursion}
use Rattle.std.proofs.lemmas.Bool.{eqb-true, false_from_ne_true}
use Rattle.std.proofs.lemmas.List.{length-map}
use Rattle.link_base.specs.declared.names.Key.{Key}
use Rattle.link_base.specs.declared.names.Way.{Way}
use Rattle.link_base.specs.declared.names.Way.TheVariants.{Ul, Dl}
use Rattle.bearer_map.specs.Order.{IsAscending}
use Rattle.rlc_model.specs.Sides.{flip}
use Rattle.node_model.specs.Names.{is_key, is_way, replaced}
use Rattle.node_model.specs.State.{Node, Outgoing, Incoming, outgoing_at, incoming_at, outgoing, incoming, set_outgoing, set_incoming, no_outgoing, no_incoming}
use Rattle.node_bearers.specs.declared.bearer.Bearer.{Bearer}
use Rattle.node_bearers.specs.Bearer.{rank, bearer_key, outgoing_of, incoming_of}
use Rattle.node_bearers.specs.Order.{IsSmall, IsInOrder, IsAt, IsOf, HasNone}
use Rattle.node_bearers.specs.Table.{node_with}
use Rattle.node_bearers.proofs.Found.{IsOnly, none_found, none_replaced, only_found, only_replaced, same_seen, all_at, all_set, all_map, both_true}

-- a key is itself
way_itself : (way : Way) → is_way way way ≡ true
way_itself Ul = refl
way_itself Dl = refl

pub key_itself : (key : Key) → is_key key key ≡ true
key_itself key = rw (eq-eqb key.remote.0 key.remote.0 refl, eq-eqb key.drb.0 key.drb.0 refl, way_itself key.way) refl

-- bearers with one key have one rank
one_rank : (way : Way) (a b : Bearer) → is_key (bearer_key way a) (bearer_key way b) ≡ true → rank a ≡ rank b
one_rank way a b is =
    let names = both_true (a.remote.0 == b.remote.0) ((a.drb.0 == b.drb.0) && is_way way way) is in
    let drbs = both_true (a.drb.0 == b.drb.0) (is_way way way) names.1 in
    let remote = eqb-true a.remote.0 b.remote.0 names.0 in
    let drb = eqb-true a.drb.0 b.drb.0 drbs.0 in
    omega (arith, remote, drb)

apart : (way : Way) (a b : Bearer) → rank a ≢ rank b → is_key (bearer_key way a) (bearer_key way b) ≡ false
apart way a b ne = false_from_ne_true (is_key (bearer_key way a) (bearer_key way b)) (λ is. ne (one_rank way a b is))

-- of bearers in order, the one at a place is the only one with its key
pub only_here : (way : Way) (b : Bearer) (rows : List Bearer) (place : ℕ) → IsAscending rank rows → place < length rows → b ≡ get_or rows place b → IsOnly (λ r. is_key (bearer_key way b) (bearer_key way r)) rows place
only_here way b [] place up lt here = absurd (omega arith)
only_here way b (r ∷ rows) zero up lt here = (
  ap (λ x. is_key (bearer_key way b) (bearer_key way x)) (sym here) ∙ key_itself (bearer_key way b),
  all_map (λ x above. apart way b x (λ same. omega (arith, ap rank here, same, above))) rows up.0,
)
only_here way b (r ∷ rows) (suc place) up lt here =
    let above : rank r < rank b = all_at (λ x. rank r < rank x) b rows place up.0 (omega arith) here in
    (apart way b r (λ same. omega (arith, same, above)), only_here way b rows place up.1 (omega arith) here)

-- bearers stay in order where one is set of the same name
ranks_stay : (b new : Bearer) (rows : List Bearer) (place : ℕ) → rank new ≡ rank b → IsAscending rank rows → place < length rows → b ≡ get_or rows place b → IsAscending rank (set rows place new)
ranks_stay b new [] place same up lt here = absurd (omega arith)
ranks_stay b new (r ∷ rows) zero same up lt here = (all_map (λ x above. omega (arith, ap rank here, same, above)) rows up.0, up.1)
ranks_stay b new (r ∷ rows) (suc place) same up lt here =
    let above : rank r < rank b = all_at (λ x. rank r < rank x) b rows place up.0 (omega arith) here in
    (all_set (λ x. rank r < rank x) new rows place up.0 (omega (arith, same, above)), ranks_stay b new rows place same up.1 (omega arith) here)

pub stays_in_order : (b new : Bearer) (rows : List Bearer) (place : ℕ) → IsInOrder rows → place < length rows → b ≡ get_or rows place b → new.remote ≡ b.remote → new.drb ≡ b.drb → IsInOrder (set rows place new)
stays_in_order b new rows place order lt here remote drb = record {
  ascend = ranks_stay b new rows place (omega (arith, ap (λ r. r.0) remote, ap (λ d. d.0) drb)) order.ascend lt here;
  small = all_set IsSmall new rows place order.small (subst (λ d. d.0 < 256) (sym drb) (all_at IsSmall b rows place order.small lt here));
}

-- the ends of the bearer at a place, which has this key in the way in which the node sends, or receives
module _ (key : Key) (sends : Way) (b : Bearer) (rows : List Bearer) (place : ℕ) (order : IsInOrder rows) (here : b ≡ get_or rows place b) where
  -- its key
  pub its_key : (way : Way) → IsAt (IsOf way key) rows place → key ≡ bearer_key way b
  its_key way at = at.1 b ∙ ap (bearer_key way) (sym here)

  only : (way : Way) → IsAt (IsOf way key) rows place → IsOnly (λ r. is_key key (bearer_key way r)) rows place
  only way at = subst (λ k. IsOnly (λ r. is_key k (bearer_key way r)) rows place) (sym (its_key way at)) (only_here way b rows place order.ascend at.0 here)

  pub found_sent : IsAt (IsOf sends key) rows place → outgoing_at (node_with sends rows) key ≡ Some (outgoing_of sends b)
  found_sent at = only_found (outgoing_of sends) (λ o. is_key key o.key) b rows place (only sends at) here

  pub sent : IsAt (IsOf sends key) rows place → outgoing (node_with sends rows) key ≡ outgoing_of sends b
  sent at = ap (λ o. unwrap_or o (no_outgoing key)) (found_sent at)

  pub found_received : IsAt (IsOf (flip sends) key) rows place → incoming_at (node_with sends rows) key ≡ Some (incoming_of (flip sends) b)
  found_received at = only_found (incoming_of (flip sends)) (λ i. is_key key i.key) b rows place (only (flip sends) at) here

  pub received : IsAt (IsOf (flip sends) key) rows place → incoming (node_with sends rows) key ≡ incoming_of (flip sends) b
  received at = ap (λ i. unwrap_or i (no_incoming key)) (found_received at)

  -- to set its sending end, or its receiving end, is to set it
  pub sets_sent : (new : Bearer) (goes : Outgoing → Outgoing) → IsAt (IsOf sends key) rows place → goes (outgoing_of sends b) ≡ outgoing_of sends new → bearer_key sends new ≡ bearer_key sends b
      → incoming_of (flip sends) new ≡ incoming_of (flip sends) b → node_with sends (set rows place new) ≡ set_outgoing (node_with sends rows) (goes (outgoing (node_with sends rows) key))
  sets_sent new goes at is same others =
      let changed : replaced (λ o. is_key key o.key) (outgoing_of sends new) (map (outgoing_of sends) rows) ≡ map (outgoing_of sends) (set rows place new) =
      only_replaced (outgoing_of sends) (λ o. is_key key o.key) new rows place (only sends at) in
      let named : key ≡ bearer_key sends new = its_key sends at ∙ sym same in
      let goes_to : goes (outgoing (node_with sends rows) key) ≡ outgoing_of sends new = ap goes (sent at) ∙ is in
      ap (λ ins. record (node_with sends rows) { outgoing = map (outgoing_of sends) (set rows place new); incoming = ins }) (same_seen (incoming_of (flip sends)) b new rows place here others)
      ∙ ap (λ outs. record (node_with sends rows) { outgoing = outs }) (sym changed)
      ∙ ap (λ (k : Key). record (node_with sends rows) { outgoing = replaced (λ o. is_key k o.key) (outgoing_of sends new) (map (outgoing_of sends) rows) }) named
      ∙ ap (λ (o : Outgoing). set_outgoing (node_with sends rows) o) (sym goes_to)

  pub sets_received : (new : Bearer) (goes : Incoming → Incoming) → IsAt (IsOf (flip sends) key) rows place → goes (incoming_of (flip sends) b) ≡ incoming_of (flip sends) new → bearer_key (flip sends) new ≡ bearer_key (flip sends) b
      → outgoing_of sends new ≡ outgoing_of sends b → node_with sends (set rows place new) ≡ set_incoming (node_with sends rows) (goes (incoming (node_with sends rows) key))
  sets_received new goes at is same others =
      let changed : replaced (λ i. is_key key i.key) (incoming_of (flip sends) new) (map (incoming_of (flip sends)) rows) ≡ map (incoming_of (flip sends)) (set rows place new) =
      only_replaced (incoming_of (flip sends)) (λ i. is_key key i.key) new rows place (only (flip sends) at) in
      let named : key ≡ bearer_key (flip sends) new = its_key (flip sends) at ∙ sym same in
      let goes_to : goes (incoming (node_with sends rows) key) ≡ incoming_of (flip sends) new = ap goes (received at) ∙ is in
      ap (λ outs. record (node_with sends rows) { outgoing = outs; incoming = map (incoming_of (flip sends)) (set rows place new) }) (same_seen (outgoing_of sends) b new rows place here others)
      ∙ ap (λ ins. record (node_with sends rows) { incoming = ins }) (sym changed)
      ∙ ap (λ (k : Key). record (node_with sends rows) { incoming = replaced (λ i. is_key k i.key) (incoming_of (flip sends) new) (map (incoming_of (flip sends)) rows) }) named
      ∙ ap (λ (i : Incoming). set_incoming (node_with sends rows) i) (sym goes_to)

-- the name of the item at a place
module _ {A B : Type 0} (see : A → B) (name : B → Key) where
  pub names_at : (key : Key) (xs : List A) (place : ℕ) → slice_get (map name (map see xs)) place ≡ Some key → (place < length xs) × ((d : A) → key ≡ name (see (get_or xs place d)))
  names_at key [] place is = absurd cc
  names_at key (x ∷ xs) zero is = (omega arith, λ d. let same : name (see x) ≡ key = cc in sym same)
  names_at key (x ∷ xs) (suc place) is = let rest = names_at key xs place is in (omega (arith, rest.0), rest.1)

  pub named_at : (x : A) (xs : List A) (place : ℕ) → place < length xs → x ≡ get_or xs place x → slice_get (map name (map see xs)) place ≡ Some (name (see x))
  named_at x [] place lt here = absurd (omega arith)
  named_at x (y ∷ ys) zero lt here = ap (λ z. Some (name (see z))) (sym here)
  named_at x (y ∷ ys) (suc place) lt here = named_at x ys place (omega arith) here

-- as many ends as bearers
pub within : {A B : Type 0} (see : A → B) (xs : List A) (place : ℕ) → place < length (map see xs) → place < length xs
within see xs place lt = omega (arith, length-map xs see)

pub place_within : {B : Type 0} (P : Bearer → Type 0) (see : Bearer → B) (xs : List Bearer) (found : Option ℕ) → IfSome found (IsAt P xs) → IfSome found (λ place. place < length (map see xs))
place_within P see xs None at = tt
place_within P see xs (Some place) at = omega (arith, at.0, length-map xs see)

-- a key that is none's
module _ (sends : Way) (key : Key) (rows : List Bearer) where
  pub none_found_sent : HasNone sends key rows → outgoing_at (node_with sends rows) key ≡ None
  none_found_sent none = none_found (outgoing_of sends) (λ o. is_key key o.key) rows none

  pub none_found_received : HasNone (flip sends) key rows → incoming_at (node_with sends rows) key ≡ None
  none_found_received none = none_found (incoming_of (flip sends)) (λ i. is_key key i.key) rows none

  pub none_sent : HasNone sends key rows → outgoing (node_with sends rows) key ≡ no_outgoing key
  none_sent none = ap (λ o. unwrap_or o (no_outgoing key)) (none_found_sent none)

  pub none_received : HasNone (flip sends) key rows → incoming (node_with sends rows) key ≡ no_incoming key
  none_received none = ap (λ i. unwrap_or i (no_incoming key)) (none_found_received none)

  pub none_set_sent : (o : Outgoing) → o.key ≡ key → HasNone sends key rows → set_outgoing (node_with sends rows) o ≡ node_with sends rows
  none_set_sent o is none = ap (λ outs. record (node_with sends rows) { outgoing = outs }) (none_replaced (outgoing_of sends) (λ x. is_key o.key x.key) o rows (subst (λ k. HasNone sends k rows) (sym is) none))

  pub none_set_received : (i : Incoming) → i.key ≡ key → HasNone (flip sends) key rows → set_incoming (node_with sends rows) i ≡ node_with sends rows
  none_set_received i is none = ap (λ ins. record (node_with sends rows) { incoming = ins }) (none_replaced (incoming_of (flip sends)) (λ x. is_key i.key x.key) i rows (subst (λ k. HasNone (flip sends) k rows) (sym is) none))
