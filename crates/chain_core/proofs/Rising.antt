-- Where the confirmed number of one key alone may rise, its event is all that is told.
use Rattle.std.proofs.Common.{◌≡◌, inl, inr, ℕ, ◌<◌, ◌==◌, Bool, true, false, cond, ◌&&◌, ◌||◌, if◌then◌else◌, nat_lt, List, [], ◌∷◌, ◌++◌, flat_map, Option, Some, None, refl, sym, ◌∙◌, ap, subst, arith}
use Rattle.std.specs.List.{list_any, filter_map, cons_option, AllByRecursion}
use Rattle.std.proofs.lemmas.Bool.{cases_Bool, cond-false, eqb-true, ltb-true, eq-eqb, false≢true, true≢false}
use Rattle.std.proofs.lemmas.List.{append_assoc}
use Rattle.std.proofs.lemmas.Option.{none-some, same_Some}
use Rattle.link_base.specs.declared.names.Key.{Key}
use Rattle.link_base.specs.declared.names.Way.{Way}
use Rattle.link_base.specs.declared.names.Way.TheVariants.{Ul, Dl}
use Rattle.bearer_map.specs.declared.rows.BearerRow.{BearerRow}
use Rattle.bearer_map.specs.Contents.{Contents, pair, bearer_rank}
use Rattle.bearer_map.specs.Order.{IsAscending}
use Rattle.pdcp_model.specs.Sender.{confirmed}
use Rattle.script_text.specs.declared.event.Event.{Event}
use Rattle.script_text.specs.declared.event.Event.TheVariants.{Conf}
use Rattle.script_text.specs.declared.line.Line.{Line}
use Rattle.script_text.specs.declared.reply.Reply.{Reply}
use Rattle.node_model.specs.Names.{is_remote, key_of}
use Rattle.node_model.specs.Tables.{keys, keys_of_row, has_bearer}
use Rattle.chain_model.specs.State.{Chain, sender_at}
use Rattle.chain_model.specs.Steps.{confirming, reporting}
use Rattle.chain_core.specs.declared.confirming.Watched.{Watched}
use Rattle.chain_core.specs.Chain.{Carries, Feeds, Plays}
use Rattle.chain_core.specs.Confirming.{Watches, risen}

abbrev is_ul : Way → Bool
is_ul Ul = true
is_ul Dl = false

ul_dl : Ul ≡ Dl → ⊥
ul_dl e = true≢false (ap is_ul e)

both : (a b : Bool) → (a && b) ≡ true → (a ≡ true) × (b ≡ true)
both true b e = (refl, e)
both false b e = absurd (false≢true e)

neither : (a b : Bool) → (a || b) ≡ false → (a ≡ false) × (b ≡ false)
neither false b e = (refl, e)
neither true b e = absurd (true≢false e)

-- nothing is told of a number that is as it was
none_rises : (a b : ℕ) (event : Event) → b ≡ a → (if nat_lt a b then Some event else None) ≡ None
none_rises a b event same = elim (cases_Bool (nat_lt a b)) [
  | inl less ↦ absurd (omega (arith, ltb-true a b less, same))
  | inr left ↦ cond-false (nat_lt a b) (Some event) None left
]

module _ (f : Key → Option Event) (key : Key) (others : (k : Key) → (key ≡ k → ⊥) → f k ≡ None) where
  -- the row is that of the key's bearer
  abbrev is_row : BearerRow → Bool
  is_row row = is_remote key.remote row.remote && (key.drb.0 == row.drb.0)

  own_row : (row : BearerRow) (way : Way) → key ≡ key_of row.remote row.drb way → is_row row ≡ true
  own_row row way is =
      ap (λ (b : Bool). b && (key.drb.0 == row.drb.0)) (eq-eqb key.remote.0 row.remote.0 (ap (λ (k : Key). k.remote.0) is))
      ∙ eq-eqb key.drb.0 row.drb.0 (ap (λ (k : Key). k.drb.0) is)

  other_row : (row : BearerRow) (way : Way) → is_row row ≡ false → f (key_of row.remote row.drb way) ≡ None
  other_row row way apart = others (key_of row.remote row.drb way) (λ is. true≢false (sym (own_row row way is) ∙ apart))

  told_of : (row : BearerRow) (rest : List Key) → is_row row ≡ false → filter_map f (keys_of_row row ++ rest) ≡ filter_map f rest
  told_of row rest apart =
      ap (λ (e : Option Event). cons_option e (cons_option (f (key_of row.remote row.drb Dl)) (filter_map f rest))) (other_row row Ul apart)
      ∙ ap (λ (e : Option Event). cons_option e (filter_map f rest)) (other_row row Dl apart)

  none_told : (rows : List BearerRow) → list_any is_row rows ≡ false → filter_map f (flat_map keys_of_row rows) ≡ []
  none_told [] none = refl
  none_told (row ∷ rows) none =
      let apart = neither (is_row row) (list_any is_row rows) none in
      told_of row (flat_map keys_of_row rows) apart.0 ∙ none_told rows apart.1

  -- a row of the key's bearer has the rank of the key's names
  its_rank : (row : BearerRow) → is_row row ≡ true → bearer_rank row ≡ pair key.remote.0 key.drb.0
  its_rank row is =
      let names = both (is_remote key.remote row.remote) (key.drb.0 == row.drb.0) is in
      omega (arith, eqb-true key.remote.0 row.remote.0 names.0, eqb-true key.drb.0 row.drb.0 names.1)

  none_behind : (row : BearerRow) (rows : List BearerRow) → is_row row ≡ true → AllByRecursion (λ (r : BearerRow). bearer_rank row < bearer_rank r) rows → list_any is_row rows ≡ false
  none_behind row [] is order = refl
  none_behind row (r ∷ rows) is order = elim (cases_Bool (is_row r)) [
    | inl same ↦ absurd (omega (arith, order.0, its_rank row is, its_rank r same))
    | inr apart ↦ ap (λ (b : Bool). b || list_any is_row rows) apart ∙ none_behind row rows is order.1
  ]

  its_keys : (row : BearerRow) → is_row row ≡ true → cons_option (f (key_of row.remote row.drb Ul)) (cons_option (f (key_of row.remote row.drb Dl)) []) ≡ cons_option (f key) []
  its_keys row is = by key.way refl
    where
      names : (is_remote key.remote row.remote ≡ true) × ((key.drb.0 == row.drb.0) ≡ true)
      names = both (is_remote key.remote row.remote) (key.drb.0 == row.drb.0) is

      its : (way : Way) → key.way ≡ way → key_of row.remote row.drb way ≡ key
      its way same =
          ap (λ (n : ℕ). key_of (record { 0 = n }) row.drb way) (sym (eqb-true key.remote.0 row.remote.0 names.0))
          ∙ ap (λ (n : ℕ). key_of key.remote (record { 0 = n }) way) (sym (eqb-true key.drb.0 row.drb.0 names.1))
          ∙ ap (λ (w : Way). key_of key.remote key.drb w) (sym same)

      by : (way : Way) → key.way ≡ way → cons_option (f (key_of row.remote row.drb Ul)) (cons_option (f (key_of row.remote row.drb Dl)) []) ≡ cons_option (f key) []
      by Ul same =
          ap (λ (e : Option Event). cons_option (f (key_of row.remote row.drb Ul)) (cons_option e []))
          (others (key_of row.remote row.drb Dl) (λ e. ul_dl (sym same ∙ ap (λ (k : Key). k.way) e)))
          ∙ ap (λ (k : Key). cons_option (f k) []) (its Ul same)
      by Dl same =
          ap (λ (e : Option Event). cons_option e (cons_option (f (key_of row.remote row.drb Dl)) []))
          (others (key_of row.remote row.drb Ul) (λ e. ul_dl (sym (ap (λ (k : Key). k.way) e) ∙ same)))
          ∙ ap (λ (k : Key). cons_option (f k) []) (its Dl same)

  -- what is told of all keys is what is told of this one, where its bearer has a row
  pub one_told : (rows : List BearerRow) → IsAscending bearer_rank rows → filter_map f (flat_map keys_of_row rows) ≡ cond (list_any is_row rows) (cons_option (f key) []) []
  one_told [] order = refl
  one_told (row ∷ rows) order = elim (cases_Bool (is_row row)) [
    | inl same ↦
        ap (λ (es : List Event). cons_option (f (key_of row.remote row.drb Ul)) (cons_option (f (key_of row.remote row.drb Dl)) es)) (none_told rows (none_behind row rows same order.0))
        ∙ its_keys row same
        ∙ ap (λ (b : Bool). cond (b || list_any is_row rows) (cons_option (f key) []) []) (sym same)
    | inr apart ↦ told_of row (flat_map keys_of_row rows) apart ∙ one_told rows order.1 ∙ ap (λ (b : Bool). cond (b || list_any is_row rows) (cons_option (f key) []) []) (sym apart)
  ]

one_event : (a b : Bool) (event : Event) → (if a && b then event ∷ [] else []) ≡ cond a (cons_option (if b then Some event else None) []) []
one_event true true event = refl
one_event true false event = refl
one_event false b event = refl

all_quiet : (f : Key → Option Event) → ((k : Key) → f k ≡ None) → (ks : List Key) → filter_map f ks ≡ []
all_quiet f none [] = refl
all_quiet f none (k ∷ ks) = ap (λ (e : Option Event). cons_option e (filter_map f ks)) (none k) ∙ all_quiet f none ks

-- what is told of the key that is watched is what is told of all
rise_is : (old mid : Chain) (watch : Option Watched) → IsAscending bearer_rank old.tables.bearers → Watches old watch mid → risen mid watch ≡ filter_map (confirming old mid) (keys old.tables)
rise_is old mid None order w =
    sym (all_quiet (confirming old mid) (λ k. none_rises (confirmed (sender_at old k)) (confirmed (sender_at mid k)) (Conf k (confirmed (sender_at mid k))) (w.others k none)) (keys old.tables))
  where
    none : {k : Key} → None ≡ Some k → ⊥
    none {k} e = none-some k e
rise_is old mid (Some watched) order w =
    let key = watched.key in
    ap (λ (n : ℕ). if has_bearer mid.tables key.remote key.drb && nat_lt n (confirmed (sender_at mid key)) then Conf key (confirmed (sender_at mid key)) ∷ [] else []) w.before
    ∙ ap (λ (t : Contents). let b = has_bearer t key.remote key.drb in if b && nat_lt (confirmed (sender_at old key)) (confirmed (sender_at mid key)) then Conf key (confirmed (sender_at mid key)) ∷ [] else []) w.tables
    ∙ one_event (has_bearer old.tables key.remote key.drb) (nat_lt (confirmed (sender_at old key)) (confirmed (sender_at mid key))) (Conf key (confirmed (sender_at mid key)))
    ∙ sym (one_told (confirming old mid) key
    (λ k ne. none_rises (confirmed (sender_at old k)) (confirmed (sender_at mid k)) (Conf k (confirmed (sender_at mid k))) (w.others k (λ e. ne (same_Some key k e)))) old.tables.bearers order)

-- the parts of a step make the step
pub plays : (old : Chain) (line : Line) (log first second third : List Event) (reply : Reply) (mid new : Chain) (watch : Option Watched)
    → Carries old line log first reply mid → Watches old watch mid → second ≡ first ++ risen mid watch → Feeds mid second third new → Plays old line log third reply new
plays old line log first second third reply mid new watch c w rises f =
    let order : IsAscending bearer_rank old.tables.bearers = subst (λ (t : Contents). IsAscending bearer_rank t.bearers) w.tables f.order.ascend in
    let rise = filter_map (confirming old mid) (keys old.tables) in
    let given = filter_map (reporting f.given) (keys old.tables) in
    let told : second ≡ log ++ (c.own ++ rise) = rises ∙ ap (λ es. first ++ es) (rise_is old mid watch order w) ∙ ap (λ es. es ++ rise) c.adds ∙ append_assoc log c.own rise in
    record {
      events = c.own ++ rise ++ given;
      step = record { own = c.own; mid = mid; does = c.does; given = f.given; nodes = f.nodes; feeds = f.feeds; is = f.is; shows = refl };
      adds = f.adds ∙ ap (λ (t : Contents). second ++ filter_map (reporting f.given) (keys t)) w.tables ∙ ap (λ es. es ++ given) told ∙ append_assoc log (c.own ++ rise) given;
    }
