-- A burst keeps what holds of a chain.
use Rattle.std.proofs.Common.{◌≡◌, ◌⊎◌, inl, inr, ℕ, Bool, true, false, cond, ◌&&◌, ◌||◌, List, [], ◌∷◌, ◌++◌, map, filter, flat_map, find, append_assoc, Option, Some, None, refl, sym, ◌∙◌, ap, subst, arith}
use Rattle.std.specs.List.{AllByRecursion, AllZip, list_any}
use Rattle.std.specs.Option.{unwrap_or}
use Rattle.std.proofs.lemmas.Bool.{cases_Bool, cond-true, cond-false, false≢true}
use Rattle.std.proofs.lemmas.Option.{none-some}
use Rattle.link_base.specs.declared.names.PortName.{PortName}
use Rattle.script_text.specs.declared.event.Event.{Event}
use Rattle.script_text.specs.declared.event.Event.TheVariants.{Left}
use Rattle.script_text.specs.declared.reply.Reply.{Reply}
use Rattle.node_model.specs.declared.parcel.Parcel.{Parcel}
use Rattle.node_model.specs.Names.{AtRelay, is_port, is_node}
use Rattle.node_model.specs.State.{PortSide, Node, side_at, no_node}
use Rattle.chain_model.specs.State.{Chain, node_at, set_node}
use Rattle.chain_model.specs.Lines.{queue_capacity}
use Rattle.chain_model.specs.Bursts.{Ingress, Egress, all_put, is_from, goes_to, Emits, told_by, behind_ingress, behind_egress, Bursts}
use Rattle.chain_model.specs.Told.{event_hears}
use Rattle.node_model.proofs.Names.{port_is, port_refl, port_apart}
use Rattle.node_model.proofs.Finding.{each_append, each_left, each_right, each_replaced, find_none}
use Rattle.chain_law.proofs.Pairs.{Pairwise, each_picked}
use Rattle.chain_law.specs.Foundations.{RlcLaws}
use Rattle.chain_law.proofs.Stands.{Logs, Implies, Stands, stands_implied, put}
use Rattle.chain_law.proofs.Nodes.{NodeFits, SideFits, ParcelFits, port_of, Differ, IsOwned, side_fits}
use Rattle.chain_law.proofs.Chains.{Holds, holds_implied, view, view_in, node_fits, node_name, put_own, set_stands}
use Rattle.chain_law.proofs.Mixing.{mixed, mixed_before, mixed_other, mixed_this, all_mixed}
use Rattle.chain_law.proofs.Bursting.{heard_at, SaysOn, folded_holds, StandsWith, alike, emitted, Burst, Ingesting, joined, names_stay, found_behind, none_behind, ingress_works, with_one, one_is}

-- sides with names apart are each the one that is found under its name
pub all_found : (ports : List PortSide) → Pairwise Differ (map port_of ports) → AllByRecursion (λ (s : PortSide). find (λ (x : PortSide). is_port s.name x.name) ports ≡ Some s) ports
all_found [] apart = tt
all_found (s ∷ ss) apart = (cond-true (is_port s.name s.name) (Some s) _ (port_refl s.name), behind ss apart.0 (all_found ss apart.1))
  where
    behind : (rest : List PortSide) → AllByRecursion (Differ s.name) (map port_of rest)
        → AllByRecursion (λ (x : PortSide). find (λ (y : PortSide). is_port x.name y.name) ss ≡ Some x) rest
        → AllByRecursion (λ (x : PortSide). find (λ (y : PortSide). is_port x.name y.name) (s ∷ ss) ≡ Some x) rest
    behind [] others all = tt
    behind (x ∷ xs) others all = (cond-false (is_port x.name s.name) (Some s) _ (port_apart x.name s.name (λ e. others.0 (sym e))) ∙ all.0, behind xs others.1 all.1)

-- what fits of each port's SDUs fits of all
came_fit : (came put : List Parcel) (takes : Parcel → Bool) → AllByRecursion ParcelFits put
    → ((port : PortName) → filter (is_from port) came ≡ filter (λ parcel. is_from port parcel && takes parcel) put) → AllByRecursion ParcelFits came
came_fit came put takes fits each = by came
    (λ port. subst (AllByRecursion ParcelFits) (sym (each port)) (each_picked ParcelFits (λ parcel. is_from port parcel && takes parcel) put fits))
  where
    by : (came : List Parcel) → ((port : PortName) → AllByRecursion ParcelFits (filter (is_from port) came)) → AllByRecursion ParcelFits came
    by [] all = tt
    by (x ∷ xs) all = (head (is_from x.from x) (port_refl x.from) (all x.from), by xs (λ port. tail (is_from port x) port (all port)))
      where
        head : (b : Bool) → b ≡ true → AllByRecursion ParcelFits (cond b (x ∷ filter (is_from x.from) xs) (filter (is_from x.from) xs)) → ParcelFits x
        head true is all = all.0
        head false is all = absurd (Rattle.std.proofs.lemmas.Bool.false≢true is)

        tail : (b : Bool) (port : PortName) → AllByRecursion ParcelFits (cond b (x ∷ filter (is_from port) xs) (filter (is_from port) xs))
            → AllByRecursion ParcelFits (filter (is_from port) xs)
        tail true port all = all.1
        tail false port all = all

-- an ingress port ended with SDUs that fit
record Ended (i : Ingress) : Type 0 where
  side : SideFits i.behind
  put : AllByRecursion ParcelFits i.put

-- a list shows a ticket as heard
abbrev pub Shows : ℕ → List Event → Type 0
Shows ticket events = list_any (event_hears ticket) events ≡ true

-- two lists show the same tickets as heard
pub record ShowAlike (xs ys : List Event) : Type 0 where
  pub there : (ticket : ℕ) → Shows ticket xs → Shows ticket ys
  pub back : (ticket : ℕ) → Shows ticket ys → Shows ticket xs

module _ (ticket : ℕ) where
  pub shows_either : (xs ys : List Event) → Shows ticket (xs ++ ys) → Shows ticket xs ⊎ Shows ticket ys
  shows_either [] ys is = inr is
  shows_either (x ∷ xs) ys is = elim (cases_Bool (event_hears ticket x)) [
    | inl this ↦ inl (ap (λ (b : Bool). b || list_any (event_hears ticket) xs) this)
    | inr other ↦ elim (shows_either xs ys (sym (ap (λ (b : Bool). b || list_any (event_hears ticket) (xs ++ ys)) other) ∙ is)) [
      | inl first ↦ inl (ap (λ (b : Bool). b || list_any (event_hears ticket) xs) other ∙ first)
      | inr second ↦ inr second
    ]
  ]

  pub shows_first : (xs ys : List Event) → Shows ticket xs → Shows ticket (xs ++ ys)
  shows_first [] ys is = absurd (false≢true is)
  shows_first (x ∷ xs) ys is = elim (cases_Bool (event_hears ticket x)) [
    | inl this ↦ ap (λ (b : Bool). b || list_any (event_hears ticket) (xs ++ ys)) this
    | inr other ↦ ap (λ (b : Bool). b || list_any (event_hears ticket) (xs ++ ys)) other
        ∙ shows_first xs ys (sym (ap (λ (b : Bool). b || list_any (event_hears ticket) xs) other) ∙ is)
  ]

  pub shows_second : (xs ys : List Event) → Shows ticket ys → Shows ticket (xs ++ ys)
  shows_second [] ys is = is
  shows_second (x ∷ xs) ys is = elim (cases_Bool (event_hears ticket x)) [
    | inl this ↦ ap (λ (b : Bool). b || list_any (event_hears ticket) (xs ++ ys)) this
    | inr other ↦ ap (λ (b : Bool). b || list_any (event_hears ticket) (xs ++ ys)) other ∙ shows_second xs ys is
  ]

  left_untold : (tickets : List ℕ) → Shows ticket (map (λ ticket. Left ticket) tickets) → ⊥
  left_untold [] is = false≢true is
  left_untold (t ∷ tickets) is = left_untold tickets is

  -- what a port told is among what all told
  heard_told : (ports : List PortSide) (ingresses : List Ingress) (p : PortName) → Shows ticket (heard_at ports ingresses p) → Shows ticket (flat_map told_by ingresses)
  heard_told [] ingresses p is = absurd (false≢true is)
  heard_told (s ∷ ss) [] p is = absurd (false≢true is)
  heard_told (s ∷ ss) (i ∷ is) p shown = elim (cases_Bool (is_port p s.name)) [
    | inl this ↦ shows_first (told_by i) (flat_map told_by is) (shows_first i.heard _ (subst (Shows ticket) (cond-true (is_port p s.name) i.heard (heard_at ss is p) this) shown))
    | inr other ↦ shows_second (told_by i) (flat_map told_by is) (heard_told ss is p (subst (Shows ticket) (cond-false (is_port p s.name) i.heard (heard_at ss is p) other) shown))
  ]

-- each port told what is found under its name
abbrev Own : List PortSide → List Ingress → PortSide → Ingress → Type 0
Own ports ingresses s i = heard_at ports ingresses s.name ≡ i.heard

each_own : (ports : List PortSide) (ingresses : List Ingress) → Pairwise Differ (map port_of ports) → AllZip (λ (s : PortSide) (i : Ingress). Unit {0}) ports ingresses
    → AllZip (Own ports ingresses) ports ingresses
each_own [] [] apart zipped = tt
each_own [] (i ∷ is) apart zipped = absurd zipped
each_own (s ∷ ss) [] apart zipped = absurd zipped
each_own (s ∷ ss) (i ∷ is) apart zipped = (
  cond-true (is_port s.name s.name) i.heard (heard_at ss is s.name) (port_refl s.name),
  behind ss is apart.0 (each_own ss is apart.1 zipped.1),
)
  where
    behind : (rest : List PortSide) (more : List Ingress) → AllByRecursion (Differ s.name) (map port_of rest) → AllZip (Own ss is) rest more
        → AllZip (Own (s ∷ ss) (i ∷ is)) rest more
    behind [] [] others all = tt
    behind [] (y ∷ ys) others all = absurd all
    behind (x ∷ xs) [] others all = absurd all
    behind (x ∷ xs) (y ∷ ys) others all = (
      cond-false (is_port x.name s.name) i.heard (heard_at ss is x.name) (port_apart x.name s.name (λ e. others.0 (sym e))) ∙ all.0,
      behind xs ys others.1 all.1,
    )

unzipped : (P : PortSide → Ingress → Type 0) (ports : List PortSide) (ingresses : List Ingress) → AllZip P ports ingresses
    → AllZip (λ (s : PortSide) (i : Ingress). Unit {0}) ports ingresses
unzipped P [] [] all = tt
unzipped P [] (i ∷ is) all = absurd all
unzipped P (s ∷ ss) [] all = absurd all
unzipped P (s ∷ ss) (i ∷ is) all = (tt, unzipped P ss is all.1)

-- what the ports of these names told
module _ (ports : List PortSide) (ingresses : List Ingress) where
  abbrev pub done_by : List PortName → List Event
  done_by [] = []
  done_by (p ∷ names) = done_by names ++ heard_at ports ingresses p

  -- of a name among them it is there
  done_has : (ticket : ℕ) (p : PortName) (names : List PortName) → list_any (is_port p) names ≡ true → Shows ticket (heard_at ports ingresses p) → Shows ticket (done_by names)
  done_has ticket p [] among is = absurd (false≢true among)
  done_has ticket p (x ∷ names) among is = elim (cases_Bool (is_port p x)) [
    | inl this ↦ shows_second ticket (done_by names) (heard_at ports ingresses x) (subst (λ (q : PortName). Shows ticket (heard_at ports ingresses q)) (port_is p x this) is)
    | inr other ↦ shows_first ticket (done_by names) (heard_at ports ingresses x)
        (done_has ticket p names (sym (ap (λ (b : Bool). b || list_any (is_port p) names) other) ∙ among) is)
  ]

  -- all that these names told is told
  done_told : (ticket : ℕ) (names : List PortName) → Shows ticket (done_by names) → Shows ticket (flat_map told_by ingresses)
  done_told ticket [] is = absurd (false≢true is)
  done_told ticket (p ∷ names) is = elim (shows_either ticket (done_by names) (heard_at ports ingresses p) is) [
    | inl first ↦ done_told ticket names first
    | inr second ↦ heard_told ticket ports ingresses p second
  ]

  -- and all that is told the names of all ports told
  told_done : (ticket : ℕ) (names : List PortName) (rest : List PortSide) (more : List Ingress) → AllZip (Own ports ingresses) rest more
      → AllByRecursion (λ (s : PortSide). list_any (is_port s.name) names ≡ true) rest → Shows ticket (flat_map told_by more) → Shows ticket (done_by names)
  told_done ticket names [] [] own among is = absurd (false≢true is)
  told_done ticket names [] (y ∷ ys) own among is = absurd own
  told_done ticket names (x ∷ xs) [] own among is = absurd own
  told_done ticket names (x ∷ xs) (y ∷ ys) own among is = elim (shows_either ticket (told_by y) (flat_map told_by ys) is) [
    | inr later ↦ told_done ticket names xs ys own.1 among.1 later
    | inl this ↦ elim (shows_either ticket y.heard (map (λ ticket. Left ticket) y.left) this) [
      | inr left ↦ absurd (left_untold ticket y.left left)
      | inl heard ↦ done_has ticket x.name names among.0 (subst (Shows ticket) (sym own.0) heard)
    ]
  ]

-- a name is among those of which it is one
each_among : (names : List PortName) → (rest : List PortSide) → AllByRecursion (λ (s : PortSide). list_any (is_port s.name) (names ++ map port_of rest) ≡ true) rest
each_among names [] = tt
each_among names (s ∷ ss) = (
  any_later s.name names (s.name ∷ map port_of ss) (ap (λ (b : Bool). b || list_any (is_port s.name) (map port_of ss)) (port_refl s.name)),
  subst (λ (l : List PortName). AllByRecursion (λ (s : PortSide). list_any (is_port s.name) l ≡ true) ss) (append_assoc names (s.name ∷ []) (map port_of ss))
      (each_among (names ++ s.name ∷ []) ss),
)
  where
    any_later : (p : PortName) (xs ys : List PortName) → list_any (is_port p) ys ≡ true → list_any (is_port p) (xs ++ ys) ≡ true
    any_later p [] ys is = is
    any_later p (x ∷ xs) ys is = ap (λ (b : Bool). is_port p x || b) (any_later p xs ys is) ∙ or_true (is_port p x)
      where
        or_true : (b : Bool) → (b || true) ≡ true
        or_true true = refl
        or_true false = refl

-- a burst keeps what holds of a chain, where what is said goes on with each ticket that is treated
pub bursts_hold : (l : RlcLaws) {r : Logs} {IsStaged : ℕ → Type 0} {said : List Event → Logs} (old : Chain) → SaysOn old IsStaged said → (events : List Event)
    → ((done : List Event) → ShowAlike done events → Implies (said done) r) → (reply : Reply) (new : Chain) → Holds (said []) old → Bursts old events reply new → Holds r new
bursts_hold l {r} {IsStaged} {said} old on_and_on events ended_so reply new h b = subst (Holds r) (sym b.is)
    (forgotten (folded_holds l events (set_node old m) (holds_implied (ended_so (done_by n.ports b.ingresses (map port_of n.ports)) alike_told) changed)))
  where
    forgotten : {c : Chain} → Holds r c → Holds r (record c { staged = [] })
    forgotten h = record { limit = h.limit; apart = h.apart; stands = h.stands; fresh = h.fresh; nodes = h.nodes; tickets = h.tickets }

    n : Node
    n = node_at old AtRelay

    m : Node
    m = record n { ports = map behind_egress b.egresses }

    cap : ℕ
    cap = queue_capacity old

    put_all : List Parcel
    put_all = all_put b.ingresses

    fits : NodeFits n
    fits = node_fits old h AtRelay

    own : Stands (said []) old.tables (put (view old) AtRelay (side_at n)) h.limit old.air
    own = put_own old.nodes AtRelay h.stands

    ends : (ports : List PortSide) (ingresses : List Ingress) → AllZip (Ingesting l old h) ports ingresses → AllByRecursion (λ (s : PortSide). side_at n s.name ≡ Some s) ports
        → AllByRecursion SideFits ports → AllByRecursion Ended ingresses
    ends [] [] all there fit = tt
    ends (s ∷ ss) (i ∷ is) all there fit =
        let w = ingress_works l old h on_and_on [] s i s.name (side_at n) there.0 fit.0 there.0 own all.0 in
        (record { side = w.0.fits; put = w.1 }, ends ss is all.1 there.1 fit.1)
    ends [] (i ∷ is) all there fit = absurd all
    ends (s ∷ ss) [] all there fit = absurd all

    ended : AllByRecursion Ended b.ingresses
    ended = ends n.ports b.ingresses b.ingest (all_found n.ports fits.apart) fits.ports

    puts_fit : (ingresses : List Ingress) → AllByRecursion Ended ingresses → AllByRecursion ParcelFits (all_put ingresses)
    puts_fit [] all = tt
    puts_fit (i ∷ is) all = each_append ParcelFits i.put (all_put is) all.0.put (puts_fit is all.1)

    put_fits : AllByRecursion ParcelFits put_all
    put_fits = puts_fit b.ingresses ended

    -- what an egress port took and left fits
    taken_fits : (s : PortSide) (e : Egress) → SideFits s → Emits cap put_all s e → AllByRecursion ParcelFits (e.taken ++ e.behind.queue)
    taken_fits s e was x = subst (AllByRecursion ParcelFits) x.queued (each_append ParcelFits s.queue e.came was.queue (came_fit e.came put_all (goes_to s.name) put_fits x.each))

    sides_fit : (ingresses : List Ingress) (egresses : List Egress) → AllByRecursion Ended ingresses → AllZip (Emits cap put_all) (map behind_ingress ingresses) egresses
        → AllByRecursion SideFits (map behind_egress egresses)
    sides_fit [] [] all x = tt
    sides_fit (i ∷ is) (e ∷ es) all x = (
      subst SideFits (sym x.0.is) (record { slot = all.0.side.slot; queue = each_right ParcelFits e.taken e.behind.queue (taken_fits i.behind e all.0.side x.0) }),
      sides_fit is es all.1 x.1,
    )
    sides_fit [] (e ∷ es) all x = absurd x
    sides_fit (i ∷ is) [] all x = absurd x

    -- what was treated once the ports of these names worked
    done : List PortName → List Event
    done names = done_by n.ports b.ingresses names

    alike_told : ShowAlike (done_by n.ports b.ingresses (map port_of n.ports)) events
    alike_told = record {
      there = λ ticket is. subst (Shows ticket) (sym b.shows) (done_told n.ports b.ingresses ticket (map port_of n.ports) is);
      back = λ ticket is. told_done n.ports b.ingresses ticket (map port_of n.ports) n.ports b.ingresses
          (each_own n.ports b.ingresses fits.apart (unzipped (Ingesting l old h) n.ports b.ingresses b.ingest)) (each_among [] n.ports) (subst (Shows ticket) b.shows is);
    }

    zipped : AllZip (Burst l old h cap put_all) n.ports b.egresses
    zipped = joined l old h cap put_all n.ports b.ingresses b.egresses b.ingest b.emit

    -- one port after another
    one : (p : PortName) (names : List PortName) → list_any (is_port p) names ≡ false → StandsWith l old h (said (done names)) (mixed n m names)
        → StandsWith l old h (said (done (p ∷ names))) (mixed n m (p ∷ names))
    one p names new_name s = by (side_at n p) refl
      where
        by : (found : Option PortSide) → side_at n p ≡ found → StandsWith l old h (said (done (p ∷ names))) (mixed n m (p ∷ names))
        by None is = stands_implied (on_and_on.again (done names) (heard_at n.ports b.ingresses p) (λ ticket shown. absurd (none_told ticket n.ports b.ingresses is shown)))
            (alike l old h (mixed n m names) (mixed n m (p ∷ names)) same s)
          where
            none_told : (ticket : ℕ) (ports : List PortSide) (ingresses : List Ingress) → find (λ (s : PortSide). is_port p s.name) ports ≡ None
                → Shows ticket (heard_at ports ingresses p) → ⊥
            none_told ticket [] ingresses none shown = false≢true shown
            none_told ticket (x ∷ xs) [] none shown = false≢true shown
            none_told ticket (x ∷ xs) (y ∷ ys) none shown = elim (cases_Bool (is_port p x.name)) [
              | inl this ↦ none-some x (sym none ∙ cond-true (is_port p x.name) (Some x) _ this)
              | inr other ↦ none_told ticket xs ys (sym (cond-false (is_port p x.name) (Some x) _ other) ∙ none)
                  (subst (Shows ticket) (cond-false (is_port p x.name) y.heard (heard_at xs ys p) other) shown)
            ]

            same : (q : PortName) → mixed n m (p ∷ names) q ≡ mixed n m names q
            same q = elim (Rattle.node_model.proofs.Names.cases_port q p) [
              | inr ne ↦ mixed_other n m p names q ne
              | inl e ↦ ap (mixed n m (p ∷ names)) e ∙ mixed_this n m p names ∙ none_behind l old h cap put_all p n.ports b.egresses zipped is
                  ∙ sym (mixed_before n m names p new_name ∙ is) ∙ ap (mixed n m names) (sym e)
            ]
        by (Some side) there =
            let found = found_behind l old h cap put_all p n.ports b.ingresses b.egresses b.ingest b.emit side there in
            let w = ingress_works l old h on_and_on (done names) side found.1 p (mixed n m names) there (side_fits n p side fits there)
            (mixed_before n m names p new_name ∙ there) s found.3 in
            let worked = emitted l old h p side there (mixed n m names) cap put_all found.1.behind found.0 w.0.name
            (each_left ParcelFits found.0.taken found.0.behind.queue (taken_fits found.1.behind found.0 w.0.fits found.4)) found.4 w.0.stands in
            let name : found.0.behind.name ≡ p = ap (λ (s : PortSide). s.name) found.4.is ∙ w.0.name in
            subst (λ (more : List Event). StandsWith l old h (said (done names ++ more)) (mixed n m (p ∷ names))) found.5
            (alike l old h (with_one p (mixed n m names) found.0.behind) (mixed n m (p ∷ names))
            (λ q. sym (one_is p (mixed n m names) found.0.behind (mixed n m (p ∷ names)) name (mixed_this n m p names ∙ found.2) (λ q ne. mixed_other n m p names q ne) q)) worked)

    all : Stands (said (done (map port_of n.ports))) old.tables (put (view old) AtRelay (side_at m)) h.limit old.air
    all = all_mixed n m (view old) AtRelay (λ names. h.limit) (λ names. said (done names)) (λ p names side q. omega arith)
        (λ p names among. on_and_on.again (done names) (heard_at n.ports b.ingresses p) (λ ticket shown. done_has n.ports b.ingresses ticket p names among shown)) one
        (λ q none. none_behind l old h cap put_all q n.ports b.egresses zipped none) own

    stands : (o : Option Node) → find (λ (x : Node). is_node AtRelay x.name) old.nodes ≡ o → Stands (said (done (map port_of n.ports))) old.tables
        (view (set_node old m)) h.limit old.air
    stands (Some was) is = set_stands old AtRelay m was (node_name old AtRelay) is all
    stands None is =
        let none : find (λ (x : Node). is_node m.name x.name) old.nodes ≡ None = ap (λ (y : _). find (λ (x : Node). is_node y x.name) old.nodes) (node_name old AtRelay) ∙ is in
        let none_done : done (map port_of n.ports) ≡ [] = ap (λ (o : Option Node). done_by (unwrap_or o (no_node AtRelay)).ports b.ingresses
        (map port_of (unwrap_or o (no_node AtRelay)).ports)) is in
        subst (λ (l : List Event). Stands (said l) old.tables (view (set_node old m)) h.limit old.air) (sym none_done)
        (subst (λ (ns : List Node). Stands (said []) old.tables (view_in ns) h.limit old.air) (sym (find_none (λ (x : Node). is_node m.name x.name) m old.nodes none)) h.stands)

    changed : Holds (said (done (map port_of n.ports))) (set_node old m)
    changed = record {
      limit = h.limit;
      apart = h.apart;
      stands = stands (find (λ (x : Node). is_node AtRelay x.name) old.nodes) refl;
      fresh = h.fresh;
      nodes = each_replaced NodeFits (λ (x : Node). is_node m.name x.name) m
          (record {
            ports = sides_fit b.ingresses b.egresses ended b.emit;
            outgoing = fits.outgoing;
            apart = subst (Pairwise Differ) (sym (names_stay l old h cap put_all n.ports b.egresses zipped)) fits.apart;
            owned = subst (AllByRecursion (IsOwned n.name)) (sym (names_stay l old h cap put_all n.ports b.egresses zipped)) fits.owned;
          }) old.nodes h.nodes;
      tickets = h.tickets;
    }
