-- A burst at the relay: what its ports put comes into their queues and from there to their transmitters, each SDU with its completion.
use Rattle.std.proofs.Common.{◌≡◌, ◌⊎◌, inl, inr, ℕ, true, ◌&&◌, List, [], ◌∷◌, ◌++◌, map, filter, flat_map, find, Option, Some, None, option_map, option_and_then, refl, sym, ◌∙◌, ap, subst}
use Rattle.std.specs.List.{AllByRecursion, AllZip}
use Rattle.std.specs.Option.{unwrap_or}
use Rattle.std.proofs.lemmas.Bool.{cases_Bool, cond-true, cond-false, true≢false}
use Rattle.std.proofs.lemmas.List.{map-append}
use Rattle.std.proofs.lemmas.Option.{none-some, same_Some}
use Rattle.link_base.specs.declared.names.PortName.{PortName}
use Rattle.bearer_map.specs.Contents.{Contents}
use Rattle.rlc_model.specs.Hop.{on_air}
use Rattle.rlc_model.specs.Sides.{Entity}
use Rattle.rlc_model.specs.Tx.{Tx}
use Rattle.script_text.specs.declared.event.Event.{Event}
use Rattle.script_text.specs.declared.event.Event.TheVariants.{Left}
use Rattle.script_text.specs.declared.reply.Reply.{Reply}
use Rattle.script_text.specs.History.{Entry}
use Rattle.node_model.specs.declared.parcel.Parcel.{Parcel}
use Rattle.node_model.specs.Names.{AtRelay, is_port}
use Rattle.node_model.specs.State.{PortSide, Node, side_at, entity_of, entity_at, slot_of, slot_at, queue_of, queue_at}
use Rattle.node_model.proofs.Finding.{find_passes, each_append, each_left, each_right}
use Rattle.node_model.proofs.Names.{port_is, port_refl}
use Rattle.chain_model.specs.Bursts.{inbox, goes_over, Ingests, Ingress, Egress, all_put, is_from, goes_to, GivesEach, GivesAll, Emits, told_by, behind_ingress, behind_egress, Bursts}
use Rattle.chain_model.specs.Carried.{Passed}
use Rattle.chain_model.specs.Lines.{queue_capacity}
use Rattle.chain_model.specs.State.{Chain, node_at}
use Rattle.chain_model.specs.Steps.{Step}
use Rattle.chain_law.proofs.Bursting.{own_place}
use Rattle.chain_law.proofs.Bursts.{all_found, Shows, shows_first, shows_second}
use Rattle.chain_law.proofs.Chains.{Holds, node_fits, put_own}
use Rattle.chain_law.proofs.Members.{IsIn, in_picked}
use Rattle.chain_law.proofs.Nodes.{NodeFits, port_of, Differ, side_name, side_fits}
use Rattle.chain_law.proofs.Pairs.{Pairwise, each_picked, each_passes, each_then, each_to_each, pairs_append}
use Rattle.heard_law.specs.Telling.{Tells}
use Rattle.heard_law.proofs.Logged.{logged, shown, HearsTicket}
use Rattle.heard_law.proofs.Staged.{IsForRelay, AreForRelay}
use Rattle.carried_law.specs.Foundations.{SentLaws}
use Rattle.carried_law.proofs.Bursting.{SideGoes, ingests_go}
use Rattle.carried_law.proofs.Ingesting.{list_of, After, begun, Fine, Ingested, ingested}
use Rattle.carried_law.proofs.Keeping.{SideKeeps, side_itself}
use Rattle.carried_law.proofs.Lines.{comes_keep, chain_stays}
use Rattle.carried_law.proofs.Moving.{new_behind}
use Rattle.carried_law.proofs.Relayed.{IsOf, Held, parcel_of, Follow, IsHeld, PortLine, IsBehind, GoesOn, passed_of, held_later, line_on, line_more, line_gives, extends_then, goes_then, recast, Relays, Carries}
use Rattle.carried_law.proofs.Woven.{TellsPort, each_among, Woven, leads_to, came_woven}

-- a transmitter is given the SDUs at the front of a queue
gives_each : {t : Contents} {h : List Entry} {q : PortName} {now : Option Entity} {queue : List Parcel} (l : PortLine t h q now queue) (entity : Entity)
    (taken rest : List Parcel) (tx : Tx)
    → now ≡ Some entity → queue ≡ taken ++ rest → GivesEach entity.tx taken tx → GoesOn l [] h (Some (record entity { tx = tx })) rest
gives_each l entity [] rest tx is all g = recast l (Some (record entity { tx = tx })) rest (ap (λ (u : Tx). Some (record entity { tx = u })) g ∙ sym is) (sym all)
gives_each {t} {h} {q} l entity (parcel ∷ taken) rest tx is all g =
    let first = recast l (Some entity) (parcel ∷ taken ++ rest) (sym is) (sym all) in
    let second = goes_then l [] h (Some entity) (parcel ∷ taken ++ rest) first h (Some (record entity { tx = g.1 })) (taken ++ rest)
    (line_gives t h q entity parcel (taken ++ rest) g.0 g.1 g.2 first.line) in
    goes_then l [] h (Some (record entity { tx = g.1 })) (taken ++ rest) second h (Some (record entity { tx = tx })) rest
    (gives_each second.line (record entity { tx = g.1 }) taken rest tx refl refl g.3)

gives_all : {t : Contents} {h : List Entry} {q : PortName} {queue : List Parcel} (o now : Option Entity) (l : PortLine t h q o queue) (taken rest : List Parcel)
    → queue ≡ taken ++ rest → GivesAll o taken now → GoesOn l [] h now rest
gives_all None now l taken rest all g = recast l now rest g.1 (sym (all ∙ ap (λ (xs : List Parcel). xs ++ rest) g.0))
gives_all {h = h} (Some entity) now l taken rest all g =
    let each = gives_each l entity taken rest g.0 refl all g.1 in
    goes_then l [] h (Some (record entity { tx = g.0 })) rest each h now rest (recast each.line now rest g.2 refl)

-- the last of a list comes behind the others
pairs_last : (xs : List Held) (x : Held) → Pairwise Follow (xs ++ x ∷ []) → AllByRecursion (λ y. Follow y x) xs
pairs_last [] x pairs = tt
pairs_last (y ∷ ys) x pairs = ((each_right (Follow y) ys (x ∷ []) pairs.0).0, pairs_last ys x pairs.1)

pairs_left : (xs ys : List Held) → Pairwise Follow (xs ++ ys) → Pairwise Follow xs
pairs_left [] ys pairs = tt
pairs_left (x ∷ xs) ys pairs = (each_left (Follow x) xs ys pairs.0, pairs_left xs ys pairs.1)

module _ (laws : SentLaws) (t : Contents) (h : List Entry) (e : Entry) (old new : Chain) (told : Tells h old) (s : Step old e.line e.events e.reply new) (staged : AreForRelay old)
    (tables : old.tables ≡ t) (holds : Holds (logged t h) old) (r : Relays t h (node_at old AtRelay)) where
  abbrev n : Node
  n = node_at old AtRelay

  abbrev g : List Entry
  g = e ∷ h

  abbrev start : Holds (logged t (shown [] ∷ h)) old
  start = begun laws t h e old new told s staged tables holds

  abbrev Putting : (p : PortName) (first : PortSide) → side_at n p ≡ Some first → Option Held → List Parcel → PortSide → Type 0
  Putting p first there was put behind = Ingested laws t h e old new told s staged tables holds p first there [] was first put behind

  -- what an ingress port put
  record PortPut (side : PortSide) (i : Ingress) : Type 0 where
    there : side_at n side.name ≡ Some side
    was : Option Held
    its_slot : (x : Held) → was ≡ Some x → (slot_at n side.name ≡ Some x.parcel) × (x.passed ≡ r.slotted side.name)
    put : Putting side.name side there was i.put i.behind
    keeps : SideGoes (λ q sdu. ⊥) (λ q k. Unit {0}) side i.behind

  -- the SDU in a slot, with its completion
  abbrev held_in : PortName → Option Parcel → Option Held
  held_in p slot = option_map (λ (parcel : Parcel). record { parcel = parcel; passed = r.slotted p }) slot

  its_held : (p : PortName) (slot : Option Parcel) → option_map parcel_of (held_in p slot) ≡ slot
  its_held p None = refl
  its_held p (Some parcel) = refl

  held_is : (p : PortName) (slot : Option Parcel) (x : Held) → held_in p slot ≡ Some x → (slot ≡ Some x.parcel) × (x.passed ≡ r.slotted p)
  held_is p None x is = absurd (none-some x is)
  held_is p (Some parcel) x is =
      let same = same_Some (record { parcel = parcel; passed = r.slotted p }) x is in
      (ap (λ (y : Held). Some y.parcel) same, ap (λ (y : Held). y.passed) (sym same))

  port_puts : (side : PortSide) (i : Ingress) → side_at n side.name ≡ Some side → Ingests old side (inbox old side.name) i.heard i.put i.left i.behind
      → ((ticket : ℕ) → Shows ticket i.heard → HearsTicket e ticket) → PortPut side i
  port_puts side i there ingests within = record {
    there = there;
    was = held_in side.name side.slot;
    its_slot = slot_so;
    put = ingested laws t h e old new told s staged tables holds side.name side there [] {side = side} {behind = i.behind} (record {
      stands = own_place laws.heard.ports old start side side.name (side_at n) refl there (put_own old.nodes AtRelay start.stands);
      fits = side_fits n side.name side (node_fits old start AtRelay) there;
      name = refl;
    }) (each_passes (λ (ticket : ℕ). goes_over side.name (on_air old.air ticket)) old.staged)
        (each_picked (IsForRelay old.air) (λ (ticket : ℕ). goes_over side.name (on_air old.air ticket)) old.staged staged) within
        (held_in side.name side.slot) (its_held side.name side.slot)
        (λ x is. let so = slot_so x is in
        let was = r.in_slot side.name x.parcel so.0 in (
          subst (λ (p : Passed). IsHeld t g x.parcel.route.egress (record { parcel = x.parcel; passed = p })) (sym so.1)
              (held_later t e h x.parcel.route.egress (record { parcel = x.parcel; passed = r.slotted side.name }) was.0),
          was.1,
        ))
        (λ x is. let so = slot_so x is in
        inl (subst (λ (p : Passed). IsOf h p) (sym so.1)
        (passed_of t h x.parcel.route.egress x.parcel.sdu (r.slotted side.name) (r.in_slot side.name x.parcel so.0).0.its)))
        ingests;
    keeps = ingests_go (λ q sdu. ⊥) (λ q k. Unit {0}) old (λ c pdu events reply d x. (comes_keep {May = λ y q sdu. ⊥} {Begins = λ y q k. Unit {0}} laws c pdu events reply d
        (λ z. z)
        (λ z. chain_stays z z refl) x).nodes AtRelay) {side = side} {new = i.behind} (side, there) ingests;
  }
    where
      slot_so : (x : Held) → held_in side.name side.slot ≡ Some x → (slot_at n side.name ≡ Some x.parcel) × (x.passed ≡ r.slotted side.name)
      slot_so x is = let so = held_is side.name side.slot x is in (ap (option_and_then slot_of) there ∙ so.0, so.1)

  -- all that the ports put
  abbrev held_by : (sides : List PortSide) (ingresses : List Ingress) → AllZip PortPut sides ingresses → List Held
  held_by [] is z = []
  held_by (side ∷ sides) [] z = []
  held_by (side ∷ sides) (i ∷ is) z = z.0.put.puts ++ held_by sides is z.1

  -- an SDU that a port put was heard there, and comes behind all that was passed on before
  record IsPut (names : List PortName) (x : Held) : Type 0 where
    its : IsHeld t g x.parcel.route.egress x
    name : IsIn names x.parcel.from
    behind : (q : PortName) → IsBehind (r.line q) x.passed

  one_put : (side : PortSide) (i : Ingress) (z : PortPut side i) (names : List PortName) → IsIn names side.name
      → AllByRecursion (IsPut names) (z.put.puts ++ list_of z.put.last)
  one_put side i z names among = each (z.put.puts ++ list_of z.put.last) z.put.fine z.put.from
    where
      one : (x : Held) → IsHeld t g x.parcel.route.egress x → x.parcel.from ≡ side.name → (z.was ≡ Some x) ⊎ After h [] x.passed → (q : PortName) → IsBehind (r.line q) x.passed
      one x held from (inr after) q = new_behind (r.line q) g x.parcel.route.egress x.parcel.sdu x.passed held.its after.now
      one x held from (inl is) q =
          let so = z.its_slot x is in
          subst (λ (p : Passed). IsBehind (r.line q) p) (sym so.1) (r.behind side.name x.parcel so.0 q)

      each : (xs : List Held) → AllByRecursion (Fine laws t h e old new told s staged tables holds side.name side z.there) xs
          → AllByRecursion (λ x. (z.was ≡ Some x) ⊎ After h [] x.passed) xs → AllByRecursion (IsPut names) xs
      each [] fine from = tt
      each (x ∷ xs) fine from = (
        record { its = fine.0.0; name = subst (IsIn names) (sym fine.0.1) among; behind = one x fine.0.0 fine.0.1 from.0 },
        each xs fine.1 from.1,
      )

  -- names go on
  more_names : (name : PortName) (names : List PortName) (xs : List Held) → AllByRecursion (IsPut names) xs → AllByRecursion (IsPut (name ∷ names)) xs
  more_names name names xs all = each_then (IsPut names) (IsPut (name ∷ names)) (λ x is. record { its = is.its; name = inr is.name; behind = is.behind }) xs all

  all_are_put : (sides : List PortSide) (ingresses : List Ingress) (z : AllZip PortPut sides ingresses) → AllByRecursion (IsPut (map port_of sides)) (held_by sides ingresses z)
  all_are_put [] is z = tt
  all_are_put (side ∷ sides) [] z = tt
  all_are_put (side ∷ sides) (i ∷ is) z = each_append (IsPut (side.name ∷ map port_of sides)) z.0.put.puts (held_by sides is z.1)
      (each_left (IsPut (side.name ∷ map port_of sides)) z.0.put.puts (list_of z.0.put.last) (one_put side i z.0 (side.name ∷ map port_of sides) (inl refl)))
      (more_names side.name (map port_of sides) (held_by sides is z.1) (all_are_put sides is z.1))

  all_its : (sides : List PortSide) (ingresses : List Ingress) (z : AllZip PortPut sides ingresses) → map parcel_of (held_by sides ingresses z) ≡ all_put ingresses
  all_its [] [] z = refl
  all_its [] (i ∷ is) z = absurd z
  all_its (side ∷ sides) [] z = absurd z
  all_its (side ∷ sides) (i ∷ is) z = map-append parcel_of z.0.put.puts (held_by sides is z.1) ∙ ap (λ (xs : List Parcel). xs ++ map parcel_of (held_by sides is z.1)) z.0.put.its
      ∙ ap (λ (xs : List Parcel). i.put ++ xs) (all_its sides is z.1)

  -- what came over one port is apart from what came over another
  other_port : (p : PortName) (names : List PortName) → AllByRecursion (Differ p) names → (x y : Held) → TellsPort x → x.parcel.from ≡ p → IsPut names y → Follow x y
  other_port p names apart x y tells from put same = absurd
      ((each_among (Differ p) names (y.parcel.from ∷ []) apart (put.name, tt)).0 (sym from ∙ sym tells ∙ same ∙ put.its.from))

  own_puts : (side : PortSide) (i : Ingress) (z : PortPut side i) → AllByRecursion (λ (x : Held). TellsPort x × (x.parcel.from ≡ side.name)) (z.put.puts ++ list_of z.put.last)
  own_puts side i z = each_then (Fine laws t h e old new told s staged tables holds side.name side z.there) (λ x. TellsPort x
      × (x.parcel.from ≡ side.name)) (λ x is. (is.0.from, is.1))
      (z.put.puts ++ list_of z.put.last) z.put.fine

  all_pairs : (sides : List PortSide) (ingresses : List Ingress) (z : AllZip PortPut sides ingresses) → Pairwise Differ (map port_of sides)
      → Pairwise Follow (held_by sides ingresses z)
  all_pairs [] is z apart = tt
  all_pairs (side ∷ sides) [] z apart = tt
  all_pairs (side ∷ sides) (i ∷ is) z apart = pairs_append Follow z.0.put.puts (held_by sides is z.1) (pairs_left z.0.put.puts (list_of z.0.put.last) z.0.put.pairs)
      (all_pairs sides is z.1 apart.1)
      (each_to_each (λ (x : Held). TellsPort x × (x.parcel.from ≡ side.name)) (IsPut (map port_of sides)) Follow
      (λ x y own put. other_port side.name (map port_of sides) apart.0 x y own.0 own.1 put) z.0.put.puts (held_by sides is z.1)
      (each_left (λ (x : Held). TellsPort x × (x.parcel.from ≡ side.name)) z.0.put.puts (list_of z.0.put.last) (own_puts side i z.0)) (all_are_put sides is z.1))

  module _ (capacity : ℕ) (put : List Parcel) where
    -- how the port of a name ended
    record FoundPort (q : PortName) (side : PortSide) (all : List Held) (egresses : List Egress) : Type 0 where
      i : Ingress
      egress : Egress
      its : PortPut side i
      found : find (λ (x : PortSide). is_port q x.name) (map behind_egress egresses) ≡ Some egress.behind
      emits : Emits capacity put i.behind egress
      last : (x : Held) → its.put.last ≡ Some x → AllByRecursion (λ y. Follow y x) all

    egress_name : (side : PortSide) (i : Ingress) (x : Egress) → PortPut side i → Emits capacity put i.behind x → x.behind.name ≡ side.name
    egress_name side i x z emits = ap (λ (y : PortSide). y.name) emits.is ∙ z.keeps.name

    last_own : (side : PortSide) (i : Ingress) (z : PortPut side i) (x : Held) → z.put.last ≡ Some x → (TellsPort x × (x.parcel.from ≡ side.name))
        × AllByRecursion (λ y. Follow y x) z.put.puts
    last_own side i z x is = (
      (each_right (λ (x : Held). TellsPort x × (x.parcel.from ≡ side.name)) z.put.puts (x ∷ [])
          (subst (λ (o : Option Held). AllByRecursion (λ (x : Held). TellsPort x × (x.parcel.from ≡ side.name)) (z.put.puts ++ list_of o)) is (own_puts side i z))).0,
      pairs_last z.put.puts x (subst (λ (o : Option Held). Pairwise Follow (z.put.puts ++ list_of o)) is z.put.pairs),
    )

    -- one that came over a port of another name
    apart_back : (p : PortName) (x y : Held) → (p ≡ x.parcel.from → ⊥) → TellsPort x → y.parcel.from ≡ p → TellsPort y → Follow y x
    apart_back p x y ne tells from also same = absurd (ne (sym from ∙ sym also ∙ same ∙ tells))

    found_port : (q : PortName) (sides : List PortSide) (ingresses : List Ingress) (egresses : List Egress) (z : AllZip PortPut sides ingresses)
        → AllZip (Emits capacity put) (map behind_ingress ingresses) egresses → Pairwise Differ (map port_of sides) → (side : PortSide)
        → find (λ (x : PortSide). is_port q x.name) sides ≡ Some side → FoundPort q side (held_by sides ingresses z) egresses
    found_port q [] is es z emit apart side at = absurd (none-some side at)
    found_port q (first ∷ sides) [] es z emit apart side at = absurd z
    found_port q (first ∷ sides) (i ∷ is) [] z emit apart side at = absurd emit
    found_port q (first ∷ sides) (i ∷ is) (x ∷ es) z emit apart side at = elim (cases_Bool (is_port q first.name)) [
      | inl mine ↦
          let same : first ≡ side = same_Some first side (sym (cond-true (is_port q first.name) (Some first) (find (λ (y : PortSide). is_port q y.name) sides) mine) ∙ at) in
          subst (λ (side : PortSide). FoundPort q side (held_by (first ∷ sides) (i ∷ is) z) (x ∷ es)) same (record {
            i = i;
            egress = x;
            its = z.0;
            found = cond-true (is_port q x.behind.name) (Some x.behind) (find (λ (y : PortSide). is_port q y.name) (map behind_egress es))
                (ap (is_port q) (egress_name first i x z.0 emit.0) ∙ mine);
            emits = emit.0;
            last = λ y is_last.
                let own = last_own first i z.0 y is_last in
                each_append (λ w. Follow w y) z.0.put.puts (held_by sides is z.1) own.1
                (each_then (IsPut (map port_of sides)) (λ w. Follow w y) (λ w put same. absurd ((each_among (Differ first.name) (map port_of sides)
                (w.parcel.from ∷ []) apart.0 (put.name, tt)).0
                (sym own.0.1 ∙ sym own.0.0 ∙ sym same ∙ put.its.from))) (held_by sides is z.1) (all_are_put sides is z.1));
          })
      | inr other ↦
          let at_rest : find (λ (y : PortSide). is_port q y.name) sides ≡ Some side
          = sym (cond-false (is_port q first.name) (Some first) (find (λ (y : PortSide). is_port q y.name) sides) other) ∙ at in
          let rest = found_port q sides is es z.1 emit.1 apart.1 side at_rest in
          record {
            i = rest.i;
            egress = rest.egress;
            its = rest.its;
            found = cond-false (is_port q x.behind.name) (Some x.behind) (find (λ (y : PortSide). is_port q y.name) (map behind_egress es))
                (ap (is_port q) (egress_name first i x z.0 emit.0) ∙ other) ∙ rest.found;
            emits = rest.emits;
            last = λ y is_last.
                let own = last_own side rest.i rest.its y is_last in
                let side_is : q ≡ side.name = port_is q side.name (find_passes (λ (w : PortSide). is_port q w.name) sides side at_rest) in
                each_append (λ w. Follow w y) z.0.put.puts (held_by sides is z.1)
                (each_then (λ (w : Held). TellsPort w × (w.parcel.from ≡ first.name)) (λ w. Follow w y)
                (λ w tells. apart_back first.name y w (λ same. true≢false (sym (port_refl q) ∙ ap (is_port q) (side_is ∙ sym own.0.1 ∙ sym same)
                ∙ other)) own.0.0 tells.1 tells.0) z.0.put.puts
                (each_left (λ (w : Held). TellsPort w × (w.parcel.from ≡ first.name)) z.0.put.puts (list_of z.0.put.last) (own_puts first i z.0)))
                (rest.last y is_last);
          }
    ]

    none_found : (q : PortName) (sides : List PortSide) (ingresses : List Ingress) (egresses : List Egress) (z : AllZip PortPut sides ingresses)
        → AllZip (Emits capacity put) (map behind_ingress ingresses) egresses → find (λ (x : PortSide). is_port q x.name) sides ≡ None
        → find (λ (x : PortSide). is_port q x.name) (map behind_egress egresses) ≡ None
    none_found q [] [] [] z emit at = refl
    none_found q [] [] (x ∷ es) z emit at = absurd emit
    none_found q [] (i ∷ is) es z emit at = absurd z
    none_found q (first ∷ sides) [] es z emit at = absurd z
    none_found q (first ∷ sides) (i ∷ is) [] z emit at = absurd emit
    none_found q (first ∷ sides) (i ∷ is) (x ∷ es) z emit at = elim (cases_Bool (is_port q first.name)) [
      | inl mine ↦ absurd (none-some first (sym at ∙ cond-true (is_port q first.name) (Some first) (find (λ (y : PortSide). is_port q y.name) sides) mine))
      | inr other ↦ cond-false (is_port q x.behind.name) (Some x.behind) (find (λ (y : PortSide). is_port q y.name) (map behind_egress es))
          (ap (is_port q) (egress_name first i x z.0 emit.0) ∙ other)
          ∙ none_found q sides is es z.1 emit.1 (sym (cond-false (is_port q first.name) (Some first) (find (λ (y : PortSide). is_port q y.name) sides) other) ∙ at)
    ]

  -- what the ports put comes to the ports to which it leads
  module _ (events : List Event) (reply : Reply) (mid : Chain) (b : Bursts old events reply mid) (within : (ticket : ℕ) → Shows ticket events → HearsTicket e ticket) where
    fits : NodeFits n
    fits = node_fits old start AtRelay

    shown_by : (i : Ingress) (is : List Ingress) (ticket : ℕ) → Shows ticket i.heard → Shows ticket (flat_map told_by (i ∷ is))
    shown_by i is ticket shows = shows_first ticket (told_by i) (flat_map told_by is) (shows_first ticket i.heard (map (λ ticket. Left ticket) i.left) shows)

    zip : (sides : List PortSide) (ingresses : List Ingress) → AllByRecursion (λ (x : PortSide). side_at n x.name ≡ Some x) sides
        → AllZip (λ (side : PortSide) (i : Ingress). Ingests old side (inbox old side.name) i.heard i.put i.left i.behind) sides ingresses
        → ((ticket : ℕ) → Shows ticket (flat_map told_by ingresses) → HearsTicket e ticket) → AllZip PortPut sides ingresses
    zip [] [] all ingest within = tt
    zip [] (i ∷ is) all ingest within = absurd ingest
    zip (side ∷ sides) [] all ingest within = absurd ingest
    zip (side ∷ sides) (i ∷ is) all ingest within = (
      port_puts side i all.0 ingest.0 (λ ticket shows. within ticket (shown_by i is ticket shows)),
      zip sides is all.1 ingest.1 (λ ticket shows. within ticket (shows_second ticket (told_by i) (flat_map told_by is) shows)),
    )

    zipped : AllZip PortPut n.ports b.ingresses
    zipped = zip n.ports b.ingresses (all_found n.ports fits.apart) b.ingest (λ ticket shows. within ticket (subst (Shows ticket) (sym b.shows) shows))

    abbrev all : List Held
    all = held_by n.ports b.ingresses zipped

    abbrev behind_burst : Node
    behind_burst = record n { ports = map behind_egress b.egresses }

    -- how a port ends: with a line that went on, and what is in its slot comes behind all
    record Ends (q : PortName) : Type 0 where
      more : List Held
      among : AllByRecursion (IsIn all) more
      goes : GoesOn (r.line q) more g (entity_at behind_burst q) (queue_at behind_burst q)
      slot : Option Held
      full : option_map parcel_of slot ≡ slot_at behind_burst q
      heard : (x : Held) → slot ≡ Some x → IsHeld t g x.parcel.route.egress x × (x.parcel.from ≡ q) × ((p : PortName) → IsBehind (r.line p) x.passed)
      last : (x : Held) → slot ≡ Some x → AllByRecursion (λ y. Follow y x) all

    port_ends : (q : PortName) (o : Option PortSide) → side_at n q ≡ o → Ends q
    port_ends q None at =
        let none : side_at behind_burst q ≡ None = none_found (queue_capacity old) (all_put b.ingresses) q n.ports b.ingresses b.egresses zipped b.emit at in
        let entity : entity_at behind_burst q ≡ entity_at n q = ap (option_and_then entity_of) none ∙ sym (ap (option_and_then entity_of) at) in
        let first = line_on (r.line q) e (entity_at behind_burst q) (side_itself (entity_at n q) (entity_at behind_burst q) entity) in
        record {
          more = [];
          among = tt;
          goes = goes_then (r.line q) [] g (entity_at behind_burst q) (queue_at n q) first g (entity_at behind_burst q) (queue_at behind_burst q)
              (recast first.line (entity_at behind_burst q) (queue_at behind_burst q) refl
              (ap (λ (x : Option PortSide). unwrap_or (option_map queue_of x) []) none ∙ sym (ap (λ (x : Option PortSide). unwrap_or (option_map queue_of x) []) at)));
          slot = None;
          full = sym (ap (option_and_then slot_of) none);
          heard = λ x is. absurd (none-some x is);
          last = λ x is. absurd (none-some x is);
        }
    port_ends q (Some side) at = record {
      more = w.held;
      among = each_then (IsIn (filter (leads_to q) all)) (IsIn all) (λ x is. (in_picked (leads_to q) all x is).0) w.held w.among;
      goes = ended;
      slot = f.its.put.last;
      full = f.its.put.full ∙ sym (ap (option_and_then slot_of) f.found ∙ ap (λ (x : PortSide). x.slot) f.emits.is);
      heard = λ x is.
          let own = (each_right (IsPut (side.name ∷ [])) f.its.put.puts (x ∷ [])
          (subst (λ (o : Option Held). AllByRecursion (IsPut (side.name ∷ [])) (f.its.put.puts ++ list_of o)) is (one_put side f.i f.its (side.name ∷ []) (inl refl)))).0 in
          (own.its, (last_own (queue_capacity old) (all_put b.ingresses) side f.i f.its x is).0.1 ∙ sym its_name, own.behind);
      last = f.last;
    }
      where
        f : FoundPort (queue_capacity old) (all_put b.ingresses) q side all b.egresses
        f = found_port (queue_capacity old) (all_put b.ingresses) q n.ports b.ingresses b.egresses zipped b.emit fits.apart side at

        its_name : q ≡ side.name
        its_name = side_name n q side at

        w : Woven f.egress.came (filter (leads_to q) all)
        w = came_woven q f.egress.came all (all_pairs n.ports b.ingresses zipped fits.apart)
            (each_then (IsPut (map port_of n.ports)) TellsPort (λ x is. is.its.from) all (all_are_put n.ports b.ingresses zipped))
            (λ port. f.emits.each port
            ∙ ap (λ (name : PortName). filter (λ parcel. is_from port parcel && goes_to name parcel) (all_put b.ingresses)) (f.its.keeps.name ∙ sym its_name)
            ∙ ap (filter (λ parcel. is_from port parcel && goes_to q parcel)) (sym (all_its n.ports b.ingresses zipped)))

        each_both : (xs : List Held) → AllByRecursion (IsPut (map port_of n.ports)) xs → AllByRecursion (λ (x : Held). leads_to q x ≡ true) xs
            → AllByRecursion (λ (x : Held). IsHeld t g q x × IsBehind (r.line q) x.passed) xs
        each_both [] put leads = tt
        each_both (x ∷ xs) put leads = (
          (subst (λ (p : PortName). IsHeld t g p x) (sym (port_is q x.parcel.route.egress leads.0)) put.0.its, put.0.behind q),
          each_both xs put.1 leads.1,
        )

        picked : AllByRecursion (λ (x : Held). IsHeld t g q x × IsBehind (r.line q) x.passed) w.held
        picked = each_among (λ (x : Held). IsHeld t g q x × IsBehind (r.line q) x.passed) (filter (leads_to q) all) w.held
            (each_both (filter (leads_to q) all) (each_picked (IsPut (map port_of n.ports)) (leads_to q) all (all_are_put n.ports b.ingresses zipped)) (each_passes
            (leads_to q) all)) w.among

        first : GoesOn (r.line q) [] g f.i.behind.entity (queue_at n q)
        first = line_on (r.line q) e f.i.behind.entity (subst (λ (o : Option Entity). SideKeeps (λ sdu. ⊥) (λ k. Unit {0}) o f.i.behind.entity)
            (sym (ap (option_and_then entity_of) at)) f.its.keeps.keeps)

        second : GoesOn first.line w.held g f.i.behind.entity (queue_at n q ++ map parcel_of w.held)
        second = line_more first.line w.held (each_then (λ (x : Held). IsHeld t g q x × IsBehind (r.line q) x.passed) (IsHeld t g q) (λ x is. is.0) w.held picked) w.pairs
            (each_then (λ (x : Held). IsHeld t g q x × IsBehind (r.line q) x.passed) (λ x. IsBehind first.line x.passed) (λ x is. first.behind x.passed is.1 tt) w.held picked)

        queue_is : queue_at n q ++ map parcel_of w.held ≡ f.egress.taken ++ f.egress.behind.queue
        queue_is = ap (λ (xs : List Parcel). xs ++ map parcel_of w.held) (ap (λ (x : Option PortSide). unwrap_or (option_map queue_of x) []) at ∙ sym f.its.put.queue)
            ∙ ap (λ (xs : List Parcel). f.i.behind.queue ++ xs) w.its ∙ f.emits.queued

        third : GoesOn second.line [] g f.egress.behind.entity f.egress.behind.queue
        third = gives_all f.i.behind.entity f.egress.behind.entity second.line f.egress.taken f.egress.behind.queue queue_is f.emits.gives

        fourth : GoesOn third.line [] g (entity_at behind_burst q) (queue_at behind_burst q)
        fourth = recast third.line (entity_at behind_burst q) (queue_at behind_burst q) (ap (option_and_then entity_of) f.found)
            (ap (λ (x : Option PortSide). unwrap_or (option_map queue_of x) []) f.found)

        ended : GoesOn (r.line q) w.held g (entity_at behind_burst q) (queue_at behind_burst q)
        ended =
            let taken = goes_then second.line [] g f.egress.behind.entity f.egress.behind.queue third g (entity_at behind_burst q) (queue_at behind_burst q) fourth in
            let found = goes_then first.line w.held g f.i.behind.entity (queue_at n q ++ map parcel_of w.held) second g (entity_at behind_burst q)
            (queue_at behind_burst q) taken in
            record {
              line = found.line;
              extends = λ epoch k. extends_then (first.extends epoch k) (found.extends epoch k);
              behind = λ p is also. found.behind p (first.behind p is tt) also;
            }

    ends_at : (q : PortName) → Ends q
    ends_at q = port_ends q (side_at n q) refl

    slot_held : (q : PortName) (parcel : Parcel) → slot_at behind_burst q ≡ Some parcel → (x : Held) × ((ends_at q).slot ≡ Some x) × (x.parcel ≡ parcel)
    slot_held q parcel at = by (ends_at q).slot refl
      where
        by : (o : Option Held) → (ends_at q).slot ≡ o → (x : Held) × ((ends_at q).slot ≡ Some x) × (x.parcel ≡ parcel)
        by None is = absurd (none-some parcel (ap (option_map parcel_of) (sym is) ∙ (ends_at q).full ∙ at))
        by (Some x) is = (x, is, same_Some x.parcel parcel (ap (option_map parcel_of) (sym is) ∙ (ends_at q).full ∙ at))

    abbrev passed_in : PortName → Option Held → Passed
    passed_in q None = r.slotted q
    passed_in q (Some x) = x.passed

    pub bursts_carry : Carries r g behind_burst
    bursts_carry = record {
      relays = record {
        line = λ q. (ends_at q).goes.line;
        slotted = λ q. passed_in q (ends_at q).slot;
        in_slot = λ i parcel at.
            let x = slot_held i parcel at in
            let so = (ends_at i).heard x.0 x.1 in
            subst (λ (p : Parcel). IsHeld t g p.route.egress (record { parcel = p; passed = passed_in i (ends_at i).slot }) × (p.from ≡ i)) x.2
            (subst (λ (o : Option Held). IsHeld t g x.0.parcel.route.egress (record { parcel = x.0.parcel; passed = passed_in i o })
            × (x.0.parcel.from ≡ i)) (sym x.1) (so.0, so.1));
        behind = λ i parcel at q.
            let x = slot_held i parcel at in
            subst (λ (o : Option Held). IsBehind (ends_at q).goes.line (passed_in i o)) (sym x.1)
            ((ends_at q).goes.behind x.0.passed (((ends_at i).heard x.0 x.1).2 q)
            (each_among (λ y. Follow y x.0) all (ends_at q).more ((ends_at i).last x.0 x.1) (ends_at q).among));
      };
      extends = λ q. (ends_at q).goes.extends;
    }
