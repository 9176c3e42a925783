-- What a step of a node leaves: names, attachments and keys, the open sides but for the entity called, and the rows of other keys.
use Rattle.std.proofs.Common.{◌≡◌, inl, inr, ℕ, ◌==◌, Bool, true, false, cond, List, [], ◌∷◌, fold, map, Option, Some, None, option_and_then, unwrap_or, Result, Ok, Err, refl, sym, ◌∙◌, ap, subst}
use Rattle.std.proofs.lemmas.Option.{none-some}
use Rattle.link_base.specs.declared.discard.Discard.{Discard}
use Rattle.link_base.specs.declared.names.Key.{Key}
use Rattle.link_base.specs.declared.names.PortName.{PortName}
use Rattle.link_base.specs.declared.names.PortName.TheVariants.{Direct, Pc5, Uu}
use Rattle.link_base.specs.declared.names.Side.{Side}
use Rattle.link_base.specs.declared.rlc_words.Tag.{Tag}
use Rattle.bearer_map.specs.Contents.{Contents}
use Rattle.rlc_model.specs.declared.hop.HopHeard.{HopHeard}
use Rattle.rlc_model.specs.declared.hop.HopHeard.TheVariants.{Amd, Status, BadAmd, BadStatus}
use Rattle.rlc_model.specs.declared.receiver.Heard.TheVariants.{Complete, Stored, Repeat, Outside, Conflict}
use Rattle.rlc_model.specs.declared.transmitter.StatusHeard.TheVariants.{Acked, Old, Beyond}
use Rattle.rlc_model.specs.Sides.{Entity}
use Rattle.pdcp_model.specs.Sender.{kept_at, confirms, hears_report}
use Rattle.node_model.specs.declared.answers.NodeHeard.{NodeHeard}
use Rattle.node_model.specs.Ends.{HearsPdcp, data_pdu, report, neither, confirm_tags, confirm_count}
use Rattle.node_model.specs.Feeding.{in_key, out_key}
use Rattle.node_model.specs.Hearing.{Passes, Follows}
use Rattle.node_model.specs.Names.{back, is_key, is_port, replaced}
use Rattle.node_model.specs.Routing.{Target, ToPdcp, Onward}
use Rattle.node_model.specs.State.{PortSide, Outgoing, Incoming, Node, side_at, entity_at, entity_of, outgoing_at, incoming_at, outgoing, incoming, set_side, set_entity, set_outgoing, set_incoming, no_outgoing, no_incoming}
use Rattle.node_model.proofs.Finding.{find_none}
use Rattle.node_model.proofs.Names.{cases_key, cases_port, key_is, port_is}
use Rattle.chain_model.proofs.Lookups.{cases_found, out_own, out_others, in_own, in_others}
use Rattle.chain_law.proofs.Nodes.{port_of, side_set}

-- a node's names, those of its ports among them, attachments and keys stay
pub record NodeSame (old new : Node) : Type 0 where
  pub name : new.name ≡ old.name
  pub ports : map port_of new.ports ≡ map port_of old.ports
  pub attached : new.attached ≡ old.attached
  pub outs : map out_key new.outgoing ≡ map out_key old.outgoing
  pub ins : map in_key new.incoming ≡ map in_key old.incoming

pub same_itself : (n : Node) → NodeSame n n
same_itself n = record { name = refl; ports = refl; attached = refl; outs = refl; ins = refl }

pub same_then : (x y z : Node) → NodeSame x y → NodeSame y z → NodeSame x z
same_then x y z p q = record { name = q.name ∙ p.name; ports = q.ports ∙ p.ports; attached = q.attached ∙ p.attached; outs = q.outs ∙ p.outs; ins = q.ins ∙ p.ins }

-- rows keep their names where one is set in the place of those of its name
names_set : {Row Name : Type 0} (name : Row → Name) (mine : Row → Bool) (now : Row) → ((x : Row) → mine x ≡ true → name now ≡ name x) → (rows : List Row)
    → map name (replaced mine now rows) ≡ map name rows
names_set name mine now is_one [] = refl
names_set {Row} {Name} name mine now is_one (x ∷ xs) = ap (λ (names : List Name). name (cond (mine x) now x) ∷ names) (names_set name mine now is_one xs)
    ∙ ap (λ (own : Name). own ∷ map name xs) (by (mine x) refl)
  where
    by : (b : Bool) → mine x ≡ b → name (cond b now x) ≡ name x
    by true is = is_one x is
    by false is = refl

pub same_out : (n : Node) (o : Outgoing) → NodeSame n (set_outgoing n o)
same_out n o = record { name = refl; ports = refl; attached = refl; outs = names_set out_key (λ (x : Outgoing). is_key o.key x.key) o (λ x is. key_is o.key x.key is) n.outgoing; ins = refl }

pub same_in : (n : Node) (i : Incoming) → NodeSame n (set_incoming n i)
same_in n i = record { name = refl; ports = refl; attached = refl; outs = refl; ins = names_set in_key (λ (x : Incoming). is_key i.key x.key) i (λ x is. key_is i.key x.key is) n.incoming }

pub same_side : (n : Node) (s : PortSide) → NodeSame n (set_side n s)
same_side n s = record { name = refl; ports = names_set port_of (λ (x : PortSide). is_port s.name x.name) s (λ x is. port_is s.name x.name is) n.ports; attached = refl; outs = refl; ins = refl }

pub same_entity : (n : Node) (s : PortSide) (e : Entity) → NodeSame n (set_entity n s e)
same_entity n s e = same_side n (record s { entity = Some e })

-- the entity of an open side of a port, once it is set
pub entity_set : (n : Node) (port : PortName) (side : PortSide) (e : Entity) → side_at n port ≡ Some side → entity_at (set_entity n side e) port ≡ Some e
entity_set n port side e here = ap (option_and_then entity_of) (side_set n port side (record side { entity = Some e }) here refl).here

pub entity_other : (n : Node) (port q : PortName) (side : PortSide) (e : Entity) → side_at n port ≡ Some side → (q ≡ port → ⊥) → entity_at (set_entity n side e) q ≡ entity_at n q
entity_other n port q side e here ne = ap (option_and_then entity_of) ((side_set n port side (record side { entity = Some e }) here refl).others q ne)

-- a row that is set with the same receiving side
pub in_same : (n : Node) (of : Key) (j : Incoming) → j.key ≡ of → j.receiver ≡ (incoming n of).receiver → (k : Key)
    → (incoming (set_incoming n j) k).receiver ≡ (incoming n k).receiver
in_same n of j its same k = elim (cases_key j.key k) [
  | inr ne ↦ ap (λ (o : Option Incoming). (unwrap_or o (no_incoming k)).receiver) (in_others n j k ne)
  | inl is ↦ elim (cases_found (incoming_at n j.key)) [
    | inl there ↦
        let found : incoming_at n k ≡ Some there.0 = ap (incoming_at n) (sym is) ∙ there.1 in
        ap (λ (o : Option Incoming). (unwrap_or o (no_incoming k)).receiver) (in_own n j there.0 k is found) ∙ same ∙ ap (λ (x : Key). (incoming n x).receiver) (sym its ∙ is)
    | inr none ↦ ap (λ (rows : List Incoming). (incoming (record n { incoming = rows }) k).receiver) (find_none (λ (x : Incoming). is_key j.key x.key) j n.incoming none)
  ]
]

-- a row that is set for a sender that is there
pub out_set : (n : Node) (o old : Outgoing) (k : Key) → o.key ≡ k → outgoing_at n k ≡ Some old → outgoing (set_outgoing n o) k ≡ o
out_set n o old k its found = ap (λ (x : Option Outgoing). unwrap_or x (no_outgoing k)) (out_own n o old k its found)

pub out_kept : (n : Node) (o : Outgoing) (k : Key) → (o.key ≡ k → ⊥) → outgoing (set_outgoing n o) k ≡ outgoing n k
out_kept n o k ne = ap (λ (x : Option Outgoing). unwrap_or x (no_outgoing k)) (out_others n o k ne)

-- a sender that keeps something is there
pub out_there : (n : Node) (k : Key) (m : ℕ) (sdu : List ℕ) → kept_at (outgoing n k).sender m ≡ Some sdu → (o : Outgoing) × (outgoing_at n k ≡ Some o)
out_there n k m sdu is = elim (cases_found (outgoing_at n k)) [
  | inl there ↦ there
  | inr none ↦ absurd (none-some sdu (sym (ap (λ (o : Option Outgoing). kept_at (unwrap_or o (no_outgoing k)).sender m) none) ∙ is))
]

abbrev pub confirm_each : Node → List Tag → Node
confirm_each n tags = fold (λ node (tag : Tag). confirm_count node tag.key tag.count) n tags

-- what a node that confirms tags leaves
record TagsStand (old new : Node) : Type 0 where
  pub same : NodeSame old new
  pub entities : (q : PortName) → entity_at new q ≡ entity_at old q

count_stands : (n : Node) (key : Key) (count : Option ℕ) → TagsStand n (confirm_count n key count)
count_stands n key None = record { same = same_itself n; entities = λ q. refl }
count_stands n key (Some count) = record {
  same = same_out n
      (record (outgoing n key) { sender = confirms (outgoing n key).sender (λ other. other == count) });
  entities = λ q. refl;
}

each_stands : (tags : List Tag) (n : Node) → TagsStand n (confirm_each n tags)
each_stands [] n = record { same = same_itself n; entities = λ q. refl }
each_stands (tag ∷ tags) n =
    let mid = confirm_count n tag.key tag.count in
    let p = count_stands n tag.key tag.count in
    let q = each_stands tags mid in
    record { same = same_then n mid (confirm_each mid tags) p.same q.same; entities = λ x. q.entities x ∙ p.entities x }

tags_stand : (n : Node) (port : PortName) (tags : List Tag) → TagsStand n (confirm_tags n port tags)
tags_stand n (Direct remote drb) tags = each_stands tags n
tags_stand n (Pc5 remote chan) tags = record { same = same_itself n; entities = λ q. refl }
tags_stand n (Uu chan) tags = record { same = same_itself n; entities = λ q. refl }

module _ (t : Contents) (n1 : Node) (port : PortName) (here : PortSide) (shown : side_at n1 port ≡ Some here) where
  -- names, attachments, keys and open sides stay
  pub record Stands (new : Node) : Type 0 where
    pub same : NodeSame n1 new
    pub entities : (q : PortName) → entity_at new q ≡ entity_at n1 q

  nowhere : (new : Node) → new ≡ n1 → Stands new
  nowhere new is = subst Stands (sym is) (record { same = same_itself n1; entities = λ q. refl })

  hears_stand : (key : Key) (body : List ℕ) (answer : NodeHeard) (new : Node) → HearsPdcp n1 key body answer new → Stands new
  hears_stand key body answer new (data_pdu sn sdu reads h) = subst Stands (sym h.is)
      (record { same = same_in n1 (record (incoming n1 key) { receiver = h.receiver }); entities = λ q. refl })
  hears_stand key body answer new (report fmc bits reads (inl (within, says, is))) =
      subst Stands (sym is) (record {
        same = same_out n1
            (record (outgoing n1 (back key)) { sender = hears_report (outgoing n1 (back key)).sender fmc bits });
        entities = λ q. refl;
      })
  hears_stand key body answer new (report fmc bits reads (inr (beyond, says, is))) = nowhere new is
  hears_stand key body answer new (neither fault is says same) = nowhere new same

  passes_stand : (sdu : List ℕ) (target : Result Target Discard) (answer : NodeHeard) (new : Node) → Passes n1 here sdu target answer new → Stands new
  passes_stand sdu (Ok (ToPdcp key body)) answer new p = hears_stand key body answer new p
  passes_stand sdu (Ok (Onward route)) answer new p = subst Stands (sym p.1) (record {
    same = same_side n1 (record here { slot = Some (record { from = here.name; route = route; sdu = sdu }) });
    entities = λ q.
        let now = record here { slot = Some (record { from = here.name; route = route; sdu = sdu }) } in
        let sets = side_set n1 port here now shown refl in
        elim (cases_port q port) [
          | inl is ↦ ap (entity_at (set_side n1 now)) is ∙ ap (option_and_then entity_of) sets.here ∙ sym (ap (option_and_then entity_of) shown) ∙ ap (entity_at n1) (sym is)
          | inr ne ↦ ap (option_and_then entity_of) (sets.others q ne)
        ];
  })
  passes_stand sdu (Err discard) answer new p = nowhere new p.1

  pub follows_stand : (at : Side) (hop : HopHeard) (answer : NodeHeard) (new : Node) → Follows t n1 at here hop answer new → Stands new
  follows_stand at (Amd (Complete number whole)) answer new (target, leads, passes) = passes_stand whole target answer new passes
  follows_stand at (Status (Acked tags marks)) answer new (says, is) = subst Stands (sym is)
      (record { same = (tags_stand n1 here.name tags).same; entities = (tags_stand n1 here.name tags).entities })
  follows_stand at (Amd Stored) answer new (says, is) = nowhere new is
  follows_stand at (Amd Repeat) answer new (says, is) = nowhere new is
  follows_stand at (Amd Outside) answer new (says, is) = nowhere new is
  follows_stand at (Amd Conflict) answer new (says, is) = nowhere new is
  follows_stand at (Status (Old ack next)) answer new (says, is) = nowhere new is
  follows_stand at (Status (Beyond ack top)) answer new (says, is) = nowhere new is
  follows_stand at (BadAmd fault) answer new (says, is) = nowhere new is
  follows_stand at (BadStatus fault) answer new (says, is) = nowhere new is
