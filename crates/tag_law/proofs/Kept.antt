-- A node whose direct ports keep what its senders have given and nobody has confirmed, and what its steps leave of that.
use Rattle.std.proofs.Common.{◌≡◌, ◌⊎◌, inl, inr, ℕ, ◌+◌, ◌<◌, ◌≤◌, ◌==◌, false, List, [], ◌∷◌, length, fold, Option, Some, None, unwrap_or, option_and_then, Result, Ok}
use Rattle.std.proofs.Common.{Err, refl, sym, ◌∙◌, ap, subst}
use Rattle.std.proofs.lemmas.Bool.{eq-eqb}
use Rattle.std.proofs.lemmas.Option.{none-some, same_Some}
use Rattle.link_base.specs.declared.names.Drb.{Drb}
use Rattle.link_base.specs.declared.names.Key.{Key}
use Rattle.link_base.specs.declared.names.PortName.{PortName}
use Rattle.link_base.specs.declared.names.PortName.TheVariants.{Direct, Pc5, Uu}
use Rattle.link_base.specs.declared.names.Remote.{Remote}
use Rattle.link_base.specs.declared.names.Side.{Side}
use Rattle.link_base.specs.declared.names.Timer.{Timer}
use Rattle.link_base.specs.declared.discard.Discard.{Discard}
use Rattle.link_base.specs.declared.rlc_words.Expired.{Expired}
use Rattle.link_base.specs.declared.rlc_words.Tag.{Tag}
use Rattle.bearer_map.specs.Contents.{Contents}
use Rattle.pdcp_model.specs.Sender.{Sender, accepts, confirms, hears_report, kept_at}
use Rattle.rlc_model.specs.declared.hop.HopGrant.{HopGrant}
use Rattle.rlc_model.specs.declared.hop.HopHeard.{HopHeard}
use Rattle.rlc_model.specs.declared.hop.HopHeard.TheVariants as hop
use Rattle.rlc_model.specs.declared.hop.Pdu.{Pdu}
use Rattle.rlc_model.specs.declared.receiver.Heard.TheVariants as receiving
use Rattle.rlc_model.specs.declared.transmitter.StatusHeard.TheVariants as sending
use Rattle.rlc_model.specs.Sides.{Entity}
use Rattle.rlc_model.specs.Tx.{Tx}
use Rattle.node_model.specs.declared.answers.NodeHeard.{NodeHeard}
use Rattle.node_model.specs.Ends.{HearsPdcp, data_pdu, report, neither, confirm_count, confirm_tags}
use Rattle.node_model.specs.Hearing.{Follows, HearsPdu, HearsUnless, Passes, hear_refusal}
use Rattle.node_model.specs.Names.{back, is_key}
use Rattle.node_model.specs.Routing.{Target, ToPdcp, Onward}
use Rattle.node_model.specs.Sides.{IsOpen, GrantsSide, ExpiresSide}
use Rattle.node_model.specs.State.{Incoming, Outgoing, PortSide, Node, entity_of, side_at, entity_at, no_outgoing, outgoing, outgoing_at, set_entity, set_incoming, set_outgoing}
use Rattle.node_model.proofs.Finding.{find_none}
use Rattle.node_model.proofs.Names.{cases_key, cases_port}
use Rattle.chain_model.proofs.Lookups.{cases_found, outgoing_key}
use Rattle.chain_law.proofs.Members.{IsIn}
use Rattle.chain_law.proofs.Nodes.{side_name, side_set}
use Rattle.chain_law.proofs.Leaving.{Stands, entity_other, entity_set, follows_stand, out_kept, out_set}
use Rattle.heard_law.specs.Telling.{of_remote}
use Rattle.book_law.proofs.Senders.{confirms_forgets}
use Rattle.tag_law.specs.Laws.{KeepsCount}
use Rattle.tag_law.proofs.Calls.{StillKeeps, TellsGone, told_by, granting_still, expiry_still, hearing_tells}
use Rattle.tag_law.proofs.Nodes.{CallLaws}
use Rattle.tag_law.proofs.Senders.{SenderFrom, accepted, confirmed_from, from_then, gone, reported, sender_same}

-- a remote whose direct ports are open at the node isn't attached there; a sender's place is no further than its SDUs go; and where a sender doesn't
-- wait, the open direct port of its bearer keeps each SDU that the sender keeps below its place
pub record NodeKept (n : Node) : Type 0 where
  pub direct : (remote : Remote) (drb : Drb) (e : Entity) → entity_at n (Direct remote drb) ≡ Some e → of_remote remote n.attached ≡ []
  pub places : (key : Key) → (outgoing n key).sender.place ≤ length (outgoing n key).sender.kept
  pub kept : (key : Key) (e : Entity) → entity_at n (Direct key.remote key.drb) ≡ Some e → (outgoing n key).sender.waits ≡ false → (i : ℕ) (sdu : List ℕ)
      → i < (outgoing n key).sender.place → kept_at (outgoing n key).sender i ≡ Some sdu → KeepsCount e.tx key ((outgoing n key).sender.first + i)

-- a COUNT of a key that is kept is kept behind a call that keeps all
pub count_still : (old new : Tx) (key : Key) (count : ℕ) → StillKeeps old new → KeepsCount old key count → KeepsCount new key count
count_still old new key count still has =
    let now = still has.number has.sdu has.here in
    record {
      number = has.number;
      sdu = now.0;
      here = now.1;
      key = ap (λ (t : Tag). t.key) now.2 ∙ has.key;
      count = ap (λ (t : Tag). t.count) now.2 ∙ has.count;
    }

-- an open direct side of the new node was one of the old node, and keeps each COUNT that it kept and that the new node's sender keeps
abbrev pub SideFrom : Node → Entity → Entity → Type 0
SideFrom new was e = (key : Key) (i : ℕ) (sdu : List ℕ) → kept_at (outgoing new key).sender i ≡ Some sdu
    → KeepsCount was.tx key ((outgoing new key).sender.first + i) → KeepsCount e.tx key ((outgoing new key).sender.first + i)

-- a node whose senders and open direct sides come from those of one that kept so
pub record NodeFrom (old new : Node) : Type 0 where
  pub attached : (remote : Remote) → of_remote remote new.attached ≡ of_remote remote old.attached
  pub senders : (key : Key) → SenderFrom (outgoing old key).sender (outgoing new key).sender
  pub sides : (remote : Remote) (drb : Drb) (e : Entity) → entity_at new (Direct remote drb) ≡ Some e
      → (was : Entity) × (entity_at old (Direct remote drb) ≡ Some was) × SideFrom new was e

pub kept_from : (old new : Node) → NodeFrom old new → NodeKept old → NodeKept new
kept_from old new from has = record {
  direct = λ remote drb e is. let was = from.sides remote drb e is in from.attached remote ∙ has.direct remote drb was.0 was.1;
  places = λ key. (from.senders key).place (has.places key);
  kept = λ key e is idle i sdu low here.
      let was = from.sides key.remote key.drb e is in
      let sender = from.senders key in
      let before = sender.from (has.places key) idle i sdu low here in
      was.2 key i sdu here
      (subst (λ (first : ℕ). KeepsCount was.0.tx key (first + i)) (sym sender.first) (has.kept key was.0 was.1 before.0 i sdu before.1 before.2));
}

-- a node with the same open sides and attachments
pub alike : (old new : Node) → ((remote : Remote) → of_remote remote new.attached ≡ of_remote remote old.attached) → ((q : PortName) → entity_at new q ≡ entity_at old q)
    → ((key : Key) → SenderFrom (outgoing old key).sender (outgoing new key).sender) → NodeKept old → NodeKept new
alike old new attached entities senders = kept_from old new (record {
  attached = attached;
  senders = senders;
  sides = λ remote drb e is. (e, sym (entities (Direct remote drb)) ∙ is, λ key i sdu here has. has);
})

-- a sender that is set is what it was made, or there is none and nothing is set
pub sets_sender : (n : Node) (key : Key) (f : Sender → Sender) (k : Key)
    → ((key ≡ k) × ((outgoing (set_outgoing n (record (outgoing n key) { sender = f (outgoing n key).sender })) k).sender ≡ f (outgoing n k).sender))
    ⊎ ((outgoing (set_outgoing n (record (outgoing n key) { sender = f (outgoing n key).sender })) k).sender ≡ (outgoing n k).sender)
    × (key ≡ k → outgoing_at n k ≡ None)
sets_sender n key f k = elim (cases_key key k) [
  | inr ne ↦ inr (ap (λ (o : Outgoing). o.sender) (out_kept n now k (λ same. ne (sym (outgoing_key n key) ∙ same))), λ same. absurd (ne same))
  | inl same ↦ elim (cases_found (outgoing_at n k)) [
    | inl there ↦ inl (
      same,
      ap (λ (o : Outgoing). o.sender) (out_set n now there.0 k (outgoing_key n key ∙ same) there.1) ∙ ap (λ (x : Key). f (outgoing n x).sender) same,
    )
    | inr none ↦ inr (
      ap (λ (rows : List Outgoing). (outgoing (record n { outgoing = rows }) k).sender) (find_none (λ (x : Outgoing). is_key now.key x.key) now n.outgoing
          (ap (outgoing_at n) (outgoing_key n key ∙ same) ∙ none)),
      λ same. none,
    )
  ]
]
  where
    now : Outgoing
    now = record (outgoing n key) { sender = f (outgoing n key).sender }

pub sender_set : (n : Node) (key : Key) (f : Sender → Sender) → ((s : Sender) → SenderFrom s (f s)) → (k : Key)
    → SenderFrom (outgoing n k).sender (outgoing (set_outgoing n (record (outgoing n key) { sender = f (outgoing n key).sender })) k).sender
sender_set n key f goes k = elim (sets_sender n key f k) [
  | inl own ↦ subst (SenderFrom (outgoing n k).sender) (sym own.1) (goes (outgoing n k).sender)
  | inr other ↦ sender_same (outgoing n k).sender _ other.0
]

-- an SDU is accepted
pub submitted_kept : (n : Node) (key : Key) (sdu : List ℕ) → NodeKept n → NodeKept (set_outgoing n (record (outgoing n key) { sender = accepts (outgoing n key).sender sdu }))
submitted_kept n key sdu = alike n _ (λ remote. refl) (λ q. refl) (sender_set n key (λ (s : Sender). accepts s sdu) (λ s. accepted s sdu))

-- a receiving end is set
pub received_kept : (n : Node) (i : Incoming) → NodeKept n → NodeKept (set_incoming n i)
received_kept n i = alike n (set_incoming n i) (λ remote. refl) (λ q. refl) (λ key. sender_same _ _ refl)

-- an open side whose entity changes
module _ (old : Node) (port : PortName) (side : PortSide) (entity now : Entity) (its : IsOpen old port side entity) where
  pub side_from : (q : PortName) (e : Entity) → entity_at (set_entity old side now) q ≡ Some e → ((q ≡ port) × (now ≡ e) × (entity_at old q ≡ Some entity)) ⊎ ((q ≡ port
      → ⊥) × (entity_at old q ≡ Some e))
  side_from q e is = elim (cases_port q port) [
    | inr ne ↦ inr (ne, sym (entity_other old port q side now its.here ne) ∙ is)
    | inl same ↦ inl (
      same,
      same_Some now e (sym (ap (entity_at (set_entity old side now)) same ∙ entity_set old port side now its.here) ∙ is),
      ap (entity_at old) same ∙ ap (option_and_then entity_of) its.here ∙ its.is_open,
    )
  ]

  pub called_kept : StillKeeps entity.tx now.tx → NodeKept old → NodeKept (set_entity old side now)
  called_kept still = kept_from old (set_entity old side now) (record {
    attached = λ remote. refl;
    senders = λ key. sender_same _ _ refl;
    sides = λ remote drb e is. elim (side_from (Direct remote drb) e is) [
      | inr other ↦ (e, other.1, λ key i sdu here has. has)
      | inl own ↦ (
        entity,
        own.2,
        λ key i sdu here has. count_still entity.tx e.tx key _ (subst (λ (x : Entity). StillKeeps entity.tx x.tx) own.1 still) has,
      )
    ];
  })

pub granted_kept : (old : Node) (port : PortName) (octets epoch : ℕ) (answer : HopGrant) (new : Node) → GrantsSide old port octets epoch answer new → NodeKept old → NodeKept new
granted_kept old port octets epoch answer new g has = subst NodeKept (sym g.is)
    (called_kept old port g.side g.entity (record g.entity { tx = g.tx; rx = g.rx }) g.its (granting_still g.entity.tx g.entity.rx octets answer g.tx g.rx g.grants) has)

pub expired_kept : (old : Node) (port : PortName) (timer : Timer) (expired : Expired) (new : Node) → ExpiresSide old port timer expired new → NodeKept old → NodeKept new
expired_kept old port timer expired new x has = subst NodeKept (sym x.is)
    (called_kept old port x.side x.entity (record x.entity { tx = x.tx; rx = x.rx }) x.its (expiry_still x.entity.tx x.entity.rx timer expired x.tx x.rx x.expires) has)

---- hearing

abbrev confirm_each : Node → List Tag → Node
confirm_each n tags = fold (λ node (tag : Tag). confirm_count node tag.key tag.count) n tags

-- confirming keeps what is kept below places
count_from : (n : Node) (key : Key) (count : Option ℕ) (k : Key) → SenderFrom (outgoing n k).sender (outgoing (confirm_count n key count) k).sender
count_from n key None k = sender_same _ _ refl
count_from n key (Some count) k = sender_set n key (λ (s : Sender). confirms s (λ other. other == count)) (λ s. confirmed_from s (λ other. other == count)) k

each_from : (tags : List Tag) (n : Node) (k : Key) → SenderFrom (outgoing n k).sender (outgoing (confirm_each n tags) k).sender
each_from [] n k = sender_same _ _ refl
each_from (tag ∷ tags) n k =
    let mid = confirm_count n tag.key tag.count in
    from_then _ (outgoing mid k).sender _ (count_from n tag.key tag.count k) (each_from tags mid k)

tags_from : (n : Node) (port : PortName) (tags : List Tag) (k : Key) → SenderFrom (outgoing n k).sender (outgoing (confirm_tags n port tags) k).sender
tags_from n (Direct remote drb) tags k = each_from tags n k
tags_from n (Pc5 remote chan) tags k = sender_same _ _ refl
tags_from n (Uu chan) tags k = sender_same _ _ refl

-- a sender that keeps no more than another, of the same first COUNT
record Fewer (old new : Sender) : Type 0 where
  pub first : new.first ≡ old.first
  pub each : (i : ℕ) (sdu : List ℕ) → kept_at new i ≡ Some sdu → kept_at old i ≡ Some sdu

fewer_same : (old new : Sender) → new ≡ old → Fewer old new
fewer_same old new same = subst (Fewer old) (sym same) (record { first = refl; each = λ i sdu here. here })

count_fewer : (n : Node) (key : Key) (count : Option ℕ) (k : Key) → Fewer (outgoing n k).sender (outgoing (confirm_count n key count) k).sender
count_fewer n key None k = fewer_same _ _ refl
count_fewer n key (Some count) k = elim (sets_sender n key (λ (s : Sender). confirms s (λ other. other == count)) k) [
  | inr other ↦ fewer_same _ _ other.0
  | inl own ↦
      let f = confirms_forgets (outgoing n k).sender (λ other. other == count) in
      subst (Fewer (outgoing n k).sender) (sym own.1) (record { first = f.first; each = f.each })
]

each_fewer : (tags : List Tag) (n : Node) (k : Key) → Fewer (outgoing n k).sender (outgoing (confirm_each n tags) k).sender
each_fewer [] n k = fewer_same _ _ refl
each_fewer (tag ∷ tags) n k =
    let mid = confirm_count n tag.key tag.count in
    let first = count_fewer n tag.key tag.count k in
    let rest = each_fewer tags mid k in
    record { first = rest.first ∙ first.first; each = λ i sdu here. first.each i sdu (rest.each i sdu here) }

-- a COUNT whose tag is confirmed isn't kept by its sender
count_gone : (n : Node) (key : Key) (count : Option ℕ) (k : Key) (i : ℕ) (sdu : List ℕ) → key ≡ k → count ≡ Some ((outgoing n k).sender.first + i)
    → kept_at (outgoing (confirm_count n key count) k).sender i ≡ Some sdu → ⊥
count_gone n key None k i sdu same is here = none-some _ is
count_gone n key (Some count) k i sdu same is here = elim (sets_sender n key (λ (s : Sender). confirms s (λ other. other == count)) k) [
  | inr other ↦ none-some sdu (sym (ap (λ (o : Option Outgoing). kept_at (unwrap_or o (no_outgoing k)).sender i) (other.1 same))
      ∙ ap (λ (s : Sender). kept_at s i) (sym other.0) ∙ here)
  | inl own ↦
      let s = (outgoing n k).sender in
      none-some sdu (sym (gone (λ other. other == count) s.first s.kept i (eq-eqb (s.first + i) count (sym (same_Some count (s.first + i) is))))
      ∙ ap (λ (s : Sender). kept_at s i) (sym own.1) ∙ here)
]

each_gone : (tags : List Tag) (n : Node) (k : Key) (tag : Tag) (i : ℕ) (sdu : List ℕ) → IsIn tags tag → tag.key ≡ k → tag.count ≡ Some ((outgoing n k).sender.first + i)
    → kept_at (outgoing (confirm_each n tags) k).sender i ≡ Some sdu → ⊥
each_gone [] n k tag i sdu among key count here = among
each_gone (x ∷ tags) n k tag i sdu (inl same) key count here =
    let mid = confirm_count n x.key x.count in
    count_gone n x.key x.count k i sdu (ap (λ (t : Tag). t.key) same ∙ key) (ap (λ (t : Tag). t.count) same ∙ count) ((each_fewer tags mid k).each i sdu here)
each_gone (x ∷ tags) n k tag i sdu (inr among) key count here =
    let mid = confirm_count n x.key x.count in
    each_gone tags mid k tag i sdu among key (count ∙ ap (λ (first : ℕ). Some (first + i)) (sym (count_fewer n x.key x.count k).first)) here

-- whatever follows from an answer, each sender comes from what it was
pdcp_from : (n : Node) (key : Key) (body : List ℕ) (answer : NodeHeard) (new : Node) → HearsPdcp n key body answer new → (k : Key)
    → SenderFrom (outgoing n k).sender (outgoing new k).sender
pdcp_from n key body answer new (data_pdu sn sdu reads h) k = sender_same _ _ (ap (λ (m : Node). (outgoing m k).sender) h.is)
pdcp_from n key body answer new (report fmc bits reads (inl (within, says, is))) k = subst (λ (m : Node). SenderFrom (outgoing n k).sender (outgoing m k).sender) (sym is)
    (sender_set n (back key) (λ (s : Sender). hears_report s fmc bits) (λ s. reported s fmc bits) k)
pdcp_from n key body answer new (report fmc bits reads (inr (beyond, says, is))) k = sender_same _ _ (ap (λ (m : Node). (outgoing m k).sender) is)
pdcp_from n key body answer new (neither fault is says same) k = sender_same _ _ (ap (λ (m : Node). (outgoing m k).sender) same)

passes_from : (n : Node) (here : PortSide) (sdu : List ℕ) (target : Result Target Discard) (answer : NodeHeard) (new : Node)
    → Passes n here sdu target answer new → (k : Key) → SenderFrom (outgoing n k).sender (outgoing new k).sender
passes_from n here sdu (Ok (ToPdcp key body)) answer new p k = pdcp_from n key body answer new p k
passes_from n here sdu (Ok (Onward route)) answer new p k = sender_same _ _ (ap (λ (m : Node). (outgoing m k).sender) p.1)
passes_from n here sdu (Err discard) answer new p k = sender_same _ _ (ap (λ (m : Node). (outgoing m k).sender) p.1)

module _ (t : Contents) (n : Node) (at : Side) (here : PortSide) where
  follows_from : (hop : HopHeard) (answer : NodeHeard) (new : Node) → Follows t n at here hop answer new → (k : Key) → SenderFrom (outgoing n k).sender (outgoing new k).sender
  follows_from (hop.Amd (receiving.Complete number whole)) answer new (target, leads, passes) k = passes_from n here whole target answer new passes k
  follows_from (hop.Status (sending.Acked tags marks)) answer new (says, is) k = subst (λ (m : Node). SenderFrom (outgoing n k).sender (outgoing m k).sender) (sym is)
      (tags_from n here.name tags k)
  follows_from (hop.Amd receiving.Stored) answer new (says, is) k = sender_same _ _ (ap (λ (m : Node). (outgoing m k).sender) is)
  follows_from (hop.Amd receiving.Repeat) answer new (says, is) k = sender_same _ _ (ap (λ (m : Node). (outgoing m k).sender) is)
  follows_from (hop.Amd receiving.Outside) answer new (says, is) k = sender_same _ _ (ap (λ (m : Node). (outgoing m k).sender) is)
  follows_from (hop.Amd receiving.Conflict) answer new (says, is) k = sender_same _ _ (ap (λ (m : Node). (outgoing m k).sender) is)
  follows_from (hop.Status (sending.Old ack next)) answer new (says, is) k = sender_same _ _ (ap (λ (m : Node). (outgoing m k).sender) is)
  follows_from (hop.Status (sending.Beyond ack top)) answer new (says, is) k = sender_same _ _ (ap (λ (m : Node). (outgoing m k).sender) is)
  follows_from (hop.BadAmd fault) answer new (says, is) k = sender_same _ _ (ap (λ (m : Node). (outgoing m k).sender) is)
  follows_from (hop.BadStatus fault) answer new (says, is) k = sender_same _ _ (ap (λ (m : Node). (outgoing m k).sender) is)

  -- at a direct port what was told isn't kept by its sender
  told_gone : (remote : Remote) (drb : Drb) → here.name ≡ Direct remote drb → (hop : HopHeard) (answer : NodeHeard) (new : Node) → Follows t n at here hop answer new
      → (k : Key) (tag : Tag) (i : ℕ) (sdu : List ℕ) → IsIn (told_by hop) tag → tag.key ≡ k → tag.count ≡ Some ((outgoing n k).sender.first + i)
      → kept_at (outgoing new k).sender i ≡ Some sdu → ⊥
  told_gone remote drb direct (hop.Status (sending.Acked tags marks)) answer new (says, is) k tag i sdu among key count kept = each_gone tags n k tag i sdu among key count
      (ap (λ (m : Node). kept_at (outgoing m k).sender i) (sym (is ∙ ap (λ (p : PortName). confirm_tags n p tags) direct)) ∙ kept)
  told_gone remote drb direct (hop.Amd heard) answer new f k tag i sdu among key count kept = among
  told_gone remote drb direct (hop.Status (sending.Old ack next)) answer new f k tag i sdu among key count kept = among
  told_gone remote drb direct (hop.Status (sending.Beyond ack top)) answer new f k tag i sdu among key count kept = among
  told_gone remote drb direct (hop.BadAmd fault) answer new f k tag i sdu among key count kept = among
  told_gone remote drb direct (hop.BadStatus fault) answer new f k tag i sdu among key count kept = among

pub heard_kept : CallLaws → (t : Contents) (old : Node) (at : Side) (pdu : Pdu) (answer : NodeHeard) (new : Node) → HearsPdu t old at pdu answer new → NodeKept old → NodeKept new
heard_kept laws t old at pdu answer new hears has = by (hear_refusal pdu (side_at old pdu.port)) hears
  where
    by : (refusal : Option NodeHeard) → HearsUnless refusal t old at pdu answer new → NodeKept new
    by (Some refusal) h = subst NodeKept (sym h.1) has
    by None h = kept_from old new (record {
      attached = λ remote. ap (of_remote remote) s.same.attached;
      senders = senders;
      sides = λ remote drb e is. elim (side_from old pdu.port h.side h.entity h.behind h.its (Direct remote drb) e (sym (s.entities (Direct remote drb)) ∙ is)) [
        | inr other ↦ (e, other.1, λ key i sdu here had. had)
        | inl own ↦ (
          h.entity,
          own.2,
          λ key i sdu here had. still remote drb (sym (side_name old pdu.port h.side h.its.here) ∙ sym own.0) e own.1 key i sdu here had,
        )
      ];
    }) has
      where
        now : PortSide
        now = record h.side { entity = Some h.behind }

        mid : Node
        mid = set_entity old h.side h.behind

        s : Stands t mid pdu.port now (side_set old pdu.port h.side now h.its.here refl).here new
        s = follows_stand t mid pdu.port now (side_set old pdu.port h.side now h.its.here refl).here at h.hop answer new h.follows

        senders : (key : Key) → SenderFrom (outgoing old key).sender (outgoing new key).sender
        senders = follows_from t mid at now h.hop answer new h.follows

        tells : TellsGone h.entity.tx h.behind.tx (told_by h.hop)
        tells = subst (λ (e : Entity). TellsGone h.entity.tx e.tx (told_by h.hop)) (sym h.its_entity)
            (hearing_tells laws.hearing h.entity.tx h.entity.rx pdu.bytes h.hop h.tx h.rx h.hears)

        still : (remote : Remote) (drb : Drb) → h.side.name ≡ Direct remote drb → (e : Entity) → h.behind ≡ e → (key : Key) (i : ℕ) (sdu : List ℕ)
            → kept_at (outgoing new key).sender i ≡ Some sdu
            → KeepsCount h.entity.tx key ((outgoing new key).sender.first + i) → KeepsCount e.tx key ((outgoing new key).sender.first + i)
        still remote drb direct e behind key i sdu here had = elim (tells had.number had.sdu had.here) [
          | inl k ↦ subst (λ (x : Entity). KeepsCount x.tx key ((outgoing new key).sender.first + i)) behind (record {
            number = had.number;
            sdu = k.0;
            here = k.1;
            key = ap (λ (t : Tag). t.key) k.2 ∙ had.key;
            count = ap (λ (t : Tag). t.count) k.2 ∙ had.count;
          })
          | inr told ↦ absurd (told_gone t mid at now remote drb direct h.hop answer new h.follows key had.sdu.tag i sdu told had.key
              (had.count ∙ ap (λ (first : ℕ). Some (first + i)) (senders key).first) here)
        ]
