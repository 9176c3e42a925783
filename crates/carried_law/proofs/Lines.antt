-- What each line leaves of the SDUs that transmitters keep, and of the tickets made.
use Rattle.std.proofs.Common.{◌≡◌, ◌⊎◌, inl, inr, ℕ, ◌≤◌, Bool, true, false, cond, List, [], ◌∷◌, ◌++◌, length, fold, map, find, Option, Some, None, refl, sym, ◌∙◌, ap, subst, arith}
use Rattle.std.specs.Option.{unwrap_or}
use Rattle.std.proofs.lemmas.Bool.{cases_Bool, cond-true, cond-false, true≢false}
use Rattle.std.proofs.lemmas.List.{length_push}
use Rattle.link_base.specs.declared.names.Key.{Key}
use Rattle.link_base.specs.declared.names.PortName.{PortName}
use Rattle.link_base.specs.declared.names.Way.{Way}
use Rattle.bearer_map.specs.Contents.{Contents}
use Rattle.rlc_model.specs.declared.hop.HopGrant.{HopGrant}
use Rattle.rlc_model.specs.declared.hop.HopGrant.TheVariants as grants
use Rattle.rlc_model.specs.declared.hop.Pdu.{Pdu}
use Rattle.rlc_model.specs.Hop.{on_air, off_air, sent_from}
use Rattle.rlc_model.specs.Sides.{hearer_of, sender_of}
use Rattle.pdcp_model.specs.declared.answers.SubmitFault.{SubmitFault}
use Rattle.pdcp_model.specs.Sender.{submit_fault}
use Rattle.script_text.specs.declared.event.Event.{Event}
use Rattle.script_text.specs.declared.line.Line.{Line}
use Rattle.script_text.specs.declared.line.Line.TheVariants.{Submit, Grant, Deliver, Repeat, Lose, Stage, Expire, Push, Pull, Burst, Report, Plan as PlanLine, Apply}
use Rattle.script_text.specs.declared.reply.Reply.{Reply}
use Rattle.node_model.specs.Feeding.{Feeds}
use Rattle.node_model.specs.Names.{NodeName, AtRelay, is_node, owner, source, sink}
use Rattle.node_model.specs.State.{Node, no_node}
use Rattle.node_model.proofs.Finding.{find_none}
use Rattle.node_model.proofs.Names.{cases_node}
use Rattle.chain_model.proofs.Lookups.{cases_found}
use Rattle.chain_model.specs.Bursts.{air_after, behind_egress}
use Rattle.chain_model.specs.Lines.{Unless, submit_refusal, Submits, grant_refusal, Sends, Granted, is_handed_over, Comes, Delivers, without, Loses, stage_refusal, Stages, expire_refusal, Expires, report_refusal, Wants, plan_refusal, Plans, queue_capacity}
use Rattle.chain_model.specs.State.{Chain, node_at, set_node, sender_at}
use Rattle.chain_model.specs.Steps.{Does, FeedsAll}
use Rattle.chain_law.proofs.Bursting.{air_case}
use Rattle.chain_law.proofs.Chains.{node_in, node_name, node_set, node_kept}
use Rattle.chain_law.proofs.Counting.{air_long}
use Rattle.chain_law.proofs.Nodes.{NodeFits}
use Rattle.chain_law.proofs.Leaving.{same_in, same_out}
use Rattle.heard_law.proofs.Air.{is_grant as is_sending}
use Rattle.carried_law.specs.Foundations.{SentLaws}
use Rattle.carried_law.proofs.Keeping.{NodeKeeps, node_beside, node_itself, node_then, grants_keep, expires_keep, hears_keeps, push_keeps, pull_keeps}
use Rattle.carried_law.proofs.Feeding.{IsFed, Rests, rests_itself, feeds_go}
use Rattle.carried_law.proofs.Bursting.{burst_keeps}

-- the transmitters of each node keep what they kept, or were given what may be; and tickets are made on
pub record ChainKeeps (May : NodeName → PortName → List ℕ → Type 0) (Begins : NodeName → PortName → ℕ → Type 0) (old new : Chain) : Type 0 where
  pub air : length old.air ≤ length new.air
  pub nodes : (x : NodeName) → NodeKeeps (May x) (Begins x) (node_at old x) (node_at new x)

abbrev nodes_of : Chain → List Node
nodes_of c = c.nodes

abbrev air_of : Chain → List (Option Pdu)
air_of c = c.air

-- a node is to apply a plan
abbrev pub is_apply : Line → Bool
is_apply (Apply remote kind) = true
is_apply line = false

-- a PDU is to be sent
abbrev pub is_grant : Line → Bool
is_grant (Grant port way octets) = true
is_grant line = false

-- the relay gives its transmitters what it holds
abbrev pub gives_held : Line → Bool
gives_held (Pull port) = true
gives_held Burst = true
gives_held line = false

-- tickets are made on where nothing goes on the air, a PDU goes off it, or one goes on it
long_same : (old new : List (Option Pdu)) → new ≡ old → length old ≤ length new
long_same old new same = omega (arith, ap (λ (l : List (Option Pdu)). length l) same)

long_off : (air : List (Option Pdu)) (ticket : ℕ) → length air ≤ length (off_air air ticket)
long_off air ticket = omega (arith, air_long air ticket)

long_on : (air : List (Option Pdu)) (pdu : Pdu) → length air ≤ length (air ++ Some pdu ∷ [])
long_on air pdu = omega (arith, length_push air (Some pdu))

-- what is no grant sends nothing
pub not_granted : (old mid : Chain) (line : Line) → is_grant line ≡ false → is_sending old mid line ≡ false
not_granted old mid (Grant port way octets) is = absurd (true≢false is)
not_granted old mid line is = refl

-- a burst makes no ticket
folded_long : (events : List Event) (air : List (Option Pdu)) → length air ≤ length (fold air_after air events)
folded_long [] air = long_same air air refl
folded_long (e ∷ events) air =
    let later : length (air_after air e) ≤ length (fold air_after air (e ∷ events)) = folded_long events (air_after air e) in
    elim (air_case air e) [
      | inl same ↦ omega (arith, later, long_same air (air_after air e) same)
      | inr off ↦ omega (arith, later, subst (λ (l : List (Option Pdu)). length air ≤ length l) (sym off.1) (long_off air off.0))
    ]

module _ {May : NodeName → PortName → List ℕ → Type 0} {Begins : NodeName → PortName → ℕ → Type 0} where
  pub chain_beside : (old new : Chain) → length old.air ≤ length new.air → new.nodes ≡ old.nodes → ChainKeeps May Begins old new
  chain_beside old new air nodes = record { air = air; nodes = λ x. node_itself (node_at old x) (node_at new x) (ap (λ (ns : List Node). node_in ns x) nodes) }

  pub chain_stays : (old new : Chain) → new ≡ old → ChainKeeps May Begins old new
  chain_stays old new is = subst (ChainKeeps May Begins old) (sym is) (chain_beside old old (long_same old.air old.air refl) refl)

  pub chain_then : (a b c : Chain) → ChainKeeps May Begins a b → ChainKeeps May Begins b c → ChainKeeps May Begins a c
  chain_then a b c first second = record {
    air = omega (arith, first.air, second.air);
    nodes = λ x. node_then (node_at a x) (node_at b x) (node_at c x) (first.nodes x) (second.nodes x);
  }

  -- a node is set
  pub chain_set : (c : Chain) (y : NodeName) (m : Node) → NodeKeeps (May y) (Begins y) (node_at c y) m → ChainKeeps May Begins c (set_node c m)
  chain_set c y m keeps = record {
    air = long_same c.air c.air refl;
    nodes = λ x. elim (cases_node x y) [
      | inr ne ↦ node_itself (node_at c x) (node_at (set_node c m) x) (node_kept c y m name x ne)
      | inl this ↦ subst (λ (z : NodeName). NodeKeeps (May z) (Begins z) (node_at c z) (node_at (set_node c m) z)) (sym this) (elim
          (cases_found (find (λ (n : Node). is_node y n.name) c.nodes)) [
            | inl there ↦ subst (NodeKeeps (May y) (Begins y) (node_at c y)) (sym (node_set c y m name there.0 there.1)) keeps
            | inr none ↦ (chain_beside c (set_node c m) (long_same c.air c.air refl) (find_none (λ (n : Node). is_node m.name n.name) m c.nodes
                (ap (λ (z : NodeName). find (λ (n : Node). is_node z n.name) c.nodes) name ∙ none))).nodes y
          ])
    ];
  }
    where
      name : m.name ≡ y
      name = keeps.name ∙ node_name c y

  -- a PDU comes to its node
  pub comes_keep : (laws : SentLaws) (old : Chain) (pdu : Pdu) (events : List Event) (reply : Reply) (new : Chain) (behind : Chain → Chain)
      → ((c : Chain) → ChainKeeps May Begins c (behind c)) → Comes old pdu events reply new behind → ChainKeeps May Begins old new
  comes_keep laws old pdu events reply new behind stays c = subst (ChainKeeps May Begins old) (sym c.is) (by (is_handed_over c.answer))
    where
      name : NodeName
      name = owner (hearer_of pdu.way) pdu.port

      by : (b : Bool) → ChainKeeps May Begins old (cond b (behind (set_node old c.node)) old)
      by true = chain_then old (set_node old c.node) (behind (set_node old c.node))
          (chain_set old name c.node (hears_keeps laws old.tables (node_at old name) (hearer_of pdu.way) pdu c.answer c.node c.hears)) (stays (set_node old c.node))
      by false = chain_stays old old refl

  module _ (old mid : Chain) where
    by_is : (c : Chain) → mid ≡ c → ChainKeeps May Begins old c → ChainKeeps May Begins old mid
    by_is c is keeps = subst (ChainKeeps May Begins old) (sym is) keeps

    unless : (refusal : Option Reply) (own : List Event) (reply : Reply) (done : Type 0) → (done → ChainKeeps May Begins old mid) → Unless refusal old own reply mid done
        → ChainKeeps May Begins old mid
    unless (Some r) own reply done does u = chain_stays old mid u.2
    unless None own reply done does x = does x

    -- what a grant sends goes on the air
    pub sends_keep : (port : PortName) (way : Way) (epoch : ℕ) (node : Node)
        → NodeKeeps (May (owner (sender_of way) port)) (Begins (owner (sender_of way) port)) (node_at old (owner (sender_of way) port)) node → (answer : HopGrant) (reply : Reply)
        → Sends old node port way epoch answer reply mid → ChainKeeps May Begins old mid
    sends_keep port way epoch node keeps (grants.Sent status number bytes) reply s = chain_then old (set_node old node) mid
        (chain_set old (owner (sender_of way) port) node keeps)
        (chain_beside (set_node old node) mid
        (subst (λ (c : Chain). length old.air ≤ length c.air) (sym s.1) (long_on old.air (sent_from port (sender_of way) epoch status number bytes))) (ap nodes_of s.1))
    sends_keep port way epoch node keeps grants.Idle reply s = chain_stays old mid s.1
    sends_keep port way epoch node keeps (grants.Small need) reply s = chain_stays old mid s.1

    -- a grant that may be refused, where each number may begin
    pub grant_keeps : ((x : NodeName) (q : PortName) (n : ℕ) → Begins x q n) → (port : PortName) (way : Way) (octets : ℕ) (own : List Event) (reply : Reply)
        → Unless (grant_refusal old port way) old own reply mid (Granted old port way octets own reply mid) → ChainKeeps May Begins old mid
    grant_keeps any port way octets own reply d = unless (grant_refusal old port way) own reply _ (λ g. sends_keep port way g.epoch g.node
        (grants_keep (node_at old (owner (sender_of way) port)) port octets g.epoch g.answer g.node (λ n begins. any (owner (sender_of way) port) port n) g.grants)
        g.answer reply g.sends) d

    module _ (laws : SentLaws) (fits : NodeFits (node_at old AtRelay)) where
      submits : (fault : Option SubmitFault) (key : Key) (sdu : List ℕ) (own : List Event) (reply : Reply) → Submits fault old key sdu own reply mid
          → ChainKeeps May Begins old mid
      submits (Some fault) key sdu own reply s = chain_stays old mid s.2
      submits None key sdu own reply s = by_is _ s.2 (chain_set old (source key) _ (node_beside _ _ refl (same_out (node_at old (source key)) _).outs refl (λ q. refl)))

      delivers : (o : Option Pdu) (own : List Event) (reply : Reply) (behind : Chain → Chain) → ((c : Chain) → ChainKeeps May Begins c (behind c))
          → Delivers old o own reply mid behind → ChainKeeps May Begins old mid
      delivers None own reply behind stays d = chain_stays old mid d.2
      delivers (Some pdu) own reply behind stays d = comes_keep laws old pdu own reply mid behind stays d

      off : (ticket : ℕ) (c : Chain) → ChainKeeps May Begins c (without ticket c)
      off ticket c = chain_beside c (without ticket c) (long_off c.air ticket) refl

      loses : (o : Option Pdu) (ticket : ℕ) (own : List Event) (reply : Reply) → Loses old o ticket own reply mid → ChainKeeps May Begins old mid
      loses None ticket own reply d = chain_stays old mid d.2
      loses (Some pdu) ticket own reply d = by_is (without ticket old) d.2 (off ticket old)

      beside : (c : Chain) → mid ≡ c → c.air ≡ old.air → c.nodes ≡ old.nodes → ChainKeeps May Begins old mid
      beside c is air nodes = by_is c is (chain_beside old c (long_same old.air c.air air) nodes)

      -- each line but a grant and an apply, where the relay may give all that it holds
      pub does_keep : (line : Line) → (gives_held line ≡ true → (q : PortName) (sdu : List ℕ) → May AtRelay q sdu) → (own : List Event) (reply : Reply) → is_apply line ≡ false → is_grant line ≡ false
          → Does old line own reply mid → ChainKeeps May Begins old mid
      does_keep (Submit key sdu) all own reply it quiet d = unless (submit_refusal old key) own reply _ (submits (submit_fault (sender_at old key) sdu) key sdu own reply) d
      does_keep (Grant port way octets) all own reply it quiet d = absurd (true≢false quiet)
      does_keep (Deliver ticket) all own reply it quiet d = delivers (on_air old.air ticket) own reply (without ticket) (off ticket) d
      does_keep (Repeat ticket) all own reply it quiet d = delivers (on_air old.air ticket) own reply (λ c. c) (λ c. chain_stays c c refl) d
      does_keep (Lose ticket) all own reply it quiet d = loses (on_air old.air ticket) ticket own reply d
      does_keep (Stage ticket) all own reply it quiet d = unless (stage_refusal (on_air old.air ticket)) own reply (Stages old ticket own reply mid) (λ x. beside _ x.2 refl refl) d
      does_keep (Expire port at timer) all own reply it quiet d = unless (expire_refusal old port at) own reply (Expires old port at timer own reply mid)
          (λ x. by_is (set_node old x.node) x.is (chain_set old (owner at port) x.node (expires_keep (node_at old (owner at port)) port timer x.expired x.node x.expires))) d
      does_keep (Push port) all own reply it quiet d = by_is (set_node old d.node) d.is
          (chain_set old AtRelay d.node (push_keeps (queue_capacity old) (node_at old AtRelay) port d.answer d.node d.pushes))
      does_keep (Pull port) all own reply it quiet d = by_is (set_node old d.node) d.is
          (chain_set old AtRelay d.node (pull_keeps (all refl) (node_at old AtRelay) port d.answer d.node d.pulls))
      does_keep Burst all own reply it quiet d =
          let m : Node = record (node_at old AtRelay) { ports = map behind_egress d.egresses } in
          chain_then old (set_node old m) mid
          (chain_set old AtRelay m (burst_keeps (May AtRelay) (Begins AtRelay) (all refl) old (λ c pdu events reply new x. (comes_keep laws c pdu events reply new (λ d. d) (λ d. chain_stays d d refl) x).nodes AtRelay)
          fits own reply mid d))
          (chain_beside (set_node old m) mid (subst (λ (c : Chain). length old.air ≤ length c.air) (sym d.is) (folded_long own old.air)) (ap nodes_of d.is))
      does_keep (Report key) all own reply it quiet d = unless (report_refusal old key) own reply (Wants old key own reply mid)
          (λ x. by_is _ x.2 (chain_set old (sink key) _ (node_beside _ _ refl refl (same_in (node_at old (sink key)) _).ins (λ q. refl)))) d
      does_keep (PlanLine remote goal) all own reply it quiet d = unless (plan_refusal old remote goal) own reply (Plans old remote goal own reply mid) (λ x. beside _ x.is refl refl) d
      does_keep (Apply remote kind) all own reply it quiet d = absurd (true≢false it)
      does_keep line all own reply it quiet d = absurd d

-- a node feeds, or there is none
abbrev pub FedNode : Contents → Node → Node → Type 0
FedNode t n m = ((given : List Key) × Feeds t n given m) ⊎ (m ≡ n)

-- of nodes that feed, the one of a name
pub fed_in : (t : Contents) (x : NodeName) (ns : List Node) (given : List Key) (ms : List Node) → FeedsAll t ns given ms → FedNode t (node_in ns x) (node_in ms x)
fed_in t x [] given ms f = inr (ap (λ (l : List Node). node_in l x) f.1)
fed_in t x (n ∷ ns) given ms (m, rest, first, more, one, others, are, is) = subst (λ (l : List Node). FedNode t (node_in (n ∷ ns) x) (node_in l x)) (sym is)
    (elim (cases_Bool (is_node x n.name)) [
      | inl mine ↦ inl (
        first,
        subst (λ (y : Node). Feeds t y first (node_in (m ∷ rest) x)) (sym (found n ns mine))
            (subst (λ (y : Node). Feeds t n first y) (sym (found m rest (ap (is_node x) name ∙ mine))) one),
      )
      | inr other ↦ subst (λ (y : Node). FedNode t y (node_in (m ∷ rest) x)) (sym (passed n ns other))
          (subst (λ (y : Node). FedNode t (node_in ns x) y) (sym (passed m rest (ap (is_node x) name ∙ other))) (fed_in t x ns more rest others))
    ])
  where
    name : m.name ≡ n.name
    name = (feeds_go t n (λ q sdu. Unit {0}) (λ q k. Unit {0}) (λ q sdu fed. tt) first m one).rests.same.name

    found : (n : Node) (ns : List Node) → is_node x n.name ≡ true → node_in (n ∷ ns) x ≡ n
    found n ns p = ap (λ (o : Option Node). unwrap_or o (no_node x)) (cond-true (is_node x n.name) (Some n) (find (λ (y : Node). is_node x y.name) ns) p)

    passed : (n : Node) (ns : List Node) → is_node x n.name ≡ false → node_in (n ∷ ns) x ≡ node_in ns x
    passed n ns p = ap (λ (o : Option Node). unwrap_or o (no_node x)) (cond-false (is_node x n.name) (Some n) (find (λ (y : Node). is_node x y.name) ns) p)

-- all nodes feed
module _ (c : Chain) (given : List Key) (nodes : List Node) (f : FeedsAll c.tables c.nodes given nodes) where
  -- with what may be given
  pub fed_keep : {May : NodeName → PortName → List ℕ → Type 0} {Begins : NodeName → PortName → ℕ → Type 0}
      → ((x : NodeName) (q : PortName) (sdu : List ℕ) → IsFed c.tables (node_at c x) q sdu → May x q sdu) → ChainKeeps May Begins c (record c { nodes = nodes })
  fed_keep {May} {Begins} so = record {
    air = long_same c.air c.air refl;
    nodes = λ x. elim (fed_in c.tables x c.nodes given nodes f) [
      | inl y ↦ (feeds_go c.tables (node_at c x) (May x) (Begins x) (so x) y.0 (node_in nodes x) y.1).keeps
      | inr is ↦ node_itself (node_at c x) (node_in nodes x) is
    ];
  }

  pub fed_rests : (x : NodeName) → Rests (node_at c x) (node_at (record c { nodes = nodes }) x)
  fed_rests x = elim (fed_in c.tables x c.nodes given nodes f) [
    | inl y ↦ (feeds_go c.tables (node_at c x) (λ q sdu. Unit {0}) (λ q k. Unit {0}) (λ q sdu fed. tt) y.0 (node_in nodes x) y.1).rests
    | inr is ↦ subst (Rests (node_at c x)) (sym is) (rests_itself (node_at c x))
  ]
