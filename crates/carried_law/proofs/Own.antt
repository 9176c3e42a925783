-- Which keys nodes have: an end those of its bearers, and the relay none.
use Rattle.std.proofs.Common.{◌≡◌, inl, inr, ℕ, Bool, true, false, cond, List, [], ◌∷◌, map, filter, find, Option, Some, None, option_map, refl, sym, ◌∙◌, ap, subst}
use Rattle.std.specs.List.{AllByRecursion, Contains}
use Rattle.std.specs.Option.{unwrap_or}
use Rattle.std.proofs.lemmas.Bool.{cases_Bool, false≢true}
use Rattle.link_base.specs.declared.names.Drb.{Drb}
use Rattle.link_base.specs.declared.names.Key.{Key}
use Rattle.link_base.specs.declared.names.Node.{Node as NodeKind}
use Rattle.link_base.specs.declared.names.PortName.{PortName}
use Rattle.link_base.specs.declared.names.PortName.TheVariants.{Direct}
use Rattle.link_base.specs.declared.names.Remote.{Remote}
use Rattle.link_base.specs.declared.names.Side.{Side}
use Rattle.link_base.specs.declared.names.Side.TheVariants.{Low, High}
use Rattle.link_base.specs.declared.names.Way.{Way}
use Rattle.link_base.specs.declared.names.Way.TheVariants.{Ul, Dl}
use Rattle.bearer_map.specs.declared.rows.BearerRow.{BearerRow}
use Rattle.bearer_map.specs.declared.rows.RemoteRow.{RemoteRow}
use Rattle.bearer_map.specs.Contents.{Contents}
use Rattle.rlc_law.proofs.Lists.{contains_here, contains_later}
use Rattle.script_text.specs.declared.event.Event.{Event}
use Rattle.script_text.specs.declared.line.Line.{Line}
use Rattle.script_text.specs.declared.line.Line.TheVariants.{Grant, Apply}
use Rattle.script_text.specs.declared.reply.Reply.{Reply}
use Rattle.script_text.specs.History.{Entry}
use Rattle.node_model.specs.Feeding.{in_key, out_key}
use Rattle.node_model.specs.Names.{NodeName, AtRemote, AtRelay, AtGnb, is_node, is_remote, node_of, owner, source, sink, key_of}
use Rattle.node_model.specs.Opening.{new_outgoing, new_incoming, bearers_of, new_remote, new_relay, new_gnb}
use Rattle.node_model.specs.State.{Outgoing, Incoming, Node, no_node}
use Rattle.node_model.specs.Switching.{outgoing_after, node_after, node_closed}
use Rattle.node_model.specs.Tables.{settings}
use Rattle.pdcp_model.specs.Sender.{begins_wait}
use Rattle.node_model.proofs.Finding.{find_none, find_map, find_passes, each_found, each_append, each_made}
use Rattle.node_model.proofs.Names.{cases_node, node_is, remote_is}
use Rattle.chain_model.proofs.Lookups.{cases_found}
use Rattle.chain_model.specs.Carried.{IsRowOf}
use Rattle.chain_model.specs.Lines.{Unless, apply_refusal, closed, Applies}
use Rattle.chain_model.specs.Plans.{is_open, marks}
use Rattle.chain_model.specs.State.{Chain, node_at, set_node, set_plan, opened}
use Rattle.chain_model.specs.Steps.{Does}
use Rattle.chain_law.proofs.Chains.{node_in, node_name, node_set, node_kept}
use Rattle.chain_law.proofs.Nodes.{NodeFits}
use Rattle.chain_law.proofs.Pairs.{each_then}
use Rattle.book_law.specs.Past.{Goes, steps, drained, ended}
use Rattle.carried_law.specs.Foundations.{SentLaws}
use Rattle.carried_law.proofs.Lines.{ChainKeeps, is_apply, is_grant, does_keep, grant_keeps, fed_keep}

-- the tables have the bearer of a key
abbrev pub HasRow : Contents → Key → Type 0
HasRow t key = (row : BearerRow) × IsRowOf t key row

-- a node of this name has only keys of which it is an end
pub record OwnKeys (t : Contents) (x : NodeName) (n : Node) : Type 0 where
  pub outs : AllByRecursion (λ (key : Key). (source key ≡ x) × HasRow t key) (map out_key n.outgoing)
  pub ins : AllByRecursion (λ (key : Key). (sink key ≡ x) × HasRow t key) (map in_key n.incoming)

abbrev pub EachOwn : Contents → Chain → Type 0
EachOwn t c = (x : NodeName) → OwnKeys t x (node_at c x)

-- the relay is no end of a key
abbrev is_relay : NodeName → Bool
is_relay AtRelay = true
is_relay x = false

pub ends_apart : (side : Side) (remote : Remote) (drb : Drb) → owner side (Direct remote drb) ≡ AtRelay → ⊥
ends_apart Low remote drb at = false≢true (ap is_relay at)
ends_apart High remote drb at = false≢true (ap is_relay at)

-- nodes have the keys that they had
abbrev SameKeys : Node → Node → Type 0
SameKeys old new = (map out_key new.outgoing ≡ map out_key old.outgoing) × (map in_key new.incoming ≡ map in_key old.incoming)

abbrev KeysStay : Chain → Chain → Type 0
KeysStay old new = (x : NodeName) → SameKeys (node_at old x) (node_at new x)

keys_then : (a b c : Chain) → KeysStay a b → KeysStay b c → KeysStay a c
keys_then a b c first second x = ((second x).0 ∙ (first x).0, (second x).1 ∙ (first x).1)

keys_same : (old new : Chain) → new ≡ old → KeysStay old new
keys_same old new is x = (ap (λ (c : Chain). map out_key (node_at c x).outgoing) is, ap (λ (c : Chain). map in_key (node_at c x).incoming) is)

own_stays : (t : Contents) (old new : Chain) → KeysStay old new → EachOwn t old → EachOwn t new
own_stays t old new same own x = record {
  outs = subst (AllByRecursion (λ (key : Key). (source key ≡ x) × HasRow t key)) (sym (same x).0) (own x).outs;
  ins = subst (AllByRecursion (λ (key : Key). (sink key ≡ x) × HasRow t key)) (sym (same x).1) (own x).ins;
}

-- an apply keeps them
pub outs_after : (remote : Remote) (os : List Outgoing) → map out_key (map (outgoing_after remote) os) ≡ map out_key os
outs_after remote [] = refl
outs_after remote (o ∷ os) = ap (λ (k : Key). k ∷ map out_key (map (outgoing_after remote) os)) (by (is_remote remote o.key.remote))
    ∙ ap (λ (ks : List Key). o.key ∷ ks) (outs_after remote os)
  where
    by : (b : Bool) → (cond b (record o { sender = begins_wait o.sender }) o).key ≡ o.key
    by true = refl
    by false = refl

ins_changed : (remote : Remote) (now : Incoming → Incoming) → ((i : Incoming) → (now i).key ≡ i.key) → (is : List Incoming)
    → map in_key (map (λ (i : Incoming). cond (is_remote remote i.key.remote) (now i) i) is) ≡ map in_key is
ins_changed remote now same [] = refl
ins_changed remote now same (i ∷ is) = ap (λ (k : Key). k ∷ map in_key (map (λ (i : Incoming). cond (is_remote remote i.key.remote) (now i) i) is)) (by
    (is_remote remote i.key.remote))
    ∙ ap (λ (ks : List Key). i.key ∷ ks) (ins_changed remote now same is)
  where
    by : (b : Bool) → (cond b (now i) i).key ≡ i.key
    by true = same i
    by false = refl

closed_keys : (remote : Remote) (b : Bool) (c : Chain) → KeysStay c (closed remote b c)
closed_keys remote true c x = (refl, refl)
closed_keys remote false c x = subst (λ (n : Node). SameKeys (node_at c x) n)
    (sym (ap (λ (o : Option Node). unwrap_or o (no_node x)) (find_map (node_closed remote) (λ (n : Node). is_node x n.name) c.nodes)))
    (by (find (λ (n : Node). is_node x n.name) c.nodes))
  where
    by : (o : Option Node) → SameKeys (unwrap_or o (no_node x)) (unwrap_or (option_map (node_closed remote) o) (no_node x))
    by None = (refl, refl)
    by (Some n) = (refl, ins_changed remote (λ i. record i { wanted = true; held_back = false }) (λ i. refl) n.incoming)

set_keys : (c : Chain) (y : NodeName) (m : Node) → m.name ≡ y → SameKeys (node_at c y) m → KeysStay c (set_node c m)
set_keys c y m name same x = elim (cases_node x y) [
  | inr ne ↦ subst (SameKeys (node_at c x)) (sym (node_kept c y m name x ne)) (refl, refl)
  | inl this ↦ subst (λ (z : NodeName). SameKeys (node_at c z) (node_at (set_node c m) z)) (sym this) (elim (cases_found (find (λ (n : Node). is_node y n.name) c.nodes)) [
    | inl there ↦ subst (SameKeys (node_at c y)) (sym (node_set c y m name there.0 there.1)) same
    | inr none ↦ subst (λ (ns : List Node). SameKeys (node_at c y) (node_in ns y)) (sym (find_none (λ (n : Node). is_node m.name n.name) m c.nodes
        (ap (λ (z : NodeName). find (λ (n : Node). is_node z n.name) c.nodes) name ∙ none))) (refl, refl)
  ])
]

applies_keys : (old mid : Chain) (remote : Remote) (kind : NodeKind) (own : List Event) (reply : Reply) → Applies old remote kind own reply mid → KeysStay old mid
applies_keys old mid remote kind own reply a = subst (KeysStay old) (sym a.is) (keys_then old (set_node old m) (closed remote (is_open (marks a.plan kind)) (set_plan
    (set_node old m) (marks a.plan kind)))
    (set_keys old y m (node_name old y) (
      outs_after remote (node_at old y).outgoing,
      ins_changed remote (λ i. record i { wanted = false; held_back = true }) (λ i. refl) (node_at old y).incoming,
    ))
    (closed_keys remote (is_open (marks a.plan kind)) (set_plan (set_node old m) (marks a.plan kind))))
  where
    y : NodeName
    y = node_of kind remote

    m : Node
    m = node_after (settings old.tables) remote a.plan.goal a.plan.epoch (node_at old y)

-- each line keeps them
keeps_keys : {May : NodeName → PortName → List ℕ → Type 0} {Begins : NodeName → PortName → ℕ → Type 0} (old new : Chain) → ChainKeeps May Begins old new → KeysStay old new
keeps_keys old new keeps x = ((keeps.nodes x).outs, (keeps.nodes x).ins)

module _ (laws : SentLaws) (old mid : Chain) (fits : NodeFits (node_at old AtRelay)) where
  does_keys : (line : Line) (own : List Event) (reply : Reply) → Does old line own reply mid → KeysStay old mid
  does_keys line own reply d = elim (cases_Bool (is_apply line)) [
    | inl is ↦ apply line is d
    | inr no_apply ↦ elim (cases_Bool (is_grant line)) [
      | inl is ↦ grant line is d
      | inr no_grant ↦ keeps_keys old mid (does_keep {May = λ x q sdu. Unit {0}} {Begins = λ x q n. Unit {0}} old mid laws fits line (λ is q sdu. tt) own reply no_apply no_grant d)
    ]
  ]
    where
      unless : (refusal : Option Reply) (remote : Remote) (kind : NodeKind) → Unless refusal old own reply mid (Applies old remote kind own reply mid) → KeysStay old mid
      unless (Some r) remote kind u = keys_same old mid u.2
      unless None remote kind a = applies_keys old mid remote kind own reply a

      apply : (line : Line) → is_apply line ≡ true → Does old line own reply mid → KeysStay old mid
      apply (Apply remote kind) is d = unless (apply_refusal old remote kind) remote kind d
      apply line is d = absurd (false≢true is)

      grant : (line : Line) → is_grant line ≡ true → Does old line own reply mid → KeysStay old mid
      grant (Grant port way octets) is d = keeps_keys old mid (grant_keeps {May = λ x q sdu. Unit {0}} {Begins = λ x q n. Unit {0}} old mid
          (λ x q n. tt) port way octets own reply d)
      grant line is d = absurd (false≢true is)

pub does_own : (laws : SentLaws) (t : Contents) (old mid : Chain) → NodeFits (node_at old AtRelay) → (line : Line) (own : List Event) (reply : Reply) → Does old line own reply mid
    → EachOwn t old → EachOwn t mid
does_own laws t old mid fits line own reply d each = own_stays t old mid (does_keys laws old mid fits line own reply d) each

pub goes_own : (laws : SentLaws) (t : Contents) (old new : Chain) (e : Entry) → NodeFits (node_at old AtRelay) → Goes old e new → EachOwn t old → EachOwn t new
goes_own laws t old new e fits (steps s) each = subst (EachOwn t) (sym s.is) (own_stays t s.mid (record s.mid { nodes = s.nodes })
    (keeps_keys s.mid (record s.mid { nodes = s.nodes })
    (fed_keep s.mid s.given s.nodes s.feeds {May = λ x q sdu. Unit {0}} {Begins = λ x q n. Unit {0}} (λ x q sdu fed. tt)))
    (does_own laws t old s.mid fits e.line s.own e.reply s.does each))
goes_own laws t old new e fits (drained line none is whole) each = subst (EachOwn t) (sym is) each
goes_own laws t old new e fits (ended line none says is) each = subst (EachOwn t) (sym is) each

-- so it is of the chain that tables open
all_in : {T : Type 0} (xs : List T) → AllByRecursion (Contains xs) xs
all_in [] = tt
all_in {T} (x ∷ xs) = (contains_here x xs, each_then (Contains xs) (Contains (x ∷ xs)) (λ y has. contains_later x xs y has) xs (all_in xs))

-- the keys of ends that were opened by rows
pub outs_from : (P : Key → Type 0) (way : Way) (rows : List BearerRow) → AllByRecursion (λ (row : BearerRow). P (key_of row.remote row.drb way)) rows
    → AllByRecursion P (map out_key (map (new_outgoing way) rows))
outs_from P way [] all = tt
outs_from P way (row ∷ rows) all = (all.0, outs_from P way rows all.1)

ins_from : (P : Key → Type 0) (way : Way) (rows : List BearerRow) → AllByRecursion (λ (row : BearerRow). P (key_of row.remote row.drb way)) rows
    → AllByRecursion P (map in_key (map (new_incoming way) rows))
ins_from P way [] all = tt
ins_from P way (row ∷ rows) all = (all.0, ins_from P way rows all.1)

module _ (t : Contents) where
  has_row : (way : Way) (row : BearerRow) → Contains t.bearers row → HasRow t (key_of row.remote row.drb way)
  has_row way row among = (row, record { among = among; remote = refl; drb = refl })

  -- the rows of a remote
  own_rows : (Q : BearerRow → Type 0) (remote : Remote) → ((row : BearerRow) → remote ≡ row.remote → Contains t.bearers row → Q row) → (rows : List BearerRow)
      → AllByRecursion (Contains t.bearers) rows → AllByRecursion Q (filter (λ (row : BearerRow). is_remote remote row.remote) rows)
  own_rows Q remote gives [] all = tt
  own_rows Q remote gives (row ∷ rows) all = by (is_remote remote row.remote) refl (own_rows Q remote gives rows all.1)
    where
      by : (b : Bool) → is_remote remote row.remote ≡ b → AllByRecursion Q (filter (λ (row : BearerRow). is_remote remote row.remote) rows)
          → AllByRecursion Q (cond b (row ∷ filter (λ (row : BearerRow). is_remote remote row.remote) rows) (filter (λ (row : BearerRow). is_remote remote row.remote) rows))
      by true is more = (gives row (remote_is remote row.remote is) all.0, more)
      by false is more = more

  remote_own : (row : RemoteRow) → OwnKeys t (AtRemote row.remote) (new_remote t row)
  remote_own row = record {
    outs = outs_from _ Ul (bearers_of t row.remote) (own_rows _ row.remote (λ b same among. (ap AtRemote (sym same), has_row Ul b among)) t.bearers (all_in t.bearers));
    ins = ins_from _ Dl (bearers_of t row.remote) (own_rows _ row.remote (λ b same among. (ap AtRemote (sym same), has_row Dl b among)) t.bearers (all_in t.bearers));
  }

  gnb_own : OwnKeys t AtGnb (new_gnb t)
  gnb_own = record {
    outs = outs_from _ Dl t.bearers (each_then (Contains t.bearers) _ (λ b among. (refl, has_row Dl b among)) t.bearers (all_in t.bearers));
    ins = ins_from _ Ul t.bearers (each_then (Contains t.bearers) _ (λ b among. (refl, has_row Ul b among)) t.bearers (all_in t.bearers));
  }

  pub opened_own : EachOwn t (opened t)
  opened_own x = by (find (λ (n : Node). is_node x n.name) (opened t).nodes) refl
    where
      each : AllByRecursion (λ (n : Node). OwnKeys t n.name n) (opened t).nodes
      each = each_append (λ (n : Node). OwnKeys t n.name n) (map (new_remote t) t.remotes) (new_relay t ∷ new_gnb t ∷ [])
          (each_made (λ (n : Node). OwnKeys t n.name n) (new_remote t) remote_own t.remotes) (record { outs = tt; ins = tt }, (gnb_own, tt))

      by : (o : Option Node) → find (λ (n : Node). is_node x n.name) (opened t).nodes ≡ o → OwnKeys t x (unwrap_or o (no_node x))
      by None is = record { outs = tt; ins = tt }
      by (Some n) is = subst (λ (y : NodeName). OwnKeys t y n) (sym (node_is x n.name (find_passes (λ (n : Node). is_node x n.name) (opened t).nodes n is)))
          (each_found (λ (n : Node). OwnKeys t n.name n) (λ (n : Node). is_node x n.name) (opened t).nodes n each is)
