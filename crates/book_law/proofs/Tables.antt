-- The tables of a chain stay, and the names of its nodes.
use Rattle.std.specs.List.{AllByRecursion}
use Rattle.std.proofs.lemmas.Bool.{ne_eqb}
use Rattle.link_base.specs.declared.names.Key.{Key}
use Rattle.link_base.specs.declared.names.Way.TheVariants.{Ul}
use Rattle.bearer_map.specs.declared.rows.RemoteRow.{RemoteRow}
use Rattle.bearer_map.specs.Order.{IsAscending}
use Rattle.bearer_map.specs.Contents.{remote_rank}
use Rattle.script_text.specs.History.{Entry}
use Rattle.node_model.specs.Names.{NodeName, AtRemote, AtRelay, AtGnb, is_node, key_of, node_of, replaced}
use Rattle.node_model.specs.Opening.{new_remote, new_relay, new_gnb}
use Rattle.node_model.specs.Places.{node_name}
use Rattle.node_model.specs.Switching.{node_after, node_closed}
use Rattle.node_model.specs.Tables.{settings}
use Rattle.node_model.proofs.Names.{node_is}
use Rattle.chain_model.specs.Plans.{marks}
use Rattle.chain_model.specs.Steps.{FeedsAll}
use Rattle.book_law.specs.Past.{AreTables}
use Rattle.book_law.specs.Laws.{remote_name, AreApart, HasEachNode}
use Rattle.book_law.proofs.Fed.{feeds_keep}
use Rattle.std.proofs.Common.{◌<◌, ◌++◌, map, subst, arith, sym, ◌≡◌, Bool, true, false, cond, List, [], ◌∷◌, Option, Some, None, refl, ◌∙◌, ap}
use Rattle.bearer_map.specs.Contents.{Contents}
use Rattle.link_base.specs.declared.names.Remote.{Remote}
use Rattle.rlc_model.specs.declared.hop.Pdu.{Pdu}
use Rattle.rlc_model.specs.declared.hop.HopGrant.{HopGrant}
use Rattle.rlc_model.specs.declared.hop.HopGrant.TheVariants as grants
use Rattle.rlc_model.specs.Hop.{on_air}
use Rattle.pdcp_model.specs.declared.answers.SubmitFault.{SubmitFault}
use Rattle.pdcp_model.specs.Sender.{submit_fault}
use Rattle.script_text.specs.declared.line.Line.{Line}
use Rattle.script_text.specs.declared.line.Line.TheVariants.{Submit, Grant, Deliver, Repeat, Lose, Stage, Expire, Push, Pull, Burst, Report, Plan as PlanLine, Apply}
use Rattle.script_text.specs.declared.event.Event.{Event}
use Rattle.script_text.specs.declared.reply.Reply.{Reply}
use Rattle.node_model.specs.State.{Node}
use Rattle.chain_model.specs.State.{Chain, opened, node_at, set_node, set_plan, sender_at}
use Rattle.chain_model.specs.Lines.{Unless, submit_refusal, Submits, grant_refusal, Sends, Granted, is_handed_over, Comes, Delivers, without, Loses, stage_refusal, Stages, expire_refusal, Expires, report_refusal, Wants, plan_refusal, Plans, apply_refusal, closed, Applies}
use Rattle.chain_model.specs.Steps.{Does}
use Rattle.chain_model.specs.Draining.{Moment}
use Rattle.book_law.specs.Past.{Goes, steps, drained, ended, Passes}

-- the names of nodes that are changed otherwise
names_mapped : (change : Node → Node) → ((n : Node) → (change n).name ≡ n.name) → (ns : List Node) → map node_name (map change ns) ≡ map node_name ns
names_mapped change same [] = refl
names_mapped change same (n ∷ ns) = ap (λ name. name ∷ map node_name (map change ns)) (same n) ∙ ap (λ names. n.name ∷ names) (names_mapped change same ns)

names_set : (n : Node) (ns : List Node) → map node_name (replaced (λ (x : Node). is_node n.name x.name) n ns) ≡ map node_name ns
names_set n [] = refl
names_set n (x ∷ ns) = ap (λ name. name ∷ map node_name (replaced (λ (x : Node). is_node n.name x.name) n ns)) (by (is_node n.name x.name) refl) ∙ ap (λ names. x.name ∷ names) (names_set n ns)
  where
    by : (b : Bool) → is_node n.name x.name ≡ b → (cond b n x).name ≡ x.name
    by true is = node_is n.name x.name is
    by false is = refl

fed_names : (t : Contents) (ns : List Node) (given : List Key) (ms : List Node) → FeedsAll t ns given ms → map node_name ms ≡ map node_name ns
fed_names t [] given ms f = ap (map node_name) f.1
fed_names t (n ∷ ns) given ms (m, rest, first, more, one, others, are, is) =
    ap (map node_name) is ∙ ap (λ name. name ∷ map node_name rest) (feeds_keep (key_of (record { 0 = 0 }) (record { 0 = 0 }) Ul) t n first m one).name ∙ ap (λ names. n.name ∷ names) (fed_names t ns more rest others)

-- what shows nothing of nodes but their names
pub record IsSteady {T : Type 0} (view : Chain → T) : Type 0 where
  pub beside : (c d : Chain) → d.tables ≡ c.tables → d.nodes ≡ c.nodes → view d ≡ view c
  pub sets : (c : Chain) (n : Node) → view (set_node c n) ≡ view c
  pub named : (c : Chain) (nodes : List Node) → map node_name nodes ≡ map node_name c.nodes → view (record c { nodes = nodes }) ≡ view c

module _ {T : Type 0} (view : Chain → T) (steady : IsSteady view) (old mid : Chain) where
  abbrev Same : Type 0
  Same = view mid ≡ view old

  by_is : (c : Chain) → view c ≡ view old → mid ≡ c → Same
  by_is c same is = ap view is ∙ same

  -- a node is set, and beside it what isn't a node
  set_beside : (n : Node) (d : Chain) → d.tables ≡ old.tables → d.nodes ≡ (set_node old n).nodes → mid ≡ d → Same
  set_beside n d tables nodes is = by_is d (steady.beside (set_node old n) d tables nodes ∙ steady.sets old n) is

  same_nodes : (d : Chain) → d.tables ≡ old.tables → d.nodes ≡ old.nodes → mid ≡ d → Same
  same_nodes d tables nodes is = by_is d (steady.beside old d tables nodes) is

  unless : (refusal : Option Reply) (own : List Event) (reply : Reply) (done : Type 0) → (done → Same) → Unless refusal old own reply mid done → Same
  unless (Some r) own reply done does (shows, says, is) = by_is old refl is
  unless None own reply done does x = does x

  sends : (node : Node) (port : _) (way : _) (epoch : _) (answer : HopGrant) (reply : Reply) → Sends old node port way epoch answer reply mid → Same
  sends node port way epoch (grants.Sent status number bytes) reply s = set_beside node _ refl refl s.1
  sends node port way epoch grants.Idle reply s = by_is old refl s.1
  sends node port way epoch (grants.Small need) reply s = by_is old refl s.1

  submits : (fault : Option SubmitFault) (key : _) (sdu : _) (own : List Event) (reply : Reply) → Submits fault old key sdu own reply mid → Same
  submits (Some fault) key sdu own reply s = by_is old refl s.2
  submits None key sdu own reply s = set_beside _ _ refl refl s.2

  comes : (pdu : Pdu) (own : List Event) (reply : Reply) (behind : Chain → Chain) → ((c : Chain) → view (behind c) ≡ view c) → Comes old pdu own reply mid behind → Same
  comes pdu own reply behind stays c = by_is _ (either (is_handed_over c.answer)) c.is
    where
      either : (b : Bool) → view (cond b (behind (set_node old c.node)) old) ≡ view old
      either true = stays (set_node old c.node) ∙ steady.sets old c.node
      either false = refl

  delivers : (o : Option Pdu) (own : List Event) (reply : Reply) (behind : Chain → Chain) → ((c : Chain) → view (behind c) ≡ view c) → Delivers old o own reply mid behind → Same
  delivers None own reply behind stays d = by_is old refl d.2
  delivers (Some pdu) own reply behind stays d = comes pdu own reply behind stays d

  loses : (o : Option Pdu) (ticket : _) (own : List Event) (reply : Reply) → Loses old o ticket own reply mid → Same
  loses None ticket own reply d = by_is old refl d.2
  loses (Some pdu) ticket own reply d = same_nodes (without ticket old) refl refl d.2

  closes : (remote : Remote) (b : Bool) (c : Chain) → view c ≡ view old → view (closed remote b c) ≡ view old
  closes remote true c same = same
  closes remote false c same = steady.named c (map (node_closed remote) c.nodes) (names_mapped (node_closed remote) (λ n. refl) c.nodes) ∙ same

  applied : (remote : Remote) (kind : _) {own : List Event} {reply : Reply} (x : Applies old remote kind own reply mid)
      → view (set_plan (set_node old (node_after (settings old.tables) remote x.plan.goal x.plan.epoch (node_at old (node_of kind remote)))) (marks x.plan kind)) ≡ view old
  applied remote kind x =
      let n = node_after (settings old.tables) remote x.plan.goal x.plan.epoch (node_at old (node_of kind remote)) in
      steady.beside (set_node old n) (set_plan (set_node old n) (marks x.plan kind)) refl refl ∙ steady.sets old n

  pub does_view : (line : Line) (own : List Event) (reply : Reply) → Does old line own reply mid → Same
  does_view (Submit key sdu) own reply d = unless (submit_refusal old key) own reply _ (submits (submit_fault (sender_at old key) sdu) key sdu own reply) d
  does_view (Grant port way octets) own reply d = unless (grant_refusal old port way) own reply (Granted old port way octets own reply mid) (λ g. sends g.node port way g.epoch g.answer reply g.sends) d
  does_view (Deliver ticket) own reply d = delivers (on_air old.air ticket) own reply (without ticket) (λ c. steady.beside c (without ticket c) refl refl) d
  does_view (Repeat ticket) own reply d = delivers (on_air old.air ticket) own reply (λ c. c) (λ c. refl) d
  does_view (Lose ticket) own reply d = loses (on_air old.air ticket) ticket own reply d
  does_view (Stage ticket) own reply d = unless (stage_refusal (on_air old.air ticket)) own reply (Stages old ticket own reply mid) (λ x. same_nodes _ refl refl x.2) d
  does_view (Expire port at timer) own reply d = unless (expire_refusal old port at) own reply (Expires old port at timer own reply mid) (λ x. by_is (set_node old x.node) (steady.sets old x.node) x.is) d
  does_view (Push port) own reply d = by_is (set_node old d.node) (steady.sets old d.node) d.is
  does_view (Pull port) own reply d = by_is (set_node old d.node) (steady.sets old d.node) d.is
  does_view Burst own reply d = set_beside _ _ refl refl d.is
  does_view (Report key) own reply d = unless (report_refusal old key) own reply (Wants old key own reply mid) (λ x. set_beside _ _ refl refl x.2) d
  does_view (PlanLine remote goal) own reply d = unless (plan_refusal old remote goal) own reply (Plans old remote goal own reply mid) (λ x. same_nodes _ refl refl x.is) d
  does_view (Apply remote kind) own reply d =
      unless (apply_refusal old remote kind) own reply (Applies old remote kind own reply mid) (λ x. by_is _ (closes remote _ _ (applied remote kind x)) x.is) d
  does_view line own reply d = absurd d

module _ {T : Type 0} (view : Chain → T) (steady : IsSteady view) where
  goes_view : (old new : Chain) (e : Entry) → Goes old e new → view new ≡ view old
  goes_view old new e (steps s) =
      ap view s.is ∙ steady.named s.mid s.nodes (fed_names s.mid.tables s.mid.nodes s.given s.nodes s.feeds) ∙ does_view view steady old s.mid e.line s.own e.reply s.does
  goes_view old new e (drained line none is whole) = ap view is
  goes_view old new e (ended line none says is) = ap view is

  passes_view : (t : Contents) (ms : List Moment) (c : Chain) → Passes t ms c → view c ≡ view (opened t)
  passes_view t [] c is = ap view is
  passes_view t (m ∷ ms) c (before, goes) = goes_view m.before c m.entry goes ∙ passes_view t ms m.before before

-- the tables, and the names of nodes
abbrev pub tables_of : Chain → Contents
tables_of c = c.tables

abbrev names_of : Chain → List NodeName
names_of c = map node_name c.nodes

pub tables_steady : IsSteady tables_of
tables_steady = record { beside = λ c d tables nodes. tables; sets = λ c n. refl; named = λ c nodes same. refl }

pub tables_stay : (t : Contents) (ms : List Moment) (c : Chain) → Passes t ms c → c.tables ≡ t
tables_stay = passes_view tables_of tables_steady

names_stay : (t : Contents) (ms : List Moment) (c : Chain) → Passes t ms c → map node_name c.nodes ≡ map node_name (opened t).nodes
names_stay = passes_view names_of (record { beside = λ c d tables nodes. ap (map node_name) nodes; sets = λ c n. names_set n c.nodes; named = λ c nodes same. same })

opened_names : (t : Contents) (rows : List RemoteRow) → map node_name (map (new_remote t) rows ++ new_relay t ∷ new_gnb t ∷ []) ≡ map remote_name rows ++ AtRelay ∷ AtGnb ∷ []
opened_names t [] = refl
opened_names t (row ∷ rows) = ap (λ names. AtRemote row.remote ∷ names) (opened_names t rows)

names_apart : (rows : List RemoteRow) → IsAscending remote_rank rows → AreApart (map remote_name rows ++ AtRelay ∷ AtGnb ∷ [])
names_apart [] up = ((refl, tt), (tt, tt))
names_apart (row ∷ rows) up = (later rows up.0, names_apart rows up.1)
  where
    later : (others : List RemoteRow) → AllByRecursion (λ (other : RemoteRow). remote_rank row < remote_rank other) others → AllByRecursion (λ name. is_node (AtRemote row.remote) name ≡ false) (map remote_name others ++ AtRelay ∷ AtGnb ∷ [])
    later [] all = (refl, (refl, tt))
    later (other ∷ others) all = (ne_eqb row.remote.0 other.remote.0 (λ e. omega (arith, all.0, e)), later others all.1)

pub has_each_node : (t : Contents) → AreTables t → (ms : List Moment) (c : Chain) → Passes t ms c → HasEachNode t c
has_each_node t are ms c passes =
    let names = names_stay t ms c passes ∙ opened_names t t.remotes in
    record { names = names; apart = subst AreApart (sym names) (names_apart t.remotes are.remotes_ascend) }
