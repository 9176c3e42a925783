-- Each run keeps the rows of the tables in order, identities apart, and receivers sound.
use Rattle.std.proofs.Common.{◌≡◌, Bool, true, false, List, Some, None, option_and_then, refl, sym, ◌∙◌, ap, subst}
use Rattle.link_base.specs.declared.names.LocalId.{LocalId}
use Rattle.link_base.specs.declared.names.PortName.TheVariants.{Uu}
use Rattle.bearer_map.specs.Contents.{Contents}
use Rattle.bearer_map.specs.Ids.{AreIds}
use Rattle.rlc_model.specs.Sides.{way_from, flip}
use Rattle.rlc_law.specs.Ports.{Port, hop_of, IsSide}
use Rattle.rlc_law.specs.Receiver.{IsSound}
use Rattle.rlc_law.proofs.Inductive.{reaches_inv}
use Rattle.script_text.specs.declared.event.Event.{Event}
use Rattle.script_text.specs.declared.line.Line.{Line}
use Rattle.script_text.specs.declared.line.Line.TheVariants.{Plan as PlanLine, Apply}
use Rattle.script_text.specs.declared.reply.Reply.{Reply}
use Rattle.node_model.specs.Names.{NodeName, is_port, owner}
use Rattle.node_model.specs.State.{PortSide, Node, entity_of, entity_at}
use Rattle.node_model.specs.Switching.{node_closed}
use Rattle.node_model.proofs.Finding.{each_found}
use Rattle.node_law.specs.OneOutcome.{AreSound}
use Rattle.chain_model.specs.Plans.{marks, is_open}
use Rattle.chain_model.specs.State.{Chain, opened, node_at, entity_on}
use Rattle.chain_model.specs.Steps.{Does, Step}
use Rattle.chain_model.specs.Lines.{plan_refusal, Plans, apply_refusal, Applies, closed}
use Rattle.chain_law.specs.Foundations.{RlcLaws}
use Rattle.chain_law.specs.Laws.{ComesUp}
use Rattle.chain_law.proofs.Chains.{Holds, node_fits, node_name}
use Rattle.chain_law.proofs.Stands.{Logs}
use Rattle.chain_law.proofs.Laws.{comes_hold}
use Rattle.chain_law.proofs.Lines.{unless_keeps}
use Rattle.chain_law.proofs.Members.{contained}
use Rattle.chain_law.proofs.Nodes.{NodeFits, side_name}
use Rattle.chain_law.proofs.Runs.{comes_keep}
use Rattle.chain_law.proofs.Tables.{TablesApart}
use Rattle.book_law.proofs.Tables.{tables_of, tables_steady, does_view}
use Rattle.heard_law.proofs.Knowing.{does_plans}
use Rattle.heard_law.proofs.Standing.{Standing, ends_stay}
use Rattle.heard_law.proofs.Still.{Still, still_map, still_fed, does_still}
use Rattle.orderly_law.specs.Laws.{RunsKeepChainsOrderly}
use Rattle.orderly_law.proofs.Found.{HasSide, each_side}
use Rattle.orderly_law.proofs.Identities.{IdsFit, attached, opened_ids, ids_stay, plan_ids, applied, applied_ids}

-- the tables' rows are in order, and identities are apart
record Ordered (c : Chain) : Type 0 where
  tables : TablesApart c.tables
  ids : IdsFit c

-- each node attaches what it attached
attached_stay : (old new : Chain) → Still old new → (x : NodeName) → (node_at new x).attached ≡ (node_at old x).attached
attached_stay old new still x = ap (λ (s : Standing). s.attached) (still (Uu (record { 0 = 0 })) x)

-- what a line does keeps identities apart
does_ids : (old : Chain) (line : Line) (events : List Event) (reply : Reply) (new : Chain) → new.tables ≡ old.tables → IdsFit old → Does old line events reply new → IdsFit new
does_ids old (PlanLine remote goal) events reply new tables f d = unless_keeps IdsFit (plan_refusal old remote goal) old events reply new (Plans old remote goal events reply new) f
    (λ none p. plan_ids old remote goal f none events reply new p) d
does_ids old (Apply remote kind) events reply new tables f d = unless_keeps IdsFit (apply_refusal old remote kind) old events reply new (Applies old remote kind events reply new) f
    (λ none a. subst IdsFit (sym a.is) (close none a (is_open (marks a.plan kind)))) d
  where
    close : (none : apply_refusal old remote kind ≡ None) (a : Applies old remote kind events reply new) → (still_open : Bool)
        → IdsFit (closed remote still_open (applied old remote kind f none events reply new a))
    close none a true = applied_ids old remote kind f none events reply new a
    close none a false =
        let c = applied old remote kind f none events reply new a in
        ids_stay c (closed remote false c) refl refl (attached_stay c (closed remote false c) (still_map c (node_closed remote) (λ n. ends_stay n (node_closed remote n) refl refl refl)))
        (applied_ids old remote kind f none events reply new a)
does_ids old line events reply new tables f d = ids_stay old new tables (does_plans old new line events reply refl d) (attached_stay old new (does_still old new line events reply refl d)) f

does_ordered : (old : Chain) (line : Line) (events : List Event) (reply : Reply) (new : Chain) → Ordered old → Does old line events reply new → Ordered new
does_ordered old line events reply new o d =
    let tables = does_view tables_of tables_steady old new line events reply d in
    record { tables = subst TablesApart (sym tables) o.tables; ids = does_ids old line events reply new tables o.ids d }

step_ordered : (old : Chain) (line : Line) (events : List Event) (reply : Reply) (new : Chain) → Ordered old → Step old line events reply new → Ordered new
step_ordered old line events reply new o s =
    let mid = does_ordered old line s.own reply s.mid o s.does in
    let fed = record s.mid { nodes = s.nodes } in
    subst Ordered (sym s.is) (record { tables = mid.tables; ids = ids_stay s.mid fed refl refl (attached_stay s.mid fed (still_fed s.mid s.given s.nodes s.feeds)) mid.ids })

opened_ordered : (t : Contents) → TablesApart t → Ordered (opened t)
opened_ordered t are = record { tables = are; ids = opened_ids t are }

comes_ordered : {c : Chain} → ComesUp c → Ordered c
comes_ordered = comes_keep Ordered opened_ordered step_ordered does_ordered

-- so a node's attachments share neither a remote nor an identity
are_ids : (c : Chain) → IdsFit c → (name : NodeName) → AreIds (node_at c name).attached
are_ids c f name = record {
  one_id = λ r id other a b. ap (λ (i : LocalId). i.0) (f.one name r (record { 0 = id }) (record { 0 = other }) (contained _ _ a) (contained _ _ b));
  one_remote = λ r s id a b. f.apart r s (record { 0 = id }) (attached name (contained _ _ a)) (attached name (contained _ _ b));
}

-- the receiver of an open side is that of a hop that can be reached
are_sound : {q : Logs} (c : Chain) → Holds q c → (name : NodeName) → AreSound (node_at c name)
are_sound c h name port side entity its =
    subst IsSound (sym at.2.its_rx) (reaches_inv (hop_of at.0 (flip (way_from own.0))) (h.stands.fits.reaches port entity.epoch at.0 at.1 (flip (way_from own.0)))).sound
  where
    n : Node
    n = node_at c name

    fits : NodeFits n
    fits = node_fits c h name

    own : HasSide n.name side
    own = each_found (HasSide n.name) (λ (x : PortSide). is_port port x.name) n.ports side (each_side n.name n.ports fits.owned) its.here

    owned : owner own.0 port ≡ name
    owned = ap (owner own.0) (side_name n port side its.here) ∙ own.1 ∙ node_name c name

    is_on : entity_on c own.0 port ≡ Some entity
    is_on = ap (λ (x : NodeName). entity_at (node_at c x) port) owned ∙ ap (option_and_then entity_of) its.here ∙ its.is_open

    at : (p : Port) × (h.stands.ports port entity.epoch ≡ Some p) × IsSide p own.0 entity.tx entity.rx
    at = h.stands.sides.open_port own.0 port entity is_on

pub runs_keep_chains_orderly : RlcLaws → RunsKeepChainsOrderly
runs_keep_chains_orderly l c up = record {
  rows = (comes_ordered up).tables.maps;
  sound = are_sound c (comes_hold l up);
  ids = are_ids c (comes_ordered up).ids;
}
