-- A plan is accepted for an identity that nothing bears.
use Rattle.std.proofs.Common.{◌≡◌, inr, ℕ, ◌==◌, Bool, true, false, cond, not, List, [], ◌∷◌, Option, Some, None, Contains, option_map, refl, sym, ◌∙◌, ap, subst}
use Rattle.std.specs.List.{AllByRecursion}
use Rattle.std.proofs.lemmas.Bool.{eq-eqb, true≢false}
use Rattle.link_base.specs.declared.names.Goal.{Goal}
use Rattle.link_base.specs.declared.names.Goal.TheVariants.{Relay as ToRelay}
use Rattle.link_base.specs.declared.names.LocalId.{LocalId}
use Rattle.link_base.specs.declared.names.Node.{Node as NodeKind}
use Rattle.link_base.specs.declared.names.Place.{Place}
use Rattle.link_base.specs.declared.names.PortName.TheVariants.{Uu}
use Rattle.link_base.specs.declared.names.Remote.{Remote}
use Rattle.link_base.specs.declared.names.Way.{Way}
use Rattle.bearer_map.specs.declared.rows.UuRow.{UuRow}
use Rattle.bearer_map.specs.Contents.{Contents}
use Rattle.bearer_map.specs.Ids.{IsAttached}
use Rattle.rlc_model.specs.Sides.{Entity, sender_of}
use Rattle.rlc_model.specs.Tx.{Kept, kept_at}
use Rattle.script_text.specs.declared.event.Event.{Event}
use Rattle.script_text.specs.declared.line.Line.{Line}
use Rattle.script_text.specs.declared.line.Line.TheVariants.{Plan as PlanLine, Drain, End}
use Rattle.script_text.specs.declared.reply.Reply.{Reply}
use Rattle.script_text.specs.declared.reply.Reply.TheVariants.{NoRemote, NoTable, PlanOpen, IdBusy, OkNumber}
use Rattle.script_text.specs.History.{Entry}
use Rattle.node_model.specs.Names.{node_of}
use Rattle.node_model.specs.Tables.{has_path, has_remote}
use Rattle.chain_model.specs.declared.plan.Plan.{Plan}
use Rattle.chain_model.specs.Draining.{Moment}
use Rattle.chain_model.specs.Lines.{Unless, or_else, open_refusal, plan_refusal, Plans}
use Rattle.chain_model.specs.Plans.{is_open, kept_bears, tag_bears, busy_place}
use Rattle.chain_model.specs.State.{Chain, node_at, plan_at, entity_on}
use Rattle.chain_model.specs.Steps.{Does}
use Rattle.chain_law.proofs.Members.{contained, passes_any}
use Rattle.book_law.specs.Past.{Goes, steps, drained, ended, Passes, IsDeclaration, AreTables}
use Rattle.item_law.proofs.base.Nodes.{reserves_at}
use Rattle.item_chain.specs.Foundations.{PduLaws}
use Rattle.item_chain.specs.Runs.{PastsStand, AreRunLines}
use Rattle.item_chain.specs.View.{view}
use Rattle.item_chain.specs.Stands.{goal_of, PlanFits, opened, closed, TablesGood, Ghost, Stands}
use Rattle.item_chain.proofs.FreeIds.{not_reserved, none_held, not_in_slot, not_in_queue, uu_place, at_transmitter, kept_in}
use Rattle.item_chain.proofs.Plans.{accepted}
use Rattle.item_run.specs.Foundations.{BookLaws}
use Rattle.item_run.specs.Identities.{IsUnborne, PlansUnborne}
use Rattle.item_run.proofs.Runs.{history, stands_behind}

module _ (g : Ghost) (c : Chain) (st : Stands g (view c)) (id : LocalId) (free : busy_place c (ToRelay id) ≡ None) where
  not_attached : (kind : NodeKind) (r : Remote) → IsAttached (node_at c (node_of kind r)).attached r id.0 → ⊥
  not_attached kind r has = not_reserved g c st id free r
      (reserves_at (g.chain.path r) kind id (sym (st.paths.ids kind r) ∙ ap goal_of (st.paths.agree (node_of kind r) r id has)))

  not_asked : (r : Remote) (p : Plan) → plan_at c r ≡ Some p → is_open p ≡ true → p.goal ≡ ToRelay id → ⊥
  not_asked r p its is asks = by (st.paths.plans r p its)
    where
      by : PlanFits (g.chain.path r) p → ⊥
      by (opened still plan epoch) = not_reserved g c st id free r (inr (_, plan, asks))
      by (closed shut none epoch goal) = true≢false (sym is ∙ shut)

  not_sent : (way : Way) (row : UuRow) → Contains c.tables.uus row → (e : Entity) → entity_on c (sender_of way) (Uu row.chan) ≡ Some e
      → (k : ℕ) (kept : Kept) → kept_at e.tx k ≡ Some kept → kept.tag.ue ≡ Some id → ⊥
  not_sent way row among e is k kept its ue = uu_place g c st id free row.chan
      (passes_any (λ (x : UuRow). row.chan.0 == x.chan.0) c.tables.uus row (contained c.tables.uus row among) (eq-eqb row.chan.0 row.chan.0 refl))
      (at_transmitter g c st id free way row.chan e is
      (passes_any (kept_bears id) e.tx.kept (Some kept) (kept_in g c st id free e.tx.kept k kept its) (ap (tag_bears id) ue ∙ eq-eqb id.0 id.0 refl)))

-- whatever ghost stands for the chain
pub unborne : (g : Ghost) (c : Chain) → Stands g (view c) → (id : LocalId) → busy_place c (ToRelay id) ≡ None → IsUnborne c id
unborne g c st id free = record {
  attached = not_attached g c st id free;
  asked = not_asked g c st id free;
  slots = not_in_slot g c st id free;
  queues = λ p x among. not_in_queue g c st id free p x (contained _ x among);
  transmitters = not_sent g c st id free;
  items = λ h stands. none_held h c stands id free;
}

-- a refusal of a plan is no number
no_number : (c : Chain) (r : Remote) (goal : Goal) (epoch : ℕ) → plan_refusal c r goal ≡ Some (OkNumber epoch) → ⊥
no_number c r goal epoch = go (has_remote c.tables r) (plan_at c r) (has_path c.tables r goal) (busy_place c goal)
  where
    opened_no : (p : Plan) (still : Bool) (rest : Option Reply) → (rest ≡ Some (OkNumber epoch) → ⊥)
        → or_else (cond still (Some (PlanOpen p.remote)) None) rest ≡ Some (OkNumber epoch) → ⊥
    opened_no p true rest none e = cc
    opened_no p false rest none e = none e

    rest_no : (b : Bool) (busy : Option Place) → cond (not b) (Some NoTable) (option_map (λ (place : Place). IdBusy place) busy) ≡ Some (OkNumber epoch) → ⊥
    rest_no false busy e = cc
    rest_no true None e = cc
    rest_no true (Some place) e = cc

    go : (a : Bool) (o : Option Plan) (b : Bool) (busy : Option Place)
        → cond (not a) (Some NoRemote) (or_else (open_refusal o) (cond (not b) (Some NoTable) (option_map (λ (place : Place). IdBusy place) busy))) ≡ Some (OkNumber epoch) → ⊥
    go false o b busy e = cc
    go true None b busy e = rest_no b busy e
    go true (Some p) b busy e = opened_no p (is_open p) _ (rest_no b busy) e

-- an accepted plan found no place that is busy
free_place : (c : Chain) (r : Remote) (goal : Goal) (own : List Event) (epoch : ℕ) (reply : Reply) (mid : Chain) → reply ≡ OkNumber epoch → (refusal : Option Reply)
    → plan_refusal c r goal ≡ refusal
    → Unless refusal c own reply mid (Plans c r goal own reply mid) → busy_place c goal ≡ None
free_place c r goal own epoch reply mid says None none does = (accepted c r goal none).3
free_place c r goal own epoch reply mid says (Some refusal) is does =
    absurd (no_number c r goal epoch (is ∙ ap (λ (x : Reply). Some x) (sym does.1 ∙ says)))

module _ (books : BookLaws) (pasts : PastsStand) (pdus : PduLaws) (t : Contents) (are : AreTables t) (good : TablesGood t) (declared : List Entry)
    (declare : AllByRecursion IsDeclaration declared) where
  plans_unborne : (ms : List Moment) (m : Moment) (c : Chain) → Passes t ms m.before → AreRunLines (history books pasts pdus t are good declared declare ms)
      → Goes m.before m.entry c → PlansUnborne m
  plans_unborne ms m c before lines (steps s) r id epoch line reply =
      let stood = stands_behind books pasts pdus t are good declared declare ms m.before before lines in
      unborne stood.0 m.before stood.1 id (free_place m.before r (ToRelay id) s.own epoch m.entry.reply s.mid reply (plan_refusal m.before r (ToRelay id)) refl
      (subst (λ (l : Line). Does m.before l s.own m.entry.reply s.mid) line s.does))
  plans_unborne ms m c before lines (drained is no_event same whole) r id epoch line reply = absurd (no_drain (sym line ∙ is))
    where
      no_drain : PlanLine r (ToRelay id) ≡ Drain → ⊥
      no_drain e = cc
  plans_unborne ms m c before lines (ended is no_event says same) r id epoch line reply = absurd (no_end (sym line ∙ is))
    where
      no_end : PlanLine r (ToRelay id) ≡ End → ⊥
      no_end e = cc

  pub each_plans_unborne : (ms : List Moment) (c : Chain) → Passes t ms c → AreRunLines (history books pasts pdus t are good declared declare ms) → AllByRecursion PlansUnborne ms
  each_plans_unborne [] c is lines = tt
  each_plans_unborne (m ∷ ms) c (before, goes) (run, lines) = (plans_unborne ms m c before lines goes, each_plans_unborne ms m.before before lines)
