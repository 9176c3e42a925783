-- What a history tells of a chain right behind its tables.
use Rattle.std.proofs.Common.{◌≡◌, inl, inr, ℕ, ◌==◌, Bool, true, false, cond, ◌||◌, List, [], ◌∷◌, ◌++◌, map, find, Option, Some, None, option_map, option_and_then, refl, sym, ◌∙◌, ap, subst}
use Rattle.std.specs.List.{AllByRecursion, list_any}
use Rattle.std.specs.Option.{unwrap_or}
use Rattle.std.proofs.lemmas.Bool.{cases_Bool, cond-true, cond-false, false≢true}
use Rattle.std.proofs.lemmas.Option.{none-some, same_Some}
use Rattle.link_base.specs.declared.names.Goal.{Goal}
use Rattle.link_base.specs.declared.names.Goal.TheVariants.{Direct as ToDirect}
use Rattle.link_base.specs.declared.names.Node.{Node as NodeKind}
use Rattle.link_base.specs.declared.names.Node.TheVariants as kinds
use Rattle.link_base.specs.declared.names.PortName.{PortName}
use Rattle.link_base.specs.declared.names.PortName.TheVariants.{Direct, Pc5, Uu}
use Rattle.link_base.specs.declared.names.Remote.{Remote}
use Rattle.link_base.specs.declared.names.Side.{Side}
use Rattle.bearer_map.specs.declared.rows.RemoteRow.{RemoteRow}
use Rattle.bearer_map.specs.Contents.{Contents, remote_rank}
use Rattle.bearer_map.specs.Order.{IsAscending}
use Rattle.rlc_model.specs.declared.hop.Pdu.{Pdu}
use Rattle.script_text.specs.declared.line.Line.{Line}
use Rattle.script_text.specs.declared.line.Line.TheVariants.{Plan as PlanLine, Apply}
use Rattle.script_text.specs.declared.stage.Part.TheVariants.{Running}
use Rattle.script_text.specs.Lines.{part_of}
use Rattle.script_text.specs.History.{Entry}
use Rattle.node_model.specs.Names.{NodeName, AtRemote, AtRelay, AtGnb, is_node, is_remote, owner}
use Rattle.node_model.specs.Opening.{attachments, new_remote, new_relay, new_gnb}
use Rattle.node_model.specs.State.{PortSide, Node, entity_of, side_at, no_node}
use Rattle.node_model.proofs.Finding.{find_map}
use Rattle.node_model.proofs.Names.{remote_is}
use Rattle.chain_model.specs.declared.plan.Plan.{Plan}
use Rattle.chain_model.specs.State.{first_plan, opened, node_at, plan_at}
use Rattle.chain_model.specs.Told.{goal_of, first_goal, side_epoch}
use Rattle.chain_law.specs.Entities.{next_epoch}
use Rattle.chain_law.proofs.Opened.{side_new}
use Rattle.book_law.specs.Past.{IsDeclaration}
use Rattle.heard_law.specs.Telling.{has_node, of_remote}
use Rattle.heard_law.proofs.Air.{AirTold}
use Rattle.heard_law.proofs.Attached.{of_own, of_rows}
use Rattle.heard_law.proofs.Knowing.{PlanTold, told_to, Knows, knows_told, is_switch, quiet_line}
use Rattle.heard_law.proofs.Standing.{epoch_of, epoch_in}

module _ (t : Contents) (up : IsAscending remote_rank t.remotes) where
  -- plans
  first_epoch : (row : RemoteRow) (k : NodeKind) → 1 ≡ next_epoch (first_plan row) k
  first_epoch row kinds.Remote = refl
  first_epoch row kinds.Relay = refl
  first_epoch row kinds.Gnb = refl

  plans : (r : Remote) (p : Plan) → plan_at (opened t) r ≡ Some p → PlanTold t [] r p
  plans r p is = by (find (λ (row : RemoteRow). is_remote r row.remote) t.remotes) refl (sym (find_map first_plan (λ (p : Plan). is_remote r p.remote) t.remotes) ∙ is)
    where
      by : (o : Option RemoteRow) → find (λ (row : RemoteRow). is_remote r row.remote) t.remotes ≡ o → option_map first_plan o ≡ Some p → PlanTold t [] r p
      by None found e = absurd (none-some p e)
      by (Some row) found e = subst (PlanTold t [] r) (same_Some (first_plan row) p e) (record {
        goal = sym (ap (λ (o : Option RemoteRow). unwrap_or (option_map goal_of o) ToDirect) found);
        epochs = λ k. first_epoch row k;
      })

  -- the node of a remote
  remote_there : (q : Remote) (rest : List Node) (rows : List RemoteRow) → list_any (λ (row : RemoteRow). is_remote q row.remote) rows ≡ true
      → (row : RemoteRow) × (find (λ (row : RemoteRow). is_remote q row.remote) rows ≡ Some row) × (find (λ (n : Node). is_node (AtRemote q) n.name) (map (new_remote t) rows ++ rest) ≡ Some (new_remote t row)) × (is_remote q row.remote ≡ true)
  remote_there q rest [] none = absurd (false≢true none)
  remote_there q rest (row ∷ rows) some = elim (cases_Bool (is_remote q row.remote)) [
    | inl p ↦ (row, cond-true (is_remote q row.remote) (Some row) _ p, cond-true (is_remote q row.remote) (Some (new_remote t row)) _ p, p)
    | inr f ↦
        let later = remote_there q rest rows (sym (ap (λ (b : Bool). b || list_any (λ (row : RemoteRow). is_remote q row.remote) rows) f) ∙ some) in
        (later.0, cond-false (is_remote q row.remote) (Some row) _ f ∙ later.1, cond-false (is_remote q row.remote) (Some (new_remote t row)) _ f ∙ later.2, later.3)
  ]

  relay_there : (rows : List RemoteRow) → find (λ (n : Node). is_node AtRelay n.name) (map (new_remote t) rows ++ new_relay t ∷ new_gnb t ∷ []) ≡ Some (new_relay t)
  relay_there [] = refl
  relay_there (row ∷ rows) = relay_there rows

  gnb_there : (rows : List RemoteRow) → find (λ (n : Node). is_node AtGnb n.name) (map (new_remote t) rows ++ new_relay t ∷ new_gnb t ∷ []) ≡ Some (new_gnb t)
  gnb_there [] = refl
  gnb_there (row ∷ rows) = gnb_there rows

  attached : (x : NodeName) → has_node t x ≡ true → (r : Remote) → of_remote r (node_at (opened t) x).attached ≡ told_to t x r []
  attached (AtRemote q) has r =
      let found = remote_there q (new_relay t ∷ new_gnb t ∷ []) t.remotes has in
      let its : q ≡ found.0.remote = remote_is q found.0.remote found.3 in
      ap (λ (o : Option Node). of_remote r (unwrap_or o (no_node (AtRemote q))).attached) found.2 ∙ of_own r found.0.remote found.0.goal
      ∙ ap (λ (y : Remote). cond (is_remote r y) (attachments r found.0.goal) []) (sym its) ∙ elim (cases_Bool (is_remote r q)) [
        | inl p ↦ ap (λ (g : Goal). cond (is_remote r q) (attachments r g) []) (sym (ap (λ (y : Remote). first_goal t y) (remote_is r q p) ∙ ap (λ (o : Option RemoteRow). unwrap_or (option_map goal_of o) ToDirect) found.1))
        | inr f ↦ cond-false (is_remote r q) (attachments r found.0.goal) [] f ∙ sym (cond-false (is_remote r q) (attachments r (first_goal t r)) [] f)
      ]
  attached AtRelay has r = ap (λ (o : Option Node). of_remote r (unwrap_or o (no_node AtRelay)).attached) (relay_there t.remotes) ∙ of_rows r goal_of t.remotes up
  attached AtGnb has r = ap (λ (o : Option Node). of_remote r (unwrap_or o (no_node AtGnb)).attached) (gnb_there t.remotes) ∙ of_rows r goal_of t.remotes up

  -- sides are open in epoch 0
  none_yet : (side : Side) (q : PortName) → side_epoch side q [] ≡ 0
  none_yet side (Direct r d) = refl
  none_yet side (Pc5 r c) = refl
  none_yet side (Uu c) = refl

  epochs : (side : Side) (q : PortName) (n : ℕ) → epoch_in (node_at (opened t) (owner side q)) q ≡ Some n → n ≡ side_epoch side q []
  epochs side q n is = by (side_at (node_at (opened t) (owner side q)) q) refl is ∙ sym (none_yet side q)
    where
      by : (o : Option PortSide) → side_at (node_at (opened t) (owner side q)) q ≡ o → option_map epoch_of (option_and_then entity_of o) ≡ Some n → n ≡ 0
      by None found e = absurd (none-some n e)
      by (Some s) found e = elim (side_new t (owner side q) q s found).entity [
        | inl shut ↦ absurd (none-some n (sym (ap (option_map epoch_of) shut) ∙ e))
        | inr fresh ↦ sym (same_Some 0 n (sym (ap (option_map epoch_of) fresh) ∙ e))
      ]

  -- behind the lines that declare the tables
  pub begun_knows : (declared : List Entry) → AllByRecursion IsDeclaration declared → Knows t declared (opened t)
  begun_knows [] all = record { plans = plans; attached = attached; epochs = epochs }
  begun_knows (e ∷ declared) all = knows_told e (quiet_line e.line e.reply (by e.line all.0.part)) (begun_knows declared all.1)
    where
      by : (line : Line) → (part_of line ≡ Running → ⊥) → is_switch line ≡ false
      by (PlanLine remote goal) part = absurd (part refl)
      by (Apply remote kind) part = absurd (part refl)
      by line part = refl

  pub begun_air : (declared : List Entry) → AirTold declared (opened t).air
  begun_air declared ticket pdu here = absurd (none-some pdu (sym (by (ticket == 0)) ∙ here))
    where
      by : (b : Bool) → ◌≡◌ {A = Option Pdu} (cond b None None) None
      by true = refl
      by false = refl
