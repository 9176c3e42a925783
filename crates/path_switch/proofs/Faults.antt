-- The first reason why a plan isn't opened, or can't be applied.
use Rattle.std.proofs.Common.{◌≡◌, Bool, true, false, List, [], ◌∷◌, map, Option, Some, None, refl, sym, ◌∙◌, ap}
use Rattle.std.specs.Prelude.{is_some, not, find, option_map, cond, ◌||◌}
use Rattle.std.specs.List.{list_any}
use Rattle.link_base.specs.declared.names.Goal.{Goal}
use Rattle.link_base.specs.declared.names.Node.{Node as NodeKind}
use Rattle.link_base.specs.declared.names.Node.TheVariants as kinds
use Rattle.link_base.specs.declared.names.Place.{Place}
use Rattle.link_base.specs.declared.names.Remote.{Remote}
use Rattle.bearer_map.specs.declared.rows.RemoteRow.{RemoteRow}
use Rattle.bearer_map.specs.Contents.{Contents}
use Rattle.node_model.specs.Names.{is_remote}
use Rattle.node_model.specs.Tables.{has_path}
use Rattle.chain_model.specs.declared.plan.Plan.{Plan}
use Rattle.chain_model.specs.Plans.{has_applied, is_open, marks}
use Rattle.path_switch.specs.declared.answers.ApplyFault.TheVariants.{NoPlan, Already}
use Rattle.path_switch.specs.declared.answers.PlanFault.TheVariants.{NoRemote, PlanOpen, NoTable, IdBusy}
use Rattle.path_switch.specs.Plans.{HaveRows, plan_remote, row_remote, plan_of, plan_fault, apply_fault}

-- the tables have a remote where it has a plan
has_plan : (remote : Remote) (rows : List RemoteRow) (plans : List Plan) → map plan_remote plans ≡ map row_remote rows
    → list_any (λ (row : RemoteRow). is_remote remote row.remote) rows ≡ is_some (find (λ (p : Plan). is_remote remote p.remote) plans)
has_plan remote [] [] same = refl
has_plan remote [] (p ∷ plans) same = absurd cc
has_plan remote (row ∷ rows) [] same = absurd cc
has_plan remote (row ∷ rows) (p ∷ plans) same =
    let first : p.remote ≡ row.remote = cc in
    let rest : map plan_remote plans ≡ map row_remote rows = cc in
    either (is_remote remote row.remote) (is_remote remote p.remote) _ _ (ap (is_remote remote) (sym first)) (has_plan remote rows plans rest)
  where
    either : (a b x : Bool) (y : Option Plan) → a ≡ b → x ≡ is_some y → (a || x) ≡ is_some (cond b (Some p) y)
    either true b x y e more = rw (sym e) refl
    either false b x y e more = rw (sym e) more

-- what is no place is none
pub nowhere : (busy : Option Place) → ((place : Place) → busy ≡ Some place → ⊥) → busy ≡ None
nowhere None apart = refl
nowhere (Some place) apart = absurd (apart place refl)

module _ (t : Contents) (plans : List Plan) (have : HaveRows t plans) (remote : Remote) (goal : Goal) (busy : Option Place) where
  -- a remote without a plan isn't there
  pub no_plan : plan_of plans remote ≡ None → plan_fault t plans remote goal busy ≡ Some NoRemote
  no_plan none = rw (has_plan remote t.remotes plans have ∙ ap is_some none) refl

  -- of a remote with a plan there are three reasons
  module _ (last : Plan) (its : plan_of plans remote ≡ Some last) where
    reason : plan_fault t plans remote goal busy
        ≡ cond (is_open last) (Some PlanOpen) (cond (not (has_path t remote goal)) (Some NoTable) (option_map (λ (place : Place). IdBusy place) busy))
    reason = rw (has_plan remote t.remotes plans have ∙ ap is_some its, its) refl

    pub is_still_open : is_open last ≡ true → plan_fault t plans remote goal busy ≡ Some PlanOpen
    is_still_open open_still = reason ∙ rw open_still refl

    module _ (closed : is_open last ≡ false) where
      pub no_path : has_path t remote goal ≡ false → plan_fault t plans remote goal busy ≡ Some NoTable
      no_path lacks = reason ∙ rw (closed, lacks) refl

      pub is_busy : has_path t remote goal ≡ true → (place : Place) → busy ≡ Some place → plan_fault t plans remote goal busy ≡ Some (IdBusy place)
      is_busy has place at = reason ∙ rw (closed, has, at) refl

      pub is_free : has_path t remote goal ≡ true → busy ≡ None → plan_fault t plans remote goal busy ≡ None
      is_free has none = reason ∙ rw (closed, has, none) refl

-- a node that applies a plan leaves it its remote's
pub marked_remote : (p : Plan) (kind : NodeKind) → (marks p kind).remote ≡ p.remote
marked_remote p kinds.Remote = refl
marked_remote p kinds.Relay = refl
marked_remote p kinds.Gnb = refl

-- of a plan there are two reasons why a node can't apply it
module _ (last : Plan) (kind : NodeKind) where
  pub is_closed : is_open last ≡ false → apply_fault (Some last) kind ≡ Some NoPlan
  is_closed closed = rw closed refl

  pub is_applied : is_open last ≡ true → has_applied last kind ≡ true → apply_fault (Some last) kind ≡ Some Already
  is_applied opened done = rw (opened, done) refl

  pub may_apply : is_open last ≡ true → has_applied last kind ≡ false → apply_fault (Some last) kind ≡ None
  may_apply opened waits = rw (opened, waits) refl
