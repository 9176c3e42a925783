-- The plans of all remotes as a list, and what a call answers (TS 38.300 clause 16.12.6).
use Rattle.std.specs.Prelude.{◌≡◌, ℕ, ◌<◌, Bool, false, not, List, length, map, find, nat_lt, slice_index_or, slice_set, Option, Some, None, option_map, Result, Ok, Err, if◌then◌else◌}
use Rattle.link_base.specs.declared.names.Goal.{Goal}
use Rattle.link_base.specs.declared.names.Node.{Node as NodeKind}
use Rattle.link_base.specs.declared.names.Place.{Place}
use Rattle.link_base.specs.declared.names.Remote.{Remote}
use Rattle.bearer_map.specs.declared.rows.RemoteRow.{RemoteRow}
use Rattle.bearer_map.specs.Contents.{Contents}
use Rattle.node_model.specs.Names.{is_remote, replaced}
use Rattle.node_model.specs.Rows.{AreOrdered}
use Rattle.node_model.specs.Tables.{has_remote, has_path}
use Rattle.chain_model.specs.declared.plan.Plan.{Plan}
use Rattle.chain_model.specs.Plans.{has_applied, is_open, marks, next_plan}
use Rattle.path_switch.specs.declared.answers.Applied.{Applied}
use Rattle.path_switch.specs.declared.answers.ApplyFault.{ApplyFault}
use Rattle.path_switch.specs.declared.answers.ApplyFault.TheVariants.{NoRemote as NoSuchRemote, NoPlan, Already}
use Rattle.path_switch.specs.declared.answers.PlanFault.{PlanFault}
use Rattle.path_switch.specs.declared.answers.PlanFault.TheVariants.{NoRemote, PlanOpen, NoTable, IdBusy}

-- a plan stands before another by its remote
abbrev pub is_before : Plan → Plan → Bool
is_before a b = nat_lt a.remote.0 b.remote.0

-- whose plan it is
abbrev pub plan_remote : Plan → Remote
plan_remote p = p.remote

-- the remote of a row of the tables
abbrev pub row_remote : RemoteRow → Remote
row_remote row = row.remote

-- each remote of the tables has a plan, and no other has
abbrev pub HaveRows : Contents → List Plan → Type 0
HaveRows t plans = map plan_remote plans ≡ map row_remote t.remotes

-- the last plan of a remote
abbrev pub plan_of : List Plan → Remote → Option Plan
plan_of plans remote = find (λ (p : Plan). is_remote remote p.remote) plans

-- the plans with this one in the place of the last one of its remote
abbrev pub with_plan : List Plan → Plan → List Plan
with_plan plans p = replaced (λ (x : Plan). is_remote p.remote x.remote) p plans

-- the last plan of a remote stands at this place: it is found by its remote, and replaced by its remote where it is replaced there
pub record IsPlace (plans : List Plan) (remote : Remote) (place : ℕ) : Type 0 where
  pub last : Plan
  pub within : place < length plans
  pub here : last ≡ slice_index_or plans place last
  pub found : plan_of plans remote ≡ Some last
  pub replaces : (new : Plan) → new.remote ≡ last.remote → with_plan plans new ≡ slice_set plans place new
  pub stays : (new : Plan) → new.remote ≡ last.remote → AreOrdered is_before (slice_set plans place new)

-- a plan is there, and it is open
abbrev pub has_open : Option Plan → Bool
has_open None = false
has_open (Some p) = is_open p

-- why a plan isn't opened: there is no such remote; a plan of it is open; a bearer has no channels; the local identity is in use
abbrev pub plan_fault : Contents → List Plan → Remote → Goal → Option Place → Option PlanFault
plan_fault t plans remote goal busy =
    if not (has_remote t remote) then Some NoRemote
    else if has_open (plan_of plans remote) then Some PlanOpen
    else if not (has_path t remote goal) then Some NoTable
    else option_map (λ (place : Place). IdBusy place) busy

-- the next plan of a remote stands in the place of the last one, and its epoch is this
abbrev pub GoesTo : List Plan → Remote → Goal → ℕ → List Plan → Type 0
GoesTo old remote goal epoch new = (last : Plan) × (plan_of old remote ≡ Some last) × (epoch ≡ (next_plan last goal).epoch) × (new ≡ with_plan old (next_plan last goal))

-- a plan is opened where there is no reason against it, else the first reason is told and nothing changes
abbrev pub Opens : Contents → List Plan → Remote → Goal → Option Place → Result ℕ PlanFault → List Plan → Type 0
Opens t old remote goal busy (Ok epoch) new = (plan_fault t old remote goal busy ≡ None) × GoesTo old remote goal epoch new
Opens t old remote goal busy (Err fault) new = (plan_fault t old remote goal busy ≡ Some fault) × (new ≡ old)

-- why a node can't apply the last plan of a remote: there is no such remote; the plan isn't open; the node has applied it
abbrev pub apply_fault : Option Plan → NodeKind → Option ApplyFault
apply_fault None kind = Some NoSuchRemote
apply_fault (Some p) kind = if not (is_open p) then Some NoPlan else if has_applied p kind then Some Already else None

-- what a node is to apply, of a plan that is marked for it
abbrev pub applied : Plan → Applied
applied p = record { goal = p.goal; epoch = p.epoch; last = not (is_open p) }

-- the last plan of a remote is marked for a node of this kind, which learns what it is to apply
abbrev pub Marks : List Plan → Remote → NodeKind → Applied → List Plan → Type 0
Marks old remote kind answer new = (last : Plan) × (plan_of old remote ≡ Some last) × (answer ≡ applied (marks last kind)) × (new ≡ with_plan old (marks last kind))

-- a plan is applied where there is no reason against it, else the first reason is told and nothing changes
abbrev pub Applies : List Plan → Remote → NodeKind → Result Applied ApplyFault → List Plan → Type 0
Applies old remote kind (Ok answer) new = (apply_fault (plan_of old remote) kind ≡ None) × Marks old remote kind answer new
Applies old remote kind (Err fault) new = (apply_fault (plan_of old remote) kind ≡ Some fault) × (new ≡ old)
