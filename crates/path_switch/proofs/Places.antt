-- The place of the plan of a remote among plans in order.
use Rattle.std.proofs.Common.{◌≡◌, inl, inr, ℕ, ◌<◌, Bool, true, false, List, length, get_or, set, map, Option, Some, None, refl, sym, ◌∙◌, ap, subst, eq-eqb, arith}
use Rattle.std.specs.Prelude.{nat_lt, IfSome, IfNone}
use Rattle.std.specs.List.{position, position_or_len}
use Rattle.std.proofs.lemmas.Bool.{cases_Bool, eqb-true, ltb-true, ltb-false, false_from_ne_true}
use Rattle.std.proofs.lemmas.List.{get_or_default}
use Rattle.std.proofs.lemmas.List.Folds.{find_at}
use Rattle.std.proofs.Math.Seq.{map-set_same}
use Rattle.std.proofs.lemmas.List.Quantifiers.{position-Some}
use Rattle.std.proofs.lemmas.Option.{none-some, slice_get_past}
use Rattle.link_base.specs.declared.names.Goal.TheVariants.{Direct as ToDirect}
use Rattle.link_base.specs.declared.names.Remote.{Remote}
use Rattle.node_model.specs.Names.{is_remote, replaced}
use Rattle.node_model.specs.Rows.{AreOrdered}
use Rattle.node_model.proofs.Rows.{finds_row, stays_ordered}
use Rattle.chain_model.specs.declared.plan.Plan.{Plan}
use Rattle.chain_model.specs.State.{first_plan}
use Rattle.path_switch.specs.Plans.{is_before, plan_remote, plan_of, with_plan, IsPlace}

-- two plans of one remote don't stand one before the other
apart : (remote : Remote) (a b : Plan) → is_remote remote a.remote ≡ true → is_remote remote b.remote ≡ true → is_before a b ≡ false
apart remote a b is too = false_from_ne_true (is_before a b) (λ lt. absurd (omega (arith, ltb-true a.remote.0 b.remote.0 lt, eqb-true remote.0 a.remote.0 is, eqb-true remote.0 b.remote.0 too)))

-- a plan of the same remote stands before and behind the same plans
module _ (a b : Plan) (same : a.remote ≡ b.remote) where
  as_before : (other : Plan) → is_before other a ≡ is_before other b
  as_before other = ap (λ (r : Remote). nat_lt other.remote.0 r.0) same

  as_behind : (other : Plan) → is_before a other ≡ is_before b other
  as_behind other = ap (λ (r : Remote). nat_lt r.0 other.remote.0) same

module _ (plans : List Plan) (remote : Remote) (up : AreOrdered is_before plans) where
  -- where a plan of the remote stands
  pub place_is : (place : ℕ) (last : Plan) → place < length plans → last ≡ get_or plans place last → is_remote remote last.remote ≡ true → IsPlace plans remote place
  place_is place last lt here passes =
      let name : is_remote last.remote last.remote ≡ true = eq-eqb last.remote.0 last.remote.0 refl in
      let own = finds_row is_before (λ (p : Plan). is_remote last.remote p.remote) (apart last.remote) plans place last up lt here name in
      record {
        last = last;
        within = lt;
        here = here;
        found = (finds_row is_before (λ (p : Plan). is_remote remote p.remote) (apart remote) plans place last up lt here passes).0;
        replaces = λ new same. ap (λ (r : Remote). replaced (λ (x : Plan). is_remote r x.remote) new plans) same ∙ own.1 new;
        stays = λ new same. stays_ordered is_before plans place last new up lt here (as_before new last same) (as_behind new last same);
      }

  abbrev test : Plan → Bool
  test p = is_remote remote p.remote

  -- what a search by the remote finds is its place
  pub found_place : (o : Option ℕ) → o ≡ position test plans → IfSome o (IsPlace plans remote)
  found_place None e = tt
  found_place (Some place) e =
      let d : Plan = first_plan (record { remote = remote; goal = ToDirect }) in
      let at = position-Some test plans place d (sym e) in
      place_is place (get_or plans place d) at.0 (get_or_default plans place d (get_or plans place d) at.0) at.1

  -- where it finds none the remote has no plan
  pub found_none : (o : Option ℕ) → o ≡ position test plans → IfNone o (plan_of plans remote ≡ None)
  found_none (Some place) e = tt
  found_none None e =
      let n : ℕ = position_or_len test plans in
      elim (cases_Bool (nat_lt n (length plans))) [
        | inl within ↦
            let is : position test plans ≡ Some n = rw within refl in
            absurd (none-some n (e ∙ is))
        | inr past ↦ find_at test plans ∙ slice_get_past plans n (ltb-false n (length plans) past)
      ]

-- the plan that is read at the place of a remote, in a table that is seen as plans
module _ (plans items slice : List Plan) (view : items ≡ plans) (lent : slice ≡ items) (remote : Remote) (place : ℕ) (found : IsPlace slice remote place) (row : Plan)
    (read : row ≡ get_or items place row) where
  at : IsPlace plans remote place
  at = subst (λ (xs : List Plan). IsPlace xs remote place) (lent ∙ view) found

  is : row ≡ at.last
  is = read ∙ ap (λ (xs : List Plan). get_or xs place row) view ∙ get_or_default plans place row at.last at.within ∙ sym at.here

  pub its : plan_of plans remote ≡ Some row
  its = at.found ∙ ap (λ (p : Plan). Some p) (sym is)

  module _ (new : Plan) (same : new.remote ≡ row.remote) where
    named : new.remote ≡ at.last.remote
    named = same ∙ ap (λ (p : Plan). p.remote) is

    pub replaces : set items place new ≡ with_plan plans new
    replaces = ap (λ (xs : List Plan). set xs place new) view ∙ sym (at.replaces new named)

    pub stays : AreOrdered is_before (set items place new)
    stays = subst (AreOrdered is_before) (ap (λ (xs : List Plan). set xs place new) (sym view)) (at.stays new named)

    -- each plan stays its remote's
    pub same_remotes : map plan_remote (set items place new) ≡ map plan_remote plans
    same_remotes = map-set_same plan_remote items place new row (same ∙ ap plan_remote read) ∙ ap (map plan_remote) view
