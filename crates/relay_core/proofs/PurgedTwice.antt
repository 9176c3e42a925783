-- A remote that is purged has nothing left that a purge would drop.
use Rattle.std.proofs.Common.{◌≡◌, ℕ, Bool, true, false, cond, not, ◌||◌, List, [], ◌∷◌, ◌++◌, map, Option, Some, None, refl, sym, ◌∙◌, ap, inl, inr}
use Rattle.std.specs.List.{filter}
use Rattle.std.proofs.lemmas.Bool.{cases_Bool}
use Rattle.std.proofs.lemmas.List.{append-nil}
use Rattle.link_base.specs.declared.names.Remote.{Remote}
use Rattle.link_base.specs.declared.names.Goal.TheVariants.{Direct as ToDirect}
use Rattle.bearer_map.specs.declared.ids.Attachment.{Attachment}
use Rattle.bearer_map.specs.declared.settings.Settings.{Settings}
use Rattle.rlc_model.specs.Sides.{Entity}
use Rattle.node_model.specs.declared.parcel.Parcel.{Parcel}
use Rattle.node_model.specs.Names.{is_of, is_remote}
use Rattle.node_model.specs.State.{PortSide}
use Rattle.node_model.specs.Opening.{new_entity}
use Rattle.node_model.specs.Tables.{is_open_on}
use Rattle.node_model.specs.Switching.{leads_to, is_purged, side_after, attached_after, node_after}
use Rattle.relay_core.specs.Relay.{relay_with}

-- what is chosen twice by one test is chosen once
chosen : {T : Type 0} (its : Bool) (x y : T) → cond its x (cond its x y) ≡ cond its x y
chosen true x y = refl
chosen false x y = refl

module _ (s : Settings) (remote : Remote) where
  slot_twice : (its : Bool) (slot : Option Parcel)
      → cond (its || leads_to remote (cond (its || leads_to remote slot) None slot)) None (cond (its || leads_to remote slot) None slot) ≡ cond (its || leads_to remote slot) None slot
  slot_twice true slot = refl
  slot_twice false slot = elim (cases_Bool (leads_to remote slot)) [
    | inl leads ↦ rw leads refl
    | inr other ↦ rw (other, other) refl
  ]

  side_twice : (x : PortSide) → side_after s remote ToDirect 0 (side_after s remote ToDirect 0 x) ≡ side_after s remote ToDirect 0 x
  side_twice x =
      let its = is_of remote x.name in
      let new : Option Entity = cond (is_open_on ToDirect x.name) (Some (new_entity s x.size 0)) None in
      let slot : Option Parcel = cond (is_purged remote x) None x.slot in
      ap (λ (e : Option Entity). let side : PortSide = record { name = x.name; size = x.size; entity = e; slot = cond (its || leads_to remote slot) None slot; queue = cond its [] (cond its [] x.queue) } in side)
      (chosen its new x.entity)
      ∙ ap (λ (p : Option Parcel). let side : PortSide = record { name = x.name; size = x.size; entity = cond its new x.entity; slot = p; queue = cond its [] (cond its [] x.queue) } in side) (slot_twice its x.slot)
      ∙ ap (λ (q : List Parcel). let side : PortSide = record { name = x.name; size = x.size; entity = cond its new x.entity; slot = slot; queue = q } in side) (chosen its [] x.queue)

  sides_twice : (xs : List PortSide) → map (side_after s remote ToDirect 0) (map (side_after s remote ToDirect 0) xs) ≡ map (side_after s remote ToDirect 0) xs
  sides_twice [] = refl
  sides_twice (x ∷ xs) = ap (λ (y : PortSide). y ∷ map (side_after s remote ToDirect 0) (map (side_after s remote ToDirect 0) xs)) (side_twice x)
      ∙ ap (λ (ys : List PortSide). side_after s remote ToDirect 0 x ∷ ys) (sides_twice xs)

  abbrev stays : Attachment → Bool
  stays a = not (is_remote remote a.remote)

  filter_twice : (xs : List Attachment) → filter stays (filter stays xs) ≡ filter stays xs
  filter_twice [] = refl
  filter_twice (a ∷ xs) = elim (cases_Bool (stays a)) [
    | inl is_kept ↦ rw is_kept (rw is_kept (ap (λ (ys : List Attachment). a ∷ ys) (filter_twice xs)))
    | inr fails ↦ rw fails (filter_twice xs)
  ]

  attached_twice : (xs : List Attachment) → attached_after remote ToDirect (attached_after remote ToDirect xs) ≡ attached_after remote ToDirect xs
  attached_twice xs = append-nil (filter stays (filter stays xs ++ [])) ∙ ap (filter stays) (append-nil (filter stays xs)) ∙ filter_twice xs ∙ sym (append-nil (filter stays xs))

  pub purged_twice : (ports : List PortSide) (attached : List Attachment)
      → node_after s remote ToDirect 0 (node_after s remote ToDirect 0 (relay_with ports attached)) ≡ node_after s remote ToDirect 0 (relay_with ports attached)
  purged_twice ports attached = ap (λ (xs : List PortSide). relay_with xs (attached_after remote ToDirect (attached_after remote ToDirect attached))) (sides_twice ports)
      ∙ ap (relay_with (map (side_after s remote ToDirect 0) ports)) (attached_twice attached)
