-- Along a run a history tells of the chain what it holds.
use Rattle.std.proofs.Common.{◌≡◌, inl, inr, Bool, true, false, cond, ◌||◌, List, [], ◌∷◌, ◌++◌, map, find, Some, option_map, refl, sym, ◌∙◌, ap, subst}
use Rattle.std.specs.List.{AllByRecursion, list_any}
use Rattle.std.proofs.lemmas.Bool.{cases_Bool, cond-true, cond-false, false≢true}
use Rattle.link_base.specs.declared.names.Remote.{Remote}
use Rattle.bearer_map.specs.declared.rows.RemoteRow.{RemoteRow}
use Rattle.bearer_map.specs.Contents.{Contents}
use Rattle.script_text.specs.declared.line.Line.{Line}
use Rattle.script_text.specs.declared.line.Line.TheVariants.{Plan as PlanLine, Apply}
use Rattle.script_text.specs.declared.event.Event.{Event}
use Rattle.script_text.specs.declared.reply.Reply.{Reply}
use Rattle.script_text.specs.History.{Entry}
use Rattle.node_model.specs.Names.{NodeName, AtRemote, AtRelay, AtGnb, is_node, is_remote}
use Rattle.node_model.specs.Opening.{attachments}
use Rattle.node_model.proofs.Names.{remote_is}
use Rattle.node_model.specs.Places.{node_name}
use Rattle.node_model.specs.State.{Node}
use Rattle.chain_model.specs.State.{Chain}
use Rattle.chain_model.specs.Steps.{Does}
use Rattle.chain_model.specs.Draining.{Moment, entry_of}
use Rattle.chain_model.specs.Told.{attached_at, path_at, kind_of}
use Rattle.book_law.specs.Past.{Goes, steps, drained, ended, Passes, IsDeclaration, AreTables}
use Rattle.book_law.specs.Laws.{remote_name, HasEachNode}
use Rattle.book_law.proofs.Tables.{tables_stay, has_each_node}
use Rattle.heard_law.specs.Telling.{has_node, of_remote, Tells}
use Rattle.heard_law.proofs.Air.{AirTold, does_air, air_told, is_grant, sends_none}
use Rattle.heard_law.proofs.Attached.{of_own, of_paths}
use Rattle.heard_law.proofs.Begun.{begun_knows, begun_air}
use Rattle.heard_law.proofs.Knowing.{told_to, Knows, knows_beside, knows_told, is_switch, quiet_line, does_plans}
use Rattle.heard_law.proofs.Standing.{epoch_of}
use Rattle.heard_law.proofs.Still.{still_fed, does_still}
use Rattle.heard_law.proofs.Switched.{HasNodes, plan_knows, apply_knows}

-- the chain has the nodes that its names tell
name_there : (x : NodeName) (ns : List Node) → list_any (is_node x) (map node_name ns) ≡ true → (n : Node) × (find (λ (n : Node). is_node x n.name) ns ≡ Some n)
name_there x [] none = absurd (false≢true none)
name_there x (n ∷ ns) some = elim (cases_Bool (is_node x n.name)) [
  | inl p ↦ (n, cond-true (is_node x n.name) (Some n) _ p)
  | inr f ↦ let later = name_there x ns (sym (ap (λ (b : Bool). b || list_any (is_node x) (map node_name ns)) f) ∙ some) in (later.0, cond-false (is_node x n.name) (Some n) _ f ∙ later.1)
]

remotes_have : (r : Remote) (rows : List RemoteRow) → list_any (λ (row : RemoteRow). is_remote r row.remote) rows ≡ true
    → list_any (is_node (AtRemote r)) (map remote_name rows ++ AtRelay ∷ AtGnb ∷ []) ≡ true
remotes_have r [] has = absurd (false≢true has)
remotes_have r (row ∷ rows) has = elim (cases_Bool (is_remote r row.remote)) [
  | inl p ↦ ap (λ (b : Bool). b || list_any (is_node (AtRemote r)) (map remote_name rows ++ AtRelay ∷ AtGnb ∷ [])) p
  | inr f ↦ ap (λ (b : Bool). b || list_any (is_node (AtRemote r)) (map remote_name rows ++ AtRelay ∷ AtGnb ∷ [])) f
      ∙ remotes_have r rows (sym (ap (λ (b : Bool). b || list_any (λ (row : RemoteRow). is_remote r row.remote) rows) f) ∙ has)
]

relay_has : (rows : List RemoteRow) → list_any (is_node AtRelay) (map remote_name rows ++ AtRelay ∷ AtGnb ∷ []) ≡ true
relay_has [] = refl
relay_has (row ∷ rows) = relay_has rows

gnb_has : (rows : List RemoteRow) → list_any (is_node AtGnb) (map remote_name rows ++ AtRelay ∷ AtGnb ∷ []) ≡ true
gnb_has [] = refl
gnb_has (row ∷ rows) = gnb_has rows

names_have : (t : Contents) (x : NodeName) → has_node t x ≡ true → list_any (is_node x) (map remote_name t.remotes ++ AtRelay ∷ AtGnb ∷ []) ≡ true
names_have t (AtRemote r) has = remotes_have r t.remotes has
names_have t AtRelay has = relay_has t.remotes
names_have t AtGnb has = gnb_has t.remotes

has_nodes : (t : Contents) (c : Chain) → HasEachNode t c → HasNodes t c
has_nodes t c each x has = name_there x c.nodes (ap (list_any (is_node x)) each.names ∙ names_have t x has)

-- what a line does before the nodes feed
does_knows : (t : Contents) (h : List Entry) (old : Chain) → old.tables ≡ t → HasNodes t old → Knows t h old
    → (line : Line) (own events : List Event) (reply : Reply) (mid : Chain) → Does old line own reply mid
    → Knows t (record { line = line; events = events; reply = reply } ∷ h) mid
does_knows t h old tables nodes k (PlanLine remote goal) own events reply mid d = plan_knows t h old k remote goal own events reply mid d
does_knows t h old tables nodes k (Apply remote kind) own events reply mid d = apply_knows t h old tables nodes k remote kind own events reply mid d
does_knows t h old tables nodes k line own events reply mid d =
    knows_told (record { line = line; events = events; reply = reply }) (quiet_line line reply refl) (knows_beside old mid (does_plans old mid line own reply refl d) (does_still old mid line own reply refl d) k)

-- what is told of a chain
pub record Told (t : Contents) (h : List Entry) (c : Chain) : Type 0 where
  pub knows : Knows t h c
  pub air : AirTold h c.air

-- a line that changes nothing
rests_told : (t : Contents) (h : List Entry) (old new : Chain) (e : Entry) → is_switch e.line ≡ false → is_grant old new e.line ≡ false → new ≡ old → Told t h old
    → Told t (e ∷ h) new
rests_told t h old new e quiet no_grant is told = subst (Told t (e ∷ h)) (sym is) (record {
  knows = knows_told e (quiet_line e.line e.reply quiet) told.knows;
  air = air_told h e old.air old.air (sends_none old new e.line e.reply no_grant) (λ ticket pdu here. here) told.air;
})

pub goes_told : (t : Contents) (h : List Entry) (old new : Chain) (e : Entry) → old.tables ≡ t → HasNodes t old → Goes old e new → Told t h old → Told t (e ∷ h) new
goes_told t h old new e tables nodes (steps s) told = subst (Told t (e ∷ h)) (sym s.is) (record {
  knows = knows_beside s.mid (record s.mid { nodes = s.nodes }) refl (still_fed s.mid s.given s.nodes s.feeds) (does_knows t h old tables nodes told.knows e.line s.own e.events e.reply s.mid s.does);
  air = does_air old s.mid t h told.knows told.air e.line s.own e.events e.reply s.does;
})
goes_told t h old new e tables nodes (drained line none is whole) told = rests_told t h old new e (ap is_switch line) (ap (is_grant old new) line) is told
goes_told t h old new e tables nodes (ended line none says is) told = rests_told t h old new e (ap is_switch line) (ap (is_grant old new) line) is told

-- line by line
pub passes_told : (t : Contents) → AreTables t → (declared : List Entry) → AllByRecursion IsDeclaration declared → (ms : List Moment) (c : Chain) → Passes t ms c
    → Told t (map entry_of ms ++ declared) c
passes_told t are declared all [] c is = subst (Told t declared) (sym is) (record { knows = begun_knows t are.remotes_ascend declared all; air = begun_air t are.remotes_ascend declared })
passes_told t are declared all (m ∷ ms) c (before, goes) =
    goes_told t (map entry_of ms ++ declared) m.before c m.entry (tables_stay t ms m.before before) (has_nodes t m.before (has_each_node t are ms m.before before)) goes (passes_told t are declared all ms m.before before)

-- what the history tells that a node attaches, in whatever order
attached_told : (t : Contents) → AreTables t → (x : NodeName) (r : Remote) (h : List Entry) → told_to t x r h ≡ of_remote r (attached_at t x h)
attached_told t are (AtRemote q) r h = elim (cases_Bool (is_remote r q)) [
  | inl p ↦ ap (λ (y : Remote). cond (is_remote r q) (attachments r (path_at t (kind_of (AtRemote q)) y h)) []) (remote_is r q p) ∙ sym (of_own r q (path_at t (kind_of (AtRemote q)) q h))
  | inr f ↦ cond-false (is_remote r q) _ [] f ∙ sym (of_own r q (path_at t (kind_of (AtRemote q)) q h) ∙ cond-false (is_remote r q) _ [] f)
]
attached_told t are AtRelay r h = sym (of_paths r (λ (y : Remote). path_at t (kind_of AtRelay) y h) t.remotes are.remotes_ascend)
attached_told t are AtGnb r h = sym (of_paths r (λ (y : Remote). path_at t (kind_of AtGnb) y h) t.remotes are.remotes_ascend)

pub tells : (t : Contents) → AreTables t → (h : List Entry) (c : Chain) → c.tables ≡ t → Told t h c → Tells h c
tells t are h c tables told = record {
  air = told.air;
  attached = λ x has r. told.knows.attached x (ap (λ (s : Contents). has_node s x) (sym tables) ∙ has) r ∙ attached_told t are x r h ∙ ap (λ (s : Contents). of_remote r (attached_at s x h)) (sym tables);
  epochs = λ side q entity is. told.knows.epochs side q entity.epoch (ap (option_map epoch_of) is);
}
