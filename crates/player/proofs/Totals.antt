-- The totals of a chain are what its history tells.
use Rattle.std.proofs.Common.{◌≡◌, ℕ, List, [], ◌∷◌, map, flat_map, length, Contains, refl, sym, ◌∙◌, ap}
use Rattle.std.specs.List.{AllByRecursion}
use Rattle.link_base.specs.declared.names.Key.{Key}
use Rattle.link_base.specs.declared.names.Way.{Way}
use Rattle.link_base.specs.declared.names.Way.TheVariants.{Ul, Dl}
use Rattle.bearer_map.specs.declared.rows.BearerRow.{BearerRow}
use Rattle.pdcp_model.specs.Sender.{confirmed as confirmed_by}
use Rattle.script_text.specs.declared.stage.ScriptStage.{ScriptStage}
use Rattle.script_text.specs.declared.trace.Total.{Total}
use Rattle.node_model.specs.Names.{key_of}
use Rattle.node_model.specs.Tables.{keys, keys_of_row}
use Rattle.chain_model.specs.Book.{submitted, handed}
use Rattle.chain_model.specs.Carried.{IsRowOf}
use Rattle.chain_model.specs.Runs.{Turn, entries, LeadsTo}
use Rattle.chain_model.specs.State.{Chain, sender_at, receiving_at}
use Rattle.chain_core.specs.Chain.{total_of}
use Rattle.rlc_law.proofs.Lists.{contains_here, contains_later}
use Rattle.player.specs.Foundations.{RunLaws}
use Rattle.player.specs.Runs.{total_told}

-- what holds of each row holds of all
all_of : {X : Type 0} (P : X → Type 0) (xs : List X) → ((x : X) → Contains xs x → P x) → AllByRecursion P xs
all_of P [] each = tt
all_of P (x ∷ xs) each = (each x (contains_here x xs), all_of P xs (λ y among. each y (contains_later x xs y among)))

-- of both keys of a bearer the same is told
abbrev Alike : (Key → Total) → (Key → Total) → BearerRow → Type 0
Alike f g row = (way : Way) → f (key_of row.remote row.drb way) ≡ g (key_of row.remote row.drb way)

rows_alike : (f g : Key → Total) (rows : List BearerRow) → AllByRecursion (Alike f g) rows → map f (flat_map keys_of_row rows) ≡ map g (flat_map keys_of_row rows)
rows_alike f g [] same = refl
rows_alike f g (row ∷ rows) same =
    let rest = rows_alike f g rows same.1 in
    let up : f (key_of row.remote row.drb Ul) ≡ g (key_of row.remote row.drb Ul) = same.0 Ul in
    let down : f (key_of row.remote row.drb Dl) ≡ g (key_of row.remote row.drb Dl) = same.0 Dl in
    cc (rest, up, down)

module _ (laws : RunLaws) (h : List Turn) (stage : ScriptStage) (c : Chain) (leads : LeadsTo h stage c) where
  total : (row : BearerRow) (key : Key) → IsRowOf c.tables key row → total_of c key ≡ total_told (entries h) key
  total row key its =
      let keeps = (laws.keeps h stage c leads row key its).0 in
      let up = (laws.hand_ups h stage c leads).1 row key its in
      let tells = (laws.tells h stage c leads row key its).0 in
      ap (λ (n : ℕ). record { key = key; submitted = n; handed = (receiving_at c key).receiver.handed; confirmed = confirmed_by (sender_at c key) }) keeps.many
      ∙ (ap (λ (n : ℕ). record { key = key; submitted = length (submitted key (entries h)); handed = n; confirmed = confirmed_by (sender_at c key) }) up.number
      ∙ ap (λ (n : ℕ). record { key = key; submitted = length (submitted key (entries h)); handed = length (handed key (entries h)); confirmed = n }) (sym tells))

  pub totals : map (total_of c) (keys c.tables) ≡ map (total_told (entries h)) (keys c.tables)
  totals = rows_alike (total_of c) (total_told (entries h)) c.tables.bearers
      (all_of (Alike (total_of c) (total_told (entries h))) c.tables.bearers (λ row among way. total row (key_of row.remote row.drb way) (record { among = among; remote = refl; drb = refl })))
