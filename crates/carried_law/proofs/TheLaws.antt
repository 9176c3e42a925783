-- The laws of all runs.
use Rattle.std.proofs.Common.{List, [], ◌∷◌, ◌++◌, map, sym, subst}
use Rattle.std.specs.List.{AllByRecursion}
use Rattle.bearer_map.specs.Contents.{Contents}
use Rattle.script_text.specs.History.{Entry}
use Rattle.chain_model.specs.Draining.{Moment, entry_of}
use Rattle.chain_model.specs.Runs.{entries}
use Rattle.chain_model.specs.State.{Chain}
use Rattle.chain_law.proofs.Tables.{TablesApart}
use Rattle.book_law.specs.Past.{Passes, IsDeclaration, AreTables}
use Rattle.heard_law.proofs.Runs.{past, tables, apart}
use Rattle.carried_law.specs.Foundations.{SentLaws}
use Rattle.carried_law.specs.Order.{BeginInOrder, SentNumbersBeginInOrder}
use Rattle.carried_law.specs.Pieces.{ArePieces, SentPdusArePieces}
use Rattle.carried_law.proofs.Ordering.{begins_in_order}
use Rattle.carried_law.proofs.Sending.{Behind, begun, one_more}
use Rattle.carried_law.proofs.Sent.{Origins}

-- behind each line, where nothing is said of where SDUs come from
abbrev anywhere : Origins
anywhere h port way epoch n sdu = Unit {0}

module _ (laws : SentLaws) (t : Contents) (apart : TablesApart t) (are : AreTables t) (declared : List Entry) (all : AllByRecursion IsDeclaration declared) where
  behind_lines : (ms : List Moment) (c : Chain) → Passes t ms c → Behind anywhere (λ e h port way epoch n sdu said. tt) t laws (map entry_of ms ++ declared) c
  behind_lines [] c is = subst (Behind anywhere (λ e h port way epoch n sdu said. tt) t laws declared) (sym is)
      (begun anywhere (λ e h port way epoch n sdu said. tt) t laws apart are declared all)
  behind_lines (m ∷ ms) c (before, goes) = one_more anywhere (λ e h port way epoch n sdu said. tt) t laws apart are declared all ms m c (before, goes)
      (λ s. (λ side q e is at n k here. tt, λ side q epoch n sdu fed. tt)) (behind_lines ms m.before before)

pub sent_pdus_are_pieces : SentLaws → SentPdusArePieces
sent_pdus_are_pieces laws h stage c leads =
    let p = past laws.heard h stage c leads in
    let sent = (behind_lines laws p.tables (apart laws.heard h stage c leads) p.are_tables p.declared p.declare p.moments c p.passes).sent in
    subst (λ (t : Contents). ArePieces t (entries h)) (sym (tables laws.heard h stage c leads))
    (subst (ArePieces p.tables) (sym p.are) (record { sdu_of = sent.sdu_of; pieces = sent.pieces }))

pub numbers_begin_in_order : SentLaws → SentNumbersBeginInOrder
numbers_begin_in_order laws h stage c leads =
    let p = past laws.heard h stage c leads in
    subst (λ (g : List Entry). BeginInOrder g) (sym p.are)
    (begins_in_order p.tables laws (apart laws.heard h stage c leads) p.are_tables p.declared p.declare p.moments c p.passes)
