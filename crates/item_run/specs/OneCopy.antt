-- Of each COUNT there is one copy: of the items that stand for a chain, and of the ends of its bearers.
use Rattle.std.specs.Prelude.{◌≡◌, ◌⊎◌, ℕ, ◌+◌, ◌<◌, Bool, true, false, List, [], ◌∷◌, ◌++◌, length, map, None}
use Rattle.link_base.specs.declared.names.Key.{Key}
use Rattle.bearer_map.specs.declared.rows.BearerRow.{BearerRow}
use Rattle.pdcp_model.specs.Sender.{kept_at}
use Rattle.script_text.specs.History.{Entry}
use Rattle.chain_model.specs.Carried.{IsRowOf}
use Rattle.chain_model.specs.Draining.{Moment, entry_of}
use Rattle.chain_model.specs.OneCopy.{OneCopy}
use Rattle.chain_model.specs.State.{Chain, sender_at, receiving_at}
use Rattle.book_law.specs.Honest.{HasCount}
use Rattle.item_law.specs.Live.{Live}
use Rattle.item_law.specs.OneCopy.{IsOneEpoch, HasLiveReport, HasLiveData}
use Rattle.item_law.specs.State.{Sdu, Data, Report, Item, is_heard}
use Rattle.item_law.specs.State.{Chain as ItemChain}
use Rattle.item_chain.specs.Runs.{chains}
use Rattle.item_chain.specs.View.{view}
use Rattle.item_chain.specs.Stands.{Ghost, Stands}

-- (a) what a sender doesn't keep any more was heard; (b) no COUNT is live at two places, and none that was heard; (c) while a sender waits and both ends are in one
-- epoch no COUNT is live, and each live status report names all that was heard; (d) while no plan of the remote is open, a status report is wanted or live if
-- the sender waits, and if it doesn't each COUNT that it gave was heard or is live
pub record HasOneCopy (s : ItemChain) : Type 0 where
  pub heard_or_kept : (k : Key) (c : ℕ) → (s.sender k).confirmed c ≡ true → is_heard s k c ≡ true
  pub live_once : (n m : ℕ) (i j : Item) (c : ℕ) (x y : Sdu) → Live s n i → Live s m j → i.content ≡ Data c x → j.content ≡ Data c y → i.key ≡ j.key → n ≡ m
  pub live_unheard : (n : ℕ) (i : Item) (c : ℕ) (x : Sdu) → Live s n i → i.content ≡ Data c x → is_heard s i.key c ≡ false
  pub none_in_wait : (n : ℕ) (i : Item) (c : ℕ) (x : Sdu) → (s.sender i.key).waits ≡ true → IsOneEpoch s i.key → Live s n i → i.content ≡ Data c x → ⊥
  pub names_heard : (n : ℕ) (i : Item) (named : ℕ → Bool) → (s.sender i.key).waits ≡ true → Live s n i → i.content ≡ Report named → (c : ℕ) → is_heard s i.key c ≡ true
      → named c ≡ true
  pub wait_ends : (k : Key) → (s.path k.remote).plan ≡ None → (s.sender k).waits ≡ true → (s.wanted k ≡ true) ⊎ HasLiveReport s k
  pub given_arrives : (k : Key) (c : ℕ) → (s.path k.remote).plan ≡ None → (s.sender k).waits ≡ false → c < (s.sender k).place → (is_heard s k c ≡ true) ⊎ HasLiveData s k c

-- each COUNT that the sending end of a key doesn't keep any more is one that the receiving end has
abbrev pub KeepsUntilHeard : Chain → Key → Type 0
KeepsUntilHeard c key = (n : ℕ) → n < length (sender_at c key).kept → kept_at (sender_at c key) n ≡ None
    → HasCount (receiving_at c key).receiver ((receiving_at c key).receiver.first + n)

-- items with one copy of each COUNT stand for the chain, and the ends of each bearer keep what isn't heard
pub record IsOneCopied (c : Chain) : Type 0 where
  pub ghost : Ghost
  pub stands : Stands ghost (view c)
  pub one_copy : HasOneCopy ghost.chain
  pub keeps : (row : BearerRow) (key : Key) → IsRowOf c.tables key row → KeepsUntilHeard c key

-- this holds at each moment of a run, behind each of its lines and before the first one: of the chain there, of the chains up to it, and of the history up to it
abbrev pub AtEachMoment : (List Chain → Chain → List Entry → Type 0) → List Entry → List Moment → Chain → Type 0
AtEachMoment Holds declared [] c = Holds (chains [] c) c declared
AtEachMoment Holds declared (m ∷ ms) c = Holds (chains (m ∷ ms) c) c (map entry_of (m ∷ ms) ++ declared) × AtEachMoment Holds declared ms m.before

-- each COUNT of both keys of each bearer has one copy, of the places of the chain
abbrev pub HasOneCopyOfEach : List Chain → Chain → List Entry → Type 0
HasOneCopyOfEach past c h = (row : BearerRow) (key : Key) → IsRowOf c.tables key row → OneCopy past c h row key
