-- What runs carry: the SDU of each number was given by an end, or heard by the relay.
use Rattle.std.proofs.Common.{◌≡◌, ◌⊎◌, inl, inr, ℕ, List, [], ◌∷◌, ◌++◌, map, sym, ◌∙◌, ap, subst}
use Rattle.std.specs.List.{AllByRecursion}
use Rattle.link_base.specs.declared.names.PortName.{PortName}
use Rattle.link_base.specs.declared.names.Way.{Way}
use Rattle.bearer_map.specs.Contents.{Contents}
use Rattle.script_text.specs.History.{Entry}
use Rattle.node_model.specs.Names.{NodeName, AtRelay}
use Rattle.node_model.specs.State.{Node, entity_at}
use Rattle.chain_model.specs.Carried.{Passed, IsPassed, Carried}
use Rattle.chain_model.specs.Draining.{Moment, entry_of}
use Rattle.chain_model.specs.Runs.{entries}
use Rattle.chain_model.specs.State.{Chain, node_at, opened}
use Rattle.chain_model.specs.Steps.{Step}
use Rattle.chain_law.specs.Laws.{ComesUp, behind}
use Rattle.chain_law.proofs.Laws.{comes_hold}
use Rattle.chain_law.proofs.Tables.{TablesApart}
use Rattle.book_law.specs.Past.{Goes, steps, drained, ended, Passes, IsDeclaration, AreTables}
use Rattle.book_law.proofs.Led.{led}
use Rattle.book_law.proofs.Tables.{tables_stay}
use Rattle.heard_law.proofs.Along.{passes_told}
use Rattle.heard_law.specs.Telling.{Tells}
use Rattle.heard_law.proofs.Knowing.{Knows}
use Rattle.heard_law.proofs.Logged.{Behind as HeardBehind, told_behind, behind_lines as heard_behind}
use Rattle.carried_law.specs.Carrying.{RunsAreCarried}
use Rattle.carried_law.specs.Foundations.{SentLaws, EndLaws}
use Rattle.carried_law.proofs.Giving.{WasGiven, given_more, own_behind, fed_given}
use Rattle.carried_law.proofs.Moving.{relays_ports, carries_ports}
use Rattle.carried_law.proofs.Opened.{opened_relays}
use Rattle.carried_law.proofs.Ordering.{begins_in_order}
use Rattle.carried_law.proofs.Relayed.{nowhere, not_direct, passed_later, Relays, Carries}
use Rattle.carried_law.proofs.Relaying.{mid_relays, fed_relay}
use Rattle.carried_law.proofs.Sending.{Behind, begun, one_more}
use Rattle.carried_law.proofs.Sent.{Origins, sent_implied}

-- the completions of what the relay gave its ports
abbrev Given : Type 0
Given = PortName → ℕ → ℕ → Passed

-- an end gave the SDU, or the relay heard it so
abbrev given_or_heard : Contents → Given → Origins
given_or_heard t given h port way epoch n sdu = WasGiven t h port way sdu ⊎ IsPassed t h port sdu (given port epoch n)

origin_more : (t : Contents) (given : Given) (e : Entry) (h : List Entry) (port : PortName) (way : Way) (epoch n : ℕ) (sdu : List ℕ) → given_or_heard t given h port way epoch n sdu
    → given_or_heard t given (e ∷ h) port way epoch n sdu
origin_more t given e h port way epoch n sdu (inl was) = inl (given_more t e h port way sdu was)
origin_more t given e h port way epoch n sdu (inr passed) = inr (passed_later t e h port sdu (given port epoch n) passed)

-- what was given stays given
origin_stays : (t : Contents) (old new : Given) → ((q : PortName) (epoch n : ℕ) → (new q epoch n ≡ old q epoch n) ⊎ (old q epoch n ≡ nowhere n))
    → (h : List Entry) (port : PortName) (way : Way) (epoch n : ℕ) (sdu : List ℕ) → given_or_heard t old h port way epoch n sdu → given_or_heard t new h port way epoch n sdu
origin_stays t old new extends h port way epoch n sdu (inl was) = inl was
origin_stays t old new extends h port way epoch n sdu (inr passed) = inr (elim (extends port epoch n) [
  | inl same ↦ subst (IsPassed t h port sdu) (sym same) passed
  | inr unused ↦ absurd (not_direct t h port sdu (old port epoch n) passed (record { 0 = 0 }) (record { 0 = n }) (ap (λ (p : Passed). p.hop.port) unused))
])

abbrev given_by : {t : Contents} {h : List Entry} {n : Node} → Relays t h n → Given
given_by r q = (r.line q).given

module _ (laws : SentLaws) (ends : EndLaws) (t : Contents) (apart : TablesApart t) (are : AreTables t) (declared : List Entry) (all : AllByRecursion IsDeclaration declared)
    (up : ComesUp (opened t)) where
  abbrev history : List Moment → List Entry
  history ms = map entry_of ms ++ declared

  -- what holds behind each line: what the relay holds was heard, and each SDU sent has its origin
  record Carrying (ms : List Moment) (c : Chain) : Type 0 where
    relays : Relays t (history ms) (node_at c AtRelay)
    sent : Behind (given_or_heard t (given_by relays)) (origin_more t (given_by relays)) t laws (history ms) c

  -- behind one line more
  module _ (ms : List Moment) (m : Moment) (c : Chain) (passes : Passes t (m ∷ ms) c) (before : Carrying ms m.before) where
    abbrev h : List Entry
    h = history ms

    told : Tells h m.before
    told = told_behind laws.heard t apart are declared all ms m.before passes.0

    knows : Knows t h m.before
    knows = (passes_told t are declared all ms m.before passes.0).knows

    tables : m.before.tables ≡ t
    tables = tables_stay t ms m.before passes.0

    heard : HeardBehind t h m.before
    heard = heard_behind laws.heard t apart are declared all ms m.before passes.0

    module _ (s : Step m.before m.entry.line m.entry.events m.entry.reply c) where
      mid : Carries before.relays (m.entry ∷ h) (node_at s.mid AtRelay)
      mid = mid_relays laws t h m.entry m.before c told knows s heard.staged tables heard.holds before.relays

      fed : node_at c AtRelay ≡ node_at s.mid AtRelay
      fed = fed_relay laws t h m.entry m.before c told knows s heard.staged tables heard.holds before.relays
          (own_behind laws ends t apart are declared all up ms m.before passes.0)

    carries_on : Carries before.relays (m.entry ∷ h) (node_at c AtRelay) → Carrying (m ∷ ms) c
    carries_on r = record {
      relays = r.relays;
      sent = one_more (given_or_heard t (given_by r.relays)) (origin_more t (given_by r.relays)) t laws apart are declared all ms m c passes
          (λ s. (
            λ side q e is at n k here. inr ((r.relays.line q).kept e
                (ap (λ (x : Node). entity_at x q) (fed s) ∙ ap (λ (x : NodeName). entity_at (node_at s.mid x) q) (sym at) ∙ is) n k here),
            λ side q epoch n sdu given. inl (fed_given laws ends t apart are declared all up ms m c passes s side q sdu given),
          ))
          (record {
            sent = sent_implied (given_or_heard t (given_by before.relays)) (given_or_heard t (given_by r.relays))
                (origin_stays t (given_by before.relays) (given_by r.relays) r.extends) before.sent.sent;
            holds = before.sent.holds;
          });
    }

    next : Goes m.before m.entry c → Carrying (m ∷ ms) c
    next (steps s) = carries_on (carries_ports before.relays (m.entry ∷ h) (node_at s.mid AtRelay) (mid s) (node_at c AtRelay) (ap (λ (x : Node). x.ports) (fed s)))
    next (drained line none is whole) = carries_on (relays_ports before.relays m.entry (node_at c AtRelay) (ap (λ (x : Chain). (node_at x AtRelay).ports) is))
    next (ended line none says is) = carries_on (relays_ports before.relays m.entry (node_at c AtRelay) (ap (λ (x : Chain). (node_at x AtRelay).ports) is))

  carrying : (ms : List Moment) (c : Chain) → Passes t ms c → Carrying ms c
  carrying [] c is = subst (Carrying []) (sym is) (record {
    relays = opened_relays t declared;
    sent = begun (given_or_heard t (given_by (opened_relays t declared))) (origin_more t (given_by (opened_relays t declared))) t laws apart are declared all;
  })
  carrying (m ∷ ms) c passes = next ms m c passes (carrying ms m.before passes.0) passes.1

  pub all_carried : (ms : List Moment) (c : Chain) → Passes t ms c → Carried t (history ms)
  all_carried ms c passes =
      let x = carrying ms c passes in
      record {
        sdu_of = x.sent.sent.sdu_of;
        passed = λ port way epoch n. (x.relays.line port).given epoch n;
        pieces = x.sent.sent.pieces;
        origin = x.sent.sent.origin;
        apart = λ port way epoch m n at less same. (x.relays.line port).ordered epoch m n less same;
        in_order = begins_in_order t laws apart are declared all ms c passes;
      }

pub runs_carry : SentLaws → EndLaws → RunsAreCarried
runs_carry laws ends h stage c leads =
    let l = led h stage c leads in
    let p = l.past in
    let tables : c.tables ≡ p.tables = tables_stay p.tables p.moments c p.passes in
    let apart : TablesApart p.tables = subst TablesApart tables (comes_hold laws.heard.ports (behind h stage leads)).apart in
    let up : ComesUp (opened p.tables) = behind l.opens.0 l.opens.1 l.opens.2 in
    subst (λ (t : Contents). Carried t (entries h)) (sym tables) (subst (Carried p.tables) (sym p.are)
    (all_carried laws ends p.tables apart p.are_tables p.declared p.declare up p.moments c p.passes))
