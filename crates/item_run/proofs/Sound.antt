-- Runs line by line: no reply is one that never comes, but where paths are switched that of an SDU whose UE ID the node doesn't attach.
use Rattle.std.proofs.Common.{◌≡◌, inl, inr, Bool, false, List, [], ◌∷◌, ◌++◌, map, filter_map, refl, sym, ◌∙◌, ap, subst}
use Rattle.std.specs.List.{AllByRecursion}
use Rattle.std.proofs.lemmas.Bool.{true≢false}
use Rattle.link_base.specs.declared.discard.Discard.{Discard as DiscardName}
use Rattle.link_base.specs.declared.discard.Discard.TheVariants.{UnknownUe}
use Rattle.bearer_map.specs.Contents.{Contents}
use Rattle.script_text.specs.declared.event.Event.{Event}
use Rattle.script_text.specs.declared.event.Event.TheVariants.{Heard as HeardTicket}
use Rattle.script_text.specs.declared.line.Line.{Line}
use Rattle.script_text.specs.declared.line.Line.TheVariants.{Submit, Deliver, Repeat, Lose, Stage, Grant, Expire, Push, Pull, Report, Burst, Plan as PlanLine, Apply}
use Rattle.script_text.specs.declared.reply.Reply.{Reply}
use Rattle.script_text.specs.declared.reply.Reply.TheVariants.{Ok, Discard}
use Rattle.script_text.specs.History.{Entry}
use Rattle.node_model.specs.Tables.{keys}
use Rattle.chain_model.specs.Draining.{Moment, entry_of}
use Rattle.chain_model.specs.State.{Chain}
use Rattle.chain_model.specs.Steps.{Does, confirming, reporting}
use Rattle.book_law.proofs.Opened.{member}
use Rattle.book_law.specs.Past.{Goes, steps, drained, ended, Passes, IsDeclaration, AreTables}
use Rattle.heard_law.proofs.Tickets.{is_burst, shows_heard, NoHeard, append_none, conf_none, rep_none, does_none}
use Rattle.direct_run_law.specs.Direct.{NoneSwitches}
use Rattle.item_chain.specs.Foundations.{PduLaws}
use Rattle.item_chain.specs.Laws.{IsItemLine}
use Rattle.item_chain.specs.Runs.{PastsStand, IsRunLine, AreRunLines}
use Rattle.item_chain.specs.View.{view}
use Rattle.item_chain.specs.Stands.{TablesGood, Ghost, Stands}
use Rattle.item_run.specs.Foundations.{BookLaws}
use Rattle.item_run.specs.Discards.{DiscardsUnattached}
use Rattle.item_run.specs.Replies.{never_comes, never_comes_over_switches, GivesNone}
use Rattle.item_run.proofs.Drained.{DrainsFine}
use Rattle.item_run.proofs.Keeping.{passes_keep, steady_item}
use Rattle.item_run.proofs.Replying.{IsFineReply, does_fine}
use Rattle.item_run.proofs.Runs.{history, past, stands_behind}

-- a line of a run that does something takes items by steps
item_line : (line : Line) → IsRunLine line → (old : Chain) (own : List Event) (reply : Reply) (mid : Chain) → Does old line own reply mid → IsItemLine line
item_line (Submit key sdu) run old own reply mid does = tt
item_line (Deliver ticket) run old own reply mid does = tt
item_line (Repeat ticket) run old own reply mid does = tt
item_line (Lose ticket) run old own reply mid does = tt
item_line (Stage ticket) run old own reply mid does = tt
item_line (Grant port way octets) run old own reply mid does = tt
item_line (Expire port at timer) run old own reply mid does = tt
item_line (Push port) run old own reply mid does = tt
item_line (Pull port) run old own reply mid does = tt
item_line (Report key) run old own reply mid does = tt
item_line Burst run old own reply mid does = run refl
item_line (PlanLine remote goal) run old own reply mid does = tt
item_line (Apply remote kind) run old own reply mid does = tt
item_line line run old own reply mid does = absurd does

no_burst : (line : Line) → IsItemLine line → is_burst line ≡ false
no_burst Burst is = absurd is
no_burst line is = refl

-- a line that shows no PDU as heard
pub spared : (never : Reply → Bool) (e : Entry) → never e.reply ≡ false → NoHeard e.events → GivesNone never e
spared never e fine none = record {
  reply = fine;
  events = λ ticket reply among.
      absurd (true≢false (member (λ (x : Event). shows_heard x ≡ false) e.events (HeardTicket ticket reply) none among));
}

-- what never comes where paths stand, and isn't discarded, never comes where they are switched
no_discard : (reply : Reply) → never_comes reply ≡ false → never_comes_over_switches reply ≡ false
no_discard (Discard name) fine = absurd (true≢false fine)
no_discard reply fine = fine

discard_is : (a b : DiscardName) → Discard a ≡ Discard b → a ≡ b
discard_is a b e = cc

module _ (books : BookLaws) (pasts : PastsStand) (pdus : PduLaws) (t : Contents) (are : AreTables t) (good : TablesGood t) (declared : List Entry)
    (declare : AllByRecursion IsDeclaration declared) where
  abbrev AreLines : List Moment → Type 0
  AreLines ms = AreRunLines (history books pasts pdus t are good declared declare ms)

  -- the ghost that stands before a line
  abbrev before_line : (ms : List Moment) (m : Moment) → Passes t ms m.before → AreLines ms → (g : Ghost) × Stands g (view m.before)
  before_line ms m before lines = stands_behind books pasts pdus t are good declared declare ms m.before before lines

  goes_fine : (ms : List Moment) (m : Moment) (c : Chain) (before : Passes t ms m.before) → IsRunLine m.entry.line → (lines : AreLines ms) → DrainsFine m.entry
      → Goes m.before m.entry c → IsFineReply (before_line ms m before lines).0 m m.entry.reply × NoHeard m.entry.events
  goes_fine ms m c before run lines fine (steps s) =
      let stood = before_line ms m before lines in
      let line = item_line m.entry.line run m.before s.own m.entry.reply s.mid s.does in (
        does_fine m s.mid pdus stood.0 stood.1 m.entry.line refl s.own m.entry.reply line s.does,
        subst NoHeard (sym s.shows)
            (append_none (s.own ++ filter_map (confirming m.before s.mid) (keys m.before.tables)) (filter_map (reporting s.given) (keys m.before.tables))
            (append_none s.own (filter_map (confirming m.before s.mid) (keys m.before.tables))
            (does_none m.before s.mid m.entry.line s.own m.entry.reply (no_burst m.entry.line line) s.does)
            (conf_none m.before s.mid (keys m.before.tables))) (rep_none s.given (keys m.before.tables))),
      )
  goes_fine ms m c before run lines fine (drained line no_event is whole) = (inl (fine line), subst NoHeard (sym no_event) tt)
  goes_fine ms m c before run lines fine (ended line no_event says is) = (inl (ap never_comes says), subst NoHeard (sym no_event) tt)

  -- where paths stand nothing is discarded
  goes_sound : (ms : List Moment) (m : Moment) (c : Chain) → Passes t ms m.before → IsRunLine m.entry.line → AreLines ms → NoneSwitches (map entry_of ms) → DrainsFine m.entry
      → Goes m.before m.entry c → GivesNone never_comes m.entry
  goes_sound ms m c before run lines none fine goes =
      let x = goes_fine ms m c before run lines fine goes in
      let stood = before_line ms m before lines in
      let tables = books.tables _ m.before (past books pasts pdus t are good declared declare ms m.before before) in
      let plans = passes_keep t ms m.before before none in
      elim x.0 [
        | inl sound ↦ spared never_comes m.entry sound x.1
        | inr y ↦ absurd (y.1.off_path ((steady_item t are stood.0 m.before stood.1 tables plans y.1.number y.1.item y.1.is).goals y.1.kind))
      ]

  pub sound_lines : (ms : List Moment) (c : Chain) → Passes t ms c → AreLines ms → NoneSwitches (map entry_of ms)
      → AllByRecursion DrainsFine (map entry_of ms) → AllByRecursion (GivesNone never_comes) (map entry_of ms)
  sound_lines [] c is lines none fine = tt
  sound_lines (m ∷ ms) c (before, goes) (run, lines) (stays, none) (this, fine) =
      (goes_sound ms m c before run lines none this goes, sound_lines ms m.before before lines none fine)

  -- where they are switched each discard is of a UE ID that the node doesn't attach
  goes_switching : (ms : List Moment) (m : Moment) (c : Chain) → Passes t ms m.before → IsRunLine m.entry.line → AreLines ms → DrainsFine m.entry → Goes m.before m.entry c
      → GivesNone never_comes_over_switches m.entry × DiscardsUnattached m
  goes_switching ms m c before run lines fine goes =
      let x = goes_fine ms m c before run lines fine goes in
      elim x.0 [
        | inl sound ↦ (
          spared never_comes_over_switches m.entry (no_discard m.entry.reply sound) x.1,
          λ name is. absurd (true≢false (sym (ap never_comes is) ∙ sound)),
        )
        | inr y ↦ (
          spared never_comes_over_switches m.entry (ap never_comes_over_switches y.0) x.1,
          λ name is. (discard_is name UnknownUe (sym is ∙ y.0), y.1.hears),
        )
      ]

  pub switching_lines : (ms : List Moment) (c : Chain) → Passes t ms c → AreLines ms → AllByRecursion DrainsFine (map entry_of ms)
      → AllByRecursion (GivesNone never_comes_over_switches) (map entry_of ms) × AllByRecursion DiscardsUnattached ms
  switching_lines [] c is lines fine = (tt, tt)
  switching_lines (m ∷ ms) c (before, goes) (run, lines) (this, fine) =
      let own = goes_switching ms m c before run lines this goes in
      let earlier = switching_lines ms m.before before lines fine in
      ((own.0, earlier.0), (own.1, earlier.1))

-- the lines of the tables
pub sound_declared : (never : Reply → Bool) → never Ok ≡ false → (declared : List Entry) → AllByRecursion IsDeclaration declared → AllByRecursion (GivesNone never) declared
sound_declared never fine [] all = tt
sound_declared never fine (e ∷ declared) all =
    (spared never e (ap never all.0.says ∙ fine) (subst NoHeard (sym all.0.shows) tt), sound_declared never fine declared all.1)
