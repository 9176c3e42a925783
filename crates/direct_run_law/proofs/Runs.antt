-- Runs on direct ports, line by line.
use Rattle.std.proofs.Common.{◌≡◌, false, List, [], ◌∷◌, ◌++◌, map, Some, refl, sym, ◌∙◌, ap, subst, arith}
use Rattle.std.specs.List.{AllByRecursion}
use Rattle.std.proofs.lemmas.Bool.{true≢false}
use Rattle.link_base.specs.declared.names.Drb.{Drb}
use Rattle.link_base.specs.declared.names.Key.{Key}
use Rattle.link_base.specs.declared.names.PortName.TheVariants.{Direct}
use Rattle.link_base.specs.declared.names.Remote.{Remote}
use Rattle.link_base.specs.declared.names.Side.{Side}
use Rattle.link_base.specs.declared.names.Side.TheVariants.{Low, High}
use Rattle.link_base.specs.declared.names.Way.TheVariants.{Ul}
use Rattle.bearer_map.specs.Contents.{Contents}
use Rattle.bearer_map.specs.declared.rows.BearerRow.{BearerRow}
use Rattle.rlc_model.specs.Hop.{on_air}
use Rattle.rlc_model.specs.Sides.{across}
use Rattle.pdcp_model.specs.Sender.{submit_fault}
use Rattle.script_text.specs.declared.line.Line.{Line}
use Rattle.script_text.specs.declared.line.Line.TheVariants.{Submit, Grant, Deliver, Repeat, Lose, Stage, Expire, Push, Pull, Burst, Report, Plan as PlanLine, Apply}
use Rattle.script_text.specs.declared.event.Event.{Event}
use Rattle.script_text.specs.declared.reply.Reply.{Reply}
use Rattle.script_text.specs.History.{Entry}
use Rattle.node_model.specs.Names.{key_of, owner, sink}
use Rattle.node_model.specs.State.{Incoming, Node, outgoing, incoming, incoming_at}
use Rattle.node_model.specs.Tables.{first_count}
use Rattle.chain_model.proofs.Lookups.{here}
use Rattle.chain_model.specs.Book.{submitted, handed}
use Rattle.chain_model.specs.Carried.{IsRowOf}
use Rattle.chain_model.specs.Draining.{Moment, entry_of}
use Rattle.chain_model.specs.Lines.{submit_refusal, grant_refusal, stage_refusal, expire_refusal, report_refusal, without}
use Rattle.chain_model.specs.State.{Chain, node_at, sender_at, receiving_at, opened}
use Rattle.chain_model.specs.Steps.{Does, Step}
use Rattle.chain_law.specs.Laws.{ComesUp, goes_on}
use Rattle.chain_law.specs.Entities.{RlcFits}
use Rattle.book_law.specs.Honest.{AreHonest}
use Rattle.book_law.specs.Past.{Goes, steps, drained, ended, Passes, IsDeclaration, AreTables, IsPast}
use Rattle.direct_run_law.specs.Direct.{switches, NoneSwitches}
use Rattle.direct_run_law.specs.Foundations.{HopLaws, CallLaws, BookLaws, PdcpLaws}
use Rattle.direct_run_law.proofs.Ends.{sent, heard}
use Rattle.direct_run_law.proofs.Feeding.{Reports}
use Rattle.direct_run_law.proofs.Pdcp.{IsBooked}
use Rattle.direct_run_law.proofs.Chains.{Holds, Joined, holds_beside, holds_fed, receivers_fed}
use Rattle.direct_run_law.proofs.Lines.{unless_holds, submits_hold, granted_holds, expires_hold, wants_hold, pushes_hold, pulls_hold, bursts_hold, loses_hold, stages_hold}
use Rattle.direct_run_law.proofs.Delivering.{AreBooked, delivers_hold}
use Rattle.direct_run_law.proofs.Honest.{receiver_is, honest_line}

-- the row of a bearer is that of both its keys
row_heard : (t : Contents) (remote : Remote) (drb : Drb) (row : BearerRow) → IsRowOf t (key_of remote drb Ul) row → (at : Side) → IsRowOf t (heard remote drb at) row
row_heard t remote drb row its at = record { among = its.among; remote = its.remote; drb = its.drb }

module _ (hops : HopLaws) (calls : CallLaws) (books : BookLaws) (pdus : PdcpLaws) where
  -- what a line does before the nodes feed
  does_hold : (old : Chain) (fits : RlcFits old) (h : Holds old) (are : AreBooked old) (line : Line) (events : List Event) (reply : Reply) (new : Chain) → switches line ≡ false
      → Does old line events reply new → Holds new
  does_hold old fits h are (Submit key sdu) events reply new stays d = unless_holds (submit_refusal old key) old events reply new _ h
      (submits_hold old key sdu events reply new (submit_fault (sender_at old key) sdu) h) d
  does_hold old fits h are (Grant port way octets) events reply new stays d = unless_holds (grant_refusal old port way) old events reply new _ h
      (granted_holds calls old port way octets events reply new h) d
  does_hold old fits h are (Deliver ticket) events reply new stays d = delivers_hold hops calls books pdus old fits h are ticket events reply new (without ticket)
      (λ c x. holds_beside c (without ticket c) refl refl x) d
  does_hold old fits h are (Repeat ticket) events reply new stays d = delivers_hold hops calls books pdus old fits h are ticket events reply new (λ c. c) (λ c x. x) d
  does_hold old fits h are (Lose ticket) events reply new stays d = loses_hold old (on_air old.air ticket) ticket events reply new h d
  does_hold old fits h are (Stage ticket) events reply new stays d = unless_holds (stage_refusal (on_air old.air ticket)) old events reply new _ h
      (stages_hold old ticket events reply new h) d
  does_hold old fits h are (Expire port at timer) events reply new stays d = unless_holds (expire_refusal old port at) old events reply new _ h
      (expires_hold calls old port at timer events reply new h) d
  does_hold old fits h are (Push port) events reply new stays d = pushes_hold old port events reply new h d
  does_hold old fits h are (Pull port) events reply new stays d = pulls_hold old port events reply new h d
  does_hold old fits h are Burst events reply new stays d = bursts_hold old events reply new h d
  does_hold old fits h are (Report key) events reply new stays d = unless_holds (report_refusal old key) old events reply new _ h (wants_hold old key events reply new h) d
  does_hold old fits h are (PlanLine remote goal) events reply new stays d = absurd (true≢false stays)
  does_hold old fits h are (Apply remote kind) events reply new stays d = absurd (true≢false stays)
  does_hold old fits h are line events reply new stays d = absurd d

  module _ (t : Contents) (are_tables : AreTables t) (declared : List Entry) (declare : AllByRecursion IsDeclaration declared) where
    -- the history of these lines
    abbrev pub history : List Moment → List Entry
    history ms = map entry_of ms ++ declared

    abbrev pub past : (ms : List Moment) (c : Chain) → Passes t ms c → IsPast (history ms) c
    past ms c passes = record { tables = t; are_tables = are_tables; declared = declared; declare = declare; moments = ms; are = refl; passes = passes }

    -- the lines so far are honest to both keys of each bearer
    abbrev pub Honest : List Moment → Type 0
    Honest ms = (row : BearerRow) (key : Key) → IsRowOf t key row → AreHonest row key declared ms

    module _ (ms : List Moment) (c : Chain) (passes : Passes t ms c) where
      abbrev p : IsPast (history ms) c
      p = past ms c passes

      tables : c.tables ≡ t
      tables = books.tables (history ms) c p

      -- what a key's ends hold is booked
      key_booked : Honest ms → (row : BearerRow) (key : Key) → IsRowOf c.tables key row → IsBooked row key (sender_at c key) (receiving_at c key).receiver
      key_booked honest row key its =
          let up = books.hand_ups (history ms) c p row key its in
          let kept = books.keeps (history ms) c p row key its in
          let told = books.tells (history ms) c p row key its in
          let order = books.honest (history ms) c p row key its (honest row key (subst (λ (x : Contents). IsRowOf x key row) tables its)) in
          record {
            sdus = submitted key (history ms);
            keeps = kept.0;
            hearings = up.hearings;
            handed = handed key (history ms);
            heard = up.heard;
            hand_up = up.hand_up;
            number = up.number;
            few = omega (arith, told.0, order.1.confirmed_few);
          }

      are_booked : Honest ms → AreBooked c
      are_booked honest = record { booked = booked; there = there }
        where
          booked : (remote : Remote) (drb : Drb) (j : Joined c remote drb) (at : Side)
              → IsBooked j.row (heard remote drb at) (outgoing (node_at c (owner (across at) (Direct remote drb))) (sent remote drb (across at))).sender
              (incoming (node_at c (owner at (Direct remote drb))) (heard remote drb at)).receiver
          booked remote drb j Low = key_booked honest j.row (heard remote drb Low) (row_heard c.tables remote drb j.row j.its Low)
          booked remote drb j High = key_booked honest j.row (heard remote drb High) (row_heard c.tables remote drb j.row j.its High)

          found : (key : Key) (row : BearerRow) → IsRowOf c.tables key row → (i : Incoming) × (incoming_at (node_at c (sink key)) key ≡ Some i)
          found key row its =
              let r = (books.ends (history ms) c p row key its).1 in
              (r.row, ap (λ (n : Node). incoming_at n key) (here c (sink key) r.node r.its_node) ∙ r.its_row)

          there : (remote : Remote) (drb : Drb) (j : Joined c remote drb) (at : Side)
              → (i : Incoming) × (incoming_at (node_at c (owner at (Direct remote drb))) (heard remote drb at) ≡ Some i)
          there remote drb j Low = found (heard remote drb Low) j.row (row_heard c.tables remote drb j.row j.its Low)
          there remote drb j High = found (heard remote drb High) j.row (row_heard c.tables remote drb j.row j.its High)

      -- the reports of a receiving side are true
      reports : (row : BearerRow) (key : Key) → IsRowOf c.tables key row → Reports (receiving_at c key).receiver
      reports row key its fmc bits report count low says =
          let up = books.hand_ups (history ms) c p row key its in
          let settings = pdus.goes_up row.pdcp (first_count row key.way) up.hearings (handed key (history ms)) (receiving_at c key).receiver up.heard in
          (books.reports row.pdcp (first_count row key.way) up.hearings (handed key (history ms)) (receiving_at c key).receiver up.heard fmc bits report count
          (omega (arith, low, settings.3))).0 says

    -- what holds behind each line
    pub record Behind (ms : List Moment) (c : Chain) : Type 0 where
      pub holds : Holds c
      pub honest : Honest ms
      pub comes : ComesUp c

    module _ (first : Holds (opened t)) (up : ComesUp (opened t)) where
      -- a line, and then the nodes feed
      step_holds : (ms : List Moment) (m : Moment) (c : Chain) (before : Passes t ms m.before) → Behind ms m.before → switches m.entry.line ≡ false
          → (s : Step m.before m.entry.line m.entry.events m.entry.reply c) → Holds c
      step_holds ms m c before b stays s =
          let new : Chain = record s.mid { nodes = s.nodes } in
          let passes : Passes t (m ∷ ms) new = subst (λ (x : Chain). Passes t (m ∷ ms) x) s.is (before, steps s) in
          let mid = does_hold m.before (calls.entities m.before b.comes) b.holds (are_booked ms m.before before b.honest) m.entry.line s.own m.entry.reply s.mid stays s.does in
          subst Holds (sym s.is) (holds_fed s.mid s.given s.nodes s.feeds mid (λ remote drb j at.
          subst Reports (sym (receiver_is new remote drb at) ∙ receivers_fed s.mid s.given s.nodes s.feeds (owner at (Direct remote drb)) (heard remote drb at))
          (reports (m ∷ ms) new passes j.row (heard remote drb at) (row_heard s.mid.tables remote drb j.row j.its at))))

      goes_hold : (ms : List Moment) (m : Moment) (c : Chain) (before : Passes t ms m.before) → Behind ms m.before → switches m.entry.line ≡ false → Goes m.before m.entry c
          → Holds c × ComesUp c
      goes_hold ms m c before b stays (steps s) = (step_holds ms m c before b stays s, goes_on m.entry.line m.entry.events m.entry.reply b.comes s)
      goes_hold ms m c before b stays (drained line none is whole) = (subst Holds (sym is) b.holds, subst ComesUp (sym is) b.comes)
      goes_hold ms m c before b stays (ended line none says is) = (subst Holds (sym is) b.holds, subst ComesUp (sym is) b.comes)

      pub behind_lines : (ms : List Moment) (c : Chain) → Passes t ms c → NoneSwitches (map entry_of ms) → Behind ms c
      behind_lines [] c is stays = record { holds = subst Holds (sym is) first; honest = λ row key its. tt; comes = subst ComesUp (sym is) up }
      behind_lines (m ∷ ms) c (before, goes) stays =
          let b = behind_lines ms m.before before stays.1 in
          let g = goes_hold ms m c before b stays.0 goes in
          record {
            holds = g.0;
            honest = λ row key its.
                let at : IsRowOf m.before.tables key row = subst (λ (x : Contents). IsRowOf x key row) (sym (tables ms m.before before)) its in (
                  b.honest row key its,
                  honest_line hops calls books pdus m (calls.entities m.before b.comes) b.holds (are_booked ms m.before before b.honest) row key (history ms)
                      (books.keeps (history ms) m.before (past ms m.before before) row key at).0
                      (books.hand_ups (history ms) m.before (past ms m.before before) row key at).number,
                );
            comes = g.1;
          }
