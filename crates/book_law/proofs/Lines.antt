-- What each line does to the two ends of a key, before the ends feed.
use Rattle.std.proofs.Common.{◌≡◌, inl, inr, ℕ, ◌+◌, ◌==◌, Bool, true, false, cond, not, nat_lt, nat_le, if◌then◌else◌, List, [], ◌∷◌, ◌++◌, length, map, flat_map, Option, Some, None, refl, sym, ◌∙◌, ap, subst, arith}
use Rattle.std.specs.List.{AllZip}
use Rattle.std.proofs.lemmas.Bool.{true≢false, eqb-true}
use Rattle.std.proofs.lemmas.Option.{none-some, same_Some}
use Rattle.link_base.specs.declared.limits.TheConstants.{LONGEST_PDCP_SDU, COUNT_END}
use Rattle.link_base.specs.declared.names.Remote.{Remote}
use Rattle.link_base.specs.declared.names.Key.{Key}
use Rattle.link_base.specs.declared.names.PortName.{PortName}
use Rattle.link_base.specs.declared.names.Side.{Side}
use Rattle.link_base.specs.declared.names.Timer.{Timer}
use Rattle.link_base.specs.declared.names.Way.{Way}
use Rattle.link_base.specs.declared.rlc_words.Expired.{Expired}
use Rattle.link_base.specs.declared.rlc_words.Expired.TheVariants as expiry
use Rattle.link_base.specs.SequenceNumbers.{most_unconfirmed}
use Rattle.rlc_model.specs.declared.hop.Pdu.{Pdu}
use Rattle.rlc_model.specs.declared.hop.HopGrant.{HopGrant}
use Rattle.rlc_model.specs.declared.hop.HopGrant.TheVariants as grants
use Rattle.rlc_model.specs.Sides.{hearer_of, way_from}
use Rattle.rlc_model.specs.Hop.{on_air}
use Rattle.pdcp_pdu.specs.Pdcp.{Sdu, Report as ReportPdu, IsPdcp}
use Rattle.pdcp_model.specs.declared.answers.PdcpHeard.{PdcpHeard}
use Rattle.pdcp_model.specs.declared.answers.SubmitFault.{SubmitFault}
use Rattle.pdcp_model.specs.declared.answers.SubmitFault.TheVariants as faults
use Rattle.pdcp_model.specs.Sender.{Sender, submitted, confirmed, tx_next, submit_fault, accepts}
use Rattle.pdcp_model.specs.Receiver.{Receiver, Hears}
use Rattle.pdcp_model.specs.HandUp.{Hearing, handed_by}
use Rattle.script_text.specs.declared.line.Line.{Line}
use Rattle.script_text.specs.declared.line.Line.TheVariants.{Submit, Grant, Deliver, Repeat, Lose, Stage, Expire, Push, Pull, Burst, Report, Plan as PlanLine, Apply}
use Rattle.script_text.specs.declared.event.Event.{Event}
use Rattle.script_text.specs.declared.event.Event.TheVariants.{Left}
use Rattle.script_text.specs.declared.reply.Reply.{Reply}
use Rattle.script_text.specs.declared.reply.Reply.TheVariants.{OkNumber, Full, NoBearer}
use Rattle.script_text.specs.History.{Entry}
use Rattle.node_model.specs.declared.answers.NodeHeard.{NodeHeard}
use Rattle.node_model.specs.declared.answers.PushReply.{PushReply}
use Rattle.node_model.specs.declared.answers.PushReply.TheVariants as pushed
use Rattle.node_model.specs.declared.answers.PullReply.{PullReply}
use Rattle.node_model.specs.declared.answers.PullReply.TheVariants as pulled
use Rattle.node_model.specs.declared.parcel.Parcel.{Parcel}
use Rattle.node_model.specs.Names.{NodeName, AtRelay, is_key, owner, source, sink, node_of}
use Rattle.node_model.specs.State.{Incoming, Node, PortSide, incoming, side_at}
use Rattle.node_model.specs.Hearing.{hear_refusal, HearsUnless}
use Rattle.node_model.specs.Relaying.{PushesPort, PullsPort}
use Rattle.node_model.specs.Switching.{node_after, node_closed}
use Rattle.node_model.specs.Tables.{has_bearer, settings}
use Rattle.node_model.proofs.Names.{cases_key, key_apart, key_refl, key_is}
use Rattle.chain_model.specs.State.{Chain, node_at, set_node, sender_at, set_sender, receiving_at, set_receiving}
use Rattle.chain_model.specs.Lines.{Unless, submit_refusal, Submits, grant_refusal, Sends, Granted, hearer, is_handed_over, Comes, Delivers, without, Loses, stage_refusal, expire_refusal, Expires, report_refusal, plan_refusal, Plans, apply_refusal, closed, Applies}
use Rattle.chain_model.specs.Telling.{TellsHeard, TellsExpired, TellsSubmit}
use Rattle.chain_model.specs.Bursts.{Ingests, ends as ends_work, stops, pushes, hears as hears_ticket, Ingress, told_by, Bursts, inbox, behind_egress}
use Rattle.chain_model.specs.Book.{accepted, ups}
use Rattle.chain_model.specs.Steps.{Does}
use Rattle.chain_model.proofs.Lookups.{incoming_key, sets_senders}
use Rattle.book_law.specs.Confirmations.{ConfirmsBy}
use Rattle.book_law.specs.Hearings.{coming, tells_hearing, HearsBy, HearsNone}
use Rattle.book_law.proofs.Senders.{KeepsAll, Drops, drops_none, drops_on, drops_for}
use Rattle.book_law.proofs.Ends.{Ends, Stays, ends_out, ends_out_other, ends_in, ends_in_own, ends_in_other, ends_from, ends_less}
use Rattle.book_law.proofs.Fed.{applies_keep, closed_keeps}
use Rattle.book_law.proofs.Moves.{HasEnds, Moves, EachNode, moves_each, each_set, each_set_for, each_map, each_on, each_same, each_beside}
use Rattle.book_law.proofs.Events.{NoConf, NoUp, no_ups, ups_own, ups_other, up_conf, marked_conf, marked_up}
use Rattle.book_law.proofs.Leading.{leads_to_sink}
use Rattle.book_law.proofs.Heard.{drops_itself, NodeConfirms, acked, reported, is_data_answer, told_data, told_other, refused, HearsData, hears_side, hears_same}

-- a submission of the key is answered by TX_NEXT, or by the confirmed number where as many as may be are unconfirmed
abbrev pub AnswersSender : Key → Chain → Line → Reply → Type 0
AnswersSender k c (Submit of sdu) (OkNumber count) = is_key of k ≡ true → count ≡ tx_next (sender_at c k)
AnswersSender k c (Submit of sdu) (Full n) = is_key of k ≡ true → (n ≡ confirmed (sender_at c k)) × (submitted (sender_at c k) ≡ n + most_unconfirmed (sender_at c k).size)
AnswersSender k c line reply = Unit {0}

-- what a line does to the ends of a key, where COUNTs are confirmed for a cause: it hears nothing for the key and accepts nothing of it; or it accepts an SDU of it; or
-- its receiver hears a data PDU
pub data Acts (k : Key) (Cause : ℕ → Type 0) (old : Chain) (e : Entry) (own : List Event) (mid : Chain) : Type 0 where
  rests : accepted k e.line e.reply ≡ [] → Moves k (Drops Cause) Stays old mid → ups k own ≡ [] → HearsNone k (record { before = old; entry = e }) → Acts k Cause old e own mid
  takes : (sdu : List ℕ) → accepted k e.line e.reply ≡ sdu ∷ [] → submit_fault (sender_at old k) sdu ≡ None → Moves k (λ s t. t ≡ accepts s sdu) Stays old mid → ups k own ≡ []
      → HearsNone k (record { before = old; entry = e }) → Acts k Cause old e own mid
  hears : (hearing : Hearing) (heard : PdcpHeard) → accepted k e.line e.reply ≡ [] → HearsBy k (record { before = old; entry = e }) hearing
      → Moves k (Drops Cause) (λ r q. Hears r hearing.sn hearing.sdu heard q) old mid → ups k own ≡ handed_by heard → Acts k Cause old e own mid

-- the same, and how submissions are answered
pub record Acting (k : Key) (Cause : ℕ → Type 0) (old : Chain) (e : Entry) (own : List Event) (mid : Chain) : Type 0 where
  pub acts : Acts k Cause old e own mid
  pub answers : AnswersSender k old e.line e.reply
  pub no_conf : NoConf own

-- an SDU that is refused because as many as may be are unconfirmed
abbrev full_of : Option SubmitFault → Option ℕ
full_of (Some (faults.Full n)) = Some n
full_of fault = None

chain_full : (a b c d : Bool) (m n : ℕ) → cond a (Some faults.Empty) (cond b (Some faults.Long) (cond c (Some faults.Spent) (cond d (Some (faults.Full m)) None))) ≡ Some (faults.Full n) → (d ≡ true) × (n ≡ m)
chain_full true b c d m n e = absurd (none-some n (ap full_of e))
chain_full false true c d m n e = absurd (none-some n (ap full_of e))
chain_full false false true d m n e = absurd (none-some n (ap full_of e))
chain_full false false false true m n e = (refl, sym (same_Some m n (ap full_of e)))
chain_full false false false false m n e = absurd (none-some n (ap full_of e))

is_full : (s : Sender) (sdu : List ℕ) (n : ℕ) → submit_fault s sdu ≡ Some (faults.Full n) → (n ≡ confirmed s) × (submitted s ≡ n + most_unconfirmed s.size)
is_full s sdu n is =
    let x = chain_full (length sdu == 0) (nat_lt LONGEST_PDCP_SDU (length sdu)) (nat_le COUNT_END (tx_next s)) (submitted s == confirmed s + most_unconfirmed s.size) (confirmed s) n is in
    (x.1, omega (arith, x.1, eqb-true _ _ x.0))

no_bearer : (c : Chain) (key : Key) (r : Reply) → submit_refusal c key ≡ Some r → r ≡ NoBearer
no_bearer c key r is = by (not (has_bearer c.tables key.remote key.drb)) is
  where
    by : (b : Bool) → cond b (Some NoBearer) None ≡ Some r → r ≡ NoBearer
    by true e = sym (same_Some NoBearer r e)
    by false e = absurd (none-some r e)

module _ (k : Key) (old : Chain) (has : HasEnds old k) (e : Entry) where
  abbrev entry : Line → Reply → Entry
  entry line reply = record { line = line; events = e.events; reply = reply }

  -- why a COUNT is confirmed by the line
  abbrev C : ℕ → Type 0
  C = ConfirmsBy k (record { before = old; entry = e })

  -- both ends stay as they are
  abbrev Still : Chain → Type 0
  Still mid = EachNode k (Drops C) Stays old mid

  same : (mid : Chain) → mid.tables ≡ old.tables → mid.nodes ≡ old.nodes → Still mid
  same mid tables nodes = each_same k (Drops C) Stays (drops_itself C) (λ r. refl) old mid tables nodes

  at_old : (mid : Chain) → mid ≡ old → Still mid
  at_old mid is = subst Still (sym is) (same old refl refl)

  -- one node changes
  sets : (name : NodeName) (m : Node) → Ends k (Drops C) Stays (node_at old name) m → Still (set_node old m)
  sets name m moves = each_set k (Drops C) Stays (drops_itself C) old name m moves (inl (λ r. refl))

  -- and beside it what isn't a node
  beside : (x y : Chain) → y.tables ≡ x.tables → y.nodes ≡ x.nodes → Still x → Still y
  beside x y tables nodes s =
      each_beside k (Drops C) Stays old x y tables nodes s

  -- a node whose rows are as they were
  sets_same : (name : NodeName) (m : Node) → m.name ≡ (node_at old name).name → m.outgoing ≡ (node_at old name).outgoing → m.incoming ≡ (node_at old name).incoming → Still (set_node old m)
  sets_same name m is out in' = sets name m (hears_same k C (node_at old name) m is out in')

  quiet : (line : Line) (reply : Reply) (own : List Event) (mid : Chain) → accepted k line reply ≡ [] → AnswersSender k old line reply → HearsNone k (record { before = old; entry = entry line reply }) → Still mid → NoUp own → NoConf own
      → Acting k C old (entry line reply) own mid
  quiet line reply own mid none answers silent still no_up no_conf = record {
    acts = rests none (moves_each k (Drops C) Stays old mid has still) (no_ups k own no_up) silent;
    answers = answers;
    no_conf = no_conf;
  }

  -- a line that shows nothing
  shows_none : (line : Line) (reply : Reply) (own : List Event) (mid : Chain) → accepted k line reply ≡ [] → AnswersSender k old line reply → HearsNone k (record { before = old; entry = entry line reply }) → own ≡ [] → Still mid → Acting k C old (entry line reply) own mid
  shows_none line reply own mid none answers silent is still = quiet line reply own mid none answers silent still (subst NoUp (sym is) tt) (subst NoConf (sym is) tt)

  -- a line that is refused
  unless : (line : Line) (refusal : Option Reply) (own : List Event) (reply : Reply) (mid : Chain) (done : Type 0) → accepted k line reply ≡ [] → AnswersSender k old line reply → HearsNone k (record { before = old; entry = entry line reply })
      → (done → Acting k C old (entry line reply) own mid) → Unless refusal old own reply mid done → Acting k C old (entry line reply) own mid
  unless line (Some refusal) own reply mid done none answers silent does (shows, says, is) = shows_none line reply own mid none answers silent shows (at_old mid is)
  unless line None own reply mid done none answers silent does x = does x

  -- grant
  sends_still : (node : Node) (port : PortName) (way : Way) (epoch : ℕ) (answer : HopGrant) (reply : Reply) (mid : Chain) → Still (set_node old node) → Sends old node port way epoch answer reply mid → Still mid
  sends_still node port way epoch (grants.Sent status number bytes) reply mid still s = subst Still (sym s.1) (beside (set_node old node) _ refl refl still)
  sends_still node port way epoch grants.Idle reply mid still s = at_old mid s.1
  sends_still node port way epoch (grants.Small need) reply mid still s = at_old mid s.1

  granted : (port : PortName) (way : Way) (octets : ℕ) (own : List Event) (reply : Reply) (mid : Chain) → Granted old port way octets own reply mid → Acting k C old (entry (Grant port way octets) reply) own mid
  granted port way octets own reply mid g =
      shows_none (Grant port way octets) reply own mid refl tt (inl refl) g.shows
      (sends_still g.node port way g.epoch g.answer reply mid (subst (λ m. Still (set_node old m)) (sym g.grants.is) (sets_same _ _ refl refl refl)) g.sends)

  -- a timer runs out
  expired_up : (port : PortName) (way : Way) (expired : Expired) (own : List Event) (reply : Reply) → TellsExpired port way expired own reply → NoUp own × NoConf own
  expired_up port way expiry.Done own reply t = (subst NoUp (sym t.0) tt, subst NoConf (sym t.0) tt)
  expired_up port way (expiry.Marked n) own reply t = (subst NoUp (sym t.0) (marked_up port way (n ∷ [])), subst NoConf (sym t.0) (marked_conf port way (n ∷ [])))
  expired_up port way expiry.Stopped own reply t = (subst NoUp (sym t.0) tt, subst NoConf (sym t.0) tt)

  expires : (port : PortName) (at : Side) (timer : Timer) (own : List Event) (reply : Reply) (mid : Chain) → Expires old port at timer own reply mid → Acting k C old (entry (Expire port at timer) reply) own mid
  expires port at timer own reply mid x =
      let told = expired_up port (way_from at) x.expired own reply x.tells in
      quiet (Expire port at timer) reply own mid refl tt (inl refl)
      (subst Still (sym x.is) (subst (λ m. Still (set_node old m)) (sym x.expires.is) (sets_same _ _ refl refl refl))) told.0 told.1

  -- push and pull
  pushed_still : (capacity : ℕ) (port : PortName) (answer : PushReply) (node : Node) → PushesPort capacity (node_at old AtRelay) port answer node → Still (set_node old node)
  pushed_still capacity port (pushed.Done egress) node p =
      subst (λ m. Still (set_node old m)) (sym p.1.is) (sets_same AtRelay _ (ap (λ (n : Node). n.name) p.1.empties) (ap (λ (n : Node). n.outgoing) p.1.empties) (ap (λ (n : Node). n.incoming) p.1.empties))
  pushed_still capacity port pushed.NoPort node p = subst (λ m. Still (set_node old m)) (sym p.1) (sets_same AtRelay _ refl refl refl)
  pushed_still capacity port pushed.Nothing node p = subst (λ m. Still (set_node old m)) (sym p.1) (sets_same AtRelay _ refl refl refl)
  pushed_still capacity port pushed.QueueFull node p = subst (λ m. Still (set_node old m)) (sym p.1) (sets_same AtRelay _ refl refl refl)

  pulled_still : (port : PortName) (answer : PullReply) (node : Node) → PullsPort (node_at old AtRelay) port answer node → Still (set_node old node)
  pulled_still port (pulled.Done number) node p = subst (λ m. Still (set_node old m)) (sym p.1.is) (sets_same AtRelay _ refl refl refl)
  pulled_still port pulled.NoPort node p = subst (λ m. Still (set_node old m)) (sym p.1) (sets_same AtRelay _ refl refl refl)
  pulled_still port pulled.Empty node p = subst (λ m. Still (set_node old m)) (sym p.1) (sets_same AtRelay _ refl refl refl)
  pulled_still port pulled.Stalled node p = subst (λ m. Still (set_node old m)) (sym p.1) (sets_same AtRelay _ refl refl refl)

  -- a plan is applied
  closed_still : (remote : Remote) (b : Bool) (c : Chain) → Still c → Still (closed remote b c)
  closed_still remote true c s = s
  closed_still remote false c s =
      each_on k (Drops C) Stays (drops_on C) (λ a b c p q. q ∙ p) old c (record c { nodes = map (node_closed remote) c.nodes }) s
      (each_map k (Drops C) Stays c (node_closed remote) (λ n. ends_less k KeepsAll (Drops C) Stays Stays (drops_none C) (λ a b p. p) n (node_closed remote n) (closed_keeps k remote n)))

  applied : (remote : Remote) (kind : _) (own : List Event) (reply : Reply) (mid : Chain) → Applies old remote kind own reply mid → Still mid
  applied remote kind own reply mid a =
      let name = node_of kind remote in
      let node = node_after (settings old.tables) remote a.plan.goal a.plan.epoch (node_at old name) in
      subst Still (sym a.is) (closed_still remote _ _ (beside (set_node old node) _ refl refl
      (sets name node (ends_less k KeepsAll (Drops C) Stays Stays (drops_none C) (λ x y p. p) (node_at old name) node (applies_keep k (settings old.tables) remote a.plan.goal a.plan.epoch (node_at old name))))))

  -- submit
  submits : (fault : Option SubmitFault) (of : Key) (sdu : List ℕ) (own : List Event) (reply : Reply) (mid : Chain) → submit_fault (sender_at old of) sdu ≡ fault → Submits fault old of sdu own reply mid → Acting k C old (entry (Submit of sdu) reply) own mid
  submits (Some fault) of sdu own reply mid is (shows, tells, stays) = by fault is tells
    where
      refuses : (told : Reply) → reply ≡ told → accepted k (Submit of sdu) told ≡ [] → AnswersSender k old (Submit of sdu) told → Acting k C old (entry (Submit of sdu) reply) own mid
      refuses told says none answers =
          shows_none (Submit of sdu) reply own mid (ap (accepted k (Submit of sdu)) says ∙ none) (subst (AnswersSender k old (Submit of sdu)) (sym says) answers) (inl refl) shows (at_old mid stays)

      by : (f : SubmitFault) → submit_fault (sender_at old of) sdu ≡ Some f → TellsSubmit f reply → Acting k C old (entry (Submit of sdu) reply) own mid
      by faults.Empty is t = refuses _ t refl tt
      by faults.Long is t = refuses _ t refl tt
      by faults.Spent is t = refuses _ t refl tt
      by (faults.Full n) is t =
          refuses _ t refl (λ its. subst (λ key. (n ≡ confirmed (sender_at old key)) × (submitted (sender_at old key) ≡ n + most_unconfirmed (sender_at old key).size)) (key_is of k its) (is_full (sender_at old of) sdu n is))
      by faults.Memory is t = absurd t
  submits None of sdu own reply mid is (shows, says, sets_it) = elim (cases_key of k) [
    | inl its ↦
        let own_key : is_key of k ≡ true = ap (λ key. is_key of key) (sym its) ∙ key_refl of in
        let now : mid ≡ set_sender old k (accepts (sender_at old k) sdu) = sets_it ∙ ap (λ key. set_sender old key (accepts (sender_at old key) sdu)) its in
        record {
          acts = takes sdu
              (ap (accepted k (Submit of sdu)) says ∙ ap (λ (b : Bool). cond b (sdu ∷ []) []) own_key)
              (ap (λ key. submit_fault (sender_at old key) sdu) (sym its) ∙ is)
              (subst (Moves k (λ s t. t ≡ accepts s sdu) Stays old) (sym now) accepts_moves)
              (no_ups k own (subst NoUp (sym shows) tt))
              (inl refl);
          answers = subst (AnswersSender k old (Submit of sdu)) (sym says) (λ e. ap (λ key. tx_next (sender_at old key)) its);
          no_conf = subst NoConf (sym shows) tt;
        }
    | inr ne ↦
        let other : is_key of k ≡ false = key_apart of k ne in
        shows_none (Submit of sdu) reply own mid
        (ap (accepted k (Submit of sdu)) says ∙ ap (λ (b : Bool). cond b (sdu ∷ []) []) other)
        (subst (AnswersSender k old (Submit of sdu)) (sym says) (λ e. absurd (true≢false (sym e ∙ other)))) (inl refl) shows
        (subst Still (sym sets_it) (sets (source of) _ (ends_out_other k (Drops C) Stays (drops_itself C) (λ r. refl) (node_at old (source of)) of (accepts (sender_at old of) sdu) ne)))
  ]
    where
      accepts_moves : Moves k (λ s t. t ≡ accepts s sdu) Stays old (set_sender old k (accepts (sender_at old k) sdu))
      accepts_moves =
          let s = accepts (sender_at old k) sdu in
          let Any : Sender → Sender → Type 0 = λ a b. Unit {0} in
          let there = moves_each k Any Stays old (set_sender old k s) has
          (each_set k Any Stays (λ x. tt) old (source k) _ (ends_out k Any Stays (λ x. tt) (λ r. refl) (node_at old (source k)) k s tt) (inl (λ r. refl))) in
          record {
            tables = refl;
            ends = there.ends;
            sends = sets_senders.own old k s has.sender;
            hears = ap (λ (i : Incoming). i.receiver) (sets_senders.receivers old k k s);
          }

  -- a report is wanted
  wants : (of : Key) → Still (set_receiving old of (record (receiving_at old of) { wanted = true }))
  wants of = sets (sink of) _ (ends_in k (Drops C) Stays (drops_itself C) (λ r. refl) (node_at old (sink of)) of (record (receiving_at old of) { wanted = true }) (incoming_key (node_at old (sink of)) of) refl)

  -- a PDU comes to its node
  module _ (line : Line) (reply : Reply) (none : accepted k line reply ≡ []) (answers : AnswersSender k old line reply) (ticket : ℕ) (its_ticket : coming line ≡ Some ticket) (e_ticket : coming e.line ≡ Some ticket) (pdu : Pdu) (shown : on_air old.air ticket ≡ Some pdu)
      (behind : Chain → Chain) (tables_stay : (c : Chain) → (behind c).tables ≡ c.tables) (nodes_stay : (c : Chain) → (behind c).nodes ≡ c.nodes) (own : List Event) (mid : Chain) where
    -- where the PDU is heard, a cause at the node is one of the line
    abbrev N : ℕ → Type 0
    N = NodeConfirms k old.tables (hearer pdu old) (hearer_of pdu.way) pdu.port pdu.bytes

    is_cause : hear_refusal pdu (side_at (hearer pdu old) pdu.port) ≡ None → owner (hearer_of pdu.way) pdu.port ≡ source k → (count : ℕ) → N count → C count
    is_cause taken at_source count (acked side entity tags marks tx rx its heard remote drb direct tag among its_key its_count) = inl (record {
      tags = tags;
      marks = marks;
      comes = record {
        ticket = ticket;
        line = e_ticket;
        pdu = pdu;
        shown = shown;
        at_node = at_source;
        taken = taken;
        side = side;
        entity = entity;
        its = its;
        tx = tx;
        rx = rx;
        hears = heard;
      };
      remote = remote;
      drb = drb;
      direct = direct;
      tag = tag;
      among = among;
      its_key = its_key;
      its_count = its_count;
    })
    is_cause taken at_source count (reported side entity number whole tx rx its heard other body leads its_other fmc bits reads says) =
        let at_sink = leads_to_sink old.tables (hearer pdu old) (hearer_of pdu.way) pdu.port whole other body leads in
        inr (record {
          other = other;
          its_other = its_other;
          body = body;
          completes = record {
            number = number;
            whole = whole;
            comes = record {
              ticket = ticket;
              line = e_ticket;
              pdu = pdu;
              shown = shown;
              at_node = at_sink;
              taken = taken;
              side = side;
              entity = entity;
              its = its;
              tx = tx;
              rx = rx;
              hears = heard;
            };
            leads = leads;
          };
          fmc = fmc;
          bits = bits;
          reads = subst (λ name. IsPdcp (incoming (node_at old name) other).receiver.size (ReportPdu fmc bits) body) at_sink reads;
          says = says;
        })

    -- no receiver hears a data PDU
    no_data : (answer : NodeHeard) (node : Node) → Still (set_node old node) → is_data_answer answer ≡ false → TellsHeard pdu.port (way_from (hearer_of pdu.way)) answer own reply
        → mid ≡ (if is_handed_over answer then behind (set_node old node) else old) → Acting k C old (entry line reply) own mid
    no_data answer node still other tells is =
        let told = told_other pdu.port (way_from (hearer_of pdu.way)) answer own reply other tells in
        quiet line reply own mid none answers (inr (inl told.0)) (subst Still (sym is) (by (is_handed_over answer))) told.2 told.1
      where
        by : (b : Bool) → Still (cond b (behind (set_node old node)) old)
        by true = beside (set_node old node) (behind (set_node old node)) (tables_stay (set_node old node)) (nodes_stay (set_node old node)) still
        by false = at_old old refl

    -- one does
    a_data_pdu : (answer : NodeHeard) (node : Node) → hear_refusal pdu (side_at (hearer pdu old) pdu.port) ≡ None → HearsData old.tables (hearer pdu old) (hearer_of pdu.way) pdu.port pdu.bytes answer node
        → TellsHeard pdu.port (way_from (hearer_of pdu.way)) answer own reply → mid ≡ (if is_handed_over answer then behind (set_node old node) else old) → Acting k C old (entry line reply) own mid
    a_data_pdu answer node taken d tells is =
        let told = told_data pdu.port (way_from (hearer_of pdu.way)) d.key d.heard own reply (subst (λ a. TellsHeard pdu.port (way_from (hearer_of pdu.way)) a own reply) d.says tells) in
        let at_sink = leads_to_sink old.tables (hearer pdu old) (hearer_of pdu.way) pdu.port d.whole d.key d.body d.leads in
        let now : mid ≡ behind (set_node old node) = is ∙ ap (λ (b : Bool). cond b (behind (set_node old node)) old) (ap is_handed_over d.says ∙ told.2) in
        let by : HearsBy d.key (record { before = old; entry = entry line reply }) d.hearing = record {
          body = d.body;
          completes = record {
            number = d.number;
            whole = d.whole;
            comes = record {
              ticket = ticket;
              line = its_ticket;
              pdu = pdu;
              shown = shown;
              at_node = at_sink;
              taken = taken;
              side = d.side;
              entity = d.entity;
              its = d.its;
              tx = d.tx;
              rx = d.rx;
              hears = d.completes;
            };
            leads = d.leads;
          };
          reads = subst (λ name. IsPdcp (incoming (node_at old name) d.key).receiver.size (Sdu d.hearing.sn d.hearing.sdu) d.body) at_sink d.reads;
          told = told.0;
        } in
        let n = hearer pdu old in
        let name = owner (hearer_of pdu.way) pdu.port in
        let row : Incoming = record (incoming n d.key) { receiver = d.receiver } in
        let no_conf : NoConf own = subst NoConf (sym told.1) (up_conf d.key (handed_by d.heard)) in
        elim (cases_key d.key k) [
          | inl its ↦
              let Q : Receiver → Receiver → Type 0 = λ r q. Hears r d.hearing.sn d.hearing.sdu d.heard q in
              let old_row : incoming d.mid k ≡ incoming n d.key = ap (λ rows. incoming (record n { incoming = rows }) k) d.same_rows.2 ∙ ap (incoming n) (sym its) in
              let hears_it : Q (incoming d.mid k).receiver d.receiver = subst (λ (i : Incoming). Q i.receiver d.receiver) (sym old_row) d.hears in
              let moves : Ends k (Drops C) Q n node =
              ends_from k (Drops C) Q n d.mid node d.same_rows.0 d.same_rows.1 d.same_rows.2
              (subst (Ends k (Drops C) Q d.mid) (sym d.is) (ends_in_own k (Drops C) Q (drops_itself C) d.mid row (incoming_key n d.key ∙ its) hears_it)) in
              let each : EachNode k (Drops C) Q old mid =
              subst (EachNode k (Drops C) Q old) (sym now)
              (each_beside k (Drops C) Q old (set_node old node) (behind (set_node old node)) (tables_stay (set_node old node)) (nodes_stay (set_node old node))
              (each_set k (Drops C) Q (drops_itself C) old name node moves (inr (at_sink ∙ ap sink its)))) in
              record {
                acts = hears d.hearing d.heard none (subst (λ key. HearsBy key (record { before = old; entry = entry line reply }) d.hearing) its by) (moves_each k (Drops C) Q old mid has each)
                    (ap (ups k) told.1 ∙ ups_own k d.key (ap (λ key. is_key key k) its ∙ key_refl k) (handed_by d.heard));
                answers = answers;
                no_conf = no_conf;
              }
          | inr ne ↦
              let other = key_apart d.key k ne in
              let moves : Ends k (Drops C) Stays n node =
              ends_from k (Drops C) Stays n d.mid node d.same_rows.0 d.same_rows.1 d.same_rows.2
              (subst (Ends k (Drops C) Stays d.mid) (sym d.is) (ends_in_other k (Drops C) Stays (drops_itself C) (λ r. refl) d.mid row (λ e. ne (sym (incoming_key n d.key) ∙ e)))) in
              let still = subst Still (sym now) (beside (set_node old node) (behind (set_node old node)) (tables_stay (set_node old node)) (nodes_stay (set_node old node)) (sets name node moves)) in
              record {
                acts = rests none (moves_each k (Drops C) Stays old mid has still) (ap (ups k) told.1 ∙ ups_other k d.key other (handed_by d.heard)) (inr (inr (d.key, other, d.hearing, by)));
                answers = answers;
                no_conf = no_conf;
              }
        ]

    -- it is refused, or it is heard
    comes : Comes old pdu own reply mid behind → Acting k C old (entry line reply) own mid
    comes c = by (hear_refusal pdu (side_at (hearer pdu old) pdu.port)) refl c.hears
      where
        by : (o : Option NodeHeard) → hear_refusal pdu (side_at (hearer pdu old) pdu.port) ≡ o → HearsUnless o old.tables (hearer pdu old) (hearer_of pdu.way) pdu c.answer c.node → Acting k C old (entry line reply) own mid
        by (Some refusal) is (says, stays) =
            no_data c.answer c.node (subst (λ m. Still (set_node old m)) (sym stays) (sets_same (owner (hearer_of pdu.way) pdu.port) (hearer pdu old) refl refl refl))
            (ap is_data_answer says ∙ refused pdu (side_at (hearer pdu old) pdu.port) refusal is) c.tells c.is
        by None is side = elim (hears_side k old.tables (hearer pdu old) (hearer_of pdu.way) pdu.port pdu.bytes c.answer c.node side) [
          | inl x ↦
              let name = owner (hearer_of pdu.way) pdu.port in
              let still : Still (set_node old c.node) = each_set_for k (Drops C) Stays (Drops N) (drops_itself C) old name c.node (λ at. drops_for N C (is_cause is at)) x.0 (inl (λ r. refl)) in
              no_data c.answer c.node still x.1 c.tells c.is
          | inr d ↦ a_data_pdu c.answer c.node is d c.tells c.is
        ]

  -- deliver and repeat
  delivers : (line : Line) (reply : Reply) → accepted k line reply ≡ [] → AnswersSender k old line reply → (ticket : ℕ) → coming line ≡ Some ticket → coming e.line ≡ Some ticket → (behind : Chain → Chain) → ((c : Chain) → (behind c).tables ≡ c.tables) → ((c : Chain) → (behind c).nodes ≡ c.nodes)
      → (own : List Event) (mid : Chain) → Delivers old (on_air old.air ticket) own reply mid behind → Acting k C old (entry line reply) own mid
  delivers line reply none answers ticket its its_e behind tables nodes own mid d = by (on_air old.air ticket) refl d
    where
      by : (o : Option Pdu) → on_air old.air ticket ≡ o → Delivers old o own reply mid behind → Acting k C old (entry line reply) own mid
      by None is (shows, says, stays) = shows_none line reply own mid none answers (inr (inl (ap tells_hearing says))) shows (at_old mid stays)
      by (Some pdu) is c = comes line reply none answers ticket its its_e pdu is behind tables nodes own mid c

  -- lose
  loses : (o : Option Pdu) (ticket : ℕ) (own : List Event) (reply : Reply) (mid : Chain) → Loses old o ticket own reply mid → Acting k C old (entry (Lose ticket) reply) own mid
  loses None ticket own reply mid (shows, says, stays) = shows_none (Lose ticket) reply own mid refl tt (inl refl) shows (at_old mid stays)
  loses (Some pdu) ticket own reply mid (shows, says, is) = shows_none (Lose ticket) reply own mid refl tt (inl refl) shows (subst Still (sym is) (same (without ticket old) refl refl))

  -- what a burst shows
  left_up : (tickets : List ℕ) → NoUp (map (λ ticket. Left ticket) tickets) × NoConf (map (λ ticket. Left ticket) tickets)
  left_up [] = (tt, tt)
  left_up (t ∷ tickets) = let rest = left_up tickets in ((refl, rest.0), (refl, rest.1))

  ingests_up : (side : PortSide) (tickets : List ℕ) (heard : List Event) (put : List Parcel) (left : List ℕ) (new : PortSide) → Ingests old side tickets heard put left new → NoUp heard × NoConf heard
  ingests_up a b c d e f (ends_work {side} empty) = (tt, tt)
  ingests_up a b c d e f (stops {side} {tickets} full) = (tt, tt)
  ingests_up a b c d e f (pushes {side} {new} {tickets} {left} {heard} {put} parcel full rest) = ingests_up (record side { slot = None }) tickets heard put left new rest
  ingests_up a b c d e f (hears_ticket {side} {mid} {new} {tickets} {left} {heard} {put} ticket pdu reply empty here treats rest) = let more = ingests_up mid tickets heard put left new rest in ((refl, more.0), (refl, more.1))

  append_up : (xs ys : List Event) → NoUp xs × NoConf xs → NoUp ys × NoConf ys → NoUp (xs ++ ys) × NoConf (xs ++ ys)
  append_up [] ys p q = q
  append_up (x ∷ xs) ys p q = let rest = append_up xs ys (p.0.1, p.1.1) q in ((p.0.0, rest.0), (p.1.0, rest.1))

  burst_up : (sides : List PortSide) (ingresses : List Ingress) → AllZip (λ (side : PortSide) (i : Ingress). Ingests old side (inbox old side.name) i.heard i.put i.left i.behind) sides ingresses → NoUp (flat_map told_by ingresses) × NoConf (flat_map told_by ingresses)
  burst_up [] [] all = (tt, tt)
  burst_up [] (i ∷ ingresses) all = absurd all
  burst_up (side ∷ sides) [] all = absurd all
  burst_up (side ∷ sides) (i ∷ ingresses) all =
      append_up (told_by i) (flat_map told_by ingresses)
      (append_up i.heard (map (λ ticket. Left ticket) i.left) (ingests_up side (inbox old side.name) i.heard i.put i.left i.behind all.0) (left_up i.left))
      (burst_up sides ingresses all.1)

  bursts : (own : List Event) (reply : Reply) (mid : Chain) → Bursts old own reply mid → Acting k C old (entry Burst reply) own mid
  bursts own reply mid b =
      let up = burst_up (node_at old AtRelay).ports b.ingresses b.ingest in
      quiet Burst reply own mid refl tt (inl refl)
      (subst Still (sym b.is) (beside (set_node old (record (node_at old AtRelay) { ports = map behind_egress b.egresses })) _ refl refl (sets_same AtRelay _ refl refl refl)))
      (subst NoUp (sym b.shows) up.0) (subst NoConf (sym b.shows) up.1)

  -- each line
  pub acts_so : (line : Line) (reply : Reply) (own : List Event) (mid : Chain) → e.line ≡ line → Does old line own reply mid → Acting k C old (entry line reply) own mid
  acts_so (Submit of sdu) reply own mid its d = by (submit_refusal old of) refl d
    where
      by : (o : Option Reply) → submit_refusal old of ≡ o → Unless o old own reply mid (Submits (submit_fault (sender_at old of) sdu) old of sdu own reply mid) → Acting k C old (entry (Submit of sdu) reply) own mid
      by (Some r) is (shows, says, stays) =
          let told : reply ≡ NoBearer = says ∙ no_bearer old of r is in
          shows_none (Submit of sdu) reply own mid (ap (accepted k (Submit of sdu)) told) (subst (AnswersSender k old (Submit of sdu)) (sym told) tt) (inl refl) shows (at_old mid stays)
      by None is s = submits (submit_fault (sender_at old of) sdu) of sdu own reply mid refl s
  acts_so (Grant port way octets) reply own mid its d = unless (Grant port way octets) (grant_refusal old port way) own reply mid (Granted old port way octets own reply mid) refl tt (inl refl) (granted port way octets own reply mid) d
  acts_so (Deliver ticket) reply own mid its d = delivers (Deliver ticket) reply refl tt ticket refl (ap coming its) (without ticket) (λ c. refl) (λ c. refl) own mid d
  acts_so (Repeat ticket) reply own mid its d = delivers (Repeat ticket) reply refl tt ticket refl (ap coming its) (λ c. c) (λ c. refl) (λ c. refl) own mid d
  acts_so (Lose ticket) reply own mid its d = loses (on_air old.air ticket) ticket own reply mid d
  acts_so (Stage ticket) reply own mid its d =
      unless (Stage ticket) (stage_refusal (on_air old.air ticket)) own reply mid _ refl tt (inl refl) (λ x. shows_none (Stage ticket) reply own mid refl tt (inl refl) x.0 (subst Still (sym x.2) (same _ refl refl))) d
  acts_so (Expire port at timer) reply own mid its d = unless (Expire port at timer) (expire_refusal old port at) own reply mid (Expires old port at timer own reply mid) refl tt (inl refl) (expires port at timer own reply mid) d
  acts_so (Push port) reply own mid its d = shows_none (Push port) reply own mid refl tt (inl refl) d.shows (subst Still (sym d.is) (pushed_still _ port d.answer d.node d.pushes))
  acts_so (Pull port) reply own mid its d = shows_none (Pull port) reply own mid refl tt (inl refl) d.shows (subst Still (sym d.is) (pulled_still port d.answer d.node d.pulls))
  acts_so Burst reply own mid its d = bursts own reply mid d
  acts_so (Report of) reply own mid its d = unless (Report of) (report_refusal old of) own reply mid _ refl tt (inl refl) (λ x. shows_none (Report of) reply own mid refl tt (inl refl) x.0 (subst Still (sym x.2) (wants of))) d
  acts_so (PlanLine remote goal) reply own mid its d =
      unless (PlanLine remote goal) (plan_refusal old remote goal) own reply mid (Plans old remote goal own reply mid) refl tt (inl refl) (λ x. shows_none (PlanLine remote goal) reply own mid refl tt (inl refl) x.shows (subst Still (sym x.is) (same _ refl refl))) d
  acts_so (Apply remote kind) reply own mid its d =
      unless (Apply remote kind) (apply_refusal old remote kind) own reply mid (Applies old remote kind own reply mid) refl tt (inl refl) (λ x. shows_none (Apply remote kind) reply own mid refl tt (inl refl) x.shows (applied remote kind own reply mid x)) d
  acts_so line reply own mid its d = absurd d
