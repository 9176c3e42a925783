-- What a line does to the whole chain, and runs of lines.
use Rattle.std.specs.Prelude.{◌≡◌, List, [], ◌∷◌, ◌++◌, nat_lt, Option, Some, None, if◌then◌else◌}
use Rattle.std.specs.List.{list_any, filter_map}
use Rattle.link_base.specs.declared.names.Key.{Key}
use Rattle.rlc_model.specs.Hop.{on_air}
use Rattle.pdcp_model.specs.Sender.{confirmed, submit_fault}
use Rattle.script_text.specs.declared.line.Line.{Line}
use Rattle.script_text.specs.declared.line.Line.TheVariants.{Submit, Grant, Deliver, Repeat, Lose, Stage, Expire, Push, Pull, Burst, Report, Plan as PlanLine, Apply}
use Rattle.script_text.specs.declared.event.Event.{Event}
use Rattle.script_text.specs.declared.event.Event.TheVariants.{Conf, Rep}
use Rattle.script_text.specs.declared.reply.Reply.{Reply}
use Rattle.node_model.specs.Names.{is_key}
use Rattle.node_model.specs.State.{Node}
use Rattle.chain_model.specs.State.{Chain, sender_at}
use Rattle.node_model.specs.Tables.{keys}
use Rattle.node_model.specs.Feeding.{Feeds}
use Rattle.bearer_map.specs.Contents.{Contents}
use Rattle.chain_model.specs.Lines.{Unless, submit_refusal, Submits, grant_refusal, Granted, Delivers, without, Loses, stage_refusal, Stages, expire_refusal, Expires, PushesAt, PullsAt, report_refusal, Wants, plan_refusal, Plans, apply_refusal, Applies}
use Rattle.chain_model.specs.Bursts.{Bursts}

-- what a line does before the ends feed. Lines of the tables, drain and end have no row here
abbrev pub Does : Chain → Line → List Event → Reply → Chain → Type 0
Does old (Submit key sdu) events reply new = Unless (submit_refusal old key) old events reply new (Submits (submit_fault (sender_at old key) sdu) old key sdu events reply new)
Does old (Grant port way octets) events reply new = Unless (grant_refusal old port way) old events reply new (Granted old port way octets events reply new)
Does old (Deliver ticket) events reply new = Delivers old (on_air old.air ticket) events reply new (without ticket)
Does old (Repeat ticket) events reply new = Delivers old (on_air old.air ticket) events reply new (λ c. c)
Does old (Lose ticket) events reply new = Loses old (on_air old.air ticket) ticket events reply new
Does old (Stage ticket) events reply new = Unless (stage_refusal (on_air old.air ticket)) old events reply new (Stages old ticket events reply new)
Does old (Expire port at timer) events reply new = Unless (expire_refusal old port at) old events reply new (Expires old port at timer events reply new)
Does old (Push port) events reply new = PushesAt old port events reply new
Does old (Pull port) events reply new = PullsAt old port events reply new
Does old Burst events reply new = Bursts old events reply new
Does old (Report key) events reply new = Unless (report_refusal old key) old events reply new (Wants old key events reply new)
Does old (PlanLine remote goal) events reply new = Unless (plan_refusal old remote goal) old events reply new (Plans old remote goal events reply new)
Does old (Apply remote kind) events reply new = Unless (apply_refusal old remote kind) old events reply new (Applies old remote kind events reply new)
Does old line events reply new = ⊥

-- the event of a key whose confirmed number rose
abbrev pub confirming : Chain → Chain → Key → Option Event
confirming old new key = if nat_lt (confirmed (sender_at old key)) (confirmed (sender_at new key)) then Some (Conf key (confirmed (sender_at new key))) else None

-- the events of reports that were given, in key order
abbrev pub reporting : List Key → Key → Option Event
reporting given key = if list_any (λ k. is_key key k) given then Some (Rep key) else None

-- each node feeds, and the keys of the reports that were given are listed
abbrev pub FeedsAll : Contents → List Node → List Key → List Node → Type 0
FeedsAll t [] given new = (given ≡ []) × (new ≡ [])
FeedsAll t (n ∷ ns) given new =
    (m : Node) × (ms : List Node) × (first : List Key) × (more : List Key) × Feeds t n first m × FeedsAll t ns more ms × (given ≡ first ++ more) × (new ≡ m ∷ ms)

-- a line's own events, the confirmed numbers that rose, and the reports given when the ends have fed: each of the latter two in key order
pub record Step (old : Chain) (line : Line) (events : List Event) (reply : Reply) (new : Chain) : Type 0 where
  pub own : List Event
  pub mid : Chain
  pub does : Does old line own reply mid
  pub given : List Key
  pub nodes : List Node
  pub feeds : FeedsAll mid.tables mid.nodes given nodes
  pub is : new ≡ record mid { nodes = nodes }
  pub shows : events ≡ own ++ filter_map (confirming old mid) (keys old.tables) ++ filter_map (reporting given) (keys old.tables)
