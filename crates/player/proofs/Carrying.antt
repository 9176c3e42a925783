-- A player that carries out a line.
use Rattle.std.proofs.Common.{◌≡◌, ℕ, true, false, List, [], ◌∷◌, ◌++◌, Option, Some, None, is_some, Ok, Err, refl, sym, ◌∙◌, ap, subst}
use Rattle.std.proofs.lemmas.Bool.{false≢true}
use Rattle.std.specs.Prelude.{Result}
use Rattle.bearer_map.specs.Contents.{Contents}
use Rattle.bearer_map.specs.declared.rows.TableFault.{TableFault}
use Rattle.script_text.specs.declared.event.Event.{Event}
use Rattle.script_text.specs.declared.line.Line.{Line}
use Rattle.script_text.specs.declared.line.Line.TheVariants.{Go, Submit}
use Rattle.script_text.specs.declared.reply.Reply.{Reply}
use Rattle.script_text.specs.declared.reply.Reply.TheVariants.{Ok as OkReply}
use Rattle.script_text.specs.declared.stage.Part.{Part}
use Rattle.script_text.specs.declared.stage.Part.TheVariants.{Start, Tables, Running, Ended}
use Rattle.script_text.specs.declared.stage.ScriptStage.{ScriptStage}
use Rattle.script_text.specs.Grammar.{Parses}
use Rattle.script_text.specs.History.{trace}
use Rattle.script_text.specs.Lines.{part_of}
use Rattle.script_text.specs.Stages.{after, entered, is_past_go, part_after, tables_after}
use Rattle.script_text.specs.Texts.{entry_text}
use Rattle.chain_model.specs.Runs.{Turn, entries, contents, Turns, LeadsTo}
use Rattle.chain_model.specs.State.{Chain, opened}
use Rattle.chain_core.specs.Chain.{is_chain_line}
use Rattle.chain_core.specs.Opening.{CanOpen}
use Rattle.player.specs.declared.player_state.Player.{Player}
use Rattle.player.specs.declared.player_state.Progress.TheVariants.{Carried}
use Rattle.player.specs.Carried.{is_carried}
use Rattle.player.specs.Ended.{is_ended}
use Rattle.player.proofs.Complete.{never_ended}
use Rattle.player.specs.Carrying.{CanCarry, is_end}
use Rattle.player.specs.Foundations.{LineLaws}
use Rattle.player.specs.Plays.{chain_or, turn_of, Plays, ReadsText}

-- no line has its place behind the end line
no_line_ended : (line : Line) → part_of line ≡ Ended → ⊥
no_line_ended line e = false≢true (sym (never_ended line) ∙ ap is_ended e)

-- a line of a player that has a chain stands behind go, and one of a player that has none before it
running : (line : Line) (part : Part) → part_of line ≡ part → true ≡ is_past_go part → part_of line ≡ Running
running line Start at runs = absurd (false≢true (sym runs))
running line Tables at runs = absurd (false≢true (sym runs))
running line Running at runs = at
running line Ended at runs = absurd (no_line_ended line at)

not_running : (line : Line) (part : Part) → part_of line ≡ part → false ≡ is_past_go part → part_of line ≡ Running → ⊥
not_running line part at runs is = false≢true (runs ∙ ap is_past_go (sym at ∙ is))

-- the part of a script behind a line
part_behind : (old : ScriptStage) (line : Line) (new : ScriptStage) → after old line ≡ Ok new → new.part ≡ part_after old.part line
part_behind old line new = by (tables_after old.tables line)
  where
    by : (tables : Result (Option Contents) TableFault) → entered (part_after old.part line) tables ≡ Ok new → new.part ≡ part_after old.part line
    by (Ok t) e = sym (same_part e)
      where
        same_part : {a b : ScriptStage} → (let r : Result ScriptStage TableFault = Ok a in r) ≡ Ok b → a.part ≡ b.part
        same_part e = cc
    by (Err fault) e = absurd cc

-- of a line of the tables it doesn't matter which chain was there before
turns_from : (part : Part) (old mid : ScriptStage) (before : Option Chain) (t : Turn) (new : Chain) → is_some before ≡ is_past_go part
    → Turns part mid (chain_or mid before) t new → Turns part mid (chain_or old before) t new
turns_from part old mid (Some c) t new runs x = x
turns_from Start old mid None t new runs x = x
turns_from Tables old mid None t new runs x = x
turns_from Running old mid None t new runs x = absurd (false≢true runs)
turns_from Ended old mid None t new runs x = x

-- a line that was read and carried out is one more entry
pub reads_on : (p q : Player) (mid : ScriptStage) (text : List ℕ) (line : Line) (events : List Event) (reply : Reply) (h : List Turn) (out out' : List ℕ)
    → Parses p.stage text (Ok (Some line)) mid → is_carried line ≡ true → q.stage ≡ mid
    → Turns (part_of line) mid (chain_or mid p.chain) (turn_of line events reply) (chain_or mid q.chain)
    → is_some q.chain ≡ is_past_go (part_after (part_of line) line)
    → Plays p h → out ≡ trace (entries h) → out' ≡ out ++ entry_text line events reply → ReadsText text h p.stage Carried q out'
reads_on p q mid text line events reply h out out' parsed carried same turns runs plays written added = (
  parsed.0,
  turn_of line events reply,
  parsed.2.spelt,
  record {
    leads = subst (λ (s : ScriptStage). LeadsTo (turn_of line events reply ∷ h) s (chain_or s q.chain)) (sym same) (
      p.stage,
      chain_or p.stage p.chain,
      plays.leads,
      record { part = parsed.2.stands; enters = parsed.3 },
      turns_from (part_of line) p.stage mid p.chain (turn_of line events reply) (chain_or mid q.chain) (plays.runs ∙ ap is_past_go (sym parsed.2.stands)) turns,
    );
    carried = (carried, plays.carried);
    runs = runs ∙ (ap (λ (part : Part). is_past_go (part_after part line)) parsed.2.stands ∙ (ap is_past_go (sym (part_behind p.stage line mid parsed.3)) ∙ ap (λ (s : ScriptStage). is_past_go s.part) (sym same)));
  },
  added ∙ ap (λ (l : List ℕ). l ++ entry_text line events reply) written,
)

-- a line behind go that is carried out is of a form that a chain carries out, or the end
chain_line : (line : Line) → is_carried line ≡ true → part_of line ≡ Running → is_end line ≡ false → is_chain_line line ≡ true
chain_line (Submit key sdu) carried at no_end = refl
chain_line line carried at no_end = cc

-- a line that is read and carried out can be carried out
module _ (laws : LineLaws) (p : Player) (mid : ScriptStage) (text : List ℕ) (line : Line) (h : List Turn) (parsed : Parses p.stage text (Ok (Some line)) mid)
    (carried : is_carried line ≡ true) (plays : Plays p h) where
  opens : line ≡ Go → CanOpen (contents mid)
  opens is =
      laws.opens (turn_of Go [] OkReply ∷ h) mid (opened (contents mid))
      (p.stage, chain_or p.stage p.chain, plays.leads, record { part = ap part_of (sym is) ∙ parsed.2.stands; enters = ap (after p.stage) (sym is) ∙ parsed.3 }, (refl, refl, refl, refl))

  pub can_carry : CanCarry mid p.chain line
  can_carry = by p.chain refl
    where
      tables : (l : Line) → line ≡ l → (part_of l ≡ Running → ⊥) → CanCarry mid None l
      tables Go is apart = opens is
      tables l is apart = apart

      by : (chain : Option Chain) → p.chain ≡ chain → CanCarry mid chain line
      by (Some c) is =
          let at = running line p.stage.part parsed.2.stands (sym (ap (λ (o : Option Chain). is_some o) is) ∙ plays.runs) in
          let leads : LeadsTo h p.stage c = subst (λ (o : Option Chain). LeadsTo h p.stage (chain_or p.stage o)) is plays.leads in
          (at, record { form = chain_line line carried at; step = laws.steps h p.stage c leads })
      by None is = tables line refl (not_running line p.stage.part parsed.2.stands (sym (ap (λ (o : Option Chain). is_some o) is) ∙ plays.runs))
