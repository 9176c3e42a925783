-- The ranges of a line's numbers end below 2^64.
use Rattle.std.proofs.Common.{ℕ, ◌<◌, ◌^◌, List, [], ◌∷◌, lit<}
use Rattle.link_base.specs.declared.names.Goal.{Goal}
use Rattle.link_base.specs.declared.names.Goal.TheVariants.{Direct as Straight, Relay as Over}
use Rattle.bearer_map.specs.declared.settings.SetName.{SetName}
use Rattle.bearer_map.specs.declared.settings.SetName.TheVariants.{Queue, Report as Reports, PollPdu, PollByte, MaxRetx}
use Rattle.script_text.specs.Fields.{Field, Number}
use Rattle.script_text.specs.Lines.{fields, value_of, goal_fields}
use Rattle.script_text.specs.declared.line.Line.{Line}
use Rattle.script_text.specs.declared.line.Line.TheVariants.{Version, Set, Remote, Bearer, Uu, Pc5, Map, Start, Path, Go, Submit, Grant, Deliver, Repeat, Lose, Stage, Expire, Push, Pull, Burst, Report, Plan, Apply, Drain, End}

-- a number's range ends below 2^64
abbrev pub IsBounded : Field → Type 0
IsBounded (Number low high n) = high < 2 ^ 64
IsBounded f = Unit {0}

abbrev pub AreBounded : List Field → Type 0
AreBounded [] = Unit {0}
AreBounded (f ∷ fs) = IsBounded f × AreBounded fs

bounded_value : (s : SetName) (n : ℕ) → IsBounded (value_of s n)
bounded_value Queue n = lit< tt
bounded_value Reports n = lit< tt
bounded_value PollPdu n = lit< tt
bounded_value PollByte n = lit< tt
bounded_value MaxRetx n = lit< tt

bounded_goal : (g : Goal) → AreBounded (goal_fields g)
bounded_goal Straight = (tt, tt)
bounded_goal (Over id) = (tt, (lit< tt, tt))

pub bounded : (line : Line) → AreBounded (fields line)
bounded (Version n) = (lit< tt, tt)
bounded (Set s n) = (tt, (bounded_value s n, tt))
bounded (Remote r) = (lit< tt, tt)
bounded (Bearer r d p c) = (lit< tt, (lit< tt, (tt, (tt, tt))))
bounded (Uu c s) = (lit< tt, (tt, tt))
bounded (Pc5 r c s) = (lit< tt, (lit< tt, (tt, tt)))
bounded (Map r d c u) = (lit< tt, (lit< tt, (lit< tt, (lit< tt, tt))))
bounded (Start k n) = (lit< tt, (lit< tt, (tt, (lit< tt, tt))))
bounded (Path r g) = (lit< tt, bounded_goal g)
bounded Go = tt
bounded (Submit k s) = (lit< tt, (lit< tt, (tt, (tt, tt))))
bounded (Grant p w n) = (tt, (tt, (lit< tt, tt)))
bounded (Deliver t) = (lit< tt, tt)
bounded (Repeat t) = (lit< tt, tt)
bounded (Lose t) = (lit< tt, tt)
bounded (Stage t) = (lit< tt, tt)
bounded (Expire p s t) = (tt, (tt, (tt, tt)))
bounded (Push p) = (tt, tt)
bounded (Pull p) = (tt, tt)
bounded Burst = tt
bounded (Report k) = (lit< tt, (lit< tt, (tt, tt)))
bounded (Plan r g) = (lit< tt, bounded_goal g)
bounded (Apply r n) = (lit< tt, (tt, tt))
bounded Drain = tt
bounded End = tt
