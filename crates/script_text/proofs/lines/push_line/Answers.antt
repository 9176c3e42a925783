use Rattle.std.proofs.Common.{ap, refl, sym, ◌∙◌, map}
use Rattle.std.specs.Fmt.{decimal}
use Rattle.script_text.specs.Fields.{field_text}
use Rattle.script_text.specs.Lines.{goal_fields}
use Rattle.script_text.specs.Texts.{key_words}
use Rattle.script_text.specs.Words.{hex_text}
use Rattle.script_text.proofs.Written.{many, one, next, whole, bare, value_text}
use Rattle.script_text.proofs.lines.push_line.Goals as goal

pub returns-in_ok-push_number-in-Version : goal.returns-in_ok-push_number-in-Version
returns-in_ok-push_number-in-Version c = rw c.in-Version.is (whole _ _ c.in_ok-push_str-in-Version.ensures.bytes (one _ _ _ _ c.in_ok-push_number-in-Version.ensures (ap decimal c.from.ensures)))

pub returns-in_ok-push_number-in-Set : goal.returns-in_ok-push_number-in-Set
returns-in_ok-push_number-in-Set c = rw c.in-Set.is (whole _ _ c.in_ok-push_str-in-Set.ensures.bytes (next (one _ _ _ _ c.in_ok-push_word-in-Set.ensures c.setting_text.ensures) (one _ _ _ _ c.in_ok-push_number-in-Set.ensures (ap decimal c.from-in-Set.ensures ∙ sym (value_text c.in-Set.name c.in-Set.value)))))

pub returns-in_ok-push_number-in-Remote : goal.returns-in_ok-push_number-in-Remote
returns-in_ok-push_number-in-Remote c = rw c.in-Remote.is (whole _ _ c.in_ok-push_str-in-Remote.ensures.bytes (one _ _ _ _ c.in_ok-push_number-in-Remote.ensures (ap decimal c.from-in-Remote.ensures)))

pub returns-in_ok-push_word-in-Bearer-2 : goal.returns-in_ok-push_word-in-Bearer-2
returns-in_ok-push_word-in-Bearer-2 c = rw c.in-Bearer.is (whole _ _ c.in_ok-push_str-in-Bearer.ensures.bytes (next (one _ _ _ _ c.in_ok-push_number-in-Bearer.ensures (ap decimal c.from-in-Bearer.ensures)) (next (one _ _ _ _ c.in_ok-push_number-in-Bearer-2.ensures (ap decimal c.from-in-Bearer-2.ensures)) (next (one _ _ _ _ c.in_ok-push_word-in-Bearer.ensures c.size_text.ensures) (one _ _ _ _ c.in_ok-push_word-in-Bearer-2.ensures c.size_text-in-Bearer.ensures)))))

pub returns-in_ok-push_word-in-Uu : goal.returns-in_ok-push_word-in-Uu
returns-in_ok-push_word-in-Uu c = rw c.in-Uu.is (whole _ _ c.in_ok-push_str-in-Uu.ensures.bytes (next (one _ _ _ _ c.in_ok-push_number-in-Uu.ensures (ap decimal c.from-in-Uu.ensures)) (one _ _ _ _ c.in_ok-push_word-in-Uu.ensures c.size_text-in-Uu.ensures)))

pub returns-in_ok-push_word-in-Pc5 : goal.returns-in_ok-push_word-in-Pc5
returns-in_ok-push_word-in-Pc5 c = rw c.in-Pc5.is (whole _ _ c.in_ok-push_str-in-Pc5.ensures.bytes (next (one _ _ _ _ c.in_ok-push_number-in-Pc5.ensures (ap decimal c.from-in-Pc5.ensures)) (next (one _ _ _ _ c.in_ok-push_number-in-Pc5-2.ensures (ap decimal c.from-in-Pc5-2.ensures)) (one _ _ _ _ c.in_ok-push_word-in-Pc5.ensures c.size_text-in-Pc5.ensures))))

pub returns-in_ok-push_number-in-Map-4 : goal.returns-in_ok-push_number-in-Map-4
returns-in_ok-push_number-in-Map-4 c = rw c.in-Map.is (whole _ _ c.in_ok-push_str-in-Map.ensures.bytes (next (one _ _ _ _ c.in_ok-push_number-in-Map.ensures (ap decimal c.from-in-Map.ensures)) (next (one _ _ _ _ c.in_ok-push_number-in-Map-2.ensures (ap decimal c.from-in-Map-2.ensures)) (next (one _ _ _ _ c.in_ok-push_number-in-Map-3.ensures (ap decimal c.from-in-Map-3.ensures)) (one _ _ _ _ c.in_ok-push_number-in-Map-4.ensures (ap decimal c.from-in-Map-4.ensures))))))

pub returns-in_ok-push_number-in-Start : goal.returns-in_ok-push_number-in-Start
returns-in_ok-push_number-in-Start c = rw c.in-Start.is (whole _ _ c.in_ok-push_str-in-Start.ensures.bytes (next (many _ _ (key_words c.in-Start.key) c.in_ok-push_key-in-Start.ensures) (one _ _ _ _ c.in_ok-push_number-in-Start.ensures (ap decimal c.from-in-Start.ensures))))

pub returns-in_ok-push_goal-in-Path : goal.returns-in_ok-push_goal-in-Path
returns-in_ok-push_goal-in-Path c = rw c.in-Path.is (whole _ _ c.in_ok-push_str-in-Path.ensures.bytes (next (one _ _ _ _ c.in_ok-push_number-in-Path.ensures (ap decimal c.from-in-Path.ensures)) (many _ _ (map field_text (goal_fields c.in-Path.goal)) c.in_ok-push_goal-in-Path.ensures)))

pub returns-in_ok-push_str-in-Go : goal.returns-in_ok-push_str-in-Go
returns-in_ok-push_str-in-Go c = rw c.in-Go.is (bare _ _ c.in_ok-push_str-in-Go.ensures.bytes)

pub returns-in_ok-push_hex_word-in-Submit : goal.returns-in_ok-push_hex_word-in-Submit
returns-in_ok-push_hex_word-in-Submit c = rw c.in-Submit.is (whole _ _ c.in_ok-push_str-in-Submit.ensures.bytes (next (many _ _ (key_words c.in-Submit.key) c.in_ok-push_key-in-Submit.ensures) (one _ _ _ _ c.in_ok-push_hex_word-in-Submit.ensures (ap hex_text c.as_slice.ensures))))

pub returns-in_ok-push_number-in-Grant : goal.returns-in_ok-push_number-in-Grant
returns-in_ok-push_number-in-Grant c = rw c.in-Grant.is (whole _ _ c.in_ok-push_str-in-Grant.ensures.bytes (next (one _ _ _ _ c.in_ok-push_port_word-in-Grant.ensures refl) (next (one _ _ _ _ c.in_ok-push_word-in-Grant.ensures c.way_text.ensures) (one _ _ _ _ c.in_ok-push_number-in-Grant.ensures (ap decimal c.from-in-Grant.ensures)))))

pub returns-in_ok-push_number-in-Deliver : goal.returns-in_ok-push_number-in-Deliver
returns-in_ok-push_number-in-Deliver c = rw c.in-Deliver.is (whole _ _ c.in_ok-push_str-in-Deliver.ensures.bytes (one _ _ _ _ c.in_ok-push_number-in-Deliver.ensures refl))

pub returns-in_ok-push_number-in-Repeat : goal.returns-in_ok-push_number-in-Repeat
returns-in_ok-push_number-in-Repeat c = rw c.in-Repeat.is (whole _ _ c.in_ok-push_str-in-Repeat.ensures.bytes (one _ _ _ _ c.in_ok-push_number-in-Repeat.ensures refl))

pub returns-in_ok-push_number-in-Lose : goal.returns-in_ok-push_number-in-Lose
returns-in_ok-push_number-in-Lose c = rw c.in-Lose.is (whole _ _ c.in_ok-push_str-in-Lose.ensures.bytes (one _ _ _ _ c.in_ok-push_number-in-Lose.ensures refl))

pub returns-in_ok-push_number-in-Stage : goal.returns-in_ok-push_number-in-Stage
returns-in_ok-push_number-in-Stage c = rw c.in-Stage.is (whole _ _ c.in_ok-push_str-in-Stage.ensures.bytes (one _ _ _ _ c.in_ok-push_number-in-Stage.ensures refl))

pub returns-in_ok-push_word-in-Expire-2 : goal.returns-in_ok-push_word-in-Expire-2
returns-in_ok-push_word-in-Expire-2 c = rw c.in-Expire.is (whole _ _ c.in_ok-push_str-in-Expire.ensures.bytes (next (one _ _ _ _ c.in_ok-push_port_word-in-Expire.ensures refl) (next (one _ _ _ _ c.in_ok-push_word-in-Expire.ensures c.side_text.ensures) (one _ _ _ _ c.in_ok-push_word-in-Expire-2.ensures c.timer_text.ensures))))

pub returns-in_ok-push_port_word-in-Push : goal.returns-in_ok-push_port_word-in-Push
returns-in_ok-push_port_word-in-Push c = rw c.in-Push.is (whole _ _ c.in_ok-push_str-in-Push.ensures.bytes (one _ _ _ _ c.in_ok-push_port_word-in-Push.ensures refl))

pub returns-in_ok-push_port_word-in-Pull : goal.returns-in_ok-push_port_word-in-Pull
returns-in_ok-push_port_word-in-Pull c = rw c.in-Pull.is (whole _ _ c.in_ok-push_str-in-Pull.ensures.bytes (one _ _ _ _ c.in_ok-push_port_word-in-Pull.ensures refl))

pub returns-in_ok-push_str-in-Burst : goal.returns-in_ok-push_str-in-Burst
returns-in_ok-push_str-in-Burst c = rw c.in-Burst.is (bare _ _ c.in_ok-push_str-in-Burst.ensures.bytes)

pub returns-in_ok-push_key-in-Report : goal.returns-in_ok-push_key-in-Report
returns-in_ok-push_key-in-Report c = rw c.in-Report.is (whole _ _ c.in_ok-push_str-in-Report.ensures.bytes (many _ _ (key_words c.in-Report.key) c.in_ok-push_key-in-Report.ensures))

pub returns-in_ok-push_goal-in-Plan : goal.returns-in_ok-push_goal-in-Plan
returns-in_ok-push_goal-in-Plan c = rw c.in-Plan.is (whole _ _ c.in_ok-push_str-in-Plan.ensures.bytes (next (one _ _ _ _ c.in_ok-push_number-in-Plan.ensures (ap decimal c.from-in-Plan.ensures)) (many _ _ (map field_text (goal_fields c.in-Plan.goal)) c.in_ok-push_goal-in-Plan.ensures)))

pub returns-in_ok-push_word-in-Apply : goal.returns-in_ok-push_word-in-Apply
returns-in_ok-push_word-in-Apply c = rw c.in-Apply.is (whole _ _ c.in_ok-push_str-in-Apply.ensures.bytes (next (one _ _ _ _ c.in_ok-push_number-in-Apply.ensures (ap decimal c.from-in-Apply.ensures)) (one _ _ _ _ c.in_ok-push_word-in-Apply.ensures c.node_text.ensures)))

pub returns-in_ok-push_str-in-Drain : goal.returns-in_ok-push_str-in-Drain
returns-in_ok-push_str-in-Drain c = rw c.in-Drain.is (bare _ _ c.in_ok-push_str-in-Drain.ensures.bytes)

pub returns-in_ok-push_str-in-End : goal.returns-in_ok-push_str-in-End
returns-in_ok-push_str-in-End c = rw c.in-End.is (bare _ _ c.in_ok-push_str-in-End.ensures.bytes)
