-- Settings of a session, and which were given.
use Rattle.std.specs.Prelude.{ℕ, Bool, ◌&&◌, nat_le, Option, Some, None, unwrap_or}
use Rattle.bearer_map.specs.declared.settings.SetName.{SetName}
use Rattle.bearer_map.specs.declared.settings.SetName.TheVariants.{Queue, Report, PollPdu, PollByte, MaxRetx}
use Rattle.bearer_map.specs.declared.settings.Settings.{Settings}
use Rattle.bearer_map.specs.declared.settings.Choices.{Choices}

-- the number is at least low and at most high
abbrev pub is_within : ℕ → ℕ → ℕ → Bool
is_within low high n = nat_le low n && nat_le n high

-- the value lies in the setting's range
abbrev pub is_setting : SetName → ℕ → Bool
is_setting Queue value = is_within 1 1024 value
is_setting Report value = nat_le value 65536
is_setting PollPdu value = nat_le value 65536
is_setting PollByte value = nat_le value 16777216
is_setting MaxRetx value = is_within 1 255 value

-- what was given for the setting
abbrev pub choice_of : SetName → Choices → Option ℕ
choice_of Queue c = c.queue
choice_of Report c = c.report
choice_of PollPdu c = c.poll_pdu
choice_of PollByte c = c.poll_byte
choice_of MaxRetx c = c.max_retx

-- the choices and this one
abbrev pub choose : SetName → ℕ → Choices → Choices
choose Queue value c = record c { queue = Some value }
choose Report value c = record c { report = Some value }
choose PollPdu value c = record c { poll_pdu = Some value }
choose PollByte value c = record c { poll_byte = Some value }
choose MaxRetx value c = record c { max_retx = Some value }

-- nothing was given
abbrev pub no_choice : Choices
no_choice = record { queue = None; report = None; poll_pdu = None; poll_byte = None; max_retx = None }

-- what was given, and the values of what wasn't
abbrev pub settings_of : Choices → Settings
settings_of c = record { queue = unwrap_or c.queue 64; report = unwrap_or c.report 512; poll_pdu = unwrap_or c.poll_pdu 32; poll_byte = unwrap_or c.poll_byte 0; max_retx = unwrap_or c.max_retx 32 }
