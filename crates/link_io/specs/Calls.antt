-- The calls on an end of a stream that stands in memory.
use Rattle.std.specs.Prelude.{ℕ, ◌+◌, ◌-◌, ◌^◌, min, Bool, ◌&&◌, nat_lt, ◌==◌, List}
use Rattle.std.specs.List.{list_any}

-- how many bytes a call moves at most, how many calls were made, the numbers of the calls that fail, and how many failed
pub record Calls : Type 0 where
  pub piece : ℕ
  pub made : ℕ
  pub failing : List ℕ
  pub faults : ℕ

-- no call was made yet
abbrev pub no_calls : ℕ → List ℕ → Calls
no_calls piece failing = record { piece = piece; made = 0; failing = failing; faults = 0 }

-- whether the next call fails: calls are numbered from 1, and none fails once their number can't rise
abbrev pub next_fails : Calls → Bool
next_fails c = nat_lt c.made (2 ^ 64 - 1) && list_any (λ number. number == c.made + 1) c.failing

-- after one more call that didn't fail
abbrev pub after_call : Calls → Calls
after_call c = record { piece = c.piece; made = min (c.made + 1) (2 ^ 64 - 1); failing = c.failing; faults = c.faults }

-- after one more call, which failed
abbrev pub after_fault : Calls → Calls
after_fault c = record { piece = c.piece; made = c.made + 1; failing = c.failing; faults = c.faults + 1 }
