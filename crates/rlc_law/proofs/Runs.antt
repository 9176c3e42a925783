-- What each event keeps holds after every run.
use Rattle.std.proofs.Common.{ℕ, List, [], ◌∷◌, sym, subst}
use Rattle.link_base.specs.declared.names.SnSize.{SnSize}
use Rattle.rlc_law.specs.Hop.{Hop, Event, Happens, Run, Reaches, start}
use Rattle.rlc_law.specs.Laws.{ReachesMore}

pub reaches_more : ReachesMore
reaches_more h e new r x = record { size = r.size; poll_pdu = r.poll_pdu; poll_byte = r.poll_byte; max_retx_threshold = r.max_retx_threshold; events = e ∷ r.events; run = (h, r.run, x) }

module _ (P : Hop → Type 0) (starts : (size : SnSize) (poll_pdu poll_byte max_retx_threshold : ℕ) → P (start size poll_pdu poll_byte max_retx_threshold))
    (keeps : (old : Hop) (e : Event) (new : Hop) → Reaches old → P old → Happens old e new → P new) where
  along : (size : SnSize) (poll_pdu poll_byte max_retx_threshold : ℕ) (events : List Event) (h : Hop) → Run (start size poll_pdu poll_byte max_retx_threshold) events h → P h
  along size poll_pdu poll_byte max_retx_threshold [] h run = subst P (sym run) (starts size poll_pdu poll_byte max_retx_threshold)
  along size poll_pdu poll_byte max_retx_threshold (e ∷ es) h run =
      keeps run.0 e h (record { size = size; poll_pdu = poll_pdu; poll_byte = poll_byte; max_retx_threshold = max_retx_threshold; events = es; run = run.1 })
      (along size poll_pdu poll_byte max_retx_threshold es run.0 run.1) run.2

  -- it holds wherever the hop can come
  pub everywhere : (h : Hop) → Reaches h → P h
  everywhere h r = along r.size r.poll_pdu r.poll_byte r.max_retx_threshold r.events h r.run
