-- A receiver stays sound.
use Rattle.std.proofs.Common.{◌≡◌}
use Rattle.rlc_law.specs.Receiver.{IsSound}
use Rattle.rlc_model.specs.Rx.{Rx}

-- soundness speaks of what is got, of the size and of two variables
pub same_sound : (r q : Rx) → q.received ≡ r.received → q.size ≡ r.size → q.rx_highest_status ≡ r.rx_highest_status
    → q.rx_next_status_trigger ≡ r.rx_next_status_trigger → IsSound r → IsSound q
same_sound r q received size status trigger s = record {
  parts = record {
    small = rw received s.parts.small;
    known = rw received s.parts.known;
    inside = rw received s.parts.inside;
    lacks = rw received s.parts.lacks;
  };
  highest_status = rw (received, status) s.highest_status;
  limit = rw (received, status) s.limit;
  within = rw (received, size) s.within;
  trigger = rw (received, trigger) s.trigger;
}
