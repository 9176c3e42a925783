use Rattle.std.proofs.Common.{◌≡◌, ◌+◌, ◌*◌, ◌<◌, ◌≤◌, ℕ, get_or, vec_len, vec_capacity}
use Rattle.pdcp_rx.specs.Store.{bits_from}
use Rattle.pdcp_rx.proofs.store.bitmap.Given as goal

abbrev pub invariant-loop-octet : goal.invariant-loop-octet
invariant-loop-octet l = record {
  long : vec_len l.map ≡ l.octet;
  room : l.octets ≤ vec_capacity l.map;
  octets : (i : ℕ) → i < l.octet → get_or l.map.items i 0 ≡ bits_from l.stored.items (8 * i + 1) 8;
}
