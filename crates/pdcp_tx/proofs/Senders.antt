-- What a transmitting side keeps to, and what it gives next.
use Rattle.std.proofs.Common.{◌≡◌, inl, inr, ℕ, ◌+◌, ◌<◌, ◌≤◌, Bool, true, false, List, [], ◌∷◌, length, get_or, drop, Some, None, sym, ◌∙◌, ap, subst, arith}
use Rattle.std.specs.Option.{is_none}
use Rattle.std.specs.List.{prefix_len}
use Rattle.std.proofs.lemmas.List.{length_push, length-drop, drop-drop, drop-append-le, get_or-drop, get_or_past}
use Rattle.std.proofs.lemmas.List.Sums.{prefix_len-le-length}
use Rattle.std.proofs.lemmas.Bool.{cases_lt}
use Rattle.std.proofs.lemmas.Bool.Decides.{nat_tests}
use Rattle.std.proofs.lemmas.Option.{none-some}
use Rattle.link_base.specs.declared.names.SnSize.{SnSize}
use Rattle.link_base.specs.declared.names.SnSize.TheVariants.{S12, S18}
use Rattle.link_base.specs.declared.limits.TheConstants.{LONGEST_PDCP_SDU, COUNT_END}
use Rattle.link_base.specs.SequenceNumbers.{most_unconfirmed}
use Rattle.pdcp_pdu.specs.Pdcp.{Sdu, IsBody, pdcp_bytes}
use Rattle.pdcp_model.specs.Sender.{Sender, kept_at, submitted, confirmed, tx_next, accepts, next, has_next, data_pdu, gave_next, still_kept, confirms}
use Rattle.pdcp_tx.specs.Sound.{IsSender}
use Rattle.pdcp_tx.specs.Inside.{Knows}
use Rattle.pdcp_tx.specs.Calls.{GivesNext}
use Rattle.pdcp_tx.proofs.Kept.{Sdus, still_long, still_front, still_run, still_drop, still_at, pushed_front, pushed_at, front_stops, stops_at}

-- an SDU is accepted
pub accepts_sound : (s : Sender) (sdu : List ℕ) → IsSender s → IsBody sdu → tx_next s < COUNT_END → submitted s < confirmed s + most_unconfirmed s.size → IsSender (accepts s sdu)
accepts_sound s sdu i body left room = record {
  first = i.first;
  end = omega (arith, length_push s.kept (Some sdu), left);
  limit = omega (arith, length_push s.kept (Some sdu), pushed_front s.kept sdu, room);
  turn = omega (arith, length_push s.kept (Some sdu), i.turn);
  sdus = λ n x is. elim (pushed_at s.kept sdu n x is) [ inl was ↦ i.sdus n x was | inr this ↦ subst IsBody this body ];
}

pub accepts_next : (s : Sender) (sdu : List ℕ) → s.place ≤ submitted s → next (accepts s sdu) ≡ next s
accepts_next s sdu le = ap (λ (l : Sdus). s.place + prefix_len is_none l) (drop-append-le s.place s.kept (Some sdu ∷ []) le) ∙ ap {B = ℕ} (λ n. s.place + n) (pushed_front (drop s.place s.kept) sdu)

-- the next number is one of an SDU that is kept, or all had their turn
pub next_within : (s : Sender) → s.place ≤ submitted s → next s ≤ submitted s
next_within s le = omega (arith, length-drop s.place s.kept, prefix_len-le-length is_none (drop s.place s.kept), le)

pub next_kept : (s : Sender) → next s < submitted s → kept_at s (next s) ≡ None → ⊥
next_kept s lt is =
    let m = prefix_len is_none (drop s.place s.kept) in
    let behind : drop m (drop s.place s.kept) ≡ drop (next s) s.kept = drop-drop m s.place s.kept in
    stops_at (drop (next s) s.kept) (ap (prefix_len is_none) (sym behind) ∙ front_stops (drop s.place s.kept)) (omega (arith, length-drop (next s) s.kept, lt))
    (get_or-drop (next s) s.kept 0 None ∙ ap (λ n. kept_at s n) (omega arith) ∙ is)

-- nothing is next where no SDU is kept there
pub none_next : (s : Sender) (n : ℕ) → Knows s n → kept_at s n ≡ None → has_next s ≡ false
none_next s n k is = elim (cases_lt (next s) (submitted s)) [
  | inl lt ↦ absurd (next_kept s lt (ap (λ m. kept_at s m) (sym k.next) ∙ is))
  | inr ge ↦ grind (arith, nat_tests)
]

kept_below : (sdus : Sdus) (n : ℕ) (sdu : List ℕ) → get_or sdus n None ≡ Some sdu → n < length sdus
kept_below sdus n sdu is = elim (cases_lt n (length sdus)) [
  | inl lt ↦ lt
  | inr le ↦ absurd (none-some sdu (sym (get_or_past sdus n None le) ∙ is))
]

pub gives_next : (s : Sender) (n : ℕ) (sdu : List ℕ) (count : ℕ) (bytes : List ℕ) → Knows s n → s.waits ≡ false → kept_at s n ≡ Some sdu → count ≡ s.first + n → bytes ≡ pdcp_bytes s.size (data_pdu s n sdu) → GivesNext s (Some (count, bytes)) (record s { place = n + 1 })
gives_next s n sdu count bytes k goes is count_is bytes_is =
    let lt : next s < submitted s = subst (λ m. m < submitted s) k.next (kept_below s.kept n sdu is) in
    let has : has_next s ≡ true = grind (arith, nat_tests) in (
      has,
      omega (arith, count_is, k.next),
      sdu,
      ap (λ m. kept_at s m) (sym k.next) ∙ is,
      bytes_is ∙ ap (λ m. pdcp_bytes s.size (data_pdu s m sdu)) k.next,
      ap (λ m. record s { place = m + 1 }) k.next,
    )

-- the next number was given
pub gave_sound : (s : Sender) → IsSender s → next s < submitted s → IsSender (gave_next s)
gave_sound s i lt = record { first = i.first; end = i.end; limit = i.limit; turn = omega (arith, lt); sdus = i.sdus }

-- delivery is confirmed of each COUNT that passes the test
pub confirms_sound : (s : Sender) (p : ℕ → Bool) → IsSender s → IsSender (confirms s p)
confirms_sound s p i = record {
  first = i.first;
  end = omega (arith, still_long p s.first s.kept, i.end);
  limit = omega (arith, still_long p s.first s.kept, still_front p s.first s.kept, i.limit);
  turn = omega (arith, still_long p s.first s.kept, i.turn);
  sdus = λ n x is. i.sdus n x (still_at p s.first s.kept n x is);
}

pub confirms_next : (s : Sender) (p : ℕ → Bool) → next (confirms s p) ≡ next s + prefix_len is_none (drop (next s) (confirms s p).kept)
confirms_next s p =
    let m = prefix_len is_none (drop s.place s.kept) in
    let here : drop s.place (still_kept p s.first s.kept) ≡ still_kept p (s.first + s.place) (drop s.place s.kept) = still_drop p s.first s.place s.kept in
    let behind : drop m (drop s.place (still_kept p s.first s.kept)) ≡ drop (next s) (still_kept p s.first s.kept) = drop-drop m s.place (still_kept p s.first s.kept) in
    omega (arith, ap (prefix_len is_none) here, still_run p (s.first + s.place) (drop s.place s.kept), ap (λ (l : Sdus). prefix_len is_none (drop m l)) here, ap (prefix_len is_none) behind)

pub confirmed_knows : (s : Sender) (p : ℕ → Bool) (sdus : Sdus) (n m : ℕ) → Knows s n → sdus ≡ still_kept p s.first s.kept → m ≡ n + prefix_len is_none (drop n sdus) → Knows (record s { kept = sdus }) m
confirmed_knows s p sdus n m k kept is = subst (λ (l : Sdus). Knows (record s { kept = l }) m) (sym kept) (record {
  sound = confirms_sound s p k.sound;
  next = is ∙ ap (λ (l : Sdus). n + prefix_len is_none (drop n l)) kept ∙ ap (λ n. n + prefix_len is_none (drop n (confirms s p).kept)) k.next ∙ sym (confirms_next s p);
})

-- what is kept has its turn again
pub back_sound : (s : Sender) (waits : Bool) → IsSender s → IsSender (record s { waits = waits; place = confirmed s })
back_sound s waits i = record { first = i.first; end = i.end; limit = i.limit; turn = prefix_len-le-length is_none s.kept; sdus = i.sdus }

pub back_next : (s : Sender) → confirmed s ≡ confirmed s + prefix_len is_none (drop (confirmed s) s.kept)
back_next s = omega (arith, front_stops s.kept)

-- a data PDU has its header and its SDU
pub data_pdu_long : (size : SnSize) (sn : ℕ) (sdu : List ℕ) → IsBody sdu → (0 < length (pdcp_bytes size (Sdu sn sdu))) × (length (pdcp_bytes size (Sdu sn sdu)) ≤ 3 + LONGEST_PDCP_SDU)
data_pdu_long S12 sn sdu body = (omega arith, omega (arith, body.1))
data_pdu_long S18 sn sdu body = (omega arith, omega (arith, body.1))
