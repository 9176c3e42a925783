-- Which bearers go over a port, by their places.
use Rattle.std.proofs.Common.{◌≡◌, inl, inr, ℕ, zero, suc, ◌+◌, ◌<◌, Bool, true, false, List, [], ◌∷◌, ◌++◌, length, map, refl, sym, ◌∙◌, ap, subst, eq-eqb, arith, Some}
use Rattle.std.specs.Prelude.{slice_index, slice_get, Contains}
use Rattle.std.proofs.lemmas.Bool.{cases_Bool, cases_lt, false≢true}
use Rattle.std.proofs.lemmas.List.{get_or_default, length-map, length_push}
use Rattle.std.proofs.lemmas.List.Elements.{Contains-append_left, Contains-append_right}
use Rattle.link_base.specs.declared.names.Key.{Key}
use Rattle.link_base.specs.declared.names.PortName.{PortName}
use Rattle.link_base.specs.declared.names.PortName.TheVariants.{Direct, Pc5, Uu}
use Rattle.bearer_map.specs.Contents.{Contents}
use Rattle.node_model.specs.Names.{back}
use Rattle.node_model.specs.State.{Node}
use Rattle.node_model.specs.Feeding.{in_key, out_key}
use Rattle.node_model.proofs.Names.{remote_refl}
use Rattle.node_bearers.specs.Calls.{Sends, Receives, is_of_bearer}
use Rattle.node_bearers.proofs.Found.{all_map}
use Rattle.node_end.specs.declared.served.Served.{Served}
use Rattle.node_end.specs.declared.to_feed.ToFeed.{ToFeed}
use Rattle.node_end.specs.Fed.{ArePlaces, AreFedOutside, Covers, CoversChannel, CoversEach, KnowsPlaces, OthersAreFed, is_to_feed}
use Rattle.node_end.specs.Ports.{is_mapped, is_over}
use Rattle.node_end.specs.Routing.{IsChannel}
use Rattle.node_end.proofs.Feeds.{one_key}

-- nodes with the same keys have the same places
module _ (a b : Node) (sent : map out_key b.outgoing ≡ map out_key a.outgoing) (received : map in_key b.incoming ≡ map in_key a.incoming) where
  out_long : length b.outgoing ≡ length a.outgoing
  out_long = sym (length-map b.outgoing out_key) ∙ ap length sent ∙ length-map a.outgoing out_key

  in_long : length b.incoming ≡ length a.incoming
  in_long = sym (length-map b.incoming in_key) ∙ ap length received ∙ length-map a.incoming in_key

  pub are_over : (places : List ℕ) → ArePlaces a places → ArePlaces b places
  are_over places are = record {
    ascend = are.ascend;
    sends = λ i lt. let w = are.sends i lt in omega (arith, w, out_long);
    receives = λ i lt. let w = are.receives i lt in omega (arith, w, in_long);
  }

  pub covers_over : (test : Key → Bool) (places : List ℕ) → Covers a test places → Covers b test places
  covers_over test places c = record {
    are = are_over places c.are;
    sent = λ place key is. c.sent place key (ap (λ (ks : List Key). slice_get ks place) (sym sent) ∙ is);
    received = λ place key is. c.received place key (ap (λ (ks : List Key). slice_get ks place) (sym received) ∙ is);
  }

  pub each_over : (places : List ℕ) → CoversEach a places → CoversEach b places
  each_over places c = record { each = c.each; sends = c.sends ∙ sym out_long; receives = c.receives ∙ sym in_long }

  pub knows_over : (t : Contents) (s : Served) → KnowsPlaces t a s → KnowsPlaces t b s
  knows_over t s k = record {
    every = each_over s.every.items k.every;
    channels = all_map {P = CoversChannel t a} {Q = CoversChannel t b} (λ channel c. covers_over _ channel.places.items c) s.channels.items k.channels;
  }

-- where the places are those of all bearers to be fed, there is nothing to give outside of them
pub outside_fed : (t : Contents) (to_feed : ToFeed) (n : Node) (places : List ℕ) → OthersAreFed t to_feed n → Covers n (is_to_feed t to_feed) places → AreFedOutside t n places
outside_fed t to_feed n places fed covers = record {
  data_pdus = λ place key apart is. elim (cases_Bool (is_to_feed t to_feed key)) [
    | inl one ↦ absurd (apart (covers.sent place key is one))
    | inr other ↦ (fed key other).data_pdus
  ];
  reports = λ place key apart is. elim (cases_Bool (is_to_feed t to_feed key)) [
    | inl one ↦ absurd (apart (covers.received place key is one))
    | inr other ↦ (fed key other).report
  ];
}

-- another bearer's key is another
pub another : (key k : Key) → is_of_bearer key.remote key.drb k ≡ false → key ≡ k → ⊥
another key k apart same =
    let own : is_of_bearer key.remote key.drb key ≡ true = rw (remote_refl key.remote) (eq-eqb key.drb.0 key.drb.0 refl) in
    false≢true (sym apart ∙ ap (is_of_bearer key.remote key.drb) (sym same) ∙ own)

-- a list with one more
at_front : (ps : List ℕ) (x i : ℕ) → i < length ps → slice_index (ps ++ x ∷ []) i ≡ slice_index ps i
at_front [] x i lt = absurd (omega (arith, lt))
at_front (p ∷ ps) x zero lt = refl
at_front (p ∷ ps) x (suc i) lt = at_front ps x i (omega (arith, lt))

at_end : (ps : List ℕ) (x i : ℕ) → i ≡ length ps → slice_index (ps ++ x ∷ []) i ≡ x
at_end [] x zero is = refl
at_end [] x (suc i) is = absurd (omega (arith, is))
at_end (p ∷ ps) x zero is = absurd (omega (arith, is))
at_end (p ∷ ps) x (suc i) is = at_end ps x i (omega (arith, is))

-- the places below one, of bearers that pass a test
pub record Gathers (n : Node) (test : Key → Bool) (places : List ℕ) (upto : ℕ) : Type 0 where
  pub ascend : (low high : ℕ) → low < high → high < length places → slice_index places low < slice_index places high
  pub below : (index : ℕ) → index < length places → slice_index places index < upto
  pub sent : (place : ℕ) (key : Key) → place < upto → Sends n place key → test key ≡ true → Contains places place
  pub received : (place : ℕ) (key : Key) → place < upto → Receives n place key → test key ≡ true → Contains places place

module _ (n : Node) (test : Key → Bool) where
  pub gathers_none : Gathers n test [] 0
  gathers_none = record {
    ascend = λ low high lt within. absurd (omega (arith, within));
    below = λ index within. absurd (omega (arith, within));
    sent = λ place key lt is passes. absurd (omega (arith, lt));
    received = λ place key lt is passes. absurd (omega (arith, lt));
  }

  module _ (places : List ℕ) (upto : ℕ) (g : Gathers n test places upto) where
    long : length (places ++ upto ∷ []) ≡ length places + 1
    long = length_push places upto

    below_push : (index : ℕ) → index < length (places ++ upto ∷ []) → slice_index (places ++ upto ∷ []) index < upto + 1
    below_push index lt = elim (cases_lt index (length places)) [
      | inl front ↦ let same = at_front places upto index front in let less = g.below index front in omega (arith, same, less)
      | inr last ↦ let same = at_end places upto index (omega (arith, lt, long, last)) in omega (arith, same)
    ]

    ascend_push : (low high : ℕ) → low < high → high < length (places ++ upto ∷ []) → slice_index (places ++ upto ∷ []) low < slice_index (places ++ upto ∷ []) high
    ascend_push low high lt within = elim (cases_lt high (length places)) [
      | inl front ↦
          let first = at_front places upto low (omega (arith, lt, front)) in
          let second = at_front places upto high front in
          let less = g.ascend low high lt front in
          omega (arith, first, second, less)
      | inr last ↦
          let first = at_front places upto low (omega (arith, lt, within, long)) in
          let second = at_end places upto high (omega (arith, within, long, last)) in
          let less = g.below low (omega (arith, lt, within, long)) in
          omega (arith, first, second, less)
    ]

    more : (place : ℕ) → place < upto + 1 → (place < upto → Contains places place) → Contains (places ++ upto ∷ []) place
    more place lt was = elim (cases_lt place upto) [
      | inl less ↦ Contains-append_left places (upto ∷ []) place (was less)
      | inr equal ↦
          let same : upto ≡ place = omega (arith, lt, equal) in
          subst (λ (p : ℕ). Contains (places ++ upto ∷ []) p) same (Contains-append_right places (upto ∷ []) upto (0, omega arith, refl))
    ]

    pub gathers_push : Gathers n test (places ++ upto ∷ []) (upto + 1)
    gathers_push = record {
      ascend = ascend_push;
      below = below_push;
      sent = λ place key lt is passes. more place lt (λ less. g.sent place key less is passes);
      received = λ place key lt is passes. more place lt (λ less. g.received place key less is passes);
    }

    module _ (key : Key) (sends : Sends n upto key) (receives : Receives n upto (back key)) (fails : test key ≡ false) (both : test (back key) ≡ test key) where
      pub gathers_skip : Gathers n test places (upto + 1)
      gathers_skip = record {
        ascend = g.ascend;
        below = λ index within. let less = g.below index within in omega (arith, less);
        sent = λ place k lt is passes. elim (cases_lt place upto) [
          | inl less ↦ g.sent place k less is passes
          | inr equal ↦
              let same : place ≡ upto = omega (arith, lt, equal) in
              let its : key ≡ k = one_key (map out_key n.outgoing) upto key k sends (subst (λ (p : ℕ). Sends n p k) same is) in
              absurd (false≢true (sym fails ∙ ap test its ∙ passes))
        ];
        received = λ place k lt is passes. elim (cases_lt place upto) [
          | inl less ↦ g.received place k less is passes
          | inr equal ↦
              let same : place ≡ upto = omega (arith, lt, equal) in
              let its : back key ≡ k = one_key (map in_key n.incoming) upto (back key) k receives (subst (λ (p : ℕ). Receives n p k) same is) in
              absurd (false≢true (sym (both ∙ fails) ∙ ap test its ∙ passes))
        ];
      }

  within_get : (ks : List Key) (place : ℕ) (key : Key) → slice_get ks place ≡ Some key → place < length ks
  within_get [] place key is = absurd cc
  within_get (k ∷ ks) zero key is = omega arith
  within_get (k ∷ ks) (suc place) key is = let w = within_get ks place key is in omega (arith, w)

  pub gathers_all : (places : List ℕ) (upto : ℕ) → upto ≡ length n.outgoing → upto ≡ length n.incoming → Gathers n test places upto → Covers n test places
  gathers_all places upto sends receives g = record {
    are = record {
      ascend = g.ascend;
      sends = λ i lt. let w = g.below i lt in omega (arith, w, sends);
      receives = λ i lt. let w = g.below i lt in omega (arith, w, receives);
    };
    sent = λ place key is passes. g.sent place key (let w = within_get (map out_key n.outgoing) place key is in omega (arith, w, sends, length-map n.outgoing out_key)) is passes;
    received = λ place key is passes. g.received place key (let w = within_get (map in_key n.incoming) place key is in omega (arith, w, receives, length-map n.incoming in_key)) is passes;
  }

  -- all places
  pub every_covers : (places : List ℕ) → CoversEach n places → Covers n test places
  every_covers places c = record {
    are = record {
      ascend = λ low high lt within. let a = c.each low (omega (arith, lt, within)) in let b = c.each high within in omega (arith, a, b, lt);
      sends = λ i lt. let a = c.each i lt in omega (arith, a, lt, c.sends);
      receives = λ i lt. let a = c.each i lt in omega (arith, a, lt, c.receives);
    };
    sent = λ place key is passes. own place (let w = within_get (map out_key n.outgoing) place key is in omega (arith, w, c.sends, length-map n.outgoing out_key));
    received = λ place key is passes. own place (let w = within_get (map in_key n.incoming) place key is in omega (arith, w, c.receives, length-map n.incoming in_key));
  }
    where
      own : (place : ℕ) → place < length places → Contains places place
      own place lt = (place, lt, get_or_default places place place 0 lt ∙ c.each place lt)

  -- the one place of a bearer
  pub one_covers : (places : List ℕ) (at : ℕ) → CoversEach n places → at < length places → ((place : ℕ) (key : Key) → Sends n place key → test key ≡ true → place ≡ at) → ((place : ℕ) (key : Key) → Receives n place key → test key ≡ true → place ≡ at)
      → Covers n test (at ∷ [])
  one_covers places at c lt sent_at received_at = record {
    are = record {
      ascend = λ low high less within. absurd (omega (arith, less, within));
      sends = λ i within. first (λ p. p < length n.outgoing) i within (omega (arith, lt, c.sends));
      receives = λ i within. first (λ p. p < length n.incoming) i within (omega (arith, lt, c.receives));
    };
    sent = λ place key is passes. (0, omega arith, sym (sent_at place key is passes));
    received = λ place key is passes. (0, omega arith, sym (received_at place key is passes));
  }
    where
      first : (P : ℕ → Type 0) (i : ℕ) → i < 1 → P at → P (slice_index (at ∷ []) i)
      first P zero within is = is
      first P (suc i) within is = absurd (omega (arith, within))

-- the places of a channel are those over its port
pub channel_over : (t : Contents) (n : Node) (port : PortName) (places : List ℕ) → IsChannel port → Covers n (is_mapped t.maps port) places → Covers n (is_over t port) places
channel_over t n (Direct remote drb) places its c = absurd its
channel_over t n (Pc5 remote chan) places its c = c
channel_over t n (Uu chan) places its c = c
