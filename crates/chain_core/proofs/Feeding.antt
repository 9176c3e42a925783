-- Each node feeds in its turn, and the relay gives nothing.
use Rattle.std.proofs.Common.{◌≡◌, ℕ, zero, suc, ◌+◌, ◌<◌, ◌≤◌, List, [], ◌∷◌, ◌++◌, length, map, get_or, take, drop, slice_set, refl, sym, ◌∙◌, ap, subst, arith}
use Rattle.std.specs.Prelude.{All}
use Rattle.std.proofs.lemmas.List.{append_assoc, append-nil}
use Rattle.link_base.specs.declared.names.Key.{Key}
use Rattle.bearer_map.specs.Contents.{Contents}
use Rattle.node_model.specs.State.{Node, TabledNode, Incoming, Outgoing}
use Rattle.node_model.specs.Feeding.{Feeds, FeedsReports, FeedsEach, in_key, out_key}
use Rattle.node_end.specs.Feeding.{HasNumbers}
use Rattle.relay_core.specs.Relay.{IsRelayNode}
use Rattle.chain_model.specs.Steps.{FeedsAll}
use Rattle.chain_core.specs.Nodes.{node_of, with_relay, all_nodes, AreNodes, IsPlaceOf, no_end, HaveNumbers}
use Rattle.chain_core.proofs.Ends.{get_map, set_map, long_map, is_read, its_tables, nodes_read}

-- a node at which no bearer ends gives nothing
relay_feeds : (t : Contents) (r : Node) → IsRelayNode r → Feeds t r [] r
relay_feeds t r is = record {
  mid = r;
  reports = subst (λ (rows : List Incoming). FeedsReports t r (map in_key rows) [] r) (sym is.2) (refl, refl);
  data_pdus = subst (λ (rows : List Outgoing). FeedsEach t r (map out_key rows) r) (sym is.1) refl;
}

-- what the ends give is what they give with the relay among them
module _ (t : Contents) (r : Node) (its : Feeds t r [] r) where
  all_feed : (ns : List Node) (given : List Key) (ms : List Node) → FeedsAll t ns given ms → FeedsAll t (with_relay r ns) given (with_relay r ms)
  all_feed [] given ms f = (r, [], [], [], its, (refl, refl), f.0, ap (with_relay r) f.1)
  all_feed (gnb ∷ []) given ms (m, rest, first, more, feeds, last, lists, is) =
      (r, m ∷ [], [], given, its, (m, [], first, more, feeds, (last.0, refl), lists, refl), refl, ap (with_relay r) (is ∙ ap (λ xs. m ∷ xs) last.1))
  all_feed (n ∷ o ∷ ns) given ms (m, rest, first, more, feeds, (p, others, second, others_more, p_feeds, last, p_lists, p_is), lists, is) = (
    m,
    with_relay r rest,
    first,
    more,
    feeds,
    all_feed (o ∷ ns) more rest (p, others, second, others_more, p_feeds, last, p_lists, p_is),
    lists,
    ap (with_relay r) (is ∙ ap (λ xs. m ∷ xs) p_is) ∙ ap (λ xs. m ∷ with_relay r xs) (sym p_is),
  )

drop_here : (xs : List Node) (k : ℕ) (d : Node) → k < length xs → drop k xs ≡ get_or xs k d ∷ drop (suc k) xs
drop_here [] k d within = absurd (omega (arith, within))
drop_here (x ∷ xs) zero d within = refl
drop_here (x ∷ xs) (suc k) d within = drop_here xs k d (omega (arith, within))

take_set : (xs : List Node) (k : ℕ) (m : Node) → k < length xs → take (suc k) (slice_set xs k m) ≡ take k xs ++ m ∷ []
take_set [] k m within = absurd (omega (arith, within))
take_set (x ∷ xs) zero m within = refl
take_set (x ∷ xs) (suc k) m within = ap (λ ys. x ∷ ys) (take_set xs k m (omega (arith, within)))

others_set : (xs : List Node) (k j : ℕ) (m d : Node) → k < j → get_or (slice_set xs k m) j d ≡ get_or xs j d
others_set [] k j m d lt = refl
others_set (x ∷ xs) k zero m d lt = absurd (omega (arith, lt))
others_set (x ∷ xs) zero (suc j) m d lt = refl
others_set (x ∷ xs) (suc k) (suc j) m d lt = others_set xs k j m d (omega (arith, lt))

long_set : (xs : List TabledNode) (k : ℕ) (m : TabledNode) → length (slice_set xs k m) ≡ length xs
long_set [] k m = refl
long_set (x ∷ xs) zero m = refl
long_set (x ∷ xs) (suc k) m = ap suc (long_set xs k m)

drop_end : (xs : List Node) (k : ℕ) → length xs ≤ k → drop k xs ≡ []
drop_end [] zero le = refl
drop_end [] (suc k) le = refl
drop_end (x ∷ xs) zero le = absurd (omega (arith, le))
drop_end (x ∷ xs) (suc k) le = drop_end xs k (omega (arith, le))

take_end : (xs : List Node) (k : ℕ) → length xs ≤ k → take k xs ≡ xs
take_end [] zero le = refl
take_end [] (suc k) le = refl
take_end (x ∷ xs) zero le = absurd (omega (arith, le))
take_end (x ∷ xs) (suc k) le = ap (λ ys. x ∷ ys) (take_end xs k (omega (arith, le)))

within_any : (es : List TabledNode) (place : ℕ) (a b : TabledNode) → place < length es → get_or es place a ≡ get_or es place b
within_any [] place a b within = absurd (omega (arith, within))
within_any (e ∷ es) zero a b within = refl
within_any (e ∷ es) (suc place) a b within = within_any es place a b (omega (arith, within))

-- an end at a place stands for the one of its name
here_is : (es : List TabledNode) (place : ℕ) (end : TabledNode) → place < length es → end ≡ get_or es place end → IsPlaceOf es end.node.name place
here_is es place end within here = record {
  within = within;
  its_name = ap (λ (n : Node). n.name) (sym (get_map es place (no_end end.node.name) end.node within) ∙ get_map es place end end.node within ∙ ap node_of (sym here));
}

-- nodes of tables and a relay that are the same
pub same_nodes : (t u : Contents) (r q : TabledNode) (es : List TabledNode) → u ≡ t → q ≡ r → AreNodes t r es → AreNodes u q es
same_nodes t u r q es tables relay are = subst (λ (x : Contents). AreNodes x q es) (sym tables) (subst (λ (x : TabledNode). AreNodes t x es) (sym relay) are)

-- the ends below a place have fed, and the others are as they were at first
pub record FedBelow (t : Contents) (r : TabledNode) (first ends : List TabledNode) (place : ℕ) (given : List Key) : Type 0 where
  pub are : AreNodes t r ends
  pub long : length ends ≡ length first
  pub others : (k : ℕ) (d : Node) → place ≤ k → get_or (map node_of ends) k d ≡ get_or (map node_of first) k d
  pub fed : (more : List Key) (news : List Node) → FeedsAll t (drop place (map node_of first)) more news → FeedsAll t (map node_of first) (given ++ more) (take place (map node_of ends) ++ news)

module _ (t : Contents) (r : TabledNode) (first : List TabledNode) where
  pub none_fed : AreNodes t r first → FedBelow t r first first 0 []
  none_fed are = record { are = are; long = refl; others = λ k d le. refl; fed = λ more news f. f }

  module _ (ends : List TabledNode) (place : ℕ) (given : List Key) (old : TabledNode) (b : FedBelow t r first ends place given) (within : place < length ends) (here : old ≡ get_or ends place old) where
    it : old.node ≡ get_or (map node_of ends) place old.node
    it = ap node_of here ∙ sym (get_map ends place old old.node within)

    -- the ends stay those of the tables where one of them feeds
    pub feeds_on : (new : TabledNode) → new.tables ≡ old.tables → new.node.name ≡ old.node.name → AreNodes t r (slice_set ends place new)
    feeds_on new = nodes_read t r ends b.are old.node.name place (here_is ends place old within here) old here new

    -- its tables are those of all
    pub same_tables : old.tables ≡ t
    same_tables = its_tables t r ends b.are old.node.name place (here_is ends place old within here) old here

    -- its ports have numbers where those of each node have
    pub has_numbers : AreNodes t r first → HaveNumbers (all_nodes r first) → All HasNumbers old.node.ports
    has_numbers are numbers =
        let at : old.node ≡ get_or (map node_of first) place old.node = it ∙ b.others place old.node (omega arith) in
        let was = get_or first place old in
        let there : old.node ≡ was.node = at ∙ get_map first place old old.node (omega (arith, within, b.long)) in
        let p : IsPlaceOf first old.node.name place = record {
          within = omega (arith, within, b.long);
          its_name = ap (λ (n : Node). n.name) (sym (get_map first place (no_end old.node.name) old.node (omega (arith, within, b.long))) ∙ sym at);
        } in
        subst (λ (n : Node). All HasNumbers n.ports) (is_read t r first are old.node.name place p was (within_any first place old was (omega (arith, within, b.long))) ∙ sym there) (numbers old.node.name)

    next_fed : (keys : List Key) (new : TabledNode) → new.tables ≡ old.tables → new.node.name ≡ old.node.name → Feeds t old.node keys new.node
        → FedBelow t r first (slice_set ends place new) (suc place) (given ++ keys)
    next_fed keys new tables same feeds =
        let ms = map node_of ends in
        let set = set_map ends place new in
        let in_nodes : place < length ms = omega (arith, within, long_map ends) in
        record {
          are = feeds_on new tables same;
          long = long_set ends place new ∙ b.long;
          others = λ k d le. ap (λ (ns : List Node). get_or ns k d) set ∙ others_set ms place k new.node d (omega (arith, le)) ∙ b.others k d (omega (arith, le));
          fed = λ more news f.
              let at : drop place (map node_of first) ≡ old.node ∷ drop (suc place) (map node_of first) =
              drop_here (map node_of first) place old.node (omega (arith, within, b.long, long_map first))
              ∙ ap (λ (n : Node). n ∷ drop (suc place) (map node_of first)) (sym (it ∙ b.others place old.node (omega arith))) in
              let step : FeedsAll t (drop place (map node_of first)) (keys ++ more) (new.node ∷ news) =
              subst (λ (ns : List Node). FeedsAll t ns (keys ++ more) (new.node ∷ news)) (sym at) (new.node, news, keys, more, feeds, f, refl, refl) in
              subst (λ (ns : List Node). FeedsAll t (map node_of first) ((given ++ keys) ++ more) ns)
              (sym (ap (λ (ns : List Node). take (suc place) ns ++ news) set ∙ ap (λ ns. ns ++ news) (take_set ms place new.node in_nodes) ∙ append_assoc (take place ms) (new.node ∷ []) news))
              (subst (λ (ks : List Key). FeedsAll t (map node_of first) ks (take place ms ++ new.node ∷ news)) (sym (append_assoc given keys more)) (b.fed (keys ++ more) (new.node ∷ news) step));
        }

    -- one more end has fed
    pub one_fed : (keys : List Key) (new : TabledNode) → new.tables ≡ old.tables → new.node.name ≡ old.node.name → Feeds old.tables old.node keys new.node
        → FedBelow t r first (slice_set ends place new) (place + 1) (given ++ keys)
    one_fed keys new tables same feeds =
        let next : suc place ≡ place + 1 = omega arith in
        subst (λ (p : ℕ). FedBelow t r first (slice_set ends place new) p (given ++ keys)) next
        (next_fed keys new tables same (subst (λ (u : Contents). Feeds u old.node keys new.node) same_tables feeds))

  -- all have fed
  pub each_fed : (ends : List TabledNode) (place : ℕ) (given : List Key) → FedBelow t r first ends place given → length ends ≤ place → FeedsAll t (all_nodes r first) given (all_nodes r ends)
  each_fed ends place given b end =
      let ns = map node_of first in
      let ms = map node_of ends in
      all_feed t r.node (relay_feeds t r.node b.are.is_relay) ns given ms
      (subst (λ (xs : List Node). FeedsAll t ns given xs) (append-nil (take place ms) ∙ take_end ms place (omega (arith, end, long_map ends)))
      (subst (λ (ks : List Key). FeedsAll t ns ks (take place ms ++ [])) (append-nil given)
      (b.fed [] [] (subst (λ (xs : List Node). FeedsAll t xs [] []) (sym (drop_end ns place (omega (arith, end, b.long, long_map first)))) (refl, refl)))))
