-- Feeding has one outcome.
use Rattle.std.proofs.Common.{◌≡◌, ℕ, ◌+◌, Bool, true, false, List, [], ◌∷◌, ◌++◌, map, Some, None, refl, sym, ◌∙◌, ap, subst}
use Rattle.std.proofs.lemmas.Bool.{false≢true}
use Rattle.std.proofs.lemmas.Option.{same_Some}
use Rattle.link_base.specs.declared.names.Key.{Key}
use Rattle.link_base.specs.declared.rlc_words.Tag.{Tag}
use Rattle.bearer_map.specs.Contents.{Contents}
use Rattle.pdcp_pdu.specs.Pdcp.{Report, pdcp_bytes}
use Rattle.rlc_model.specs.Tx.{Tx}
use Rattle.rlc_model.specs.Sides.{Entity}
use Rattle.pdcp_model.specs.Sender.{next, data_pdu, gave_next}
use Rattle.node_model.specs.Names.{back}
use Rattle.node_model.specs.State.{PortSide, Outgoing, Incoming, Node, id_at, outgoing, incoming, set_entity, set_outgoing, set_incoming}
use Rattle.node_model.specs.Sides.{IsOpen}
use Rattle.node_model.specs.Feeding.{under, tag_of, GivesPdu, GivesReport, FeedsReport, unwanted, dropped, no_room, FeedsReports, GivesData, FeedsData, rests, FeedsEach, in_key, out_key}
use Rattle.node_model.specs.Feeding.FeedsReport.{gives as gives_report}
use Rattle.node_model.specs.Feeding.FeedsData.{gives}
use Rattle.node_law.specs.OneOutcome.{OneFeeding}
use Rattle.node_law.proofs.Relaying.{one_side, one_gives_same}
use Rattle.node_law.proofs.Reports.{one_report}

-- a PDU that is given leaves one node
one_pdu : (t : Contents) (old : Node) (key : Key) (tag : Tag) (pdu : List ℕ) (m n : Node) → GivesPdu t old key tag pdu m → GivesPdu t old key tag pdu n → m ≡ n
one_pdu t old key tag pdu m n p q =
    let port : p.port ≡ q.port = same_Some p.port q.port (sym p.its_port ∙ q.its_port) in
    let is_open = one_side old q.port p.side q.side p.entity q.entity (subst (λ x. IsOpen old x p.side p.entity) port p.its) q.its in
    let sdu = under (id_at old key.remote) key.drb pdu in
    let given = one_gives_same p.entity.tx q.entity.tx (ap (λ (e : Entity). e.tx) is_open.1) tag tag refl sdu sdu refl p.number q.number p.tx q.tx p.gives q.gives in
    p.is ∙ ap (λ (x : PortSide). set_entity old x (record p.entity { tx = p.tx })) is_open.0 ∙ ap (λ (x : Entity). set_entity old q.side (record x { tx = p.tx })) is_open.1
    ∙ ap (λ (x : Tx). set_entity old q.side (record q.entity { tx = x })) given.1 ∙ sym q.is

-- a report that is given leaves one node
one_given_report : (t : Contents) (old : Node) (i : Incoming) (m n : Node) → GivesReport t old i m → GivesReport t old i n → m ≡ n
one_given_report t old i m n p q =
    let same = one_report i.receiver p.fmc q.fmc p.map q.map p.its q.its in
    let pdu : pdcp_bytes i.receiver.size (Report p.fmc p.map) ≡ pdcp_bytes i.receiver.size (Report q.fmc q.map) =
    ap (λ (x : ℕ). pdcp_bytes i.receiver.size (Report x p.map)) same.0 ∙ ap (λ (x : List ℕ). pdcp_bytes i.receiver.size (Report q.fmc x)) same.1 in
    let mid : p.mid ≡ q.mid = one_pdu t old (back i.key) (tag_of old i.key None) (pdcp_bytes i.receiver.size (Report q.fmc q.map)) p.mid q.mid
    (subst (λ (x : List ℕ). GivesPdu t old (back i.key) (tag_of old i.key None) x p.mid) pdu p.gives) q.gives in
    p.is ∙ ap (λ (x : Node). set_incoming x (record i { wanted = false; reported = i.receiver.handed })) mid ∙ sym q.is

-- two tests can't have both answers
clash : {A : Type 0} (b : Bool) → b ≡ true → b ≡ false → A
clash b has lacks = absurd (false≢true (sym lacks ∙ has))

-- a report about a key has one outcome
one_about : (t : Contents) (old : Node) (i : Incoming) (g h : List Key) (m n : Node) → FeedsReport t old i g m → FeedsReport t old i h n → (g ≡ h) × (m ≡ n)
one_about t old i g h m n (unwanted w a b) (unwanted w' a' b') = (a ∙ sym a', b ∙ sym b')
one_about t old i g h m n (unwanted w a b) (dropped w' c' a' b') = clash _ w' w
one_about t old i g h m n (unwanted w a b) (no_room w' c' r' a' b') = clash _ w' w
one_about t old i g h m n (unwanted w a b) (gives_report w' c' r' x' a') = clash _ w' w
one_about t old i g h m n (dropped w c a b) (unwanted w' a' b') = clash _ w w'
one_about t old i g h m n (dropped w c a b) (dropped w' c' a' b') = (a ∙ sym a', b ∙ sym b')
one_about t old i g h m n (dropped w c a b) (no_room w' c' r' a' b') = clash _ c' c
one_about t old i g h m n (dropped w c a b) (gives_report w' c' r' x' a') = clash _ c' c
one_about t old i g h m n (no_room w c r a b) (unwanted w' a' b') = clash _ w w'
one_about t old i g h m n (no_room w c r a b) (dropped w' c' a' b') = clash _ c c'
one_about t old i g h m n (no_room w c r a b) (no_room w' c' r' a' b') = (a ∙ sym a', b ∙ sym b')
one_about t old i g h m n (no_room w c r a b) (gives_report w' c' r' x' a') = clash _ r' r
one_about t old i g h m n (gives_report w c r x a) (unwanted w' a' b') = clash _ w w'
one_about t old i g h m n (gives_report w c r x a) (dropped w' c' a' b') = clash _ c c'
one_about t old i g h m n (gives_report w c r x a) (no_room w' c' r' a' b') = clash _ r r'
one_about t old i g h m n (gives_report w c r x a) (gives_report w' c' r' x' a') = (a ∙ sym a', one_given_report t old i m n x x')

-- so have those about a list of keys
one_abouts : (t : Contents) (old : Node) (keys : List Key) (g h : List Key) (m n : Node) → FeedsReports t old keys g m → FeedsReports t old keys h n → (g ≡ h) × (m ≡ n)
one_abouts t old [] g h m n p q = (p.0 ∙ sym q.0, p.1 ∙ sym q.1)
one_abouts t old (key ∷ keys) g h m n p q =
    let first = one_about t old (incoming old key) p.0 q.0 p.2 q.2 p.3 q.3 in
    let more = one_abouts t q.2 keys p.1 q.1 m n (subst (λ (x : Node). FeedsReports t x keys p.1 m) first.1 p.4) q.4 in
    (p.5 ∙ ap (λ (x : List Key). x ++ p.1) first.0 ∙ ap (λ (x : List Key). q.0 ++ x) more.0 ∙ sym q.5, more.1)

-- a data PDU that is given leaves one node
one_given_data : (t : Contents) (old : Node) (o : Outgoing) (m n : Node) → GivesData t old o m → GivesData t old o n → m ≡ n
one_given_data t old o m n p q =
    let sdu : p.sdu ≡ q.sdu = same_Some p.sdu q.sdu (sym p.its ∙ q.its) in
    let tag = tag_of old o.key (Some (o.sender.first + next o.sender)) in
    let mid : p.mid ≡ q.mid = one_pdu t old o.key tag (pdcp_bytes o.sender.size (data_pdu o.sender (next o.sender) q.sdu)) p.mid q.mid
    (subst (λ (x : List ℕ). GivesPdu t old o.key tag (pdcp_bytes o.sender.size (data_pdu o.sender (next o.sender) x)) p.mid) sdu p.gives) q.gives in
    p.is ∙ ap (λ (x : Node). set_outgoing x (record o { sender = gave_next o.sender })) mid ∙ sym q.is

-- the data PDUs of a key leave one node
one_data : (t : Contents) (key : Key) (old m n : Node) → FeedsData t key old m → FeedsData t key old n → m ≡ n
one_data t key old m n (rests e) (rests f) = refl
one_data t key old m n (rests e) (gives f y q) = clash _ f e
one_data t key old m n (gives e x p) (rests f) = clash _ e f
one_data t key old m n (gives {mid = mid} e x p) (gives {mid = mid'} f y q) =
    one_data t key mid' m n (subst (λ (z : Node). FeedsData t key z m) (one_given_data t old (outgoing old key) mid mid' x y) p) q

-- so do those of a list of keys
one_each : (t : Contents) (old : Node) (keys : List Key) (m n : Node) → FeedsEach t old keys m → FeedsEach t old keys n → m ≡ n
one_each t old [] m n p q = p ∙ sym q
one_each t old (key ∷ keys) m n p q = one_each t q.0 keys m n (subst (λ (z : Node). FeedsEach t z keys m) (one_data t key old p.0 q.0 p.1 q.1) p.2) q.2

pub one_feeding : OneFeeding
one_feeding t old given other m n p q =
    let reports = one_abouts t old (map in_key old.incoming) given other p.mid q.mid p.reports q.reports in
    (reports.0, one_each t q.mid (map out_key q.mid.outgoing) m n (subst (λ (z : Node). FeedsEach t z (map out_key z.outgoing) m) reports.1 p.data_pdus) q.data_pdus)
