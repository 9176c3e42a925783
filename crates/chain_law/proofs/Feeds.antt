-- A node feeds its transmitters: each SDU that it gives is one that RLC can take.
use Rattle.std.proofs.Common.{◌≡◌, inl, inr, ℕ, zero, suc, ◌+◌, ◌-◌, ◌<◌, ◌≤◌, true, false, List, [], ◌∷◌, length, get_or, drop, map, Option, Some, None, refl, sym, ◌∙◌, ap, subst, arith}
use Rattle.std.specs.List.{list_all}
use Rattle.std.specs.Option.{is_none}
use Rattle.std.proofs.lemmas.Bool.{cases_lt, false≢true}
use Rattle.std.proofs.lemmas.List.{get_or-drop}
use Rattle.link_base.specs.declared.names.SnSize.{SnSize}
use Rattle.link_base.specs.declared.names.SnSize.TheVariants.{S12, S18}
use Rattle.link_base.specs.declared.names.Drb.{Drb}
use Rattle.link_base.specs.declared.names.LocalId.{LocalId}
use Rattle.link_base.specs.declared.names.Key.{Key}
use Rattle.link_base.specs.declared.names.Side.{Side}
use Rattle.link_base.specs.declared.rlc_words.Tag.{Tag}
use Rattle.bearer_map.specs.Contents.{Contents}
use Rattle.pdcp_pdu.specs.Pdcp.{Sdu, Report, IsBody, pdcp_bytes}
use Rattle.rlc_model.specs.Sides.{way_from}
use Rattle.rlc_law.specs.Hop.Event.{Give}
use Rattle.rlc_law.specs.Ports.{Port, IsSide}
use Rattle.pdcp_model.specs.Sender.{next, gave_next}
use Rattle.pdcp_model.specs.Receiver.{Receiver, stored_at, IsReport, can_report}
use Rattle.node_model.specs.State.{Incoming, Node, id_at, incoming, outgoing}
use Rattle.node_model.specs.Feeding.{under, GivesPdu, FeedsReport, unwanted, dropped, no_room, gives as gives_report, FeedsReports, GivesData, FeedsData, rests as rests_data, gives as gives_more, FeedsEach, Feeds, in_key, out_key}
use Rattle.chain_law.specs.Entities.{IsSdu}
use Rattle.chain_law.specs.Foundations.{RlcLaws}
use Rattle.chain_law.proofs.Stands.{Moved, moves}
use Rattle.chain_law.proofs.Nodes.{NodeFits, outgoing_fits, Goes, goes_nowhere, goes_on, goes_outgoing, goes_incoming, goes_called}

-- a PDCP PDU of at most 9,003 octets is an SDU for RLC, also with a header of SRAP before it
pub under_fits : (id : Option LocalId) (drb : Drb) (pdu : List ℕ) → 0 < length pdu → length pdu ≤ 9003 → IsSdu (under id drb pdu)
under_fits None drb pdu some most = record { some = some; most = omega (arith, most) }
under_fits (Some id) drb pdu some most = record { some = omega arith; most = omega (arith, most) }

-- a data PDU has two or three octets more than its SDU
pub data_long : (size : SnSize) (sn : ℕ) (sdu : List ℕ) → IsBody sdu → (0 < length (pdcp_bytes size (Sdu sn sdu))) × (length (pdcp_bytes size (Sdu sn sdu)) ≤ 9003)
data_long S12 sn sdu body = (omega arith, omega (arith, body.1))
data_long S18 sn sdu body = (omega arith, omega (arith, body.1))

-- where no SDU is stored past a place, none is found there
all_none : (xs : List (Option (List ℕ))) (k : ℕ) → list_all is_none xs ≡ true → get_or xs k None ≡ None
all_none [] k all = refl
all_none (None ∷ xs) zero all = refl
all_none (None ∷ xs) (suc k) all = all_none xs k all
all_none (Some x ∷ xs) k all = absurd (false≢true all)

-- a status report that can tell of all that is stored has at most 8,192 octets behind its FMC
pub report_long : (r : Receiver) (fmc : ℕ) (map : List ℕ) → can_report r ≡ true → IsReport r fmc map → length map ≤ 8192
report_long r fmc map can is = elim is.ends [
  | inl none ↦ omega (arith, ap length none)
  | inr last ↦ elim (cases_lt last.0 65536) [
    | inl low ↦ omega (arith, low, last.2)
    | inr high ↦ absurd (last.1 (nothing last.0 high))
  ]
]
  where
    nothing : (n : ℕ) → 65536 ≤ n → stored_at r n ≡ None
    nothing n high =
        let same : 65536 + (n - 65536) ≡ n = omega (arith, high) in
        ap (λ (k : ℕ). get_or r.stored k None) (sym same) ∙ sym (get_or-drop 65536 r.stored (n - 65536) None) ∙ all_none (drop 65536 r.stored) (n - 65536) can

module _ (l : RlcLaws) (t : Contents) where
  -- a PDU is given to its first hop
  gives_goes : (old : Node) (key : Key) (tag : Tag) (pdu : List ℕ) (new : Node) → NodeFits old → (0 < length pdu) × (length pdu ≤ 9003) → GivesPdu t old key tag pdu new
      → Goes old new
  gives_goes old key tag pdu new fits long g = subst (Goes old) (sym g.is) (goes_called old g.port g.side g.entity g.tx g.entity.rx fits g.its.here g.its.is_open mover)
    where
      sdu : List ℕ
      sdu = under (id_at old key.remote) key.drb pdu

      is_sdu : IsSdu sdu
      is_sdu = under_fits (id_at old key.remote) key.drb pdu long.0 long.1

      mover : (at : Side) (p : Port) → IsSide p at g.entity.tx g.entity.rx → Moved p at g.tx g.entity.rx
      mover at p is = let m = l.give_moves p at g.entity.tx g.entity.rx is tag sdu g.number g.tx is_sdu.some is_sdu.most g.gives in moves (way_from at) (Give tag sdu) m.0 refl m.1

  -- a status report is fed, or isn't
  report_goes : (old : Node) (i : Incoming) (given : List Key) (new : Node) → NodeFits old → FeedsReport t old i given new → Goes old new
  report_goes old i given new fits (unwanted not_wanted none same) = goes_nowhere old new fits same
  report_goes old i given new fits (dropped wanted can none is) = subst (Goes old) (sym is) (goes_incoming old (record i { wanted = false }) fits)
  report_goes old i given new fits (no_room wanted can room none same) = goes_nowhere old new fits same
  report_goes old i given new fits (gives_report wanted can room g one) =
      let first = gives_goes old _ _ (pdcp_bytes i.receiver.size (Report g.fmc g.map)) g.mid fits
      (omega arith, omega (arith, report_long i.receiver g.fmc g.map can g.its)) g.gives in
      goes_on first (subst (Goes g.mid) (sym g.is) (goes_incoming g.mid (record i { wanted = false; reported = i.receiver.handed }) first.fits))

  reports_go : (old : Node) (keys given : List Key) (new : Node) → NodeFits old → FeedsReports t old keys given new → Goes old new
  reports_go old [] given new fits f = goes_nowhere old new fits f.1
  reports_go old (key ∷ keys) given new fits f = let first = report_goes old (incoming old key) f.0 f.2 fits f.3 in goes_on first (reports_go f.2 keys f.1 new first.fits f.4)

  -- a data PDU is fed
  data_goes : (old : Node) (key : Key) (new : Node) → NodeFits old → GivesData t old (outgoing old key) new → Goes old new
  data_goes old key new fits g =
      let o = outgoing old key in
      let first = gives_goes old o.key _ _ g.mid fits (data_long o.sender.size _ g.sdu (outgoing_fits old key fits (next o.sender) g.sdu g.its)) g.gives in
      goes_on first (subst (Goes g.mid) (sym g.is) (goes_outgoing g.mid (record o { sender = gave_next o.sender }) first.fits (outgoing_fits old key fits)))

  data_go : (key : Key) {old new : Node} → NodeFits old → FeedsData t key old new → Goes old new
  data_go key {old} fits (rests_data none) = goes_nowhere old old fits refl
  data_go key {old} fits (gives_more {mid = mid} some g more) = let first = data_goes old key mid fits g in goes_on first (data_go key first.fits more)

  each_goes : (old : Node) (keys : List Key) (new : Node) → NodeFits old → FeedsEach t old keys new → Goes old new
  each_goes old [] new fits f = goes_nowhere old new fits f
  each_goes old (key ∷ keys) new fits f = let first = data_go key fits f.1 in goes_on first (each_goes f.0 keys new first.fits f.2)

  -- a node feeds
  pub feeds_goes : (old : Node) (given : List Key) (new : Node) → NodeFits old → Feeds t old given new → Goes old new
  feeds_goes old given new fits f = let first = reports_go old (map in_key old.incoming) given f.mid fits f.reports in goes_on first
      (each_goes f.mid (map out_key f.mid.outgoing) new first.fits f.data_pdus)
