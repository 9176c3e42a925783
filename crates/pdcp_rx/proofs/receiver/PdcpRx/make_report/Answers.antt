use Rattle.pdcp_rx.specs.Receiver.{receiver_of}
use Rattle.pdcp_rx.proofs.Reports.{report_fits, spells_report}
use Rattle.pdcp_rx.proofs.receiver.PdcpRx.make_report.Goals as goal

pub encode_pdcp-requires : goal.encode_pdcp-requires
encode_pdcp-requires c =
    let can = rw (← c.self.view_is) at c.requires in
    let fits = report_fits (receiver_of c.self.inside) c.in_ok-map.map.items c.self.invariant can c.in_ok-map.ensures in
    let deliv = rw (← c.self.view_is) at c.deliv.ensures.value in
    rw (deliv, c.deref.ensures.value) fits

pub returns : goal.returns
returns c =
    let can = rw (← c.self.view_is) at c.requires in
    let deliv = rw (← c.self.view_is) at c.deliv.ensures.value in
    rw (← c.self.view_is) (spells_report (receiver_of c.self.inside) c.in_ok-map.map.items c.self.invariant can c.in_ok-map.ensures c.in_ok-octets.octets (rw (deliv, c.deref.ensures.value) at c.in_ok-octets.ensures.bytes))
