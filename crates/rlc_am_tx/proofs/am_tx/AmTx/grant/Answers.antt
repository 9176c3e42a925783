use Rattle.std.proofs.Common.{◌≡◌, ◌+◌, ◌-◌, ◌<◌, min, refl, ◌∙◌, ap, subst, arith}
use Rattle.rlc_model.specs.Tx.{Tx, header}
use Rattle.rlc_model.specs.Calls.{GrantTakesMemory}
use Rattle.rlc_am_tx.specs.Pieces.{IsNextPiece}
use Rattle.rlc_am_tx.proofs.Failing.{on_err}
use Rattle.rlc_am_tx.proofs.Sent.{grant_sends}
use Rattle.rlc_am_tx.proofs.am_tx.AmTx.grant.Goals as goal

pub returns-then-n-header-clause-ok : goal.returns-then-n-header-clause-ok
returns-then-n-header-clause-ok c =
    let piece = c.in-Some.piece in
    let next : IsNextPiece c.args.self.now.kept piece = subst (λ (t : Tx). IsNextPiece t.kept piece) c.self.view_is c.in-Some.ensures.next in
    let size : c.header_len-header.result ≡ header c.args.self.now.size piece.from = c.header_len-header.ensures ∙ ap (λ (t : Tx). header t.size piece.from) c.self.view_is in
    (piece.number, next.0, piece.from, piece.to, next.1, omega (arith, size), omega arith, refl)

pub returns-in_err-bytes-clause-memory : goal.returns-in_err-bytes-clause-memory
returns-in_err-bytes-clause-memory c =
    let piece = c.in-Some.piece in
    let next : IsNextPiece c.args.self.now.kept piece = subst (λ (t : Tx). IsNextPiece t.kept piece) c.self.view_is c.in-Some.ensures.next in
    let size : c.header_len-header.result ≡ header c.args.self.now.size piece.from = c.header_len-header.ensures ∙ ap (λ (t : Tx). header t.size piece.from) c.self.view_is in
    let fits : header c.args.self.now.size piece.from < c.args.n = omega (arith, size) in
    on_err c.from_residual.result (GrantTakesMemory c.args.self.now c.args.n) (piece.number, next.0, piece.from, piece.to, next.1, fits)

pub returns-clause-ok : goal.returns-clause-ok
returns-clause-ok c =
    let piece = c.in-Some.piece in
    let end = c.min-end.result in
    let next : IsNextPiece c.args.self.now.kept piece = subst (λ (t : Tx). IsNextPiece t.kept piece) c.self.view_is c.in-Some.ensures.next in
    let size : c.header_len-header.result ≡ header c.args.self.now.size piece.from = c.header_len-header.ensures ∙ ap (λ (t : Tx). header t.size piece.from) c.self.view_is in
    let is : end ≡ min piece.to (piece.from + c.args.n - header c.args.self.now.size piece.from) = omega (arith, c.min-end.ensures, size) in
    grant_sends c.args.self.now piece end c.args.n c.in_ok-bytes.bytes c.send.new.self next (omega (arith, size)) is c.in_ok-bytes.ensures.ok
