use Rattle.std.proofs.Common.{◌≡◌, ◌+◌, ◌-◌, true, false, sym, ◌∙◌, ap, subst, arith, refl}
use Rattle.std.proofs.lemmas.Bool.{false≢true}
use Rattle.rlc_pdu.specs.Amd.{amd_bytes}
use Rattle.rlc_model.specs.Tx.{Tx, at, IsBegunCount}
use Rattle.rlc_am_tx.specs.Buffer.{sent_of}
use Rattle.rlc_am_tx.specs.Pieces.{IsNextPiece}
use Rattle.rlc_am_tx.specs.declared.polling.Polling.{Polling}
use Rattle.rlc_am_tx.specs.Polling.{PollsWith, tx_with, polled, unpolled}
use Rattle.rlc_am_tx.specs.Sending.{SendsPiece, piece_of}
use Rattle.rlc_am_tx.specs.Transmitter.{transmitter_of, IsTransmitter}
use Rattle.rlc_am_tx.proofs.Invariant.{send_invariant}
use Rattle.rlc_am_tx.proofs.Sent.{mod_below, marks_within, marks_some, marks_all, sends_polled, sends_unpolled}
use Rattle.rlc_am_tx.proofs.am_tx.AmTx.send.Goals as goal

pub is_polled-requires-clause-window : goal.is_polled-requires-clause-window
is_polled-requires-clause-window c =
    let a = c.self.inside in
    marks_within a.size a.max_retx_threshold a.buffer c.send.new.self a.polling c.args.piece.now c.args.end c.in_ok-sent.ensures.ok c.self.invariant.within

pub is_polled-requires-clause-pdus : goal.is_polled-requires-clause-pdus
is_polled-requires-clause-pdus c =
    let a = c.self.inside in
    let piece = c.args.piece.now in
    omega (arith, c.self.invariant.pdus, c.self.invariant.bytes, marks_all a.buffer c.send.new.self piece.number piece.from c.args.end c.in_ok-sent.ensures.ok, c.in_ok-sent.ensures.few)

pub is_polled-requires-clause-bytes : goal.is_polled-requires-clause-bytes
is_polled-requires-clause-bytes c =
    let a = c.self.inside in
    let piece = c.args.piece.now in
    let fresh : c.in_ok-sent.sent.fresh ≡ c.args.end - sent_of (at a.buffer piece.number) = c.in_ok-sent.ensures.fresh in
    omega (arith, fresh, c.self.invariant.bytes, marks_all a.buffer c.send.new.self piece.number piece.from c.args.end c.in_ok-sent.ensures.ok, c.in_ok-sent.ensures.few)

pub overflow_sub-sent_count : goal.overflow_sub-sent_count
overflow_sub-sent_count c =
    let piece = c.args.piece.now in
    marks_some c.self.inside.buffer c.send.new.self piece.number piece.from c.args.end c.in_ok-sent.ensures.ok c.requires.some c.sent_count.result c.sent_count.ensures.count

pub invariant_of-self-then-is_polled : goal.invariant_of-self-then-is_polled
invariant_of-self-then-is_polled c =
    let a = c.self.inside in
    let piece = c.args.piece.now in
    let end = c.args.end in
    let l = c.send.new.self in
    let highest = c.sent_count.result - 1 in
    let marks = c.in_ok-sent.ensures.ok in
    let some = marks_some a.buffer l piece.number piece.from end marks c.requires.some c.sent_count.result c.sent_count.ensures.count in
    let count : IsBegunCount l (highest + 1) = subst (IsBegunCount l) (omega (arith, some)) c.sent_count.ensures.count in
    let fresh : c.in_ok-sent.sent.fresh ≡ end - sent_of (at a.buffer piece.number) = c.in_ok-sent.ensures.fresh in
    let has : PollsWith a.polling a.size l (end - sent_of (at a.buffer piece.number)) = subst (PollsWith a.polling a.size l) fresh (c.if-is_polled.ensures.0 refl) in
    let next = subst (λ (t : Tx). IsNextPiece t.kept piece) (sym c.self.view_is) c.requires.next in
    let bytes = amd_bytes a.size (piece_of (transmitter_of a) piece end true) in
    let new = tx_with a.size a.max_retx_threshold l (polled a.polling highest) in
    let sends = sends_polled a.size a.max_retx_threshold a.buffer l a.polling piece end marks bytes highest has count refl in
    subst (λ (p : Polling). IsTransmitter (tx_with a.size a.max_retx_threshold l p)) (sym c.begin.ensures)
    (send_invariant (transmitter_of a) piece end bytes new c.self.invariant next c.requires.some c.requires.within sends
    (marks_within a.size a.max_retx_threshold a.buffer l a.polling piece end marks c.self.invariant.within) (omega arith) (omega arith))

pub returns-then-is_polled-clause-ok : goal.returns-then-is_polled-clause-ok
returns-then-is_polled-clause-ok c =
    let a = c.self.inside in
    let piece = c.args.piece.now in
    let end = c.args.end in
    let l = c.send.new.self in
    let highest = c.sent_count.result - 1 in
    let marks = c.in_ok-sent.ensures.ok in
    let some = marks_some a.buffer l piece.number piece.from end marks c.requires.some c.sent_count.result c.sent_count.ensures.count in
    let count : IsBegunCount l (highest + 1) = subst (IsBegunCount l) (omega (arith, some)) c.sent_count.ensures.count in
    let fresh : c.in_ok-sent.sent.fresh ≡ end - sent_of (at a.buffer piece.number) = c.in_ok-sent.ensures.fresh in
    let has : PollsWith a.polling a.size l (end - sent_of (at a.buffer piece.number)) = subst (PollsWith a.polling a.size l) fresh (c.if-is_polled.ensures.0 refl) in
    let plain : c.in_ok-sent.sent.bytes ≡ amd_bytes a.size (piece_of (transmitter_of a) piece end false) = c.in_ok-sent.ensures.spelt in
    let spelt : c.with_poll.result ≡ amd_bytes a.size (piece_of (transmitter_of a) piece end true) = c.with_poll.ensures a.size (piece_of (transmitter_of a) piece end false) (mod_below a.size piece.number) refl plain in
    let sends = sends_polled a.size a.max_retx_threshold a.buffer l a.polling piece end marks c.with_poll.result highest has count spelt in
    subst (λ (t : Tx). SendsPiece t piece end c.with_poll.result (tx_with a.size a.max_retx_threshold l c.begin.new.self)) c.self.view_is
    (subst (λ (p : Polling). SendsPiece (transmitter_of a) piece end c.with_poll.result (tx_with a.size a.max_retx_threshold l p)) (sym c.begin.ensures) sends)

pub count-requires-clause-pdus : goal.count-requires-clause-pdus
count-requires-clause-pdus c =
    let a = c.self.inside in
    let piece = c.args.piece.now in
    omega (arith, c.self.invariant.pdus, c.self.invariant.bytes, marks_all a.buffer c.send.new.self piece.number piece.from c.args.end c.in_ok-sent.ensures.ok, c.in_ok-sent.ensures.few)

pub count-requires-clause-bytes : goal.count-requires-clause-bytes
count-requires-clause-bytes c =
    let a = c.self.inside in
    let piece = c.args.piece.now in
    let fresh : c.in_ok-sent.sent.fresh ≡ c.args.end - sent_of (at a.buffer piece.number) = c.in_ok-sent.ensures.fresh in
    omega (arith, fresh, c.self.invariant.bytes, marks_all a.buffer c.send.new.self piece.number piece.from c.args.end c.in_ok-sent.ensures.ok, c.in_ok-sent.ensures.few)

pub invariant_of-self-2 : goal.invariant_of-self-2
invariant_of-self-2 c =
    let a = c.self.inside in
    let piece = c.args.piece.now in
    let end = c.args.end in
    let l = c.send.new.self in
    let bytes = c.in_ok-sent.sent.bytes in
    let marks = c.in_ok-sent.ensures.ok in
    let fresh : c.in_ok-sent.sent.fresh ≡ end - sent_of (at a.buffer piece.number) = c.in_ok-sent.ensures.fresh in
    let next = subst (λ (t : Tx). IsNextPiece t.kept piece) (sym c.self.view_is) c.requires.next in
    let plain : bytes ≡ amd_bytes a.size (piece_of (transmitter_of a) piece end false) = c.in_ok-sent.ensures.spelt in
    let none : PollsWith a.polling a.size l (end - sent_of (at a.buffer piece.number)) → ⊥ = subst (λ m. PollsWith a.polling a.size l m → ⊥) fresh (λ h. false≢true (c.if-is_polled.ensures.1 h)) in
    let sends = sends_unpolled a.size a.max_retx_threshold a.buffer l a.polling piece end marks bytes none plain in
    let all = marks_all a.buffer l piece.number piece.from end marks in
    subst (λ (p : Polling). IsTransmitter (tx_with a.size a.max_retx_threshold l p)) (sym (c.count.ensures ∙ ap (unpolled a.polling) fresh))
    (send_invariant (transmitter_of a) piece end bytes (tx_with a.size a.max_retx_threshold l (unpolled a.polling (end - sent_of (at a.buffer piece.number)))) c.self.invariant next c.requires.some c.requires.within sends
    (marks_within a.size a.max_retx_threshold a.buffer l a.polling piece end marks c.self.invariant.within) (omega (arith, c.self.invariant.pdus)) (omega (arith, c.self.invariant.bytes, all)))

pub returns-clause-ok : goal.returns-clause-ok
returns-clause-ok c =
    let a = c.self.inside in
    let piece = c.args.piece.now in
    let end = c.args.end in
    let l = c.send.new.self in
    let bytes = c.in_ok-sent.sent.bytes in
    let fresh : c.in_ok-sent.sent.fresh ≡ end - sent_of (at a.buffer piece.number) = c.in_ok-sent.ensures.fresh in
    let plain : bytes ≡ amd_bytes a.size (piece_of (transmitter_of a) piece end false) = c.in_ok-sent.ensures.spelt in
    let none : PollsWith a.polling a.size l (end - sent_of (at a.buffer piece.number)) → ⊥ = subst (λ m. PollsWith a.polling a.size l m → ⊥) fresh (λ h. false≢true (c.if-is_polled.ensures.1 h)) in
    let sends = sends_unpolled a.size a.max_retx_threshold a.buffer l a.polling piece end c.in_ok-sent.ensures.ok bytes none plain in
    subst (λ (t : Tx). SendsPiece t piece end bytes (tx_with a.size a.max_retx_threshold l c.count.new.self)) c.self.view_is
    (subst (λ (p : Polling). SendsPiece (transmitter_of a) piece end bytes (tx_with a.size a.max_retx_threshold l p)) (sym (c.count.ensures ∙ ap (unpolled a.polling) fresh)) sends)
