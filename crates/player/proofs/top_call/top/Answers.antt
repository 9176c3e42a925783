use Rattle.std.proofs.Common.{◌≢◌, ℕ, List, refl, arith}
use Rattle.pdu_text.specs.declared.form.Form.{Form}
use Rattle.player.specs.Outcome.{IsShown, IsShownInPart}
use Rattle.player.proofs.Commands.{no_play}
use Rattle.player.proofs.Serving.{unused, shown_as, by_status}
use Rattle.player.proofs.top_call.top.Goals as goal

pub returns-in-Ok-Other : goal.returns-in-Ok-Other
returns-in-Ok-Other g c =
    let other = rw c.in-Ok-Other.field-0-is at c.in-Ok-Other.ensures in
    let said = c.usage.ensures in
    let three : c.usage.result ≢ 3 = λ e. omega (arith, e, (said.two (λ x. omega (arith, e, x)) (λ x. omega (arith, e, x))).0) in
    record {
      usage = λ e. (other, (said.two (λ x. omega (arith, e, x)) (λ x. omega (arith, e, x))).1);
      other_words = λ is. by_status c.usage.result said.two said.front;
      played = λ play. absurd (other.no_play play);
      cut_off = λ play. absurd (other.no_play play);
      memory = λ play. absurd (other.no_play play);
      shown = λ form bytes show. absurd (other.no_show form bytes show);
      shown_in_part = λ form bytes show. absurd (other.no_show form bytes show);
      unread = λ no. refl;
      source = (λ e. absurd (three e), λ none. refl);
      sink = said.sink_told;
      unwritten = λ e. absurd (three e);
      sure_source = λ sure. three;
      sure_sink = said.sure_sink;
      used = (unused c.args.src.now, said.used);
      told = (refl, said.told);
    }

pub returns-in-Ok-Show : goal.returns-in-Ok-Show
returns-in-Ok-Show g c =
    let asked = rw c.in-Ok-Show.field-0-is at c.in-Ok-Show.ensures in
    let said = c.show.ensures in
    record {
      usage = λ e. absurd (said.few.0 e);
      other_words = λ other. absurd (other.no_show c.in-Ok-Show.form c.in-Ok-Show.bytes asked);
      played = λ play. absurd (no_play _ _ _ asked play);
      cut_off = λ play. absurd (no_play _ _ _ asked play);
      memory = λ play. absurd (no_play _ _ _ asked play);
      shown = λ form bytes show a b. shown_as _ form _ bytes _ _ (λ (f : Form) (l : List ℕ). IsShown f l c.show.result (g.K.Sink.written c.args.out.now) (g.K.Sink.written c.show.new.out)) show asked c.as_slice.ensures (said.shown a b);
      shown_in_part = λ form bytes show e. shown_as _ form _ bytes _ _ (λ (f : Form) (l : List ℕ). IsShownInPart f l (g.K.Sink.written c.args.out.now) (g.K.Sink.written c.show.new.out)) show asked c.as_slice.ensures (said.cut_off e);
      unread = λ no. refl;
      source = (λ e. absurd (said.few.1 e), λ none. refl);
      sink = said.sink_told;
      unwritten = λ e. absurd (said.few.1 e);
      sure_source = λ sure. said.few.1;
      sure_sink = said.sure_sink;
      used = (unused c.args.src.now, said.used);
      told = (refl, said.told);
    }
