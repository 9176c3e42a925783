-- What the receivers at ends have heard is what a history delivers, behind each line.
use Rattle.std.proofs.Common.{◌≡◌, ◌↔◌, ◌⊎◌, inl, inr, ⊎_elim, ℕ, ◌==◌, Bool, true, false, not, ◌&&◌, ◌||◌, List, [], ◌∷◌, ◌++◌, map, Option, Some, None, refl, sym, ◌∙◌, ap, subst}
use Rattle.std.specs.List.{Contains, AllByRecursion, list_any}
use Rattle.std.proofs.lemmas.Bool.{true≢false, false≢true, and_parts, and_from, eqb-true, eq-eqb}
use Rattle.std.proofs.lemmas.Option.{none-some, same_Some}
use Rattle.link_base.specs.declared.names.PortName.{PortName}
use Rattle.link_base.specs.declared.names.SnSize.{SnSize}
use Rattle.link_base.specs.declared.names.Way.{Way}
use Rattle.bearer_map.specs.Contents.{Contents}
use Rattle.rlc_pdu.specs.Amd.{Amd, IsAmd}
use Rattle.rlc_model.specs.declared.hop.Pdu.{Pdu}
use Rattle.rlc_model.specs.Heard.{Data}
use Rattle.rlc_model.specs.Hop.{on_air}
use Rattle.rlc_model.specs.Sides.{hearer_of}
use Rattle.rlc_law.specs.Ports.{hop_of}
use Rattle.rlc_law.proofs.Lists.{contains_nil, contains_here, contains_later, contains_cases}
use Rattle.script_text.specs.declared.event.Event.{Event}
use Rattle.script_text.specs.declared.event.Event.TheVariants.{Heard as HeardTicket}
use Rattle.script_text.specs.declared.line.Line.{Line}
use Rattle.script_text.specs.declared.line.Line.TheVariants.{Deliver, Repeat, Burst}
use Rattle.script_text.specs.declared.reply.Reply.{Reply}
use Rattle.script_text.specs.declared.reply.Reply.TheVariants.{Ok}
use Rattle.script_text.specs.declared.stage.Part.TheVariants.{Running}
use Rattle.script_text.specs.Lines.{part_of}
use Rattle.script_text.specs.History.{Entry}
use Rattle.node_model.specs.Hearing.{hear_refusal}
use Rattle.node_model.specs.Names.{AtRelay, owner}
use Rattle.node_model.specs.State.{PortSide, side_at}
use Rattle.chain_model.specs.Bursts.{with_side, Treats}
use Rattle.chain_model.specs.Draining.{Moment, entry_of}
use Rattle.chain_model.specs.Heard.{HopOf, GoesOver, Delivers, Delivered}
use Rattle.chain_model.specs.Lines.{hearer}
use Rattle.chain_model.specs.Sizes.{port_size}
use Rattle.chain_model.specs.State.{Chain, node_at}
use Rattle.chain_model.specs.Steps.{Does, Step}
use Rattle.chain_model.specs.Told.{air_entry, is_unheard, event_hears, hears_ticket, line_hears}
use Rattle.chain_law.proofs.Bursting.{SaysOn}
use Rattle.chain_law.proofs.Bursts.{shows_either, shows_first, shows_second}
use Rattle.chain_law.proofs.Chains.{Holds, holds_implied}
use Rattle.chain_law.proofs.Hearing.{IsMade, Into, IntoAir}
use Rattle.chain_law.proofs.Opened.{opened_holds}
use Rattle.chain_law.proofs.Runs.{IntoLine, step_holds}
use Rattle.chain_law.proofs.Stands.{Logs, Implies, not_true}
use Rattle.chain_law.proofs.Tables.{TablesApart}
use Rattle.book_law.proofs.Tables.{tables_stay}
use Rattle.book_law.specs.Hearings.{coming}
use Rattle.book_law.specs.Past.{Goes, steps, drained, ended, Passes, IsDeclaration, AreTables}
use Rattle.heard_law.specs.Foundations.{HeardLaws}
use Rattle.heard_law.specs.Receiving.{hop_at}
use Rattle.heard_law.specs.Telling.{Tells}
use Rattle.heard_law.specs.Tickets.{comes, in_burst}
use Rattle.heard_law.proofs.Along.{passes_told, tells}
use Rattle.heard_law.proofs.Staged.{IsForRelay, AreForRelay, does_for_relay, burst_staged}
use Rattle.heard_law.proofs.Tickets.{is_burst, comes_as, own_events, tickets_heard_are_told}

-- of a hop those data PDUs were heard that the history delivers
abbrev pub logged : Contents → List Entry → Logs
logged t h name epoch way heard = (d : Data) → Contains heard d ↔ Delivered (hop_at t name way epoch) h d.number d.view

-- what goes this way over the port is heard at an end of bearers
abbrev pub IsAtEnd : Way → PortName → Type 0
IsAtEnd way port = owner (hearer_of way) port ≡ AtRelay → ⊥

-- a line that shows these events alone
abbrev pub shown : List Event → Entry
shown events = record { line = Burst; events = events; reply = Ok }

-- the line has a ticket's PDU heard
abbrev pub HearsTicket : Entry → ℕ → Type 0
HearsTicket e ticket = hears_ticket e ticket ≡ true

module _ (t : Contents) (h : List Entry) where
  -- a line that has heard what another has delivers what that one does
  redelivers : (first second : Entry) → ((ticket : ℕ) → HearsTicket first ticket → HearsTicket second ticket) → (over : HopOf) (number : ℕ) (fields : Amd)
      → Delivers over h first number fields → Delivers over h second number fields
  redelivers first second more over number fields d = record {
    ticket = d.ticket;
    hears = more d.ticket d.hears;
    pdu = d.pdu;
    shown = d.shown;
    over = d.over;
    is_data = d.is_data;
    its_number = d.its_number;
    reads = d.reads;
  }

  pub delivered_more : (first second : Entry) → ((ticket : ℕ) → HearsTicket first ticket → HearsTicket second ticket) → (over : HopOf) (number : ℕ) (fields : Amd)
      → Delivered over (first ∷ h) number fields → Delivered over (second ∷ h) number fields
  delivered_more first second more over number fields (inl now) = inl (redelivers first second more over number fields now)
  delivered_more first second more over number fields (inr before) = inr before

  -- lines that have heard the same are logged alike
  logged_alike : (first second : Entry) → ((ticket : ℕ) → HearsTicket first ticket → HearsTicket second ticket)
      → ((ticket : ℕ) → HearsTicket second ticket → HearsTicket first ticket)
      → Implies (logged t (first ∷ h)) (logged t (second ∷ h))
  logged_alike first second more back name epoch way heard so d = (
    λ has. delivered_more first second more (hop_at t name way epoch) d.number d.view ((so d).0 has),
    λ delivered. (so d).1 (delivered_more second first back (hop_at t name way epoch) d.number d.view delivered),
  )

  -- a line by which nothing is heard leaves what is logged
  logged_on : (e : Entry) → ((ticket : ℕ) → HearsTicket e ticket → ⊥) → Implies (logged t h) (logged t (e ∷ h))
  logged_on e none name epoch way heard so d = (
    λ has. inr ((so d).0 has),
    λ delivered. elim delivered [
      | inl now ↦ absurd (none now.ticket now.hears)
      | inr before ↦ (so d).1 before
    ],
  )

  -- a data PDU that was made is read as it was made
  reads_made : HeardLaws → (pdu : Pdu) (made : Data) → IsMade t pdu made → IsAmd (port_size t pdu.port) made.view pdu.bytes
  reads_made laws pdu made is =
      let size : (hop_of is.port pdu.way).tx.size ≡ port_size t pdu.port = (is.size pdu.way).0 in
      let fits = (laws.pieces (hop_of is.port pdu.way) (is.reaches pdu.way) made is.spells.among).3 in
      subst (λ (size : SnSize). IsAmd size made.view pdu.bytes) size
      (subst (IsAmd (hop_of is.port pdu.way).tx.size made.view) (sym is.spells.octets) (laws.reads_back (hop_of is.port pdu.way).tx.size made.view fits).1)

  -- one line has heard what another has and, where its side takes it, this ticket's PDU besides
  module _ (laws : HeardLaws) (c : Chain) (told : Tells h c) (ticket : ℕ) (pdu : Pdu) (on : on_air c.air ticket ≡ Some pdu) (found : Option PortSide) (first second : Entry)
      (more : (other : ℕ) → HearsTicket first other → HearsTicket second other)
      (besides : (other : ℕ) → HearsTicket second other → HearsTicket first other ⊎ ((other ≡ ticket) × (hear_refusal pdu found ≡ None)))
      (this : hear_refusal pdu found ≡ None → HearsTicket second ticket) where
    -- what it delivers that the other doesn't is this PDU
    newest : (over : HopOf) (number : ℕ) (fields : Amd) → Delivers over h second number fields
        → Delivers over h first number fields
        ⊎ ((hear_refusal pdu found ≡ None) × (pdu.status ≡ false) × GoesOver over pdu × (pdu.number ≡ number) × IsAmd over.size fields pdu.bytes)
    newest over number fields d = elim (besides d.ticket d.hears) [
      | inl early ↦ inl (record {
        ticket = d.ticket;
        hears = early;
        pdu = d.pdu;
        shown = d.shown;
        over = d.over;
        is_data = d.is_data;
        its_number = d.its_number;
        reads = d.reads;
      })
      | inr late ↦
          let same : d.pdu ≡ pdu = same_Some d.pdu pdu (sym d.shown ∙ ap (air_entry h) late.0 ∙ told.air ticket pdu on) in
          inr (
            late.1,
            ap (λ (p : Pdu). p.status) (sym same) ∙ d.is_data,
            subst (GoesOver over) same d.over,
            ap (λ (p : Pdu). p.number) (sym same) ∙ d.its_number,
            subst (λ (p : Pdu). IsAmd over.size fields p.bytes) same d.reads,
          )
    ]

    grown : (over : HopOf) (number : ℕ) (fields : Amd) → Delivered over (first ∷ h) number fields → Delivered over (second ∷ h) number fields
    grown = delivered_more first second more

    ticket_logged : Into (logged t (first ∷ h)) t found pdu (logged t (second ∷ h))
    ticket_logged = record {
      taken = λ none data_pdu. record {
        this = λ made is heard so d. (
          λ has. elim (contains_cases made heard d has) [
            | inl same ↦ inl (record {
              ticket = ticket;
              hears = this none;
              pdu = pdu;
              shown = told.air ticket pdu on;
              over = record { port = refl; way = refl; epoch = refl };
              is_data = data_pdu;
              its_number = sym is.number ∙ ap (λ (d : Data). d.number) (sym same);
              reads = subst (λ (v : Amd). IsAmd (port_size t pdu.port) v pdu.bytes) (ap (λ (d : Data). d.view) (sym same)) (reads_made laws pdu made is);
            })
            | inr before ↦ grown (hop_at t pdu.port pdu.way pdu.epoch) d.number d.view ((so d).0 before)
          ],
          λ delivered. elim delivered [
            | inr before ↦ contains_later made heard d ((so d).1 (inr before))
            | inl now ↦ elim (newest (hop_at t pdu.port pdu.way pdu.epoch) d.number d.view now) [
              | inl early ↦ contains_later made heard d ((so d).1 (inl early))
              | inr x ↦ subst (Contains (made ∷ heard))
                  (same_data made d (is.number ∙ x.3) (laws.reading (port_size t pdu.port) made.view d.view pdu.bytes (reads_made laws pdu made is) x.4)) (contains_here made heard)
            ]
          ],
        );
        other = λ name epoch way heard ne so d. (
          λ has. grown (hop_at t name way epoch) d.number d.view ((so d).0 has),
          λ delivered. elim delivered [
            | inr before ↦ (so d).1 (inr before)
            | inl now ↦ elim (newest (hop_at t name way epoch) d.number d.view now) [
              | inl early ↦ (so d).1 (inl early)
              | inr x ↦ absurd (ne (sym x.2.port, sym x.2.epoch, sym x.2.way))
            ]
          ],
        );
      };
      kept = λ not_taken name epoch way heard so d. (
        λ has. grown (hop_at t name way epoch) d.number d.view ((so d).0 has),
        λ delivered. elim delivered [
          | inr before ↦ (so d).1 (inr before)
          | inl now ↦ elim (newest (hop_at t name way epoch) d.number d.view now) [
            | inl early ↦ (so d).1 (inl early)
            | inr x ↦ absurd (not_taken x.0 x.1)
          ]
        ],
      );
    }
      where
        same_data : (a b : Data) → a.number ≡ b.number → a.view ≡ b.view → a ≡ b
        same_data a b numbers views = ap (λ (n : ℕ). record { number = n; view = a.view }) numbers ∙ ap (λ (v : Amd). record { number = b.number; view = v }) views

-- what is said before may be said of less
into_before : {p q r : Logs} {t : Contents} {found : Option PortSide} {pdu : Pdu} → Implies p q → Into q t found pdu r → Into p t found pdu r
into_before implied into = record {
  taken = λ none data_pdu.
      let takes = into.taken none data_pdu in
      record {
        this = λ made is heard so. takes.this made is heard (implied _ _ _ heard so);
        other = λ name epoch way heard ne so. takes.other name epoch way heard ne (implied name epoch way heard so);
      };
  kept = λ not_taken name epoch way heard so. into.kept not_taken name epoch way heard (implied name epoch way heard so);
}

-- lines that declare tables deliver nothing
none_by_line : (line : Line) (reply : Reply) (ticket : ℕ) → (part_of line ≡ Running → ⊥) → line_hears line reply ticket ≡ false
none_by_line (Deliver t) reply ticket not_running = absurd (not_running refl)
none_by_line (Repeat t) reply ticket not_running = absurd (not_running refl)
none_by_line line reply ticket not_running = refl

pub none_declared : (hop : HopOf) (h : List Entry) → AllByRecursion IsDeclaration h → (number : ℕ) (fields : Amd) → Delivered hop h number fields → ⊥
none_declared hop [] all number fields d = d
none_declared hop (e ∷ h) all number fields (inl d) = false≢true (sym (ap (λ (x : Bool). x || list_any (event_hears d.ticket) e.events)
    (none_by_line e.line e.reply d.ticket all.0.part)
    ∙ ap (list_any (event_hears d.ticket)) all.0.shows) ∙ d.hears)
none_declared hop (e ∷ h) all number fields (inr d) = none_declared hop h all.1 number fields d

-- what a line delivers behind a history that tells of the chain comes so: a ticket's PDU comes, and the side takes it; or the relay hears it in a burst
data Came (old : Chain) (e : Entry) (hop : HopOf) (number : ℕ) (fields : Amd) : Type 0 where
  by_line : (ticket : ℕ) (pdu : Pdu) → coming e.line ≡ Some ticket → on_air old.air ticket ≡ Some pdu → hear_refusal pdu (side_at (hearer pdu old) pdu.port) ≡ None
      → pdu.status ≡ false → GoesOver hop pdu → pdu.number ≡ number → IsAmd hop.size fields pdu.bytes → Came old e hop number fields
  at_relay : e.line ≡ Burst → owner (hearer_of hop.way) hop.port ≡ AtRelay → Came old e hop number fields

module _ (h : List Entry) (e : Entry) (old new : Chain) (told : Tells h old) (s : Step old e.line e.events e.reply new) (staged : AreForRelay old) where
  -- the PDU of a ticket that a burst shows as heard goes to the relay
  shown_for_relay : (ticket : ℕ) → e.line ≡ Burst → list_any (event_hears ticket) e.events ≡ true → IsForRelay old.air ticket
  shown_for_relay ticket is shown = by e.line is s.does
    where
      by : (line : Line) → line ≡ Burst → Does old line s.own e.reply s.mid → IsForRelay old.air ticket
      by Burst same b = burst_staged old (IsForRelay old.air) ticket (node_at old AtRelay).ports b.ingresses b.ingest staged
          (ap (list_any (event_hears ticket)) (sym b.shows) ∙ sym (own_events old new e s ticket) ∙ shown)
      by line same d = absurd (false≢true (ap is_burst same))

  came : (hop : HopOf) (number : ℕ) (fields : Amd) → Delivers hop h e number fields → Came old e hop number fields
  came hop number fields d = elim ((tickets_heard_are_told old new e (steps s) d.ticket).0 d.hears) [
    | comes line taken ↦
        let same : taken.pdu ≡ d.pdu = same_Some taken.pdu d.pdu (sym (told.air d.ticket taken.pdu taken.here) ∙ d.shown) in
        by_line d.ticket taken.pdu line taken.here taken.taken (ap (λ (p : Pdu). p.status) same ∙ d.is_data) (subst (GoesOver hop) (sym same) d.over)
        (ap (λ (p : Pdu). p.number) same ∙ d.its_number) (subst (λ (p : Pdu). IsAmd hop.size fields p.bytes) (sym same) d.reads)
    | in_burst side line shown taken ↦
        let same : taken.pdu ≡ d.pdu = same_Some taken.pdu d.pdu (sym (told.air d.ticket taken.pdu taken.here) ∙ d.shown) in
        at_relay line (ap (λ (w : Way). owner (hearer_of w) hop.port) (sym d.over.way) ∙ ap (owner (hearer_of d.pdu.way)) (sym d.over.port)
        ∙ ap (λ (p : Pdu). owner (hearer_of p.way) p.port) (sym same) ∙ (shown_for_relay d.ticket line shown).goes taken.pdu taken.here)
  ]

  -- a line that brings no PDU delivers nothing to an end
  pub none_comes : coming e.line ≡ None → (hop : HopOf) → IsAtEnd hop.way hop.port → (number : ℕ) (fields : Amd) → Delivers hop h e number fields → ⊥
  none_comes line hop at number fields now = elim (came hop number fields now) [
    | by_line other p its_line here taken data_pdu over numbered reads ↦ none-some other (sym line ∙ its_line)
    | at_relay burst relay ↦ at relay
  ]

  -- nor does one that brings a ticket of which no PDU is on the air
  pub none_there : (ticket : ℕ) → coming e.line ≡ Some ticket → on_air old.air ticket ≡ None → (hop : HopOf) → IsAtEnd hop.way hop.port
      → (number : ℕ) (fields : Amd) → Delivers hop h e number fields → ⊥
  none_there ticket line gone hop at number fields now = elim (came hop number fields now) [
    | by_line other p its_line here taken data_pdu over numbered reads ↦ none-some p (sym gone ∙ ap (on_air old.air) (same_Some ticket other (sym line ∙ its_line)) ∙ here)
    | at_relay burst relay ↦ at relay
  ]

  -- one that brings a PDU delivers nothing else, and this only where a side takes it
  pub comes_so : (ticket : ℕ) (pdu : Pdu) → coming e.line ≡ Some ticket → on_air old.air ticket ≡ Some pdu → (hop : HopOf) (number : ℕ) (fields : Amd) → IsAtEnd hop.way hop.port
      → Delivers hop h e number fields
      → (hear_refusal pdu (side_at (hearer pdu old) pdu.port) ≡ None) × (pdu.status ≡ false) × GoesOver hop pdu × (pdu.number ≡ number) × IsAmd hop.size fields pdu.bytes
  comes_so ticket pdu line on hop number fields at d = elim (came hop number fields d) [
    | by_line other p its_line here taken data_pdu over numbered reads ↦
        let same : p ≡ pdu = same_Some p pdu (sym here ∙ ap (on_air old.air) (sym (same_Some ticket other (sym line ∙ its_line))) ∙ on) in (
          subst (λ (p : Pdu). hear_refusal p (side_at (hearer p old) p.port) ≡ None) same taken,
          ap (λ (p : Pdu). p.status) (sym same) ∙ data_pdu,
          subst (GoesOver hop) same over,
          ap (λ (p : Pdu). p.number) (sym same) ∙ numbered,
          subst (λ (p : Pdu). IsAmd hop.size fields p.bytes) same reads,
        )
    | at_relay burst relay ↦ absurd (at relay)
  ]

  module _ (laws : HeardLaws) (t : Contents) (tables : old.tables ≡ t) where
    -- before any event nothing is heard
    pub unshown : Implies (logged t h) (logged t (shown [] ∷ h))
    unshown = logged_on t h (shown []) (λ ticket heard. false≢true heard)

    -- a PDU comes to a side
    module _ (ticket : ℕ) (pdu : Pdu) (line : coming e.line ≡ Some ticket) (on : on_air old.air ticket ≡ Some pdu) where
      pub comes_logged : Into (logged t h) t (side_at (hearer pdu old) pdu.port) pdu (logged t (e ∷ h))
      comes_logged = into_before unshown (ticket_logged t h laws old told ticket pdu on (side_at (hearer pdu old) pdu.port) (shown []) e
          (λ other heard. absurd (false≢true heard)) besides
          (λ none. (tickets_heard_are_told old new e (steps s) ticket).1 (comes line (record { pdu = pdu; here = on; taken = none }))))
        where
          besides : (other : ℕ) → HearsTicket e other → HearsTicket (shown []) other ⊎ ((other ≡ ticket) × (hear_refusal pdu (side_at (hearer pdu old) pdu.port) ≡ None))
          besides other heard = elim ((tickets_heard_are_told old new e (steps s) other).0 heard) [
            | comes its taken ↦
                let same : other ≡ ticket = same_Some other ticket (sym its ∙ line) in
                let one : taken.pdu ≡ pdu = same_Some taken.pdu pdu (sym taken.here ∙ ap (on_air old.air) same ∙ on) in
                inr (same, subst (λ (p : Pdu). hear_refusal p (side_at (hearer p old) p.port) ≡ None) one taken.taken)
            | in_burst side its shows taken ↦ absurd (none-some ticket (sym (ap coming its) ∙ line))
          ]

    -- a line that brings no PDU and is no burst
    quiet_logged : coming e.line ≡ None → is_burst e.line ≡ false → Implies (logged t h) (logged t (e ∷ h))
    quiet_logged line no_burst = logged_on t h e (λ ticket heard. elim ((tickets_heard_are_told old new e (steps s) ticket).0 heard) [
      | comes its taken ↦ none-some ticket (sym line ∙ its)
      | in_burst side its shows taken ↦ true≢false (sym (ap is_burst its) ∙ no_burst)
    ])

    air_logged : (ticket : ℕ) → coming e.line ≡ Some ticket → (o : Option Pdu) → on_air old.air ticket ≡ o → IntoAir (logged t h) old o (logged t (e ∷ h))
    air_logged ticket line None is = logged_on t h e (λ other heard. elim ((tickets_heard_are_told old new e (steps s) other).0 heard) [
      | comes its taken ↦ none-some taken.pdu (sym is ∙ ap (on_air old.air) (same_Some ticket other (sym line ∙ its)) ∙ taken.here)
      | in_burst side its shows taken ↦ none-some ticket (sym (ap coming its) ∙ line)
    ])
    air_logged ticket line (Some pdu) is = subst (λ (u : Contents). Into (logged t h) u (side_at (hearer pdu old) pdu.port) pdu (logged t (e ∷ h))) (sym tables)
        (comes_logged ticket pdu line is)

    -- what is said while a burst goes on
    abbrev pub said : List Event → Logs
    said done = logged t (shown done ∷ h)

    pub says_on : SaysOn old (IsForRelay old.air) said
    says_on = record {
      staged = staged;
      treats = λ done ticket pdu on side new reply treats. subst (λ (u : Contents). Into (said done) u (side_at (hearer pdu (with_side old side)) pdu.port) pdu
          (said (done ++ HeardTicket ticket reply ∷ [])))
          (sym tables) (treated done ticket pdu on side new reply treats);
      elsewhere = λ done ticket is pdu on ne reply. absurd (ne (is.goes pdu on));
      again = λ done more among. logged_alike t h (shown done) (shown (done ++ more)) (λ ticket is. shows_first ticket done more is)
          (λ ticket is. ⊎_elim (λ first. first) (λ second. among ticket second) (shows_either ticket done more is));
    }
      where
        treated : (done : List Event) (ticket : ℕ) (pdu : Pdu) → on_air old.air ticket ≡ Some pdu → (side new : PortSide) (reply : Reply) → Treats old pdu side reply new
            → Into (said done) t (side_at (hearer pdu (with_side old side)) pdu.port) pdu (said (done ++ HeardTicket ticket reply ∷ []))
        treated done ticket pdu on side new reply treats =
            ticket_logged t h laws old told ticket pdu on (side_at (hearer pdu (with_side old side)) pdu.port) (shown done) (shown (done ++ HeardTicket ticket reply ∷ []))
            (λ other is. shows_first other done (HeardTicket ticket reply ∷ []) is) besides this
          where
            so : (is_unheard reply ≡ false) ↔ (hear_refusal pdu (side_at (hearer pdu (with_side old side)) pdu.port) ≡ None)
            so = (comes_as (with_side old side) pdu treats.0 reply treats.1 (λ c. c) treats.2).1

            or_false : (b : Bool) → (b || false) ≡ b
            or_false true = refl
            or_false false = refl

            besides : (other : ℕ) → HearsTicket (shown (done ++ HeardTicket ticket reply ∷ [])) other
                → HearsTicket (shown done) other ⊎ ((other ≡ ticket) × (hear_refusal pdu (side_at (hearer pdu (with_side old side)) pdu.port) ≡ None))
            besides other is = elim (shows_either other done (HeardTicket ticket reply ∷ []) is) [
              | inl first ↦ inl first
              | inr last ↦
                  let parts = and_parts (ticket == other) (not (is_unheard reply)) (sym (or_false ((ticket == other) && not (is_unheard reply))) ∙ last) in
                  inr (sym (eqb-true ticket other parts.0), so.0 (not_true (is_unheard reply) parts.1))
            ]

            this : hear_refusal pdu (side_at (hearer pdu (with_side old side)) pdu.port) ≡ None → HearsTicket (shown (done ++ HeardTicket ticket reply ∷ [])) ticket
            this none = shows_second ticket done (HeardTicket ticket reply ∷ [])
                (or_false ((ticket == ticket) && not (is_unheard reply)) ∙ and_from (ticket == ticket) (not (is_unheard reply)) (eq-eqb ticket ticket refl) (ap not (so.1 none)))

    line_logged : (line : Line) → e.line ≡ line → IntoLine (IsForRelay old.air) said (logged t h) old line s.own (logged t (e ∷ h))
    line_logged (Deliver ticket) is = air_logged ticket (ap coming is) (on_air old.air ticket) refl
    line_logged (Repeat ticket) is = air_logged ticket (ap coming is) (on_air old.air ticket) refl
    line_logged Burst is = (
      says_on,
      unshown,
      λ done alike. logged_alike t h (shown done) e (λ ticket shows. shown_by ticket ∙ alike.there ticket shows) (λ ticket heard. alike.back ticket (sym (shown_by ticket) ∙ heard)),
    )
      where
        shown_by : (ticket : ℕ) → hears_ticket e ticket ≡ list_any (event_hears ticket) s.own
        shown_by ticket = ap (λ (line : Line). line_hears line e.reply ticket || list_any (event_hears ticket) e.events) is ∙ own_events old new e s ticket
    line_logged line is = quiet_logged (ap coming is) (ap is_burst is)

    step_logged : Holds (logged t h) old → Holds (logged t (e ∷ h)) new
    step_logged holds = step_holds laws.ports (IsForRelay old.air) said old e.line e.events e.reply new s (line_logged e.line refl) holds

  fed_for_relay : AreForRelay new
  fed_for_relay = subst AreForRelay (sym s.is) (does_for_relay old s.mid e.line s.own e.reply s.does staged)

-- what holds behind each line
pub record Behind (t : Contents) (h : List Entry) (c : Chain) : Type 0 where
  pub holds : Holds (logged t h) c
  pub staged : AreForRelay c

none_heard_by : (line : Line) (reply : Reply) (ticket : ℕ) → coming line ≡ None → line_hears line reply ticket ≡ false
none_heard_by (Deliver t) reply ticket is = absurd (none-some t (sym is))
none_heard_by (Repeat t) reply ticket is = absurd (none-some t (sym is))
none_heard_by line reply ticket is = refl

-- by a line that brings no PDU and shows nothing none is heard, and it delivers nothing
silent : (e : Entry) → coming e.line ≡ None → e.events ≡ [] → (ticket : ℕ) → HearsTicket e ticket → ⊥
silent e line none ticket heard = false≢true (sym (ap (λ (x : Bool). x || list_any (event_hears ticket) e.events) (none_heard_by e.line e.reply ticket line)
    ∙ ap (list_any (event_hears ticket)) none) ∙ heard)

pub none_shown : (h : List Entry) (e : Entry) → coming e.line ≡ None → e.events ≡ [] → (over : HopOf) (number : ℕ) (fields : Amd) → Delivers over h e number fields → ⊥
none_shown h e line none over number fields now = silent e line none now.ticket now.hears

module _ (laws : HeardLaws) (t : Contents) (apart : TablesApart t) (are : AreTables t) (declared : List Entry) (all : AllByRecursion IsDeclaration declared) where
  -- a line that changes nothing
  rests_logged : (h : List Entry) (e : Entry) (old new : Chain) → coming e.line ≡ None → e.events ≡ [] → new ≡ old → Behind t h old → Behind t (e ∷ h) new
  rests_logged h e old new line none is b = subst (Behind t (e ∷ h)) (sym is) (record {
    holds = holds_implied (logged_on t h e (λ ticket heard. silent e line none ticket heard)) b.holds;
    staged = b.staged;
  })

  goes_logged : (h : List Entry) (m : Moment) (new : Chain) → m.before.tables ≡ t → Tells h m.before → Goes m.before m.entry new → Behind t h m.before → Behind t (m.entry ∷ h) new
  goes_logged h m new tables told (steps s) b = record {
    holds = step_logged h m.entry m.before new told s b.staged laws t tables b.holds;
    staged = fed_for_relay h m.entry m.before new told s b.staged;
  }
  goes_logged h m new tables told (drained line none is whole) b =
      rests_logged h m.entry m.before new (ap coming line) none is b
  goes_logged h m new tables told (ended line none reply is) b =
      rests_logged h m.entry m.before new (ap coming line) none is b

  abbrev pub history : List Moment → List Entry
  history ms = map entry_of ms ++ declared

  pub told_behind : (ms : List Moment) (c : Chain) → Passes t ms c → Tells (history ms) c
  told_behind ms c passes = tells t are (history ms) c (tables_stay t ms c passes) (passes_told t are declared all ms c passes)

  pub behind_lines : (ms : List Moment) (c : Chain) → Passes t ms c → Behind t (history ms) c
  behind_lines [] c is = subst (Behind t declared) (sym is) (record {
    holds = opened_holds t (λ name epoch way d. (
      λ has. absurd (contains_nil d has),
      λ delivered. absurd
          (none_declared (hop_at t name way epoch) declared all d.number d.view delivered),
    )) apart;
    staged = tt;
  })
  behind_lines (m ∷ ms) c (before, goes) =
      goes_logged (history ms) m c (tables_stay t ms m.before before) (told_behind ms m.before before) goes (behind_lines ms m.before before)
