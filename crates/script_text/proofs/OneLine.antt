-- Words spell one line at most.
use Rattle.std.proofs.Common.{◌≡◌, ℕ, ◌<◌, List, codes, cond, refl, sym, ◌∙◌, ap, arith, subst, lit<, ◌^◌, Ok, inl, inr}
use Rattle.std.specs.Str.{bytes_eq}
use Rattle.std.proofs.lemmas.Fmt.{decimal_injective}
use Rattle.hex.specs.Hex.{decode_of}
use Rattle.link_base.specs.declared.names.Remote.{Remote as Name}
use Rattle.link_base.specs.declared.names.Drb.{Drb}
use Rattle.link_base.specs.declared.names.Chan.{Chan}
use Rattle.link_base.specs.declared.names.Key.{Key}
use Rattle.link_base.specs.declared.names.Goal.{Goal}
use Rattle.link_base.specs.declared.names.Goal.TheVariants.{Direct as ToDirect, Relay as ToRelay}
use Rattle.link_base.specs.declared.names.Way.{Way}
use Rattle.link_base.specs.declared.names.Way.TheVariants.{Ul, Dl}
use Rattle.link_base.specs.declared.names.Side.{Side}
use Rattle.link_base.specs.declared.names.Side.TheVariants.{Low, High}
use Rattle.link_base.specs.declared.names.Timer.{Timer}
use Rattle.link_base.specs.declared.names.Timer.TheVariants.{Poll, Reasm, Prohibit}
use Rattle.link_base.specs.declared.names.Node.{Node}
use Rattle.link_base.specs.declared.names.Node.TheVariants.{Remote as AtRemote, Relay as AtRelay, Gnb as AtGnb}
use Rattle.link_base.specs.declared.names.SnSize.{SnSize}
use Rattle.link_base.specs.declared.names.SnSize.TheVariants.{S12, S18}
use Rattle.link_base.specs.declared.names.PortName.{PortName}
use Rattle.link_base.specs.declared.names.PortName.TheVariants.{Direct, Pc5 as Pc5Port, Uu as UuPort}
use Rattle.bearer_map.specs.declared.settings.SetName.{SetName}
use Rattle.bearer_map.specs.declared.settings.SetName.TheVariants.{Queue, Report as Reports, PollPdu, PollByte, MaxRetx}
use Rattle.script_text.specs.Words.{IsNumber, IsRemote, IsDrb, IsChan, IsTicket, IsHex, IsPort, word_at, way_text, side_text, timer_text, node_text, size_text, setting_text}
use Rattle.script_text.specs.Fields.{IsSpelt}
use Rattle.script_text.specs.Lines.{Spells, EndsWithGoal, name, value_of}
use Rattle.script_text.specs.declared.line.Line.{Line}
use Rattle.script_text.specs.declared.line.Line.TheVariants.{Version, Set, Remote, Bearer, Uu, Pc5, Map, Start, Path, Go, Submit, Grant, Deliver, Repeat, Lose, Stage, Expire, Push, Pull, Burst, Report, Plan, Apply, Drain, End}

number_one : (low high m n : ℕ) (w : List ℕ) → high < 2 ^ 64 → IsNumber low high w m → IsNumber low high w n → m ≡ n
number_one low high m n w small x y = decimal_injective m n (omega arith) (omega arith) (sym x.0 ∙ y.0)

remote_one : (w : List ℕ) (r s : Name) → IsRemote w r.0 → IsRemote w s.0 → r ≡ s
remote_one w r s x y = ap (λ (n : ℕ). let m : Name = record { 0 = n } in m) (number_one 1 65535 r.0 s.0 w (lit< tt) x y)

drb_one : (w : List ℕ) (r s : Drb) → IsDrb w r.0 → IsDrb w s.0 → r ≡ s
drb_one w r s x y = ap (λ (n : ℕ). let m : Drb = record { 0 = n } in m) (number_one 1 32 r.0 s.0 w (lit< tt) x y)

chan_one : (w : List ℕ) (r s : Chan) → IsChan w r.0 → IsChan w s.0 → r ≡ s
chan_one w r s x y = ap (λ (n : ℕ). let m : Chan = record { 0 = n } in m) (number_one 1 8 r.0 s.0 w (lit< tt) x y)

ticket_one : (w : List ℕ) (s t : ℕ) → IsTicket w s → IsTicket w t → s ≡ t
ticket_one w s t x y = number_one 1 18446744073709551615 s t w (lit< tt) x y

-- a tag for each text of a choice
abbrev tag : List ℕ → ℕ
tag w =
    cond (bytes_eq w (codes "ul")) 0 (cond (bytes_eq w (codes "low")) 0 (cond (bytes_eq w (codes "poll")) 0 (cond (bytes_eq w (codes "reasm")) 1
    (cond (bytes_eq w (codes "remote")) 0 (cond (bytes_eq w (codes "relay")) 1 (cond (bytes_eq w (codes "12")) 0
    (cond (bytes_eq w (codes "queue")) 0 (cond (bytes_eq w (codes "report")) 1 (cond (bytes_eq w (codes "pollpdu")) 2 (cond (bytes_eq w (codes "pollbyte")) 3 4))))))))))

way_one : (a b : Way) → way_text a ≡ way_text b → a ≡ b
way_one Ul Ul e = refl
way_one Dl Dl e = refl
way_one a b e = absurd (let same = ap tag e in omega (arith, same))

side_one : (a b : Side) → side_text a ≡ side_text b → a ≡ b
side_one Low Low e = refl
side_one High High e = refl
side_one a b e = absurd (let same = ap tag e in omega (arith, same))

timer_one : (a b : Timer) → timer_text a ≡ timer_text b → a ≡ b
timer_one Poll Poll e = refl
timer_one Reasm Reasm e = refl
timer_one Prohibit Prohibit e = refl
timer_one a b e = absurd (let same = ap tag e in omega (arith, same))

node_one : (a b : Node) → node_text a ≡ node_text b → a ≡ b
node_one AtRemote AtRemote e = refl
node_one AtRelay AtRelay e = refl
node_one AtGnb AtGnb e = refl
node_one a b e = absurd (let same = ap tag e in omega (arith, same))

size_one : (a b : SnSize) → size_text a ≡ size_text b → a ≡ b
size_one S12 S12 e = refl
size_one S18 S18 e = refl
size_one a b e = absurd (let same = ap tag e in omega (arith, same))

pub setting_one : (a b : SetName) → setting_text a ≡ setting_text b → a ≡ b
setting_one Queue Queue e = refl
setting_one Reports Reports e = refl
setting_one PollPdu PollPdu e = refl
setting_one PollByte PollByte e = refl
setting_one MaxRetx MaxRetx e = refl
setting_one a b e = absurd (let same = ap tag e in omega (arith, same))

value_one : (s : SetName) (w : List ℕ) (m n : ℕ) → IsSpelt w (value_of s m) → IsSpelt w (value_of s n) → m ≡ n
value_one Queue w m n x y = number_one 1 1024 m n w (lit< tt) x y
value_one Reports w m n x y = number_one 0 65536 m n w (lit< tt) x y
value_one PollPdu w m n x y = number_one 0 65536 m n w (lit< tt) x y
value_one PollByte w m n x y = number_one 0 16777216 m n w (lit< tt) x y
value_one MaxRetx w m n x y = number_one 1 255 m n w (lit< tt) x y

-- a dash is no hexadecimal text
dash_is_none : (w bytes : List ℕ) → w ≡ codes "-" → decode_of w ≡ Ok bytes → ⊥
dash_is_none w bytes e f = let g = ap decode_of (sym e) ∙ f in cc

hex_one : (w a b : List ℕ) → IsHex w a → IsHex w b → a ≡ b
hex_one w a b (inl x) (inl y) = x.1 ∙ sym y.1
hex_one w a b (inl x) (inr y) = absurd (dash_is_none w b x.0 y.1)
hex_one w a b (inr x) (inl y) = absurd (dash_is_none w a y.0 x.1)
hex_one w a b (inr x) (inr y) = let e = sym x.1 ∙ y.1 in cc

port_one : (w : List ℕ) (p q : PortName) → IsPort w p → IsPort w q → p ≡ q
port_one w (Direct r d) (Direct s e) x y = let m = remote_one _ r s x.1 y.1 in let n = drb_one _ d e x.2 y.2 in cc
port_one w (Pc5Port r c) (Pc5Port s e) x y = let m = remote_one _ r s x.1 y.1 in let n = chan_one _ c e x.2 y.2 in cc
port_one w (UuPort c) (UuPort e) x y = let n = chan_one _ c e x.1 y.1 in cc
port_one w (Direct r d) (Pc5Port s e) x y = absurd (omega (arith, x.0, y.0))
port_one w (Direct r d) (UuPort e) x y = absurd (omega (arith, x.0, y.0))
port_one w (Pc5Port r d) (Direct s e) x y = absurd (omega (arith, x.0, y.0))
port_one w (Pc5Port r d) (UuPort e) x y = absurd (omega (arith, x.0, y.0))
port_one w (UuPort c) (Direct s e) x y = absurd (omega (arith, x.0, y.0))
port_one w (UuPort c) (Pc5Port s e) x y = absurd (omega (arith, x.0, y.0))

goal_one : (ws : List (List ℕ)) (g h : Goal) → EndsWithGoal ws g → EndsWithGoal ws h → g ≡ h
goal_one ws ToDirect ToDirect x y = refl
goal_one ws (ToRelay a) (ToRelay b) x y = ap (λ (n : ℕ). ToRelay (record { 0 = n })) (number_one 0 255 a.0 b.0 _ (lit< tt) x.1.1.0 y.1.1.0)
goal_one ws ToDirect (ToRelay b) x y = absurd (omega (arith, x.0, y.0))
goal_one ws (ToRelay a) ToDirect x y = absurd (omega (arith, x.0, y.0))

key_one : (u v w : List ℕ) (k l : Key) → IsRemote u k.remote.0 → IsRemote u l.remote.0 → IsDrb v k.drb.0 → IsDrb v l.drb.0 → w ≡ way_text k.way → w ≡ way_text l.way → k ≡ l
key_one u v w k l r s d e a b =
    let remotes = remote_one u k.remote l.remote r s in
    let drbs = drb_one v k.drb l.drb d e in
    let ways = way_one k.way l.way (sym a ∙ b) in
    ap (λ (x : Name). let m : Key = record { remote = x; drb = k.drb; way = k.way } in m) remotes
    ∙ (ap (λ (x : Drb). let m : Key = record { remote = l.remote; drb = x; way = k.way } in m) drbs
    ∙ ap (λ (x : Way). let m : Key = record { remote = l.remote; drb = l.drb; way = x } in m) ways)

-- a number for each form, and the one that a first word has
abbrev pub form : Line → ℕ
form (Version n) = 0
form (Set s v) = 1
form (Remote r) = 2
form (Bearer r d p c) = 3
form (Uu c s) = 4
form (Pc5 r c s) = 5
form (Map r d c u) = 6
form (Start k n) = 7
form (Path r g) = 8
form Go = 9
form (Submit k s) = 10
form (Grant p w n) = 11
form (Deliver t) = 12
form (Repeat t) = 13
form (Lose t) = 14
form (Stage t) = 15
form (Expire p s t) = 16
form (Push p) = 17
form (Pull p) = 18
form Burst = 19
form (Report k) = 20
form (Plan r g) = 21
form (Apply r n) = 22
form Drain = 23
form End = 24

abbrev pub named : List ℕ → ℕ
named w =
    cond (bytes_eq w (codes "relayscript")) 0 (cond (bytes_eq w (codes "set")) 1 (cond (bytes_eq w (codes "remote")) 2 (cond (bytes_eq w (codes "bearer")) 3
    (cond (bytes_eq w (codes "uu")) 4 (cond (bytes_eq w (codes "pc5")) 5 (cond (bytes_eq w (codes "map")) 6 (cond (bytes_eq w (codes "start")) 7
    (cond (bytes_eq w (codes "path")) 8 (cond (bytes_eq w (codes "go")) 9 (cond (bytes_eq w (codes "submit")) 10 (cond (bytes_eq w (codes "grant")) 11
    (cond (bytes_eq w (codes "deliver")) 12 (cond (bytes_eq w (codes "repeat")) 13 (cond (bytes_eq w (codes "lose")) 14 (cond (bytes_eq w (codes "stage")) 15
    (cond (bytes_eq w (codes "expire")) 16 (cond (bytes_eq w (codes "push")) 17 (cond (bytes_eq w (codes "pull")) 18 (cond (bytes_eq w (codes "burst")) 19
    (cond (bytes_eq w (codes "report")) 20 (cond (bytes_eq w (codes "plan")) 21 (cond (bytes_eq w (codes "apply")) 22 (cond (bytes_eq w (codes "drain")) 23 24)))))))))))))))))))))))

pub form_is : (l : Line) → named (name l) ≡ form l
form_is (Version n) = refl
form_is (Set s v) = refl
form_is (Remote r) = refl
form_is (Bearer r d p c) = refl
form_is (Uu c s) = refl
form_is (Pc5 r c s) = refl
form_is (Map r d c u) = refl
form_is (Start k n) = refl
form_is (Path r g) = refl
form_is Go = refl
form_is (Submit k s) = refl
form_is (Grant p w n) = refl
form_is (Deliver t) = refl
form_is (Repeat t) = refl
form_is (Lose t) = refl
form_is (Stage t) = refl
form_is (Expire p s t) = refl
form_is (Push p) = refl
form_is (Pull p) = refl
form_is Burst = refl
form_is (Report k) = refl
form_is (Plan r g) = refl
form_is (Apply r n) = refl
form_is Drain = refl
form_is End = refl

one_form : (ws : List (List ℕ)) (a b : Line) → Spells ws a → Spells ws b → form a ≡ form b
one_form ws a b x y = sym (form_is a) ∙ (ap named (sym x.begins ∙ y.begins) ∙ form_is b)

path_end : (ws : List (List ℕ)) (r : Name) (g : Goal) → Spells ws (Path r g) → EndsWithGoal ws g
path_end ws r g x = (omega (arith, x.count), x.holds.1)

plan_end : (ws : List (List ℕ)) (r : Name) (g : Goal) → Spells ws (Plan r g) → EndsWithGoal ws g
plan_end ws r g x = (omega (arith, x.count), x.holds.1)

set_one : (u v : List ℕ) (s t : SetName) (m n : ℕ) → u ≡ setting_text s → u ≡ setting_text t → IsSpelt v (value_of s m) → IsSpelt v (value_of t n) → Set s m ≡ Set t n
set_one u v s t m n x y h k =
    let names = setting_one s t (sym x ∙ y) in
    let values = value_one t v m n (subst (λ (z : SetName). IsSpelt v (value_of z m)) names h) k in
    ap (λ (z : SetName). Set z m) names ∙ ap (λ (z : ℕ). Set t z) values

pub one_line : (ws : List (List ℕ)) (a b : Line) → Spells ws a → Spells ws b → a ≡ b
one_line ws (Version m) (Version n) x y = ap (λ (k : ℕ). Version k) (number_one 1 1 m n _ (lit< tt) x.holds.0 y.holds.0)
one_line ws (Set s m) (Set t n) x y = set_one _ _ s t m n x.holds.0 y.holds.0 x.holds.1.0 y.holds.1.0
one_line ws (Remote r) (Remote s) x y = ap (λ (v : Name). Remote v) (remote_one _ r s x.holds.0 y.holds.0)
one_line ws (Bearer r d p c) (Bearer s e q b) x y =
    let remotes = remote_one _ r s x.holds.0 y.holds.0 in
    let drbs = drb_one _ d e x.holds.1.0 y.holds.1.0 in
    let ps = size_one p q (sym x.holds.1.1.0 ∙ y.holds.1.1.0) in
    let cs = size_one c b (sym x.holds.1.1.1.0 ∙ y.holds.1.1.1.0) in
    ap (λ (v : Name). Bearer v d p c) remotes ∙ (ap (λ (v : Drb). Bearer s v p c) drbs ∙ (ap (λ (v : SnSize). Bearer s e v c) ps ∙ ap (λ (v : SnSize). Bearer s e q v) cs))
one_line ws (Uu c s) (Uu d t) x y =
    ap (λ (v : Chan). Uu v s) (chan_one _ c d x.holds.0 y.holds.0) ∙ ap (λ (v : SnSize). Uu d v) (size_one s t (sym x.holds.1.0 ∙ y.holds.1.0))
one_line ws (Pc5 r c s) (Pc5 q d t) x y =
    ap (λ (v : Name). Pc5 v c s) (remote_one _ r q x.holds.0 y.holds.0) ∙ (ap (λ (v : Chan). Pc5 q v s) (chan_one _ c d x.holds.1.0 y.holds.1.0) ∙ ap (λ (v : SnSize). Pc5 q d v) (size_one s t (sym x.holds.1.1.0 ∙ y.holds.1.1.0)))
one_line ws (Map r d c u) (Map s e f v) x y =
    ap (λ (n : Name). Map n d c u) (remote_one _ r s x.holds.0 y.holds.0) ∙ (ap (λ (n : Drb). Map s n c u) (drb_one _ d e x.holds.1.0 y.holds.1.0)
    ∙ (ap (λ (n : Chan). Map s e n u) (chan_one _ c f x.holds.1.1.0 y.holds.1.1.0) ∙ ap (λ (n : Chan). Map s e f n) (chan_one _ u v x.holds.1.1.1.0 y.holds.1.1.1.0)))
one_line ws (Start k m) (Start l n) x y =
    ap (λ (v : Key). Start v m) (key_one _ _ _ k l x.holds.0 y.holds.0 x.holds.1.0 y.holds.1.0 x.holds.1.1.0 y.holds.1.1.0)
    ∙ ap (λ (v : ℕ). Start l v) (number_one 0 4294967294 m n _ (lit< tt) x.holds.1.1.1.0 y.holds.1.1.1.0)
one_line ws (Path r g) (Path s h) x y =
    ap (λ (v : Name). Path v g) (remote_one _ r s x.holds.0 y.holds.0) ∙ ap (λ (v : Goal). Path s v) (goal_one ws g h (path_end ws r g x) (path_end ws s h y))
one_line ws Go Go x y = refl
one_line ws (Submit k s) (Submit l t) x y =
    ap (λ (v : Key). Submit v s) (key_one _ _ _ k l x.holds.0 y.holds.0 x.holds.1.0 y.holds.1.0 x.holds.1.1.0 y.holds.1.1.0)
    ∙ ap (λ (v : List ℕ). Submit l v) (hex_one _ s t x.holds.1.1.1.0 y.holds.1.1.1.0)
one_line ws (Grant p v m) (Grant q w n) x y =
    ap (λ (z : PortName). Grant z v m) (port_one (word_at 1 ws) p q x.holds.0 y.holds.0) ∙ (ap (λ (z : Way). Grant q z m) (way_one v w (sym x.holds.1.0 ∙ y.holds.1.0))
    ∙ ap (λ (z : ℕ). Grant q w z) (number_one 1 65535 m n _ (lit< tt) x.holds.1.1.0 y.holds.1.1.0))
one_line ws (Deliver s) (Deliver t) x y = ap (λ (n : ℕ). Deliver n) (ticket_one _ s t x.holds.0 y.holds.0)
one_line ws (Repeat s) (Repeat t) x y = ap (λ (n : ℕ). Repeat n) (ticket_one _ s t x.holds.0 y.holds.0)
one_line ws (Lose s) (Lose t) x y = ap (λ (n : ℕ). Lose n) (ticket_one _ s t x.holds.0 y.holds.0)
one_line ws (Stage s) (Stage t) x y = ap (λ (n : ℕ). Stage n) (ticket_one _ s t x.holds.0 y.holds.0)
one_line ws (Expire p a s) (Expire q b t) x y =
    ap (λ (z : PortName). Expire z a s) (port_one (word_at 1 ws) p q x.holds.0 y.holds.0) ∙ (ap (λ (z : Side). Expire q z s) (side_one a b (sym x.holds.1.0 ∙ y.holds.1.0))
    ∙ ap (λ (z : Timer). Expire q b z) (timer_one s t (sym x.holds.1.1.0 ∙ y.holds.1.1.0)))
one_line ws (Push p) (Push q) x y = ap (λ (z : PortName). Push z) (port_one (word_at 1 ws) p q x.holds.0 y.holds.0)
one_line ws (Pull p) (Pull q) x y = ap (λ (z : PortName). Pull z) (port_one (word_at 1 ws) p q x.holds.0 y.holds.0)
one_line ws Burst Burst x y = refl
one_line ws (Report k) (Report l) x y = ap (λ (v : Key). Report v) (key_one _ _ _ k l x.holds.0 y.holds.0 x.holds.1.0 y.holds.1.0 x.holds.1.1.0 y.holds.1.1.0)
one_line ws (Plan r g) (Plan s h) x y =
    ap (λ (v : Name). Plan v g) (remote_one _ r s x.holds.0 y.holds.0) ∙ ap (λ (v : Goal). Plan s v) (goal_one ws g h (plan_end ws r g x) (plan_end ws s h y))
one_line ws (Apply r m) (Apply s n) x y =
    ap (λ (v : Name). Apply v m) (remote_one _ r s x.holds.0 y.holds.0) ∙ ap (λ (v : Node). Apply s v) (node_one m n (sym x.holds.1.0 ∙ y.holds.1.0))
one_line ws Drain Drain x y = refl
one_line ws End End x y = refl
one_line ws a b x y = absurd (let same = one_form ws a b x y in omega (arith, same))
