-- Worked runs of the steps: one remote with one bearer.
use Rattle.std.specs.Prelude.{◌≡◌, true, false, [], ◌∷◌}
use Rattle.link_base.specs.declared.names.SnSize.TheVariants.{S12}
use Rattle.link_base.specs.declared.names.Remote.{Remote}
use Rattle.link_base.specs.declared.names.Goal.{Goal}
use Rattle.link_base.specs.declared.names.Goal.TheVariants.{Direct as ToDirect, Relay as ToRelay}
use Rattle.link_base.specs.declared.names.Key.{Key}
use Rattle.link_base.specs.declared.names.PortName.{PortName}
use Rattle.link_base.specs.declared.names.PortName.TheVariants.{Direct, Pc5, Uu}
use Rattle.link_base.specs.declared.names.Side.TheVariants.{High}
use Rattle.link_base.specs.declared.names.Timer.TheVariants.{Reasm, Prohibit}
use Rattle.link_base.specs.declared.names.Way.TheVariants.{Ul, Dl}
use Rattle.bearer_map.specs.Contents.{Contents, nothing}
use Rattle.script_text.specs.declared.line.Line.TheVariants.{Submit, Grant, Deliver, Lose, Expire, Push, Pull, Report, Plan as PlanLine, Apply}
use Rattle.script_text.specs.declared.event.Event.TheVariants.{Up, Conf, Rep}
use Rattle.script_text.specs.declared.reply.Reply.TheVariants.{Ok, OkNumber, OkPort, OkSlot, OkUp, OkWaiting, OkReport, OkAcks, Air}
use Rattle.link_base.specs.declared.names.Node.TheVariants as kinds
use Rattle.node_model.specs.Names.{key_of, back}
use Rattle.chain_model.specs.State.{Chain, opened, sender_at}
use Rattle.chain_model.specs.Steps.{Step}

-- the remote
abbrev pub remote : Remote
remote = record { 0 = 1 }

-- its bearer uplink
abbrev pub key : Key
key = key_of remote (record { 0 = 1 }) Ul

-- the first port on its way over the relay
abbrev pub pc5 : PortName
pc5 = Pc5 remote (record { 0 = 1 })

-- the second one
abbrev pub uu : PortName
uu = Uu (record { 0 = 1 })

-- the bearer's direct port
abbrev pub direct : PortName
direct = Direct remote (record { 0 = 1 })

-- the tables, where the remote begins on this path: all SNs have 12 bits
abbrev pub tables_on : Goal → Contents
tables_on goal = record nothing {
  remotes = record { remote = remote; goal = goal } ∷ [];
  bearers = record { remote = remote; drb = record { 0 = 1 }; pdcp = S12; direct = S12; first_ul = 0; first_dl = 0 } ∷ [];
  uus = record { chan = record { 0 = 1 }; size = S12 } ∷ [];
  pc5s = record { remote = remote; chan = record { 0 = 1 }; size = S12 } ∷ [];
  maps = record { remote = remote; drb = record { 0 = 1 }; pc5 = record { 0 = 1 }; uu = record { 0 = 1 } } ∷ [];
  paths = remote ∷ [];
}

-- the same where it begins on the relay path, with the local identity 5
abbrev pub tables : Contents
tables = tables_on (ToRelay (record { 0 = 5 }))

-- an SDU goes from the remote's first hop into the slot of the relay's PC5 port
abbrev pub SduInSlot : Chain → Type 0
SduInSlot c3 = (c1 : Chain) × (c2 : Chain)
    × Step (opened tables) (Submit key (104 ∷ 105 ∷ [])) [] (OkNumber 0) c1
    × Step c1 (Grant pc5 Ul 100) [] (Air 1 false 0 (192 ∷ 0 ∷ 128 ∷ 5 ∷ 128 ∷ 0 ∷ 104 ∷ 105 ∷ [])) c2
    × Step c2 (Deliver 1) [] (OkSlot uu) c3

-- it goes on into the queue of the Uu port, and over the Uu hop to the gNB, which hands it up
abbrev pub SduGoesUp : Chain → Chain → Type 0
SduGoesUp c3 c7 = (c4 : Chain) × (c5 : Chain) × (c6 : Chain)
    × Step c3 (Push pc5) [] (OkPort uu) c4
    × Step c4 (Pull uu) [] (OkNumber 0) c5
    × Step c5 (Grant uu Ul 100) [] (Air 2 false 0 (192 ∷ 0 ∷ 128 ∷ 5 ∷ 128 ∷ 0 ∷ 104 ∷ 105 ∷ [])) c6
    × Step c6 (Deliver 2) (Up key (104 ∷ 105 ∷ []) ∷ []) (OkUp 1) c7

-- then a status report about it is wanted at the gNB, and goes the other way, behind the STATUS PDUs that each hop's poll asked for; with it the SDU is
-- confirmed
abbrev pub ReportGoesBack : Chain → Type 0
ReportGoesBack c7 = (c8 : Chain) × (c9 : Chain) × (c10 : Chain) × (c11 : Chain) × (c12 : Chain) × (c13 : Chain) × (c14 : Chain) × (c15 : Chain) × (c16 : Chain)
    × Step c7 (Report key) (Rep key ∷ []) Ok c8
    × Step c8 (Grant uu Dl 100) [] (Air 3 true 1 (0 ∷ 1 ∷ 0 ∷ [])) c9
    × Step c9 (Grant uu Dl 100) [] (Air 4 false 0 (192 ∷ 0 ∷ 128 ∷ 5 ∷ 0 ∷ 0 ∷ 0 ∷ 0 ∷ 1 ∷ [])) c10
    × Step c10 (Deliver 4) [] (OkSlot pc5) c11
    × Step c11 (Push uu) [] (OkPort pc5) c12
    × Step c12 (Pull pc5) [] (OkNumber 0) c13
    × Step c13 (Grant pc5 Dl 100) [] (Air 5 true 1 (0 ∷ 1 ∷ 0 ∷ [])) c14
    × Step c14 (Grant pc5 Dl 100) [] (Air 6 false 0 (192 ∷ 0 ∷ 128 ∷ 5 ∷ 0 ∷ 0 ∷ 0 ∷ 0 ∷ 1 ∷ [])) c15
    × Step c15 (Deliver 6) (Conf key 1 ∷ []) OkReport c16

-- one behind the other
abbrev pub GoesOverRelay : Type 0
GoesOverRelay = (c3 : Chain) × (c7 : Chain) × SduInSlot c3 × SduGoesUp c3 c7 × ReportGoesBack c7

-- while the SDU is in the slot of the relay the remote is switched to its direct path: the remote and the gNB apply the plan, and the relay, which
-- drops the SDU. With that the plan is closed, and both ends report. The report of the gNB, that it has heard nothing, goes over the direct port;
-- with it the remote's sender goes on, and gives the SDU again
abbrev pub SwitchesPath : Type 0
SwitchesPath = (c3 : Chain) × SduInSlot c3 × (p1 : Chain) × (p2 : Chain) × (p3 : Chain) × (p4 : Chain) × (p5 : Chain) × (p6 : Chain)
    × Step c3 (PlanLine remote ToDirect) [] (OkNumber 1) p1
    × Step p1 (Apply remote kinds.Remote) [] Ok p2
    × Step p2 (Apply remote kinds.Gnb) [] Ok p3
    × Step p3 (Apply remote kinds.Relay) (Rep key ∷ Rep (back key) ∷ []) (OkNumber 1) p4
    × Step p4 (Grant direct Dl 100) [] (Air 2 false 0 (192 ∷ 0 ∷ 0 ∷ 0 ∷ 0 ∷ 0 ∷ 0 ∷ [])) p5
    × Step p5 (Deliver 2) [] OkReport p6
    × ((sender_at p6 key).place ≡ 1)

-- on the direct path an SDU goes to the gNB, which hands it up; the STATUS PDU that its poll asked for confirms it
abbrev pub SduGoesUpDirect : Chain → Type 0
SduGoesUpDirect d5 = (d1 : Chain) × (d2 : Chain) × (d3 : Chain) × (d4 : Chain)
    × Step (opened (tables_on ToDirect)) (Submit key (104 ∷ 105 ∷ [])) [] (OkNumber 0) d1
    × Step d1 (Grant direct Ul 100) [] (Air 1 false 0 (192 ∷ 0 ∷ 128 ∷ 0 ∷ 104 ∷ 105 ∷ [])) d2
    × Step d2 (Deliver 1) (Up key (104 ∷ 105 ∷ []) ∷ []) (OkUp 1) d3
    × Step d3 (Grant direct Dl 100) [] (Air 2 true 1 (0 ∷ 1 ∷ 0 ∷ [])) d4
    × Step d4 (Deliver 2) (Conf key 1 ∷ []) (OkAcks 1) d5

-- of two more SDUs the first is lost, and the second waits for it. The poll of the second is delayed, since t-Reassembly runs
abbrev pub SduIsLost : Chain → Chain → Type 0
SduIsLost d5 d11 = (d6 : Chain) × (d7 : Chain) × (d8 : Chain) × (d9 : Chain) × (d10 : Chain)
    × Step d5 (Submit key (97 ∷ [])) [] (OkNumber 1) d6
    × Step d6 (Submit key (98 ∷ [])) [] (OkNumber 2) d7
    × Step d7 (Grant direct Ul 100) [] (Air 3 false 1 (128 ∷ 1 ∷ 128 ∷ 1 ∷ 97 ∷ [])) d8
    × Step d8 (Grant direct Ul 100) [] (Air 4 false 2 (192 ∷ 2 ∷ 128 ∷ 2 ∷ 98 ∷ [])) d9
    × Step d9 (Lose 3) [] Ok d10
    × Step d10 (Deliver 4) [] OkWaiting d11

-- both timers of the gNB's receiver run out. Its STATUS PDU names number 1, which is sent again; with it both SDUs are handed up
abbrev pub SduIsSentAgain : Chain → Type 0
SduIsSentAgain d11 = (d12 : Chain) × (d13 : Chain) × (d14 : Chain) × (d15 : Chain) × (d16 : Chain) × (d17 : Chain)
    × Step d11 (Expire direct High Prohibit) [] Ok d12
    × Step d12 (Expire direct High Reasm) [] Ok d13
    × Step d13 (Grant direct Dl 100) [] (Air 5 true 3 (0 ∷ 3 ∷ 128 ∷ 0 ∷ 16 ∷ [])) d14
    × Step d14 (Deliver 5) [] (OkAcks 1) d15
    × Step d15 (Grant direct Ul 100) [] (Air 6 false 1 (192 ∷ 1 ∷ 128 ∷ 1 ∷ 97 ∷ [])) d16
    × Step d16 (Deliver 6) (Up key (97 ∷ []) ∷ Up key (98 ∷ []) ∷ []) (OkUp 2) d17

-- one behind the other
abbrev pub GoesDirect : Type 0
GoesDirect = (d5 : Chain) × (d11 : Chain) × SduGoesUpDirect d5 × SduIsLost d5 d11 × SduIsSentAgain d11
