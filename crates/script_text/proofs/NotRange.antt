-- A line that is spelt has its numbers in their ranges, so the tables don't refuse it for a range.
use Rattle.std.proofs.Common.{◌≡◌, ℕ, Bool, true, false, cond, List, Result, Ok, Err, refl, not}
use Rattle.std.specs.Prelude.{◌&&◌}
use Rattle.std.proofs.lemmas.Bool.{le-leb}
use Rattle.link_base.specs.declared.names.SnSize.{SnSize}
use Rattle.link_base.specs.declared.names.SnSize.TheVariants.{S12, S18}
use Rattle.bearer_map.specs.declared.settings.SetName.{SetName}
use Rattle.bearer_map.specs.declared.settings.SetName.TheVariants.{Queue, Report as Reports, PollPdu, PollByte, MaxRetx}
use Rattle.bearer_map.specs.declared.rows.TableFault.{TableFault}
use Rattle.bearer_map.specs.declared.rows.TableFault.TheVariants.{Range, Twice, Unknown, Limit, NoMap}
use Rattle.bearer_map.specs.Contents.{Contents}
use Rattle.bearer_map.specs.Settings.{is_within, is_setting}
use Rattle.bearer_map.specs.Lines.{is_size}
use Rattle.script_text.specs.Words.{IsNumber}
use Rattle.script_text.specs.Fields.{IsSpelt}
use Rattle.script_text.specs.Lines.{Spells, value_of}
use Rattle.script_text.specs.Stages.{table_line, sn_bits}
use Rattle.script_text.specs.declared.line.Line.{Line}
use Rattle.script_text.specs.declared.line.Line.TheVariants.{Set, Remote, Bearer, Uu, Pc5, Map, Start, Path, Go}

abbrev Answer : Type 0
Answer = Result Contents TableFault

both : (a b : Bool) → a ≡ true → b ≡ true → (a && b) ≡ true
both true b x y = y
both false b x y = x

within : (low high n : ℕ) (w : List ℕ) → IsNumber low high w n → is_within low high n ≡ true
within low high n w x = both _ _ (le-leb low n x.1) (le-leb n high x.2)

sized : (s : SnSize) → is_size (sn_bits s) ≡ true
sized S12 = refl
sized S18 = refl

-- where the test of ranges holds, the rest decides
passed : (a : Bool) (rest : Answer) → a ≡ true → (rest ≡ Err Range → ⊥) → cond (not a) (Err Range) rest ≡ Err Range → ⊥
passed true rest x none e = none e
passed false rest x none e = absurd cc

-- the refusals behind the ranges
no_more : (t : Contents) → (let r : Answer = Ok t in r) ≡ Err Range → ⊥
no_more t e = absurd cc

once : (a : Bool) (fault : TableFault) (rest : Answer) → ((let r : Answer = Err fault in r) ≡ Err Range → ⊥) → (rest ≡ Err Range → ⊥) → cond a (Err fault) rest ≡ Err Range → ⊥
once true fault rest here none e = here e
once false fault rest here none e = none e

not_twice : (let r : Answer = Err Twice in r) ≡ Err Range → ⊥
not_twice e = absurd cc

not_unknown : (let r : Answer = Err Unknown in r) ≡ Err Range → ⊥
not_unknown e = absurd cc

not_limit : (let r : Answer = Err Limit in r) ≡ Err Range → ⊥
not_limit e = absurd cc

set_within : (s : SetName) (n : ℕ) (w : List ℕ) → IsSpelt w (value_of s n) → is_setting s n ≡ true
set_within Queue n w x = within 1 1024 n w x
set_within Reports n w x = le-leb n 65536 x.2
set_within PollPdu n w x = le-leb n 65536 x.2
set_within PollByte n w x = le-leb n 16777216 x.2
set_within MaxRetx n w x = within 1 255 n w x

map_go : (a : Bool) (t : Contents) → (let r : Answer = cond a (Ok t) (Err NoMap) in r) ≡ Err Range → ⊥
map_go true t e = absurd cc
map_go false t e = absurd cc

pub not_range : (t : Contents) (ws : List (List ℕ)) (line : Line) → Spells ws line → table_line t line ≡ Err Range → ⊥
not_range t ws (Set s n) x = passed _ _ (set_within s n _ x.holds.1.0) (once _ Twice _ not_twice (no_more _))
not_range t ws (Remote r) x = passed _ _ (within 1 65535 r.0 _ x.holds.0) (once _ Twice _ not_twice (once _ Limit _ not_limit (no_more _)))
not_range t ws (Bearer r d p c) x =
    passed _ _ (both _ _ (both _ _ (both _ _ (within 1 65535 r.0 _ x.holds.0) (within 1 32 d.0 _ x.holds.1.0)) (sized p)) (sized c))
    (once _ Twice _ not_twice (once _ Unknown _ not_unknown (once _ Limit _ not_limit (no_more _))))
not_range t ws (Uu c s) x = passed _ _ (both _ _ (within 1 8 c.0 _ x.holds.0) (sized s)) (once _ Twice _ not_twice (no_more _))
not_range t ws (Pc5 r c s) x =
    passed _ _ (both _ _ (both _ _ (within 1 65535 r.0 _ x.holds.0) (within 1 8 c.0 _ x.holds.1.0)) (sized s)) (once _ Twice _ not_twice (once _ Unknown _ not_unknown (no_more _)))
not_range t ws (Map r d c u) x =
    passed _ _ (both _ _ (both _ _ (both _ _ (within 1 65535 r.0 _ x.holds.0) (within 1 32 d.0 _ x.holds.1.0)) (within 1 8 c.0 _ x.holds.1.1.0)) (within 1 8 u.0 _ x.holds.1.1.1.0))
    (once _ Twice _ not_twice (once _ Unknown _ not_unknown (no_more _)))
not_range t ws (Start k n) x =
    passed _ _ (both _ _ (both _ _ (within 1 65535 k.remote.0 _ x.holds.0) (within 1 32 k.drb.0 _ x.holds.1.0)) (le-leb n 4294967294 x.holds.1.1.1.0.2))
    (once _ Twice _ not_twice (once _ Unknown _ not_unknown (no_more _)))
not_range t ws (Path r g) x = passed _ _ (within 1 65535 r.0 _ x.holds.0) (once _ Twice _ not_twice (once _ Unknown _ not_unknown (no_more _)))
not_range t ws Go x = map_go _ t
not_range t ws line x = no_more t
