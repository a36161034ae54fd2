-- A player by its fields.
use Rattle.std.specs.Prelude.{◌≡◌, ℕ, ◌-◌, List, [], length, replicate, Some, None, Ok, Err, Option, Result, slice_index_or}
use Rattle.model.specs.declared.entry.Entry.{Entry}
use Rattle.model.specs.Packet.{Bytes}
use Rattle.model.specs.Runs.{Packets}
use Rattle.model.specs.Breaches.{Breach}
use Rattle.model.specs.Sheets.{entries_of, round_of}
use Rattle.model.specs.Player as rules
use Rattle.model.specs.Player.{Standing}
use Rattle.verdict.specs.declared.verdict.Breach.{Breach as Named}
use Rattle.player.specs.declared.progress.player.Player.{Player}
use Rattle.player.specs.Standings.{Checked, approved_in, standing_at}
use Rattle.verdict.specs.Tallies.{round_stamped}
use Rattle.verdict.specs.Ledgers.{Tallied}
use Rattle.verdict.specs.Verdicts.{breach_of}

module _ {S W : Type 0} where
  abbrev pub standing_of : Player S W → Standing
  standing_of p = standing_at (approved_in p.seen) p.progress

  -- the refusal that a call meets, by what the reel means
  abbrev pub refused_by : (S → Packets) → Player S W → rules.Call → Option ℕ
  refused_by packets p c = rules.refusal p.unit (length (packets p.reel)) (standing_of p) c

  -- all but the progress
  pub record Same (p q : Player S W) : Type 0 where
    pub reel : q.reel ≡ p.reel
    pub watch : q.watch ≡ p.watch
    pub sheet : q.sheet ≡ p.sheet
    pub unit : q.unit ≡ p.unit
    pub seen : q.seen ≡ p.seen

abbrev pub tallies_in : Option Checked → List ℕ
tallies_in None = replicate 16 0
tallies_in (Some (Ok ts)) = ts
tallies_in (Some (Err b)) = replicate 16 0

-- the packet that an accepted send writes
abbrev pub sent_packet : {S W : Type 0} → Player S W → Packets → Bytes
sent_packet p ps = round_stamped (entries_of p.sheet) (round_of p.sheet) (tallies_in p.seen) (p.progress.begun - 1) (slice_index_or ps p.progress.place [])

-- what a check answers: the verdict of the first one
abbrev pub checked_by : Option Checked → Option Breach → Option Breach
checked_by None v = v
checked_by (Some c) v = breach_of c

-- a check without its tallies
abbrev pub verdict_of : Checked → Result (Unit {0}) Named
verdict_of (Ok ts) = Ok tt
verdict_of (Err b) = Err b

-- what is noted of a check
pub record Noted (es : List Entry) (ps : Packets) (before : Option Checked) (v : Result (Unit {0}) Named) (after : Option Checked) : Type 0 where
  pub again : (c : Checked) → before ≡ Some c → after ≡ before
  pub made : (c : Checked) × ((after ≡ Some c) × (verdict_of c ≡ v))
  pub tallied : before ≡ None → v ≡ Ok tt → Tallied es ps (tallies_in after)
