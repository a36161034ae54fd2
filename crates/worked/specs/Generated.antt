-- What the definitions say of the generated reels.
use Rattle.std.specs.Prelude.{◌≡◌, ◌-◌, ◌*◌, map, length, Option}
use Rattle.model.specs.Breaches.{Breach, verdict}
use Rattle.model.specs.House.{house}
use Rattle.model.specs.Packet.{Bytes}
use Rattle.model.specs.Runs.{run}
use Rattle.worked.specs.Reels.{Case, cases}

-- the check's answer, and the last packet of round 3
abbrev judged : Case → Option Breach
judged c = verdict c.entries c.round (house c.entries c.rate) c.packets

abbrev played : Case → Bytes
played c = run c.entries c.round c.packets (4 * length c.packets - 1)

pub record Generated : Type 0 where
  pub answers : map judged cases ≡ map (λ c. c.answer) cases
  pub packets : map played cases ≡ map (λ c. c.last) cases
