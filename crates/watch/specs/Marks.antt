-- The clock watch by what it remembers.
use Rattle.std.specs.Prelude.{ℕ, cond, List, [], ◌∷◌, Some, None, Option}
use Rattle.model.specs.declared.entry.Entry.{Entry}
use Rattle.model.specs.Entries.{row_of}
use Rattle.model.specs.Packet.{pid, pcr}
use Rattle.model.specs.Runs.{Placed}
use Rattle.model.specs.Watches.{Finding}
use Rattle.model.specs.Clock.{carries_pcr, last_pcr, later, judged}
use Rattle.watch.specs.declared.mark.Mark.{Mark}
use Rattle.watch.specs.Tables.{at}

-- what is remembered of a packet
abbrev pub mark_of : Placed → Mark
mark_of x = record { place = x.place; value = pcr x.bytes }

-- a packet that stands for a mark: at its place, with its clock value and nothing else
abbrev pub placed_of : Mark → Placed
placed_of m = record { place = m.place; bytes = 0 ∷ 0 ∷ 0 ∷ 0 ∷ 0 ∷ 0 ∷ 0 ∷ 0 ∷ 0 ∷ 0 ∷ 0 ∷ m.value ∷ [] }

abbrev pub recalled : Option Mark → Option Placed
recalled None = None
recalled (Some m) = Some (placed_of m)

-- what is found, remembering these marks
abbrev pub clock_from : List Entry → ℕ → List (Option Mark) → Finding
clock_from es r marks xs x =
    let q = pid x.bytes in
    cond (carries_pcr es q x) (judged r (later (last_pcr es q xs) (recalled (at marks None (row_of es q)))) x) None
