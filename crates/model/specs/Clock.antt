-- The clock watch, rules 26 and 27.
use Rattle.std.specs.Prelude.{ℕ, ◌+◌, ◌-◌, ◌*◌, ◌%◌, Bool, cond, not, ◌&&◌, ◌||◌, List, [], ◌∷◌, Some, None, Option, ◌==◌, nat_le, nat_lt}
use Rattle.model.specs.declared.entry.Entry.{Entry}
use Rattle.model.specs.Entries.{kind_of, is_clock}
use Rattle.model.specs.Packet.{pid, has_pcr, pcr}
use Rattle.model.specs.Form.{sound}
use Rattle.model.specs.Moves.{W}
use Rattle.model.specs.Runs.{Placed}
use Rattle.model.specs.Watches.{Finding}
use Rattle.model.specs.Tests.{first_broken}

-- whether x carries a clock value of PID q
abbrev pub carries_pcr : List Entry → ℕ → Placed → Bool
carries_pcr es q x = sound es x.bytes && (is_clock (kind_of es q) && (pid x.bytes == q && has_pcr x.bytes))

abbrev pub later : Option Placed → Option Placed → Option Placed
later None y = y
later (Some x) y = Some x

-- the last of xs that carries a clock value of PID q
abbrev pub last_pcr : List Entry → ℕ → List Placed → Option Placed
last_pcr es q [] = None
last_pcr es q (x ∷ xs) = later (last_pcr es q xs) (cond (carries_pcr es q x) (Some x) None)

-- from the clock value at y to the one at x, in ticks, and from y to x in bytes
abbrev pub elapsed : Placed → Placed → ℕ
elapsed y x = (pcr x.bytes + W - pcr y.bytes) % W

abbrev pub distance : Placed → Placed → ℕ
distance y x = 188 * (x.place - y.place)

abbrev pub too_far : Placed → Placed → Bool
too_far y x = nat_lt 2700000 (elapsed y x) || not (nat_lt y.place x.place && nat_le x.place (y.place + 10000))

abbrev pub off_rate : ℕ → Placed → Placed → Bool
off_rate r y x =
    let D = elapsed y x in
    let d = distance y x in
    not (nat_le ((d - 1) * 2700000000000) (r * (100003 * D + 2700000))
    && nat_le (r * (99997 * D)) ((d + 1) * 2700000000000 + r * 2700000))

abbrev pub judged : ℕ → Option Placed → Placed → Option ℕ
judged r None x = None
judged r (Some y) x = first_broken ((26, too_far y x) ∷ (27, off_rate r y x) ∷ [])

abbrev pub clock_finding : List Entry → ℕ → Finding
clock_finding es r xs x = cond (carries_pcr es (pid x.bytes) x) (judged r (last_pcr es (pid x.bytes) xs) x) None
