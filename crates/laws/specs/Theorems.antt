-- The theorems that functions of src/theorems.rt promise.
use Rattle.std.specs.Prelude.{◌≡◌, ℕ, ◌+◌, ◌*◌, ◌/◌, ◌%◌, ◌<◌, true, List, length, None}
use Rattle.model.specs.declared.entry.Entry.{Entry}
use Rattle.model.specs.Packet.{Bytes, byte, pid, payload_unit_start, has_payload, continuity_counter, has_pcr, pcr, payload_place, payload}
use Rattle.model.specs.Form.{form}
use Rattle.model.specs.Stamps.{has_pts, has_dts, stamp}
use Rattle.model.specs.Moves.{moved, moves, stampable, W, stamps}
use Rattle.model.specs.Runs.{Packets, same, run, past}
use Rattle.model.specs.Watches.{Whole, Finding, RoundLaw, basic, bank, stamps_finding}
use Rattle.model.specs.Clock.{clock_finding}
use Rattle.model.specs.Sections.{sections_finding}
use Rattle.model.specs.Breaches.{verdict, Decides}

-- a packet: 188 bytes
pub record Sized (p : Bytes) : Type 0 where
  pub long : length p ≡ 188
  pub small : (i : ℕ) → i < 188 → byte p i < 256

-- a move keeps the form, the flags and whether rule 30 is obeyed; counters, clocks, stamps and copies move as they should
pub record MoveLaws (es : List Entry) (c t : ℕ) (p : Bytes) : Type 0 where
  pub sized : Sized (moved es c t p)
  pub same_form : form es (moved es c t p) ≡ form es p
  pub same_pid : pid (moved es c t p) ≡ pid p
  pub same_start : payload_unit_start (moved es c t p) ≡ payload_unit_start p
  pub same_payload_flag : has_payload (moved es c t p) ≡ has_payload p
  pub same_pcr_flag : has_pcr (moved es c t p) ≡ has_pcr p
  pub same_place : payload_place (moved es c t p) ≡ payload_place p
  pub same_stampable : stampable es (moved es c t p) ≡ stampable es p
  pub new_continuity_counter : moves es p ≡ true → continuity_counter (moved es c t p) ≡ (continuity_counter p + c) % 16
  pub new_clock : moves es p ≡ true → has_pcr p ≡ true → pcr (moved es c t p) ≡ (pcr p + t) % W
  pub new_pts : moves es p ≡ true → stampable es p ≡ true → has_pts (payload p) ≡ true → stamp (payload (moved es c t p)) 9 ≡ (stamp (payload p) 9 + t / 300) % stamps
  pub new_dts : moves es p ≡ true → stampable es p ≡ true → has_dts (payload p) ≡ true → stamp (payload (moved es c t p)) 14 ≡ (stamp (payload p) 14 + t / 300) % stamps
  pub copies : (q : Bytes) → Sized q → same (moved es c t p) (moved es c t q) ≡ same p q
  pub twice : (d v : ℕ) → moved es d v (moved es c t p) ≡ moved es (c + d) (t + v) p

abbrev pub MovesLawfully : Type 0
MovesLawfully = (es : List Entry) (c t : ℕ) → t % 300 ≡ 0 → (p : Bytes) → Sized p → MoveLaws es c t p

-- where rounds 0 and 1 break no rule of form or continuity, no round does
abbrev pub ContinuesForever : Type 0
ContinuesForever = (es : List Entry) (T : ℕ) → T % 300 ≡ 0 → (ps : Packets) → Whole ps →
    ((k : ℕ) → k < 2 * length ps → basic es (past es T ps k) (run es T ps k) ≡ None) → (k : ℕ) → basic es (past es T ps k) (run es T ps k) ≡ None

-- the three watches keep the round law, and so does a bank of two that do
abbrev pub StampsKeep : Type 0
StampsKeep = (es : List Entry) (T : ℕ) → T % 300 ≡ 0 → RoundLaw es T (stamps_finding es)

abbrev pub ClockKeeps : Type 0
ClockKeeps = (es : List Entry) (T rate : ℕ) → T % 300 ≡ 0 → RoundLaw es T (clock_finding es rate)

abbrev pub SectionsKeep : Type 0
SectionsKeep = (es : List Entry) (T : ℕ) → T % 300 ≡ 0 → RoundLaw es T (sections_finding es)

abbrev pub BankKeeps : Type 0
BankKeeps = (es : List Entry) (T : ℕ) (f g : Finding) → RoundLaw es T f → RoundLaw es T g → RoundLaw es T (bank f g)

-- the check of two rounds decides every number of rounds
abbrev pub CheckDecides : Type 0
CheckDecides = (es : List Entry) (T : ℕ) → T % 300 ≡ 0 → (f : Finding) → RoundLaw es T f → (ps : Packets) → Whole ps → Decides es T f ps (verdict es T f ps)
