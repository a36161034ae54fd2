-- Worked cases: packets written out, and what the definitions say of them.
use Rattle.std.specs.Prelude.{◌≡◌, ℕ, ◌+◌, ◌-◌, ◌*◌, ◌/◌, ◌%◌, ◌^◌, List, [], ◌∷◌, ◌++◌, map, length, take, drop, replicate, Some, None, Option}
use Rattle.model.specs.declared.entry.Entry.{Entry}
use Rattle.model.specs.declared.entry.Kind.{Kind}
use Rattle.model.specs.declared.entry.Kind.TheVariants.{Pes, Sections, Clock}
use Rattle.model.specs.Breaches.{Breach, verdict}
use Rattle.model.specs.Clock.{judged}
use Rattle.model.specs.Form.{form}
use Rattle.model.specs.House.{house}
use Rattle.model.specs.Moves.{moved}
use Rattle.model.specs.Packet.{Bytes, pcr, payload, continuity_counter}
use Rattle.model.specs.Reels.{filler_packet}
use Rattle.model.specs.Runs.{Packets, run, tally}
use Rattle.model.specs.Stamps.{stamp}

-- a sheet of one PID, 256
abbrev pub only : Kind → List Entry
only k = record { pid = 256; kind = k } ∷ []

-- the check of packets of that PID at 188,000 bytes for each second
abbrev pub checked : Kind → ℕ → Packets → Option Breach
checked k T ps = verdict (only k) T (house (only k) 188000) ps

abbrev pub broken : ℕ → ℕ → ℕ → Option Breach
broken round packet rule = Some (record { round = round; packet = packet; rule = rule })

-- Clock values and stamps.

-- a packet with a clock value of this base and extension, and no payload
abbrev pub clock_packet : ℕ → ℕ → Bytes
clock_packet base extension =
    0x47 ∷ 1 ∷ 0 ∷ 0x20 ∷ 183 ∷ 0x10
    ∷ base / 2 ^ 25 ∷ base / 2 ^ 17 % 256 ∷ base / 2 ^ 9 % 256 ∷ base / 2 % 256 ∷ (base % 2 * 128 + 126 + extension / 256) ∷ extension % 256
    ∷ replicate 176 255

-- with the last value of the clock
abbrev pub last_clock : Bytes
last_clock = clock_packet (2 ^ 33 - 1) 299

-- a packet that begins a PES packet with the last value of a PTS
abbrev pub last_stamp : Bytes
last_stamp =
    0x47 ∷ 0x41 ∷ 0 ∷ 0x10
    ∷ 0 ∷ 0 ∷ 1 ∷ 0xE0 ∷ 0 ∷ 0 ∷ 0x80 ∷ 0x80 ∷ 5
    ∷ 0x2F ∷ 255 ∷ 255 ∷ 255 ∷ 255 ∷ replicate 170 7

-- what rules 26 and 27 say at 188,000 bytes for each second of a clock value D ticks and two packets after the one before
abbrev pub after_two : ℕ → Option ℕ
after_two D = judged 188000 (Some (record { place = 7; bytes = clock_packet 0 0 })) (record { place = 9; bytes = clock_packet (D / 300) (D % 300) })

-- Adaptation fields.

-- a packet of stuffing with this fourth byte and this adaptation_field_length
abbrev pub stuffed : ℕ → ℕ → Bytes
stuffed control length = 0x47 ∷ 1 ∷ 0 ∷ control ∷ length ∷ 0 ∷ replicate 182 255

-- Counters.

-- a packet of this counter, with a payload and without
abbrev pub counted : ℕ → Bytes
counted c = 0x47 ∷ 1 ∷ 0 ∷ (0x10 + c) ∷ replicate 184 7

abbrev pub empty : ℕ → Bytes
empty c = stuffed (0x20 + c) 183

-- Sections.

-- a section of this section_length, which ends with these four bytes of CRC_32
abbrev pub section : ℕ → Bytes → Bytes
section n crc = 0x42 ∷ (0xB0 + n / 256) ∷ n % 256 ∷ (replicate (n - 4) 0x5A ++ crc)

-- the packet of this counter that starts a section, and one that goes on
abbrev pub starts : Bytes → Bytes
starts s = take 188 (0x47 ∷ 0x41 ∷ 0 ∷ 0x10 ∷ 0 ∷ (s ++ replicate 183 255))

abbrev pub goes_on : ℕ → Bytes → Bytes
goes_on c s = take 188 (0x47 ∷ 1 ∷ 0 ∷ (0x10 + c) ∷ (s ++ replicate 184 255))

-- a reel of a section of up to 184 bytes, and one of up to 1,104
abbrev pub short : Bytes → Packets
short s = starts s ∷ []

abbrev pub long : Bytes → Packets
long s = starts s ∷ goes_on 1 (drop 183 s) ∷ goes_on 2 (drop 367 s) ∷ goes_on 3 (drop 551 s) ∷ goes_on 4 (drop 735 s) ∷ goes_on 5 (drop 919 s) ∷ []

-- A looped clock.

-- two packets, with a clock value in the first only
abbrev pub two_packets : Packets
two_packets = clock_packet 0 0 ∷ filler_packet ∷ []

pub record Worked : Type 0 where
  pub last_clock_lem : pcr last_clock ≡ 300 * 2 ^ 33 - 1
  pub clock_wraps : pcr (moved (only Clock) 0 300 last_clock) ≡ 299
  pub last_stamp_lem : stamp (payload last_stamp) 9 ≡ 2 ^ 33 - 1
  pub stamp_wraps : stamp (payload (moved (only Pes) 0 300 last_stamp)) 9 ≡ 0
  pub slowest : after_two 54172 ≡ None
  pub too_slow : after_two 54173 ≡ Some 27
  pub fastest : after_two 53828 ≡ None
  pub too_fast : after_two 53827 ≡ Some 27
  pub length_182_with_payload : form (only Clock) (stuffed 0x30 182) ≡ None
  pub length_182_alone : form (only Clock) (stuffed 0x20 182) ≡ Some 23
  pub length_183_alone : form (only Clock) (stuffed 0x20 183) ≡ None
  pub length_183_with_payload : form (only Clock) (stuffed 0x30 183) ≡ Some 23
  pub copy_not_counted : tally (only Pes) (counted 5 ∷ counted 5 ∷ counted 6 ∷ []) 256 ≡ 2
  pub counters_move : map (λ k. continuity_counter (run (only Pes) 0 (counted 5 ∷ counted 5 ∷ counted 6 ∷ []) k)) (3 ∷ 4 ∷ 5 ∷ []) ≡ 7 ∷ 7 ∷ 8 ∷ []
  pub copy_of_a_copy : checked Pes 0 (counted 5 ∷ counted 5 ∷ counted 5 ∷ []) ≡ broken 0 2 25
  pub same_counter_without_payload : checked Pes 0 (counted 5 ∷ empty 5 ∷ []) ≡ None
  pub next_counter_without_payload : checked Pes 0 (counted 5 ∷ empty 6 ∷ []) ≡ broken 0 1 25
  pub section_of_9 : checked Sections 0 (short (section 9 (0xDE ∷ 0x30 ∷ 0x60 ∷ 0x8F ∷ []))) ≡ None
  pub section_of_8 : checked Sections 0 (short (section 8 (0 ∷ 0 ∷ 0 ∷ 0 ∷ []))) ≡ broken 0 0 28
  pub section_of_1021 : checked Sections 0 (long (section 1021 (0x7C ∷ 0x09 ∷ 0x7C ∷ 0x14 ∷ []))) ≡ None
  pub section_of_1022 : checked Sections 0 (long (section 1022 (0 ∷ 0 ∷ 0 ∷ 0 ∷ []))) ≡ broken 0 0 28
  pub looped : checked Clock 54000 two_packets ≡ None
  pub late_at_the_seam : checked Clock 54300 two_packets ≡ broken 1 0 27
