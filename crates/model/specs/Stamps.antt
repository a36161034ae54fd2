-- Time stamps at the start of a PES packet, rule 30.
use Rattle.std.specs.Prelude.{ℕ, ◌+◌, ◌*◌, ◌/◌, ◌%◌, ◌^◌, Bool, cond, not, ◌&&◌, ◌||◌, List, [], ◌∷◌, length, ◌==◌, nat_le}
use Rattle.model.specs.declared.entry.Entry.{Entry}
use Rattle.model.specs.Entries.{kind_of, is_pes}
use Rattle.model.specs.Packet.{Bytes, byte, bit, payload_unit_start, has_payload, pid}
use Rattle.model.specs.Tests.{all_of}

-- the stream ids that carry stamps
abbrev pub house_id : ℕ → Bool
house_id i = i == 0xBD || (nat_le 0xC0 i && nat_le i 0xEF)

-- whether a packet is one that has a PES header to judge
abbrev pub starts_pes : List Entry → Bytes → Bool
starts_pes es p = is_pes (kind_of es (pid p)) && (payload_unit_start p && has_payload p)

-- PTS_DTS_flags
abbrev pub pts_dts_flags : Bytes → ℕ
pts_dts_flags u = byte u 7 / 64

abbrev pub has_pts : Bytes → Bool
has_pts u = nat_le 2 (pts_dts_flags u)

abbrev pub has_dts : Bytes → Bool
has_dts u = pts_dts_flags u == 3

abbrev pub stamp_bytes : Bytes → ℕ
stamp_bytes u = cond (has_dts u) 10 (cond (has_pts u) 5 0)

-- the prefix of the stamp at place i of the payload u, its three marker bits and its 33 bits
abbrev pub prefix : Bytes → ℕ → ℕ
prefix u i = byte u i / 16

abbrev pub marked : Bytes → ℕ → Bool
marked u i = bit 0 (byte u i) && (bit 0 (byte u (i + 2)) && bit 0 (byte u (i + 4)))

abbrev pub stamp : Bytes → ℕ → ℕ
stamp u i = byte u i / 2 % 8 * 2 ^ 30 + byte u (i + 1) * 2 ^ 22 + byte u (i + 2) / 2 * 2 ^ 15 + byte u (i + 3) * 2 ^ 7 + byte u (i + 4) / 2

-- what rule 30 asks of the beginning of a payload u
abbrev pub stamp_tests : Bytes → List Bool
stamp_tests u =
    (byte u 0 == 0) ∷ (byte u 1 == 0) ∷ (byte u 2 == 1) ∷ house_id (byte u 3)
    ∷ (byte u 6 / 64 == 2)
    ∷ not (pts_dts_flags u == 1) ∷ not (bit 5 (byte u 7))
    ∷ nat_le (stamp_bytes u) (byte u 8)
    ∷ nat_le (9 + stamp_bytes u) (length u)
    ∷ (not (has_pts u) || (prefix u 9 == cond (has_dts u) 3 2 && marked u 9))
    ∷ (not (has_dts u) || (prefix u 14 == 1 && marked u 14))
    ∷ []

abbrev pub stamped : Bytes → Bool
stamped u = all_of (stamp_tests u)
