-- Moving a packet on: its counter, its clock value and its stamps.
use Rattle.std.specs.Prelude.{ℕ, ◌+◌, ◌*◌, ◌/◌, ◌%◌, ◌^◌, Bool, cond, ◌&&◌, List, ◌++◌, take, set, slice_set}
use Rattle.model.specs.declared.entry.Entry.{Entry}
use Rattle.model.specs.Entries.{kind_of, listed}
use Rattle.model.specs.Packet.{Bytes, byte, pid, continuity_counter, has_pcr, pcr, payload, payload_place}
use Rattle.model.specs.Form.{sound}
use Rattle.model.specs.Stamps.{starts_pes, stamped, has_pts, has_dts, stamp}

-- the number of values of the 27 MHz clock, and of a stamp
abbrev pub W : ℕ
W = 2576980377600

abbrev pub stamps : ℕ
stamps = 2 ^ 33

-- p with another counter, all other bits kept
abbrev pub set_counter : ℕ → Bytes → Bytes
set_counter c p = slice_set p 3 (byte p 3 / 16 * 16 + c)

-- p with another clock value, all other bits kept
abbrev pub set_pcr : ℕ → Bytes → Bytes
set_pcr v p =
    let base = v / 300 in
    let low = v % 300 in
    set (set (set (set (set (set p
    6 (base / 2 ^ 25))
    7 (base / 2 ^ 17 % 256))
    8 (base / 2 ^ 9 % 256))
    9 (base / 2 % 256))
    10 (base % 2 * 128 + byte p 10 / 2 % 64 * 2 + low / 256))
    11 (low % 256)

-- p with another stamp at place i, all other bits kept
abbrev pub set_stamp : ℕ → ℕ → Bytes → Bytes
set_stamp i v p =
    set (set (set (set (set p
    i (byte p i / 16 * 16 + v / 2 ^ 30 * 2 + byte p i % 2))
    (i + 1) (v / 2 ^ 22 % 256))
    (i + 2) (v / 2 ^ 15 % 128 * 2 + byte p (i + 2) % 2))
    (i + 3) (v / 2 ^ 7 % 256))
    (i + 4) (v % 128 * 2 + byte p (i + 4) % 2)

-- the counter of p moved on by c and its clock value, if any, by t ticks of 27 MHz
unfoldable pub move_header : ℕ → ℕ → Bytes → Bytes
move_header c t p =
    let q = set_counter ((continuity_counter p + c) % 16) p in
    cond (has_pcr p) (set_pcr ((pcr p + t) % W) q) q

-- the stamps of a payload u that obeys rule 30, moved on by n
unfoldable pub move_stamps : ℕ → Bytes → Bytes
move_stamps n u =
    let v = cond (has_pts u) (set_stamp 9 ((stamp u 9 + n) % stamps) u) u in
    cond (has_dts u) (set_stamp 14 ((stamp u 14 + n) % stamps) v) v

-- p with its counter moved on by c and its clock and stamps by t ticks of 27 MHz, a multiple of 300;
-- only a sound packet of a listed PID moves
abbrev pub moves : List Entry → Bytes → Bool
moves es p = sound es p && listed (kind_of es (pid p))

abbrev pub stampable : List Entry → Bytes → Bool
stampable es p = starts_pes es p && stamped (payload p)

unfoldable pub moved : List Entry → ℕ → ℕ → Bytes → Bytes
moved es c t p =
    cond (moves es p)
    (let q = move_header c t p in
    cond (stampable es p) (take (payload_place p) q ++ move_stamps (t / 300) (payload p)) q)
    p
