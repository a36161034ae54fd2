-- The sections watch, rules 28 and 29.
use Rattle.std.specs.Prelude.{ℕ, ◌+◌, ◌*◌, ◌%◌, Bool, true, false, cond, ◌&&◌, List, [], ◌∷◌, ◌++◌, length, take, drop, Some, None, Option, ◌==◌, nat_le}
use Rattle.model.specs.declared.entry.Entry.{Entry}
use Rattle.model.specs.Entries.{kind_of, is_sections}
use Rattle.model.specs.Crc.{crc32}
use Rattle.model.specs.Packet.{Bytes, byte, bit, pid, payload_unit_start, has_payload, payload}
use Rattle.model.specs.Form.{sound}
use Rattle.model.specs.Runs.{Placed}
use Rattle.model.specs.Watches.{Finding}

-- section_length
abbrev pub section_length : Bytes → ℕ
section_length u = byte u 1 % 16 * 256 + byte u 2

-- where the reading of a payload stands: in a section, so far these bytes; past a section's end; in the bytes of 255
-- that fill the rest; or at an offence, by its rule
pub data Reading : Type 0 where
  section : Bytes → Reading
  ended : Reading
  filling : Reading
  wrong : ℕ → Reading

-- a section after its newest byte, the last of u: the rule that this byte breaks, its end, or neither
abbrev pub grown : Bytes → Reading
grown u =
    cond (length u == 1) (cond (nat_le (byte u 0) 254) (section u) (wrong 28))
    (cond (length u == 2) (cond (bit 7 (byte u 1)) (section u) (wrong 28))
    (cond (length u == 3) (cond (nat_le 9 (section_length u) && nat_le (section_length u) 1021) (section u) (wrong 28))
    (cond (length u == 3 + section_length u) (cond (crc32 u == 0) ended (wrong 29)) (section u))))

-- what may come after a section's end
pub data Next : Type 0 where
  nothing : Next
  stuffing : Next
  more : Next

abbrev pub after_end : Next → ℕ → Reading
after_end nothing b = wrong 28
after_end stuffing b = cond (b == 255) filling (wrong 28)
after_end more b = cond (b == 255) filling (grown (b ∷ []))

abbrev pub reads : Next → Reading → ℕ → Reading
reads n (section u) b = grown (u ++ b ∷ [])
reads n ended b = after_end n b
reads n filling b = cond (b == 255) filling (wrong 28)
reads n (wrong r) b = wrong r

abbrev pub read_all : Next → Reading → Bytes → Reading
read_all n w [] = w
read_all n w (b ∷ bs) = read_all n (reads n w b) bs

-- what is known of a PID between two packets: no start yet; no open section; an open one, so far these bytes; or an
-- offence, after which it is judged no more
pub data Phase : Type 0 where
  unstarted : Phase
  between : Phase
  inside : Bytes → Phase
  offended : ℕ → Phase

abbrev pub settled : Reading → Phase
settled (section u) = inside u
settled ended = between
settled filling = between
settled (wrong r) = offended r

abbrev empty : Bytes → Bool
empty [] = true
empty (b ∷ bs) = false

abbrev closed : Reading → Option ℕ
closed (section u) = Some 28
closed ended = None
closed filling = Some 28
closed (wrong r) = Some r

-- the offence, if any, of the bytes before a packet's first new section: they end the open section exactly
abbrev pub leading : Phase → Bytes → Option ℕ
leading unstarted bs = None
leading between bs = cond (empty bs) None (Some 28)
leading (inside u) bs = closed (read_all nothing (section u) bs)
leading (offended r) bs = Some r

abbrev pub started : Option ℕ → Bytes → Phase
started (Some r) bs = offended r
started None bs = settled (read_all more (section []) bs)

abbrev pub with_start : Phase → Bytes → Phase
with_start ph u =
    let n = byte u 0 in
    cond (nat_le (length u) (1 + n)) (offended 28) (started (leading ph (take n (drop 1 u))) (drop (1 + n) u))

abbrev pub without_start : Phase → Bytes → Phase
without_start unstarted u = unstarted
without_start between u = offended 28
without_start (inside v) u = settled (read_all stuffing (section v) u)
without_start (offended r) u = offended r

-- a PID's phase after a packet
abbrev pub advance : Phase → Bytes → Phase
advance (offended r) p = offended r
advance unstarted p = cond (payload_unit_start p) (with_start unstarted (payload p)) unstarted
advance between p = cond (payload_unit_start p) (with_start between (payload p)) (without_start between (payload p))
advance (inside v) p = cond (payload_unit_start p) (with_start (inside v) (payload p)) (without_start (inside v) (payload p))

-- whether x carries section bytes of PID q
abbrev pub carries : List Entry → ℕ → Placed → Bool
carries es q x = sound es x.bytes && (is_sections (kind_of es q) && (pid x.bytes == q && has_payload x.bytes))

abbrev pub phase_from : List Entry → ℕ → Phase → List Placed → Phase
phase_from es q ph [] = ph
phase_from es q ph (x ∷ xs) = phase_from es q (cond (carries es q x) (advance ph x.bytes) ph) xs

-- the offence that leads from one phase into another
abbrev pub offence : Phase → Phase → Option ℕ
offence (offended r) b = None
offence unstarted (offended r) = Some r
offence unstarted unstarted = None
offence unstarted between = None
offence unstarted (inside u) = None
offence between (offended r) = Some r
offence between unstarted = None
offence between between = None
offence between (inside u) = None
offence (inside v) (offended r) = Some r
offence (inside v) unstarted = None
offence (inside v) between = None
offence (inside v) (inside u) = None

abbrev pub sections_finding : List Entry → Finding
sections_finding es xs x =
    let q = pid x.bytes in
    let ph = phase_from es q unstarted xs in
    cond (carries es q x) (offence ph (advance ph x.bytes)) None
