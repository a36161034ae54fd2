-- What a reel's calls answer, by its meaning, a list of packets.
use Rattle.std.specs.Prelude.{ℕ, zero, suc, ◌+◌, ◌/◌, ◌%◌, Bool, cond, not, ◌&&◌, ◌||◌, [], ◌∷◌, length, take, drop, replicate, Result, ◌==◌, nat_le, nat_lt, slice_index_or}
use Rattle.model.specs.File.{bad_number}
use Rattle.model.specs.Packet.{Bytes}
use Rattle.model.specs.Runs.{Packets}
use Rattle.model.specs.Tests.{first_broken, unless}

-- what a fetch of place i into a buffer of n bytes answers
abbrev pub fetched : Packets → ℕ → ℕ → Result (Unit {0}) ℕ
fetched ps i n = unless (first_broken ((7, not (n == 188)) ∷ (8, not (nat_lt i (length ps))) ∷ [])) tt

-- what the buffer b then holds
abbrev pub filled : Packets → ℕ → Bytes → Bytes
filled ps i b = cond (length b == 188 && nat_lt i (length ps)) (slice_index_or ps i []) b

-- the first n packets of some bytes
abbrev pub packets_in : ℕ → Bytes → Packets
packets_in zero bs = []
packets_in (suc n) bs = take 188 bs ∷ packets_in n (drop 188 bs)

-- the packets of bytes that hold a whole number of them
abbrev pub cut : Bytes → Packets
cut bs = packets_in (length bs / 188) bs

-- refusal 3: not a whole number of packets, none, or too many
abbrev pub bad_bytes : Bytes → Bool
bad_bytes bs = not (length bs % 188 == 0) || bad_number (length bs / 188)

-- a null packet
abbrev pub filler_packet : Bytes
filler_packet = 0x47 ∷ 0x1F ∷ 0xFF ∷ 0x10 ∷ replicate 184 255

abbrev pub fillers : ℕ → Packets
fillers n = replicate n filler_packet

-- what bytes in memory hold: their packets, and where they are none, which no constructor lets happen, one filler;
-- a byte counts modulo 256, so that whatever stands for bytes holds packets
abbrev pub low : Bytes → Bytes
low [] = []
low (b ∷ bs) = b % 256 ∷ low bs

abbrev pub held : Bytes → Packets
held bs = cond (bad_bytes bs) (fillers 1) (cut (low bs))

-- size packets from start on, and the whole of ps where they do not fit
abbrev pub window : ℕ → ℕ → Packets → Packets
window start size ps = cond (nat_le 1 size && nat_le (start + size) (length ps)) (take size (drop start ps)) ps
