-- CRC_32 of a section.
use Rattle.std.specs.Prelude.{ℕ, ◌*◌, ◌%◌, ◌^◌, cond, [], ◌∷◌, bit_xor, nat_le}
use Rattle.model.specs.Packet.{Bytes}

-- one bit of the division by the polynomial 0x04C11DB7
abbrev pub crc_bit : ℕ → ℕ
crc_bit c = cond (nat_le (2 ^ 31) c) (bit_xor (c * 2 % 2 ^ 32) 0x04C11DB7) (c * 2)

-- one byte, its most significant bit first
abbrev pub crc_byte : ℕ → ℕ → ℕ
crc_byte c b = crc_bit (crc_bit (crc_bit (crc_bit (crc_bit (crc_bit (crc_bit (crc_bit (bit_xor c (b * 2 ^ 24)))))))))

abbrev pub crc_from : ℕ → Bytes → ℕ
crc_from c [] = c
crc_from c (b ∷ bs) = crc_from (crc_byte c b) bs

-- from all ones, and not inverted at the end: 0 over a section that ends with its own CRC_32
abbrev pub crc32 : Bytes → ℕ
crc32 = crc_from 0xFFFFFFFF
