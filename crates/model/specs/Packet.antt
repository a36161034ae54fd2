-- The fields of a transport packet of 188 bytes, as ISO/IEC 13818-1 names them. The most significant bit comes first.
use Rattle.std.specs.Prelude.{ℕ, ◌+◌, ◌*◌, ◌/◌, ◌%◌, ◌^◌, Bool, cond, ◌&&◌, List, drop, ◌==◌, nat_le, slice_index}

abbrev pub Bytes : Type 0
Bytes = List ℕ

abbrev pub byte : Bytes → ℕ → ℕ
byte p i = slice_index p i

-- a bit of a byte, bit 7 the most significant
abbrev pub bit : ℕ → ℕ → Bool
bit i b = b / 2 ^ i % 2 == 1

-- The header: four bytes.

-- sync_byte
abbrev pub has_sync_byte : Bytes → Bool
has_sync_byte p = byte p 0 == 0x47

-- transport_error_indicator
abbrev pub transport_error : Bytes → Bool
transport_error p = bit 7 (byte p 1)

-- payload_unit_start_indicator, the start flag
abbrev pub payload_unit_start : Bytes → Bool
payload_unit_start p = bit 6 (byte p 1)

-- PID
abbrev pub pid : Bytes → ℕ
pid p = byte p 1 % 32 * 256 + byte p 2

-- transport_scrambling_control
abbrev pub scrambling_control : Bytes → ℕ
scrambling_control p = byte p 3 / 64

-- the two bits of adaptation_field_control
abbrev pub has_adaptation_field : Bytes → Bool
has_adaptation_field p = bit 5 (byte p 3)

abbrev pub has_payload : Bytes → Bool
has_payload p = bit 4 (byte p 3)

-- continuity_counter
abbrev pub continuity_counter : Bytes → ℕ
continuity_counter p = byte p 3 % 16

-- a null packet
abbrev pub is_null : Bytes → Bool
is_null p = pid p == 8191

-- The adaptation field: its length, then a byte of flags, unless the length is 0.

-- adaptation_field_length
abbrev pub adaptation_field_length : Bytes → ℕ
adaptation_field_length p = byte p 4

abbrev pub adaptation_flags : Bytes → ℕ
adaptation_flags p = cond (has_adaptation_field p && nat_le 1 (adaptation_field_length p)) (byte p 5) 0

-- discontinuity_indicator
abbrev pub discontinuity : Bytes → Bool
discontinuity p = bit 7 (adaptation_flags p)

-- PCR_flag
abbrev pub has_pcr : Bytes → Bool
has_pcr p = bit 4 (adaptation_flags p)

-- OPCR_flag
abbrev pub has_opcr : Bytes → Bool
has_opcr p = bit 3 (adaptation_flags p)

-- splicing_point_flag
abbrev pub has_splicing_point : Bytes → Bool
has_splicing_point p = bit 2 (adaptation_flags p)

-- transport_private_data_flag
abbrev pub has_private_data : Bytes → Bool
has_private_data p = bit 1 (adaptation_flags p)

-- adaptation_field_extension_flag
abbrev pub has_extension : Bytes → Bool
has_extension p = bit 0 (adaptation_flags p)

-- The program clock reference: 33 bits of 90 kHz, six reserved bits, nine bits of 27 MHz.

-- program_clock_reference_base
abbrev pub pcr_base : Bytes → ℕ
pcr_base p = byte p 6 * 2 ^ 25 + byte p 7 * 2 ^ 17 + byte p 8 * 2 ^ 9 + byte p 9 * 2 + byte p 10 / 128

-- program_clock_reference_extension
abbrev pub pcr_extension : Bytes → ℕ
pcr_extension p = byte p 10 % 2 * 256 + byte p 11

-- the clock value, in ticks of 27 MHz
abbrev pub pcr : Bytes → ℕ
pcr p = pcr_base p * 300 + pcr_extension p

-- The payload: what comes after the header and the adaptation field.

abbrev pub payload_place : Bytes → ℕ
payload_place p = cond (has_adaptation_field p) (5 + adaptation_field_length p) 4

abbrev pub payload : Bytes → Bytes
payload p = drop (payload_place p) p
