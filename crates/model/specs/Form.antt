-- The form of a packet, rules 20 to 24.
use Rattle.std.specs.Prelude.{ℕ, ◌-◌, Bool, cond, not, ◌&&◌, ◌||◌, List, [], ◌∷◌, take, drop, Option, ◌==◌, nat_le, nat_lt}
use Rattle.model.specs.declared.entry.Entry.{Entry}
use Rattle.model.specs.Entries.{kind_of, listed, is_clock}
use Rattle.model.specs.Packet.{Bytes, has_sync_byte, transport_error, payload_unit_start, has_payload, has_adaptation_field, pid, scrambling_control, is_null, adaptation_field_length, discontinuity, has_pcr, has_opcr, has_splicing_point, has_private_data, has_extension, pcr_extension, payload_place}
use Rattle.model.specs.Tests.{any_of, all255, first_broken, is_none}

-- rule 21: an error flag, scrambling, or a null packet that is more than a header and a payload
abbrev pub bad_header : Bytes → Bool
bad_header p = any_of (
    transport_error p
    ∷ not (scrambling_control p == 0)
    ∷ (is_null p && (payload_unit_start p || (has_adaptation_field p || not (has_payload p))))
    ∷ [])

-- the bytes of the adaptation field after the flags and the clock value
abbrev pub adaptation_stuffing : Bytes → Bytes
adaptation_stuffing p =
    let from = cond (has_pcr p) 12 6 in
    take (payload_place p - from) (drop from p)

-- rule 23, fault by fault
abbrev pub adaptation_field_faults : Bytes → List Bool
adaptation_field_faults p =
    not (has_adaptation_field p || has_payload p)
    ∷ (not (has_payload p) && payload_unit_start p)
    ∷ (has_adaptation_field p && cond (has_payload p) (nat_lt 182 (adaptation_field_length p)) (not (adaptation_field_length p == 183)))
    ∷ discontinuity p ∷ has_opcr p ∷ has_splicing_point p ∷ has_private_data p ∷ has_extension p
    ∷ (has_pcr p && nat_lt (adaptation_field_length p) 7)
    ∷ (has_adaptation_field p && nat_le 1 (adaptation_field_length p) && not (all255 (adaptation_stuffing p)))
    ∷ []

abbrev pub bad_adaptation_field : Bytes → Bool
bad_adaptation_field p = any_of (adaptation_field_faults p)

-- rule 24: a clock value where none belongs, or one that is none
abbrev pub bad_clock : List Entry → Bytes → Bool
bad_clock es p = has_pcr p && (not (is_clock (kind_of es (pid p))) || nat_lt 299 (pcr_extension p))

-- the rule of form that a packet breaks first, under the entries of a sheet
abbrev pub form : List Entry → Bytes → Option ℕ
form es p = first_broken (
    (20, not (has_sync_byte p))
    ∷ (21, bad_header p)
    ∷ (22, not (listed (kind_of es (pid p)) || is_null p))
    ∷ (23, bad_adaptation_field p)
    ∷ (24, bad_clock es p)
    ∷ [])

-- a packet that breaks none of these
abbrev pub sound : List Entry → Bytes → Bool
sound es p = is_none (form es p)
