-- A trailer as it is held.
use Rattle.std.specs.Prelude.{◌≡◌, cond, Some, None, Option}
use Rattle.model.specs.Packet.{Bytes}
use Rattle.model.specs.File.{last, rate_in, round_in, count_in, distance_in, no_trailer, trailer_bytes}
use Rattle.file.specs.declared.trailer.Trailer.{Trailer}

-- the fields of 24 bytes
abbrev pub trailer_of : Bytes → Trailer
trailer_of t = record { rate = rate_in t; round = round_in t; count = count_in t; distance = distance_in t }

-- the trailer of a file
abbrev pub trailer_in : Bytes → Option Trailer
trailer_in f = cond (no_trailer f) None (Some (trailer_of (last 24 f)))

abbrev pub bytes_of : Trailer → Bytes
bytes_of t = trailer_bytes t.rate t.round t.count t.distance

-- written again, a trailer that was read is the end of the file
abbrev pub Ends : Bytes → Option Trailer → Type 0
Ends f None = Unit {0}
Ends f (Some t) = bytes_of t ≡ last 24 f
