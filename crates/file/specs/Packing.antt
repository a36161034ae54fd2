-- A whole file made of packets and a sheet.
use Rattle.std.specs.Prelude.{◌≡◌, ℕ, ◌/◌, ◌<◌, List, [], ◌∷◌, ◌++◌, length, Some, None, Ok, Err, Option, Result, codes}
use Rattle.model.specs.File.{FileText, tail, opened}
use Rattle.model.specs.Packet.{Bytes}
use Rattle.model.specs.Reels.{bad_bytes}
use Rattle.model.specs.Refusals.{refusal_number}
use Rattle.model.specs.Sheets.{SheetText}
use Rattle.model.specs.Tests.{first_broken}
use Rattle.model.specs.Words.{refusal_words}
use Rattle.file.specs.declared.packing.PackError.{PackError}
use Rattle.file.specs.declared.packing.PackError.TheVariants.{Refused, Memory}

-- what a file of these packets and this sheet says
abbrev pub file_of : Bytes → SheetText → FileText
file_of ps s = record { sheet = s; count = length ps / 188 }

-- the refusal of a packing by its number; want of memory has none
abbrev pub refusal_in : Result (Unit {0}) PackError → Option ℕ
refusal_in (Ok u) = None
refusal_in (Err (Refused r)) = Some (refusal_number r)
refusal_in (Err Memory) = None

-- 3 where the bytes are not 1 to 1,000,000,000 whole packets
abbrev pub pack_refusal : Bytes → Option ℕ
pack_refusal ps = first_broken ((3, bad_bytes ps) ∷ [])

-- what the packets are then: followed by the tail, or as they were
abbrev pub bytes_after : Result (Unit {0}) PackError → SheetText → Bytes → Bytes
bytes_after (Ok u) s ps = ps ++ tail (file_of ps s)
bytes_after (Err e) s ps = ps

-- the file that was made is read as the same sheet and count
abbrev pub OpensAs : Result (Unit {0}) PackError → SheetText → Bytes → Bytes → Type 0
OpensAs (Ok u) s ps f = opened f ≡ Ok (file_of ps s)
OpensAs (Err e) s ps f = Unit {0}

-- memory is wanted only where the room at hand does not hold the file
abbrev pub Wants : Result (Unit {0}) PackError → SheetText → Bytes → ℕ → Type 0
Wants (Ok u) s ps room = Unit {0}
Wants (Err (Refused r)) s ps room = Unit {0}
Wants (Err Memory) s ps room = room < length (ps ++ tail (file_of ps s))

-- what is said of it
abbrev pub pack_error_words : PackError → List ℕ
pack_error_words (Refused r) = refusal_words r
pack_error_words Memory = codes "no memory is left for the tail"
