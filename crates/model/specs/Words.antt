-- What the programs say of refusals and rules.
use Rattle.std.specs.Prelude.{ℕ, List, ◌++◌, codes, decimal}
use Rattle.model.specs.declared.entry.UnknownKind.{UnknownKind}
use Rattle.model.specs.declared.refusal.Refusal.{Refusal}
use Rattle.model.specs.declared.refusal.Refusal.TheVariants.{Trailer, Distance, Count, Entries, Timing, Extent, Buffer, PastEnd, TooLong, GaveUp, NotApproved, RoundOpen, NoRound, WrongToken, AllSent, PacketsLeft, RoundsSpent}
use Rattle.model.specs.declared.rule.Rule.{Rule}
use Rattle.model.specs.declared.rule.Rule.TheVariants as rules

abbrev pub refusal_words : Refusal → List ℕ
refusal_words Trailer = codes "the file has no trailer: it is under 24 bytes or does not end with REEL"
refusal_words Distance = codes "the distance back to the first entry is not that of 0 to 16 entries, or exceeds the file"
refusal_words Count = codes "the bytes before the entries are not exactly the stated number of packets of 188 bytes, 1 to 1,000,000,000"
refusal_words Entries = codes "an entry has a wrong PID, kind or fourth byte, a PID stands twice, or there are more than 16"
refusal_words Timing = codes "the byte rate is not 1 to 10,000,000, or the round length is no multiple of 300 below 300 x 2^33"
refusal_words Extent = codes "the window or the number of rounds does not fit the reel"
refusal_words Buffer = codes "the buffer has the wrong size"
refusal_words PastEnd = codes "there is no packet at that place"
refusal_words TooLong = codes "the file is longer than 65,536 bytes"
refusal_words GaveUp = codes "the player gave up"
refusal_words NotApproved = codes "no check has approved the reel"
refusal_words RoundOpen = codes "a round is open"
refusal_words NoRound = codes "no round is open"
refusal_words WrongToken = codes "the token is of another unit or round"
refusal_words AllSent = codes "all packets of the round are sent"
refusal_words PacketsLeft = codes "packets of the round are left to send"
refusal_words RoundsSpent = codes "a player plays 1,000,000 rounds at most"

abbrev pub rule_words : Rule → List ℕ
rule_words rules.Sync = codes "the packet does not begin with 0x47"
rule_words rules.Header = codes "an error flag, scrambling, or a null packet that is more than filler"
rule_words rules.Pid = codes "the PID is not on the sheet"
rule_words rules.AdaptationField = codes "the adaptation field is malformed"
rule_words rules.Clock = codes "a clock value where none belongs, or one whose extension exceeds 299"
rule_words rules.Continuity = codes "the continuity counter is wrong"
rule_words rules.ClockGap = codes "clock values are too far apart"
rule_words rules.ClockRate = codes "the clock does not run at the byte rate"
rule_words rules.Sections = codes "the sections are malformed"
rule_words rules.Crc = codes "a section fails its CRC_32"
rule_words rules.Stamps = codes "the PES header or a time stamp is malformed"
rule_words rules.Unclocked = codes "a PID of the clock kind carries no clock value"
rule_words (rules.Other n) = codes "a rule of another watch is broken"

-- of a number that no kind has
abbrev pub unknown_kind_words : UnknownKind → List ℕ
unknown_kind_words u = codes "no kind has the number " ++ decimal u.number
