-- The report on a file: lines of text, each ended by byte 10.
use Rattle.std.specs.Prelude.{ℕ, ◌*◌, cond, ◌++◌, length, take, Some, None, Ok, Err, codes, decimal, Option, Result, nat_lt}
use Rattle.model.specs.Breaches.{Breach, verdict}
use Rattle.model.specs.Buffers.{laid}
use Rattle.model.specs.File.{FileText, opened}
use Rattle.model.specs.House.{house}
use Rattle.model.specs.Packet.{Bytes}
use Rattle.model.specs.Reels.{cut}

-- a refusal by its number
abbrev pub refused_line : ℕ → Bytes
refused_line n = codes "REFUSED " ++ (decimal n ++ codes "\n")

-- how many packets and entries a reel has
abbrev pub reel_line : ℕ → ℕ → Bytes
reel_line packets entries = codes "REEL " ++ (decimal packets ++ (codes " " ++ (decimal entries ++ codes "\n")))

-- what the check answers
abbrev pub verdict_line : Option Breach → Bytes
verdict_line None = codes "APPROVED\n"
verdict_line (Some b) = codes "BREACH " ++ (decimal b.round ++ (codes " " ++ (decimal b.packet ++ (codes " " ++ (decimal b.rule ++ codes "\n")))))

-- the check of the file f, which says t
abbrev pub checked_file : Bytes → FileText → Option Breach
checked_file f t = verdict t.sheet.entries t.sheet.round (house t.sheet.entries t.sheet.rate) (cut (take (188 * t.count) f))

abbrev pub described : Bytes → Result FileText ℕ → Bytes
described f (Err n) = refused_line n
described f (Ok t) = reel_line t.count (length t.sheet.entries) ++ verdict_line (checked_file f t)

-- what is written of a file, which is not read where it is too long
abbrev pub report_of : Bytes → Bytes
report_of f = cond (nat_lt 65536 (length f)) (refused_line 9) (described f (opened f))

-- what the report answers: how many bytes it wrote, or refusal 7 for a buffer that is too small
abbrev pub reported : Bytes → ℕ → ℕ
reported f size = cond (nat_lt size 64) 7 (length (report_of f))

-- what the buffer b then holds
abbrev pub reported_in : Bytes → Bytes → Bytes
reported_in f b = cond (nat_lt (length b) 64) b (laid 0 (report_of f) b)

-- the check of a file of any length, by one number: 0 where it is approved, else the refusal's or the rule's
abbrev pub verdict_number : Option Breach → ℕ
verdict_number None = 0
verdict_number (Some b) = b.rule

abbrev pub check_number : Bytes → Result FileText ℕ → ℕ
check_number f (Err n) = n
check_number f (Ok t) = verdict_number (checked_file f t)
