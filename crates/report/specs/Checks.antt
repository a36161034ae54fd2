-- What the check of a file answers.
use Rattle.std.specs.Prelude.{◌≡◌, ◌++◌, length, Ok, Err, Result}
use Rattle.model.specs.declared.refusal.Refusal.{Refusal}
use Rattle.model.specs.File.{opened}
use Rattle.model.specs.Packet.{Bytes}
use Rattle.model.specs.Refusals.{refusal_number}
use Rattle.model.specs.Report.{checked_file, reel_line, refused_line, verdict_line}
use Rattle.model.specs.Sheets.{entries_of}
use Rattle.file.specs.Reading.{contents_of}
use Rattle.verdict.specs.Verdicts.{breach_of}
use Rattle.report.specs.declared.checking.Checked.{Checked}

-- the contents of the file f and the verdict on its packets, or why it is none
abbrev pub Checks : Bytes → Result Checked Refusal → Type 0
Checks f (Ok c) = (opened f ≡ Ok (contents_of c.contents)) × (breach_of c.verdict ≡ checked_file f (contents_of c.contents))
Checks f (Err r) = opened f ≡ Err (refusal_number r)

-- what is reported of it
abbrev pub told : Result Checked Refusal → Bytes
told (Ok c) = reel_line c.contents.count (length (entries_of c.contents.sheet)) ++ verdict_line (breach_of c.verdict)
told (Err r) = refused_line (refusal_number r)
