-- The number of each rule.
use Rattle.std.specs.Prelude.{ℕ, Some, None, Option}
use Rattle.model.specs.declared.rule.Rule.{Rule}
use Rattle.model.specs.declared.rule.Rule.TheVariants.{Sync, Header, Pid, AdaptationField, Clock, Continuity, ClockGap, ClockRate, Sections, Crc, Stamps, Unclocked, Other}

abbrev pub rule_number : Rule → ℕ
rule_number Sync = 20
rule_number Header = 21
rule_number Pid = 22
rule_number AdaptationField = 23
rule_number Clock = 24
rule_number Continuity = 25
rule_number ClockGap = 26
rule_number ClockRate = 27
rule_number Sections = 28
rule_number Crc = 29
rule_number Stamps = 30
rule_number Unclocked = 31
rule_number (Other n) = n

abbrev pub numbered : Option Rule → Option ℕ
numbered None = None
numbered (Some r) = Some (rule_number r)
