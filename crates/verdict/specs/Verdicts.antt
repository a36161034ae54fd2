-- A verdict as the breach that it names.
use Rattle.std.specs.Prelude.{ℕ, ◌+◌, Some, None, Ok, Err, Option, Result}
use Rattle.model.specs.Rules.{rule_number}
use Rattle.model.specs.Breaches.{Breach as B}
use Rattle.verdict.specs.declared.verdict.Breach.{Breach}

abbrev pub breach_of : {A : Type 0} → Result A Breach → Option B
breach_of (Ok a) = None
breach_of (Err b) = Some (record { round = b.round; packet = b.packet; rule = rule_number b.rule })

-- the place and the rule of the breach of a round that begins at place from
abbrev pub fault_at : ℕ → Result (Unit {0}) Breach → Option (ℕ × ℕ)
fault_at from (Ok u) = None
fault_at from (Err b) = Some (from + b.packet, rule_number b.rule)
