-- What the call for a packet's payload answers.
use Rattle.std.specs.Prelude.{ℕ, cond, List, Some, None, Ok, Err, Option, Result}
use Rattle.std.specs.Borrow.{Bor}
use Rattle.model.specs.declared.entry.Entry.{Entry}
use Rattle.model.specs.declared.rule.Rule.{Rule}
use Rattle.model.specs.Packet.{Bytes, has_payload, payload}
use Rattle.model.specs.Form.{form}
use Rattle.model.specs.Rules.{rule_number}
use Rattle.model.specs.Tests.{unless}

-- the payload of a sound packet, if it has one, or else the rule that the packet breaks
abbrev pub payload_or : List Entry → Bytes → Result (Option Bytes) ℕ
payload_or es p = unless (form es p) (cond (has_payload p) (Some (payload p)) None)

-- an answer, with the bytes that it refers to and the rule's number
abbrev pub answered : Result (Option (Bor Bytes)) Rule → Result (Option Bytes) ℕ
answered (Ok None) = Ok None
answered (Ok (Some bytes)) = Ok (Some bytes.now)
answered (Err rule) = Err (rule_number rule)
