use Rattle.std.proofs.Common.{◌<◌, ◌++◌, ◌≢◌}
use Rattle.model.specs.declared.entry.Kind.{Kind}
use Rattle.model.specs.Entries.{kind_number}
use Rattle.model.specs.Packet.{Bytes}
use Rattle.words.specs.Arguments.{kind_text}
use Rattle.words.proofs.arguments.split_kind.Given as goal

-- the text ends with none of the kinds so far
abbrev pub invariant-loop-ending : goal.invariant-loop-ending
invariant-loop-ending l = (k : Kind) → kind_number k < l.ending-index → (front : Bytes) → l.text ≢ front ++ kind_text k
