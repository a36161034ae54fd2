-- What is known of a packet by the kind of its PID alone.
use Rattle.std.specs.Prelude.{◌≡◌, List, Option}
use Rattle.model.specs.declared.entry.Entry.{Entry}
use Rattle.model.specs.declared.entry.Kind.{Kind}
use Rattle.model.specs.Entries.{kind_of}
use Rattle.model.specs.Packet.{Bytes, pid}

-- P holds under every sheet that says this of the PID of p
abbrev pub Under : Option Kind → Bytes → (List Entry → Type 0) → Type 0
Under kind p P = (es : List Entry) → kind_of es (pid p) ≡ kind → P es
