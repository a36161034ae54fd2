-- The watches of the house, in their order: clock, sections, stamps.
use Rattle.std.specs.Prelude.{ℕ, List}
use Rattle.model.specs.declared.entry.Entry.{Entry}
use Rattle.model.specs.Clock.{clock_finding}
use Rattle.model.specs.Sections.{sections_finding}
use Rattle.model.specs.Watches.{Finding, bank, stamps_finding}

abbrev pub house : List Entry → ℕ → Finding
house es rate = bank (clock_finding es rate) (bank (sections_finding es) (stamps_finding es))
