-- The kinds of PIDs, told apart by their numbers.
use Rattle.std.proofs.Common.{◌≡◌, false, Some, refl}
use Rattle.model.specs.declared.entry.Kind.{Kind}
use Rattle.model.specs.declared.entry.Kind.TheVariants.{Pes, Sections, Clock}
use Rattle.watch.specs.Tables.{is_of}

pub not_of : (k j : Kind) → (j ≡ k → ⊥) → is_of k (Some j) ≡ false
not_of Pes Pes h = absurd (h refl)
not_of Pes Sections h = refl
not_of Pes Clock h = refl
not_of Sections Pes h = refl
not_of Sections Sections h = absurd (h refl)
not_of Sections Clock h = refl
not_of Clock Pes h = refl
not_of Clock Sections h = refl
not_of Clock Clock h = absurd (h refl)
