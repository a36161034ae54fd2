-- What a lent buffer holds after bytes were written into it.
use Rattle.std.specs.Prelude.{ℕ, ◌+◌, List, ◌++◌, length, take, drop}

-- the buffer b with xs written at place i, and all else as it was
abbrev pub laid : {A : Type 0} → ℕ → List A → List A → List A
laid i xs b = take i b ++ (xs ++ drop (i + length xs) b)
