-- Lists of tests, read in order.
use Rattle.std.specs.Prelude.{ℕ, Bool, true, false, cond, ◌&&◌, ◌||◌, List, [], ◌∷◌, Some, None, Ok, Err, Option, Result, ◌==◌}

-- whether all of some tests hold, and whether any does
abbrev pub all_of : List Bool → Bool
all_of [] = true
all_of (b ∷ bs) = b && all_of bs

abbrev pub any_of : List Bool → Bool
any_of [] = false
any_of (b ∷ bs) = b || any_of bs

abbrev pub all255 : List ℕ → Bool
all255 [] = true
all255 (b ∷ bs) = b == 255 && all255 bs

-- the number of the first rule, in this order, whose test says that it is broken
abbrev pub first_broken : List (ℕ × Bool) → Option ℕ
first_broken [] = None
first_broken (r ∷ rs) = cond r.1 (Some r.0) (first_broken rs)

abbrev pub is_none : {T : Type 0} → Option T → Bool
is_none None = true
is_none (Some x) = false

-- the first of two numbers that is there
abbrev pub or_else : Option ℕ → Option ℕ → Option ℕ
or_else None y = y
or_else (Some x) y = Some x

-- a, unless a refusal, by its number, goes before
abbrev pub unless : {A : Type 0} → Option ℕ → A → Result A ℕ
unless None a = Ok a
unless (Some n) a = Err n
