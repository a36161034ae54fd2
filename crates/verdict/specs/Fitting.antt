-- How many rounds a reel may have.
use Rattle.std.specs.Prelude.{ℕ, ◌*◌, Bool, ◌&&◌, nat_le}

-- whether n rounds of a reel of count packets are a reel
abbrev pub fit_rounds : ℕ → ℕ → Bool
fit_rounds n count = nat_le 1 n && (nat_le n 1000000 && nat_le (n * count) 1000000000)
