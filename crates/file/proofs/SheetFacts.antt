-- What every sheet keeps.
use Rattle.std.proofs.Common.{◌≡◌, ◌^◌, ◌<◌, ◌≤◌, false, length, arith, length-take}
use Rattle.std.proofs.lemmas.Bool.{and_from, or_from, not_from_true, le-leb, eq-eqb}
use Rattle.model.specs.declared.sheet.Sheet.{Sheet}
use Rattle.model.specs.Sheets.{entries_of, rate_of, round_of, bad_timing}

pub sheet_short : (s : Sheet) → length (entries_of s) ≤ 16
sheet_short s = let h = s.few in simp length-take (omega arith)

pub sheet_timing : (s : Sheet) → bad_timing (rate_of s) (round_of s) ≡ false
sheet_timing s =
    or_from _ _
    (not_from_true _ (and_from _ _ (le-leb 1 s.rate s.rated.0) (le-leb s.rate 10000000 s.rated.1)))
    (not_from_true _ (and_from _ _ (eq-eqb _ 0 s.whole.0) (le-leb s.round 2576980377300 s.whole.1)))

pub rate_fits : (s : Sheet) → rate_of s < 2 ^ 32
rate_fits s = let h = s.rated.1 in omega arith

pub round_fits : (s : Sheet) → round_of s < 2 ^ 64
round_fits s = let h = s.whole.1 in omega arith
