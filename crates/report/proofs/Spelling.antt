-- How long numbers are in digits, and texts one behind the other.
use Rattle.std.proofs.Common.{ℕ, ◌^◌, ◌<◌, ◌≤◌, ◌++◌, length, decimal, ap, ◌∙◌, lt_of_lt_of_le, lt_of_le_of_lt, arith, lit<, lit≤, length-append}
use Rattle.std.proofs.lemmas.Fmt.{length-decimal-le}
use Rattle.model.specs.Buffers.{laid}
use Rattle.model.specs.Packet.{Bytes}
use Rattle.model.specs.Refusals.{refusal_number}
use Rattle.model.specs.declared.refusal.Refusal.{Refusal}
use Rattle.model.specs.declared.refusal.Refusal.TheVariants.{Trailer, Distance, Count, Entries, Timing, Extent, Buffer, PastEnd, TooLong, GaveUp, NotApproved, RoundOpen, NoRound, WrongToken, AllSent, PacketsLeft, RoundsSpent}
use Rattle.model.proofs.Laying.{laid_laid}
use Rattle.report.specs.Pens.{Wrote}
use Rattle.report.specs.declared.pen.Pen.{Pen}

-- how many digits suffice
pub two_digits : (n : ℕ) → n ≤ 99 → length (decimal n) ≤ 2
two_digits n h = length-decimal-le 2 n (lit< tt) (lt_of_le_of_lt h (lit< tt)) (lt_of_le_of_lt h (lit< tt))

pub three_digits : (n : ℕ) → n ≤ 999 → length (decimal n) ≤ 3
three_digits n h = length-decimal-le 3 n (lit< tt) (lt_of_le_of_lt h (lit< tt)) (lt_of_le_of_lt h (lit< tt))

-- for numbers of 32 and of 64 bits
pub word_digits : (n : ℕ) → n < 2 ^ 32 → length (decimal n) ≤ 10
word_digits n h = length-decimal-le 10 n (lit< tt) (lt_of_lt_of_le h (lit≤ tt)) (lt_of_lt_of_le h (lit≤ tt))

pub long_digits : (n : ℕ) → n < 2 ^ 64 → length (decimal n) ≤ 20
long_digits n h = length-decimal-le 20 n (lit< tt) (lt_of_lt_of_le h (lit≤ tt)) h

pub refusal_small : (r : Refusal) → refusal_number r ≤ 17
refusal_small Trailer = lit≤ tt
refusal_small Distance = lit≤ tt
refusal_small Count = lit≤ tt
refusal_small Entries = lit≤ tt
refusal_small Timing = lit≤ tt
refusal_small Extent = lit≤ tt
refusal_small Buffer = lit≤ tt
refusal_small PastEnd = lit≤ tt
refusal_small TooLong = lit≤ tt
refusal_small GaveUp = lit≤ tt
refusal_small NotApproved = lit≤ tt
refusal_small RoundOpen = lit≤ tt
refusal_small NoRound = lit≤ tt
refusal_small WrongToken = lit≤ tt
refusal_small AllSent = lit≤ tt
refusal_small PacketsLeft = lit≤ tt
refusal_small RoundsSpent = lit≤ tt

pub ruleset digits = (two_digits, three_digits, word_digits, long_digits, refusal_small)

-- a text behind another
pub behind : {p q r : Pen} {s t : Bytes} → Wrote p s q → Wrote q t r → Wrote p (s ++ t) r
behind {p} {q} {r} {s} {t} f g =
    record {
      lent = g.lent ∙ f.lent;
      size = g.size ∙ f.size;
      writes = g.writes ∙ ap (λ (x : Bytes). laid q.at t x) f.writes ∙ laid_laid p.out.now s t p.at q.at (omega (arith, f.ends, f.within, f.size)) f.ends;
      ends = omega (arith, length-append s t, f.ends, g.ends);
      within = g.within;
    }
