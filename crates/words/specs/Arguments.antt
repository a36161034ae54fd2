-- How a sheet is written in a program's arguments.
use Rattle.std.specs.Prelude.{◌≡◌, ℕ, ◌+◌, ◌%◌, ◌≤◌, Bool, cond, [], ◌∷◌, ◌++◌, take, drop, Some, None, Ok, codes, Option, ◌≢◌}
use Rattle.std.specs.Borrow.{Bor}
use Rattle.std.specs.Str.Parse.{ParsesUnsigned}
use Rattle.std.specs.Str.{bytes_eq}
use Rattle.model.specs.declared.entry.Entry.{Entry}
use Rattle.model.specs.declared.entry.Kind.{Kind}
use Rattle.model.specs.Entries.{kind_number}
use Rattle.model.specs.Packet.{Bytes}

-- a text writes a number of so many bits in a base; a plus may stand first
abbrev pub Numeral : ℕ → ℕ → Bytes → ℕ → Type 0
Numeral bits base text n = ParsesUnsigned {E = Unit {0}} bits base text (Ok n)

abbrev pub is_hexadecimal : Bytes → Bool
is_hexadecimal text = bytes_eq (codes "0x") (take 2 text)

-- a text writes a number of 16 bits: in hexadecimal after 0x, else in decimal
abbrev pub Number : Bytes → ℕ → Type 0
Number text n = cond (is_hexadecimal text) (Numeral 16 16 (drop 2 text) n) (Numeral 16 10 text n)

-- a text writes a PID
pub record Pid (text : Bytes) (n : ℕ) : Type 0 where
  pub number : Number text n
  pub low : n ≤ 8190

-- a text writes a byte rate
pub record Rate (text : Bytes) (n : ℕ) : Type 0 where
  pub number : Numeral 32 10 text n
  pub some : 1 ≤ n
  pub low : n ≤ 10000000

-- a text writes a round length
pub record Round (text : Bytes) (n : ℕ) : Type 0 where
  pub number : Numeral 64 10 text n
  pub whole : n % 300 ≡ 0
  pub low : n ≤ 2576980377300

-- a colon and the digit of a kind
abbrev pub kind_text : Kind → Bytes
kind_text k = 58 ∷ (48 + kind_number k) ∷ []

-- a text writes an entry as PID:KIND
pub record Writes (text : Bytes) (e : Entry) : Type 0 where
  pub pid : Bytes
  pub whole : text ≡ pid ++ kind_text e.kind
  pub number : Pid pid e.pid

-- what is read of a text: what it writes, or nothing where it writes no such thing
abbrev pub Read : {A : Type 0} → (A → Type 0) → Option A → Type 0
Read P (Some a) = P a
Read {A} P None = (a : A) → P a → ⊥

-- a text parted before the kind that it ends with, or nothing where it ends with none
abbrev pub Parted : Bytes → Option (Bor Bytes × Kind) → Type 0
Parted text (Some x) = text ≡ x.0.now ++ kind_text x.1
Parted text None = (front : Bytes) (k : Kind) → text ≢ front ++ kind_text k
