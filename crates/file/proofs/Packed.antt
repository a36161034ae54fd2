-- Packets and a sheet whose tail was written.
use Rattle.std.proofs.Common.{◌≡◌, ℕ, ◌≤◌, ◌*◌, ◌/◌, ◌%◌, Bool, true, false, cond, not, ltb, List, [], ◌∷◌, ◌++◌, length, take, Some, None, Ok, sym, refl, ap, ◌∙◌, arith, length-append}
use Rattle.std.proofs.lemmas.Bool.{eq-eqb, or_from, ltb-false}
use Rattle.model.specs.Buffers.{laid}
use Rattle.model.specs.File.{FileText, tail, tail_length, tail_written, bad_number, entries_bytes, opened}
use Rattle.model.specs.Packet.{Bytes}
use Rattle.model.specs.Reels.{bad_bytes}
use Rattle.model.specs.Sheets.{SheetText}
use Rattle.model.specs.Tests.{first_broken, unless}
use Rattle.model.proofs.Laying.{laid_take}
use Rattle.file.specs.Packing.{file_of, pack_refusal}
use Rattle.file.specs.Writing.{ReadsBack}
use Rattle.file.proofs.EntryBytes.{bytes_length}
use Rattle.file.proofs.Opening.{unless_ok}

first_holds : {A : Type 0} (x : Bool) (m : ℕ) (rs : List (ℕ × Bool)) (a b : A) → Ok a ≡ unless (first_broken ((m, x) ∷ rs)) b → x ≡ false
first_holds true m rs a b h = let z : ◌≡◌ {A = ℕ} 0 1 = cc in absurd (omega arith)
first_holds false m rs a b h = refl

pub tail_length_lem : (t : FileText) → length (tail t) ≡ tail_length (length t.sheet.entries)
tail_length_lem t = length-append (entries_bytes t.sheet.entries) _ ∙ (let h = bytes_length t.sheet.entries in omega arith)

-- the tail of a file whose packets have that size was written into a buffer with that room, and took n bytes
module _ (ps : Bytes) (s : SheetText) (size n room : ℕ) (all : size ≡ length ps) (h : Ok n ≡ tail_written (record { sheet = s; count = size / 188 }) room) where
  abbrev t : FileText
  t = file_of ps s

  told : Ok n ≡ tail_written t room
  told = h ∙ ap (λ k. tail_written (record { sheet = s; count = k / 188 }) room) all

  abbrev wanted : ℕ
  wanted = tail_length (length s.entries)

  few : bad_number (length ps / 188) ≡ false
  few = first_holds (bad_number (length ps / 188)) 3 ((7, ltb room wanted) ∷ []) n wanted told

  pub accepted : size % 188 ≡ 0 → None ≡ pack_refusal ps
  accepted e =
      let right : bad_bytes ps ≡ false = or_from _ _ (ap not (eq-eqb _ 0 (ap (λ k. k % 188) (sym all) ∙ e))) few in
      sym (ap (λ b. cond b (Some 3) None) right)

  size_is : n ≡ wanted
  size_is = unless_ok (first_broken ((3, bad_number (length ps / 188)) ∷ (7, ltb room wanted) ∷ [])) n wanted told

  pub tail_size : n ≡ length (tail t)
  tail_size = size_is ∙ sym (tail_length_lem t)

  -- what was written fits
  pub tail_fits : n ≤ room
  tail_fits =
      let e : Ok n ≡ unless (first_broken ((7, ltb room wanted) ∷ [])) wanted = told ∙ ap (λ b. unless (first_broken ((3, b) ∷ (7, ltb room wanted) ∷ [])) wanted) few in
      let h = ltb-false room wanted (first_holds (ltb room wanted) 7 [] n wanted e) in
      rw size_is h

  -- what the buffer then begins with
  pub tail_written_lem : (b o : Bytes) → o ≡ laid 0 (tail (record { sheet = s; count = size / 188 })) b → take n o ≡ tail t
  tail_written_lem b o w =
      let v : o ≡ laid 0 (tail t) b = w ∙ ap (λ k. laid 0 (tail (record { sheet = s; count = k / 188 })) b) all in
      ap (λ k. take k o) tail_size ∙ ap (take (length (tail t))) v ∙ laid_take b (tail t)

  pub read_packed : (o : Bytes) → size % 188 ≡ 0 → ReadsBack (record { sheet = s; count = size / 188 }) (Ok n) o → opened (ps ++ take n o) ≡ Ok t
  read_packed o e back =
      let l : length ps ≡ 188 * (size / 188) = omega arith in
      back ps l ∙ ap (λ k. Ok (record { sheet = s; count = k / 188 })) all
