use Rattle.std.proofs.Common.{◌≡◌, ℕ, ◌-◌, ◌*◌, ◌/◌, false, length, take, drop, Ok, Result, sym, ap, ◌∙◌, subst}
use Rattle.std.proofs.lemmas.Result.{err_from_is_err_and}
use Rattle.model.specs.Packet.{Bytes}
use Rattle.model.specs.File.{bad_distance, bad_count, last, opened, no_trailer}
use Rattle.model.specs.Sheets.{SheetText, text_of}
use Rattle.file.specs.declared.trailer.Trailer.{Trailer}
use Rattle.file.specs.Reading.{sheet_in}
use Rattle.file.specs.Trailers.{trailer_of, Ends}
use Rattle.file.proofs.Opening.{trailer_read, opened_sheet, counted, fitting, sheet_slice, slice_front, tail_again, unless_ok}
use Rattle.file.proofs.reading.read.Goals as goal

-- what a file is once its trailer, its distance and its count are right
past : (f : Bytes) (t : Trailer) (r : Result SheetText ℕ) → no_trailer f ≡ false → t ≡ trailer_of (last 24 f) → bad_distance (length f) t.distance ≡ false → bad_count (length f - t.distance) t.count ≡ false →
    r ≡ sheet_in (length (take (length f - 24 - (length f - t.distance)) (drop (length f - t.distance) f)) / 4) (take (length f - 24 - (length f - t.distance)) (drop (length f - t.distance) f)) t.rate t.round →
    counted t.count r ≡ opened f
past f t r a e b k h =
    let g = fitting (length f) t.distance b in
    let d = ap (λ (x : Trailer). x.distance) e in
    ap (counted t.count) (h ∙ sheet_slice f t.distance t.rate t.round g)
    ∙ ap (λ (x : Trailer). counted x.count (sheet_in ((x.distance - 24) / 4) (take (4 * ((x.distance - 24) / 4)) (last x.distance f)) x.rate x.round)) e
    ∙ sym (opened_sheet f a (ap (bad_distance (length f)) (sym d) ∙ b) (ap (λ (x : Trailer). bad_count (length f - x.distance) x.count) (sym e) ∙ k))

pub returns-in_err-sheet-clause-answers : goal.returns-in_err-sheet-clause-answers
returns-in_err-sheet-clause-answers c =
    let f = c.args.file.now in
    let r = trailer_read f c.in_ok-trailer.trailer (sym c.in_ok-trailer.ensures.ok_part ∙ c.read_trailer.ensures.answers) in
    let p = err_from_is_err_and c.from_residual-in_err-sheet.result c.from_residual-in_err-sheet.ensures.1 in
    rw (p.1, p.2) (past f c.in_ok-trailer.trailer _ r.0 r.1 (sym c.if-is_bad_distance.ensures) (sym c.if-is_bad_count.ensures) c.in_err-sheet.ensures.answers)

pub returns : goal.returns
returns c =
    let f = c.args.file.now in
    let t = c.in_ok-trailer.trailer in
    let s = text_of c.in_ok-sheet.sheet in
    let e = c.in_ok-trailer.ensures.ok_part in
    let r = trailer_read f t (sym e ∙ c.read_trailer.ensures.answers) in
    let bad = sym c.if-is_bad_distance.ensures in
    let g = fitting (length f) t.distance bad in
    let h = unless_ok _ s _ (c.in_ok-sheet.ensures.answers ∙ sheet_slice f t.distance t.rate t.round g) in
    record {
      answers = past f t (Ok s) r.0 r.1 bad (sym c.if-is_bad_count.ensures) c.in_ok-sheet.ensures.answers;
      again = tail_again f t s g (sym c.if-is_bad_count.ensures) (subst (Ends f) e c.read_trailer.ensures.again) h
          (c.in_ok-sheet.ensures.again ∙ slice_front f t.distance g);
    }
