use Rattle.std.proofs.Common.{◌≡◌, ◌+◌, ◌-◌, ◌*◌, false, leb, List, ◌++◌, length, take, sym, ap, ◌∙◌, arith, rules, length-append}
use Rattle.std.proofs.lemmas.Bool.{and_parts, not-false, leb-true}
use Rattle.model.specs.declared.entry.Entry.{Entry}
use Rattle.model.specs.Buffers.{laid}
use Rattle.model.specs.Packet.{Bytes}
use Rattle.model.specs.Sheets.{entries_of, rate_of, text_of}
use Rattle.model.specs.File.{FileText, entries_bytes, trailer_bytes, tail_length, tail, bad_number, opened}
use Rattle.model.proofs.Laying.{laid_laid, laid_take}
use Rattle.file.proofs.EntryBytes.{bytes_length}
use Rattle.file.proofs.RoundTrip.{read_back}
use Rattle.file.proofs.SheetFacts.{sheet_short, sheet_timing, rate_fits, round_fits}
use Rattle.file.proofs.writing.write_tail.Goals as goal

pub returns : goal.returns
returns c =
    let b = c.args.buffer.now in
    let s = c.args.sheet.now in
    let n = c.args.count in
    let xs = c.entries-entries.result.now in
    let e : xs ≡ entries_of s = c.entries-entries.ensures.list in
    let t : FileText = record { sheet = text_of s; count = n } in
    let size = 24 + 4 * length xs in
    let right : bad_number n ≡ false = sym c.if-is_bad_number.ensures in
    let within = and_parts (leb 1 n) (leb n 1000000000) (not-false _ right) in
    let place : size - 24 ≡ 0 + length (entries_bytes xs) = (let h = bytes_length xs in omega arith) in
    let whole : length (tail t) ≡ size =
    length-append (entries_bytes (entries_of s)) _ ∙ (let h = bytes_length (entries_of s) in let k = ap (λ (x : List Entry). length x) e in omega arith) in
    let same : entries_bytes xs ++ trailer_bytes c.rate.result c.round_length.result n size ≡ tail t =
    ap (λ (x : List Entry). entries_bytes x ++ trailer_bytes c.rate.result c.round_length.result n (24 + 4 * length x)) e
    ∙ ap (λ r. entries_bytes (entries_of s) ++ trailer_bytes r c.round_length.result n (tail_length (length (entries_of s)))) c.rate.ensures
    ∙ ap (λ r. entries_bytes (entries_of s) ++ trailer_bytes (rate_of s) r n (tail_length (length (entries_of s)))) c.round_length.ensures in
    let written : c.put_trailer.new.buffer ≡ laid 0 (tail t) b =
    c.put_trailer.ensures
    ∙ ap (λ (x : Bytes). laid (size - 24) (trailer_bytes c.rate.result c.round_length.result n size) x) c.put_entries.ensures
    ∙ laid_laid b (entries_bytes xs) _ 0 (size - 24) (omega arith) place
    ∙ ap (λ (x : Bytes). laid 0 x b) same in
    let front : take size c.put_trailer.new.buffer ≡ tail t = ap (take size) written ∙ ap (λ k. take k (laid 0 (tail t) b)) (sym whole) ∙ laid_take b (tail t) in
    record {
      answers = search rules;
      writes = written;
      back = λ packets long. ap (λ (x : Bytes). opened (packets ++ x)) front
          ∙ read_back packets t long (leb-true 1 n within.0) (leb-true n 1000000000 within.1) (sheet_short s) s.entries (sheet_timing s) (rate_fits s) (round_fits s);
    }
