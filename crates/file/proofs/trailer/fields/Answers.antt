use Rattle.std.proofs.Common.{rules, ◌≡◌, take, drop}
use Rattle.model.specs.File.{written}
use Rattle.file.proofs.Digits.{written_4, written_8, number_read}
use Rattle.file.proofs.Parts.{trailer_parts}
use Rattle.file.proofs.trailer.fields.Goals as goal

pub returns : goal.returns
returns c =
    let t = c.args.end.now in
    let rate : written 4 c.from_be_bytes.result ≡ take 4 t = written_4 _ _ (search rules) (search rules) (search rules) in
    let round : written 8 c.from_be_bytes-2.result ≡ take 8 (drop 4 t) = written_8 _ _ (search rules) (search rules) (search rules) in
    let count : written 4 c.from_be_bytes-3.result ≡ take 4 (drop 12 t) = written_4 _ _ (search rules) (search rules) (search rules) in
    let distance : written 4 c.from_be_bytes-4.result ≡ take 4 (drop 16 t) = written_4 _ _ (search rules) (search rules) (search rules) in
    record {
      answers = cc (
        number_read 4 c.from_be_bytes.result _ c.from_be_bytes.type_inv rate,
        number_read 8 c.from_be_bytes-2.result _ c.from_be_bytes-2.type_inv round,
        number_read 4 c.from_be_bytes-3.result _ c.from_be_bytes-3.type_inv count,
        number_read 4 c.from_be_bytes-4.result _ c.from_be_bytes-4.type_inv distance,
      );
      again = trailer_parts t (written 4 c.from_be_bytes.result) (written 8 c.from_be_bytes-2.result) (written 4 c.from_be_bytes-3.result) (written 4 c.from_be_bytes-4.result) rate round count distance;
    }
