use Rattle.std.proofs.Common.{◌+◌, ◌-◌, ◌≤◌, ◌++◌, length, refl, ◌∙◌, arith}
use Rattle.model.specs.File.{written, mark}
use Rattle.model.proofs.Laying.{laid_part}
use Rattle.file.proofs.Digits.{bytes_written}
use Rattle.file.proofs.Behind.{put_behind}
use Rattle.file.proofs.puts.put_trailer.Goals as goal

pub returns : goal.returns
returns c =
    let b = c.args.buffer.now in
    let i = c.args.at in
    let t = c.args.trailer in
    let rate = written 4 t.rate in
    let round = written 8 t.round in
    let count = written 4 t.count in
    let distance = written 4 t.distance in
    let h : i ≤ length b = omega arith in
    let one = laid_part b rate _ i (i + 4 - i) (c.copy_from_slice.ensures.after ∙ c.to_be_bytes.ensures ∙ bytes_written 4 t.rate) (omega arith) in
    let two = put_behind b rate round i (i + 4) (i + 12 - (i + 4)) _ _ h refl (omega arith) one (c.copy_from_slice-2.ensures.after ∙ c.to_be_bytes-2.ensures ∙ bytes_written 8 t.round) in
    let three = put_behind b (rate ++ round) count i (i + 12) (i + 16 - (i + 12)) _ _ h refl (omega arith) two (c.copy_from_slice-3.ensures.after ∙ c.to_be_bytes-3.ensures ∙ bytes_written 4 t.count) in
    let four = put_behind b (rate ++ (round ++ count)) distance i (i + 16) (i + 20 - (i + 16)) _ _ h refl (omega arith) three (c.copy_from_slice-4.ensures.after ∙ c.to_be_bytes-4.ensures ∙ bytes_written 4 t.distance) in
    put_behind b (rate ++ (round ++ (count ++ distance))) mark i (i + 20) (i + 24 - (i + 20)) _ _ h refl (omega arith) four c.copy_from_slice-5.ensures.after
