use Rattle.std.proofs.Common.{◌≡◌, ◌%◌, ◌++◌, length, take, vec_items, ap, ◌∙◌, arith, length-append, length-take}
use Rattle.std.proofs.lemmas.Result.{err_from_is_err_and}
use Rattle.model.specs.File.{tail, opened}
use Rattle.model.specs.Packet.{Bytes}
use Rattle.model.specs.Sheets.{text_of}
use Rattle.file.specs.Packing.{file_of}
use Rattle.file.proofs.Packed.{accepted, tail_size, tail_fits, tail_written_lem, read_packed}
use Rattle.file.proofs.packing.pack.Goals as goal

pub slice_bounds-extend_from_slice-end : goal.slice_bounds-extend_from_slice-end
slice_bounds-extend_from_slice-end c =
    let v = c.args.packets.now in
    let h = tail_fits (vec_items v) (text_of c.args.sheet.now) c.len-size.result c.in_ok-len.len 88 (c.len-size.ensures ∙ v.ok.0) c.in_ok-len.ensures.answers in
    simp length-take (omega arith)

pub returns-in_err-extend_from_slice-clause-room : goal.returns-in_err-extend_from_slice-clause-room
returns-in_err-extend_from_slice-clause-room c =
    let v = c.args.packets.now in
    let ps = vec_items v in
    let s = text_of c.args.sheet.now in
    let n = c.in_ok-len.len in
    let size = c.len-size.result in
    let all : size ≡ length ps = c.len-size.ensures ∙ v.ok.0 in
    let t = tail_size ps s size n 88 all c.in_ok-len.ensures.answers in
    let w = c.in_err-extend_from_slice.ensures.full in
    let p = err_from_is_err_and c.from_residual-in_err-extend_from_slice.result c.from_residual-in_err-extend_from_slice.ensures.1 in
    rw (p.1, p.2) (omega (arith, length-append ps (tail (file_of ps s)), length-take n c.write_tail.new.buffer))

pub returns : goal.returns
returns c =
    let v = c.args.packets.now in
    let ps = vec_items v in
    let s = text_of c.args.sheet.now in
    let n = c.in_ok-len.len in
    let o = c.write_tail.new.buffer in
    let size = c.len-size.result in
    let all : size ≡ length ps = c.len-size.ensures ∙ v.ok.0 in
    let h = c.in_ok-len.ensures.answers in
    let whole : size % 188 ≡ 0 = omega arith in
    let put : vec_items c.extend_from_slice.new.self ≡ ps ++ take n o = c.in_ok-extend_from_slice.ensures.items in
    record {
      answers = accepted ps s size n 88 all h whole;
      writes = put ∙ ap (λ (x : Bytes). ps ++ x) (tail_written_lem ps s size n 88 all h _ o c.in_ok-len.ensures.writes);
      opens = ap opened put ∙ read_packed ps s size n 88 all h o whole c.in_ok-len.ensures.back;
      room = tt;
    }
