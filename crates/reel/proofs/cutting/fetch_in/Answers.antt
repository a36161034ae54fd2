use Rattle.std.proofs.Common.{◌≡◌, ◌-◌, ◌+◌, ◌*◌, ◌/◌, ◌<◌, length, take, drop, sym, ap, ◌∙◌, arith, rules}
use Rattle.model.specs.Packet.{Bytes}
use Rattle.model.specs.Reels.{cut, low}
use Rattle.laws.proofs.ReelLaws.{answers_ok, writes_ok}
use Rattle.reel.specs.Cuts.{cut_length, cut_at, low_length, low_same}
use Rattle.reel.proofs.cutting.fetch_in.Goals as goal

pub returns-in_err-allow_fetch-clause-answers : goal.returns-in_err-allow_fetch-clause-answers
returns-in_err-allow_fetch-clause-answers c =
    let n : length (cut (low c.args.bytes.now)) ≡ length c.args.bytes.now / 188 = cut_length (low c.args.bytes.now) ∙ ap (λ m. m / 188) (low_length c.args.bytes.now) in
    let a = c.in_err-allow_fetch.ensures.answers (cut (low c.args.bytes.now)) n in
    search rules

pub returns-in_err-allow_fetch-clause-writes : goal.returns-in_err-allow_fetch-clause-writes
returns-in_err-allow_fetch-clause-writes c =
    let n : length (cut (low c.args.bytes.now)) ≡ length c.args.bytes.now / 188 = cut_length (low c.args.bytes.now) ∙ ap (λ m. m / 188) (low_length c.args.bytes.now) in
    let a = c.in_err-allow_fetch.ensures.answers (cut (low c.args.bytes.now)) n in
    search rules

pub returns : goal.returns
returns c =
    let bs = c.args.bytes.now in
    let i = c.args.place in
    let n : length (cut (low bs)) ≡ length bs / 188 = cut_length (low bs) ∙ ap (λ m. m / 188) (low_length bs) in
    let w = c.in_ok-allow_fetch.ensures.within in
    let l : length c.args.buffer.now ≡ 188 = w.0 in
    let h : i < length (cut (low bs)) = omega arith in
    let ll = low_length bs in
    let k : i < length (low bs) / 188 = omega arith in
    let s : low bs ≡ bs = low_same bs (λ j _. (let f = c.type_inv.bytes j in search rules)) in
    let w : 188 * i + 188 - 188 * i ≡ 188 = omega arith in
    record {
      answers = sym (answers_ok (cut (low bs)) i _ l h);
      writes = c.copy_from_slice.ensures.after
          ∙ ap (λ m. take m (drop (188 * i) bs)) w
          ∙ ap (λ (x : Bytes). take 188 (drop (188 * i) x)) (sym s)
          ∙ sym (cut_at (low bs) i k) ∙ sym (writes_ok (cut (low bs)) i c.args.buffer.now l h);
    }
