use Rattle.std.proofs.Common.{◌/◌, length, sym, ap, ◌∙◌}
use Rattle.model.specs.Packet.{Bytes}
use Rattle.model.specs.Reels.{low}
use Rattle.reel.specs.Cuts.{cut_length, low_length, held_good}
use Rattle.reel.proofs.memory.MemoryReel.count.Goals as goal

pub returns : goal.returns
returns g c =
    let bs = g.T.Bytes.list c.args.self.now.store in
    ap (λ (x : Bytes). length x / 188) c.as_bytes.ensures ∙ ap (λ n. n / 188) (sym (low_length bs)) ∙ sym (cut_length (low bs)) ∙ ap length (sym (held_good bs c.args.self.now.good))
