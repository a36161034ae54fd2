-- Parts put into a buffer one behind the other.
use Rattle.std.proofs.Common.{◌≡◌, ℕ, ◌+◌, ◌≤◌, ◌++◌, length, ap, ◌∙◌}
use borrow.Rule.Slice.PartMut.{put_mid}
use Rattle.model.specs.Buffers.{laid}
use Rattle.model.specs.Packet.{Bytes}
use Rattle.model.proofs.Laying.{laid_laid, laid_part}

-- o is the buffer b with xs at place i, and w, which is ys, is put behind xs
pub put_behind : (b xs ys : Bytes) (i j k : ℕ) (o w : Bytes) → i ≤ length b → j ≡ i + length xs → k ≡ length ys → o ≡ laid i xs b → w ≡ ys → put_mid j k o w ≡ laid i (xs ++ ys) b
put_behind b xs ys i j k o w h e f p q =
    ap (λ (x : Bytes). put_mid j k x w) p ∙ laid_part (laid i xs b) ys w j k q f ∙ laid_laid b xs ys i j h e
