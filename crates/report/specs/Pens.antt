-- What a pen wrote.
use Rattle.std.specs.Prelude.{◌≡◌, ℕ, ◌+◌, ◌≤◌, length}
use Rattle.model.specs.Buffers.{laid}
use Rattle.model.specs.Packet.{Bytes}
use Rattle.report.specs.declared.pen.Pen.{Pen}

-- whether the buffer has room for n more bytes
abbrev pub Room : Pen → ℕ → Type 0
Room p n = p.at + n ≤ length p.out.now

-- the pen q is p after it wrote t
pub record Wrote (p : Pen) (t : Bytes) (q : Pen) : Type 0 where
  pub lent : q.out.ghost_name ≡ p.out.ghost_name
  pub size : length q.out.now ≡ length p.out.now
  pub writes : q.out.now ≡ laid p.at t p.out.now
  pub ends : q.at ≡ p.at + length t
  pub within : q.at ≤ length q.out.now
