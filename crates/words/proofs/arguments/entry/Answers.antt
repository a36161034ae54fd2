use Rattle.std.proofs.Common.{sym, ◌∙◌, subst}
use Rattle.model.specs.Packet.{Bytes}
use Rattle.words.specs.Arguments.{Pid}
use Rattle.words.proofs.Endings.{front_same}
use Rattle.words.proofs.arguments.entry.Goals as goal

pub returns-in_err-pid : goal.returns-in_err-pid
returns-in_err-pid c =
    rw c.from_residual-in_err-pid.ensures
    (λ e w.
    let same = front_same w.pid c.in_ok-front.front.now e.kind c.in_ok-front.kind (sym w.whole ∙ c.in_ok-front.ensures) in
    c.in_err-pid.ensures e.pid (subst (λ (x : Bytes). Pid x e.pid) same w.number))
