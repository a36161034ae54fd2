use Rattle.std.proofs.Common.{◌≡◌, length}
use Rattle.player.specs.declared.progress.Token.{Token}
use Rattle.reelplay.specs.Giving.{MayGiveUp}
use Rattle.reelplay.proofs.send_round.Given as goal

abbrev pub invariant-loop : goal.invariant-loop
invariant-loop g l = (length l.packet ≡ 188) × ((t : Token) → MayGiveUp l.fn.player t → MayGiveUp l.player t)
