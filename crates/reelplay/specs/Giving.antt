-- When a round may be given up.
use Rattle.std.specs.Prelude.{◌≡◌, None}
use Rattle.model.specs.Player as rules
use Rattle.player.specs.declared.progress.Token.{Token}
use Rattle.player.specs.declared.progress.player.Player.{Player}
use Rattle.player.specs.Players.{standing_of}

-- the player would not refuse to give up the round of a token: how many packets its reel has plays no part in that
abbrev pub MayGiveUp : {S W : Type 0} → Player S W → Token → Type 0
MayGiveUp p t = rules.refusal p.unit 0 (standing_of p) (rules.give_up t.id.unit t.id.round) ≡ None
