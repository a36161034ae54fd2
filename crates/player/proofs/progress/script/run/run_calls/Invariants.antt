use Rattle.std.proofs.Common.{◌≡◌, take, drop}
use Rattle.player.specs.Scripts.{After, Turned, view, history_of}
use Rattle.player.proofs.progress.script.run.run_calls.Given as goal

abbrev pub invariant-loop-turn : goal.invariant-loop-turn
invariant-loop-turn g l =
    (drop l.turn-index l.turns ≡ drop l.turn-index l.initial.turns)
    × Turned (take l.turn-index l.initial.turns) (take l.turn-index l.turns)
    × After l.initial.player.sheet (g.W.Watch.fresh l.initial.player.sheet) (g.S.Reel.packets l.initial.player.reel) l.unit (history_of (take l.turn-index l.initial.turns) (take l.turn-index l.turns))
    (view l.player (g.S.Reel.packets l.player.reel) (g.W.Watch.finding l.player.watch))
