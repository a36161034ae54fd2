use Rattle.reelplay.proofs.Giving.{may_begin, may_end}
use Rattle.reelplay.proofs.play_round.Goals as goal

pub abandon-requires : goal.abandon-requires
abandon-requires g c =
    let t = c.in_ok-token in
    may_end c.send_round.new.player c.end.new.self t.token (c.in-Err-end.refusal, c.in-Err-end.token) _ c.in-Err-end.ensures.same c.in-Err-end.ensures.answers c.in-Err-end.ensures.moves c.in-Err-end.ensures.back
    (c.send_round.ensures t.token (may_begin c.args.player.now c.begin.new.self t.token 0 t.ensures.same t.ensures.answers t.ensures.moves c.args.player.now.closed))

pub abandon-requires-in-Err : goal.abandon-requires-in-Err
abandon-requires-in-Err g c =
    let t = c.in_ok-token in
    c.send_round.ensures t.token (may_begin c.args.player.now c.begin.new.self t.token 0 t.ensures.same t.ensures.answers t.ensures.moves c.args.player.now.closed)
