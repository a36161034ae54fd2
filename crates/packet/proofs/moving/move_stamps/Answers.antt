use Rattle.std.proofs.Common.{◌≡◌, ℕ, ◌+◌, ◌%◌, ◌≤◌, length, sym, ap, ◌∙◌, inl, inr, arith}
use borrow.Rule.Slice.PartMut.{put_mid, mid_of}
use Rattle.std.proofs.lemmas.Bool.{cases_Bool, le-leb, leb-true, eq-eqb, ne_eqb}
use Rattle.model.specs.Packet.{Bytes}
use Rattle.model.specs.Stamps.{stamp, pts_dts_flags, has_pts}
use Rattle.model.specs.Moves.{set_stamp, stamps}
use Rattle.laws.proofs.StampBytes.{view_fourteen, view_nineteen}
use Rattle.packet.proofs.Fields.{onward, pts_part, dts_part, moves_both, moves_pts, moves_none, pts_long, dts_long}
use Rattle.packet.proofs.moving.move_stamps.Goals as goal

pub returns-then-length-lt14 : goal.returns-then-length-lt14
returns-then-length-lt14 c g =
    let u : Bytes = c.args.payload.now in
    elim (cases_Bool (has_pts u)) [
      | inl h ↦ absurd (omega (arith, pts_long u h g))
      | inr h ↦ sym (moves_none u c.args.by h)
    ]

pub returns-then-length-ge19 : goal.returns-then-length-ge19
returns-then-length-ge19 c g =
    let u : Bytes = c.args.payload.now in
    let n : ℕ = c.args.by in
    let m : Bytes = put_mid 9 5 u c.move_stamp.new.field in
    let e : m ≡ set_stamp 9 ((stamp u 9 + n) % stamps) u = ap (put_mid 9 5 u) c.move_stamp.ensures ∙ pts_part u (view_fourteen u (omega arith)) n in
    ap (put_mid 14 5 m) c.move_stamp-then-length-ge19.ensures
    ∙ ap (λ (z : Bytes). put_mid 14 5 z (onward n (mid_of 14 5 z))) e
    ∙ dts_part u (view_nineteen u (omega arith)) n ((stamp u 9 + n) % stamps)
    ∙ sym (moves_both u n (le-leb 2 (pts_dts_flags u) (omega arith)) (eq-eqb (pts_dts_flags u) 3 (omega arith)))

pub returns-then-flags-eq2 : goal.returns-then-flags-eq2
returns-then-flags-eq2 c g =
    let u : Bytes = c.args.payload.now in
    let n : ℕ = c.args.by in
    ap (put_mid 9 5 u) c.move_stamp-then-flags-eq2.ensures
    ∙ pts_part u (view_fourteen u (omega arith)) n
    ∙ sym (moves_pts u n (le-leb 2 (pts_dts_flags u) (omega arith)) (ne_eqb (pts_dts_flags u) 3 (λ e. omega arith)))

pub returns-else-flags-eq2 : goal.returns-else-flags-eq2
returns-else-flags-eq2 c g =
    let u : Bytes = c.args.payload.now in
    elim (cases_Bool (has_pts u)) [
      | inl h ↦
          let f : pts_dts_flags u ≡ 3 = omega (arith, leb-true 2 (pts_dts_flags u) h) in
          let z : 19 ≤ length u = dts_long u (eq-eqb (pts_dts_flags u) 3 f) g in
          absurd (elim c.else-flags-eq3.either [ inl y ↦ omega arith | inr y ↦ y f ])
      | inr h ↦ sym (moves_none u c.args.by h)
    ]
