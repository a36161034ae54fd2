-- The theorems, put together.
use Rattle.std.proofs.Common.{◌≡◌, ℕ, ◌*◌, ◌<◌, Bool, true, false, cond, length, None, Option, refl, ap, ◌∙◌, arith}
use Rattle.model.specs.Packet.{Bytes}
use Rattle.model.specs.Runs.{run, past, observed, is_observed}
use Rattle.model.specs.Watches.{Finding, found, breach, basic, bank}
use Rattle.laws.specs.Theorems.{Sized, MovesLawfully, ContinuesForever, StampsKeep, ClockKeeps, SectionsKeep, BankKeeps, CheckDecides}
use Rattle.laws.proofs.Small.{small_from, small_at}
use Rattle.laws.proofs.Bytes.{Packet}
use Rattle.laws.proofs.Moved.{moved_packet, moved_form, moved_pid, moved_start, moved_flag, moved_clock, moved_place, moved_stampable, moved_pts, moved_dts, moved_continuity_counter, moved_value, moved_add}
use Rattle.laws.proofs.Rounds.{moved_same}
use Rattle.laws.proofs.Loop.{or_else_none, all_fine}
use Rattle.laws.proofs.StampsLaw.{stamps_law}
use Rattle.laws.proofs.ClockLaw.{clock_law}
use Rattle.laws.proofs.SectionsLaw.{sections_law}
use Rattle.laws.proofs.CheckLaw.{check_decides}
use Rattle.model.specs.Tests.{or_else}

packet : (p : Bytes) → Sized p → Packet p
packet p s = record { sized = s.long; small = small_from p (λ i h. s.small i (let e = s.long in omega arith)) }

sized : (p : Bytes) → Packet p → Sized p
sized p k = record { long = k.sized; small = λ i h. small_at p k.small i }

pub moves_lawfully : MovesLawfully
moves_lawfully es c t z p s =
    let k : Packet p = packet p s in
    record {
      sized = sized _ (moved_packet es c t p k);
      same_form = moved_form es c t p k;
      same_pid = moved_pid es c t p k;
      same_start = moved_start es c t p k;
      same_payload_flag = moved_flag es c t p k;
      same_pcr_flag = moved_clock es c t p k;
      same_place = moved_place es c t p k;
      same_stampable = moved_stampable es c t p k;
      new_continuity_counter = moved_continuity_counter es c t p k;
      new_clock = moved_value es c t p k;
      new_pts = moved_pts es c t p k;
      new_dts = moved_dts es c t p k;
      copies = λ q g. moved_same es c t p q k (packet q g) z;
      twice = λ d v. moved_add es c t d v p k z;
    }

pub continues_forever : ContinuesForever
continues_forever es T z ps w h = all_fine es T ps w z (λ k l. h k (omega arith))

both_none : (b : Bool) (x y : Option ℕ) → cond b (or_else x y) None ≡ None → (cond b x None ≡ None) × (cond b y None ≡ None)
both_none true x y h = or_else_none x y h
both_none false x y h = (refl, refl)

none_both : (b : Bool) (x y : Option ℕ) → cond b x None ≡ None → cond b y None ≡ None → cond b (or_else x y) None ≡ None
none_both true x y h k = ap (λ v. or_else v y) h ∙ k
none_both false x y h k = refl

pub bank_keeps : BankKeeps
bank_keeps es T f g lf lg ps w h k =
    none_both (is_observed es (past es T ps k) (run es T ps k)) (f (observed es T ps k) (record { place = k; bytes = run es T ps k })) (g (observed es T ps k) (record { place = k; bytes = run es T ps k }))
    (lf ps w (λ i l. part f i (basic_none i l) (split i l).0) k)
    (lg ps w (λ i l. part g i (basic_none i l) (split i l).1) k)
  where
    basic_none : (i : ℕ) → i < 2 * length ps → basic es (past es T ps i) (run es T ps i) ≡ None
    basic_none i l = (or_else_none (basic es (past es T ps i) (run es T ps i)) (found es T (bank f g) ps i) (h i l)).0

    split : (i : ℕ) → i < 2 * length ps → (found es T f ps i ≡ None) × (found es T g ps i ≡ None)
    split i l = both_none (is_observed es (past es T ps i) (run es T ps i)) (f (observed es T ps i) (record { place = i; bytes = run es T ps i })) (g (observed es T ps i) (record { place = i; bytes = run es T ps i })) (or_else_none (basic es (past es T ps i) (run es T ps i)) (found es T (bank f g) ps i) (h i l)).1

    part : (e : Finding) (i : ℕ) → basic es (past es T ps i) (run es T ps i) ≡ None → found es T e ps i ≡ None → breach es T e ps i ≡ None
    part e i a b = ap (λ v. or_else v (found es T e ps i)) a ∙ b

pub stamps_keep : StampsKeep
stamps_keep = stamps_law

pub clock_keeps : ClockKeeps
clock_keeps = clock_law

pub sections_keep : SectionsKeep
sections_keep = sections_law

pub decided : CheckDecides
decided es T z f law ps w = check_decides es T f ps law w z
