-- What fetches answer, case by case, and the laws of windows and fillers.
use Rattle.std.proofs.Common.{◌≡◌, ℕ, zero, suc, ◌+◌, ◌<◌, ◌≤◌, Bool, true, false, ◌&&◌, leb, [], length, get_or, take, drop, replicate, Ok, sym, ap, ◌∙◌, subst, inl, inr, arith, lit<}
use Rattle.std.proofs.lemmas.Bool.{cases_Bool, cond-true, cond-false, and_parts, leb-true, eq-eqb, lt-ltb}
use Rattle.std.proofs.lemmas.List.{length-take-le, length-drop, get_or-take, get_or-drop, length-replicate, get_or-replicate}
use Rattle.model.specs.Packet.{Bytes}
use Rattle.model.specs.Runs.{Packets}
use Rattle.model.specs.Watches.{Whole}
use Rattle.model.specs.Reels.{fetched, filled, window, fillers, filler_packet}
use Rattle.laws.proofs.Small.{Small, small_at}

module _ (ps : Packets) (i : ℕ) where
  pub answers_ok : (n : ℕ) → n ≡ 188 → i < length ps → fetched ps i n ≡ Ok tt
  answers_ok n e l = rw (eq-eqb n 188 e, lt-ltb i (length ps) l)

  pub writes_ok : (b : Bytes) → length b ≡ 188 → i < length ps → filled ps i b ≡ get_or ps i []
  writes_ok b e l = rw (eq-eqb (length b) 188 e, lt-ltb i (length ps) l)

module _ (start size : ℕ) (ps : Packets) where
  abbrev pub fits : Bool
  fits = leb 1 size && leb (start + size) (length ps)

  pub window_in : fits ≡ true → window start size ps ≡ take size (drop start ps)
  window_in h = cond-true fits _ ps h

  pub window_out : fits ≡ false → window start size ps ≡ ps
  window_out h = cond-false fits (take size (drop start ps)) ps h

  part_length : fits ≡ true → length (take size (drop start ps)) ≡ size
  part_length h =
      let b = leb-true (start + size) (length ps) (and_parts (leb 1 size) (leb (start + size) (length ps)) h).1 in
      let d = length-drop start ps in
      length-take-le size (drop start ps) (omega arith)

  pub window_length : fits ≡ true → length (window start size ps) ≡ size
  window_length h = ap length (window_in h) ∙ part_length h

  pub window_at : fits ≡ true → (i : ℕ) → i < size → get_or (window start size ps) i [] ≡ get_or ps (start + i) []
  window_at h i l = ap (λ x. get_or x i []) (window_in h) ∙ get_or-take size (drop start ps) i [] l ∙ get_or-drop start ps i []

  pub window_below : fits ≡ true → (i : ℕ) → i < size → start + i < length ps
  window_below h i l =
      let b = leb-true (start + size) (length ps) (and_parts (leb 1 size) (leb (start + size) (length ps)) h).1 in
      omega arith

  pub window_whole : Whole ps → Whole (window start size ps)
  window_whole w = elim (cases_Bool fits) [
    | inr h ↦ subst Whole (sym (window_out h)) w
    | inl h ↦
        let n = window_length h in
        let a = leb-true 1 size (and_parts (leb 1 size) (leb (start + size) (length ps)) h).0 in
        let b = leb-true (start + size) (length ps) (and_parts (leb 1 size) (leb (start + size) (length ps)) h).1 in
        let f = w.few in
        record {
          some = omega arith;
          few = omega arith;
          sized = λ i l. ap length (window_at h i (omega arith)) ∙ w.sized (start + i) (window_below h i (omega arith));
          small = λ i k l m. subst (λ x. get_or x k 0 < 256) (sym (window_at h i (omega arith))) (w.small (start + i) k (window_below h i (omega arith)) m);
        }
  ]

small_replicate : (n b : ℕ) → b < 256 → Small (replicate n b)
small_replicate zero b h = tt
small_replicate (suc n) b h = (h, small_replicate n b h)

filler_small : Small filler_packet
filler_small = (lit< tt, (lit< tt, (lit< tt, (lit< tt, small_replicate 184 255 (lit< tt)))))

pub fillers_length : (n : ℕ) → length (fillers n) ≡ n
fillers_length n = length-replicate n filler_packet

pub fillers_at : (n i : ℕ) → i < n → get_or (fillers n) i [] ≡ filler_packet
fillers_at n i l = get_or-replicate n i filler_packet [] l

pub fillers_whole : (n : ℕ) → 1 ≤ n → n ≤ 1000000000 → Whole (fillers n)
fillers_whole n a b =
    let e = fillers_length n in
    record {
      some = omega arith;
      few = omega arith;
      sized = λ i l. ap length (fillers_at n i (omega arith));
      small = λ i k l m. subst (λ x. get_or x k 0 < 256) (sym (fillers_at n i (omega arith))) (small_at filler_packet filler_small k);
    }
